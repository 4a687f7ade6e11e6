-- The pieces of a source as statements that give their bytes: each label stands in front of its address, each once.
use Rattle.std.proofs.Common.{◌≡◌, ◌⊎◌, ℕ, ℤ, pos, zero, suc, ◌+◌, ◌*◌, ◌-◌, ◌%◌, ◌<◌, ◌≤◌, ◌^◌, true, inl, inr, List, [], ◌∷◌, ◌++◌, length, take, drop, refl, sym, ap, subst, ◌∙◌, arith, append-nil, codes}
use Rattle.std.specs.Prelude.{IsSome, None, Option, Some, slice_get}
use Rattle.std.specs.Int.{cast_unsigned, to_be_bytes, w32}
use Rattle.std.proofs.lemmas.Bool.{cases_lt}
use Rattle.std.proofs.lemmas.List.{length-drop, length-take-le, take-append-drop}
use Rattle.std.proofs.lemmas.List.Concat.{flat_map-append}
use Rattle.std.proofs.lemmas.Option.{slice_get_past}
use Rattle.m88_base.specs.Image.{ProgramImage, byte_at}
use Rattle.m88_base.specs.declared.fixup.Kind.{Kind}
use Rattle.m88_base.specs.declared.fixup.Kind.TheVariants.{Pc16, Pc26}
use Rattle.m88_base.proofs.Laws.{AreBytes, bytes_dropped, bytes_taken}
use Rattle.m88_isa.specs.Address.{word_address}
use Rattle.m88_isa.specs.Flow.{words_away}
use Rattle.m88_isa.specs.Instr.{IsValid}
use Rattle.m88_isa.specs.Machine.{four_bytes, word_bytes}
use Rattle.m88_isa.specs.Word.{word_of}
use Rattle.m88_isa.specs.declared.instr.Instr.{Instr}
use Rattle.m88_isa.specs.declared.instr.Instr.TheVariants as instr
use Rattle.m88_link.specs.Field.{is_in_reach}
use Rattle.m88_asm.specs.Filled.{resolved}
use Rattle.m88_parse.specs.Language.Names.{IsSymbolName}
use Rattle.m88_parse.specs.declared.unit.Body.TheVariants as body
use Rattle.m88_parse.specs.declared.unit.Statement.{Statement}
use Rattle.m88_disasm.specs.Read.{said_body, unlabelled}
use Rattle.m88_disasm.proofs.Laws.{AreOnce, Data, Gives, HasName, Names, SpokenAs, condition_part, data_behind, gives_instr, more_data, names_in, names_of, no_data, said_instr, spoken, start_symbol, stated_behind, wider}
use Rattle.m88_sourcing.specs.Code.{InCode, IsCode, HoldsInstruction}
use Rattle.m88_sourcing.specs.Flow.{branch_target}
use Rattle.m88_sourcing.specs.Labels.{HasLabel, IsTarget, code_text, label_line, label_of}
use Rattle.m88_sourcing.specs.Said.{Said}
use Rattle.m88_sourcing.specs.Targets.{counting}
use Rattle.m88_sourcing.specs.Source.{AreCodeLines, AreLooseLines, IsLabelled, IsStartMarked}
use Rattle.m88_sourcing.specs.Source.LineWhere.{so, not_so}
use Rattle.m88_sourcing.specs.Source.AreCodeLines.{no_word, word}
use Rattle.m88_sourcing.specs.Source.AreLooseLines.{no_byte, stretch}
use Rattle.m88_sourcing.proofs.Cutting.{code_stands}
use Rattle.m88_sourcing.proofs.OneInstruction.{same_instruction}
use Rattle.m88_sourcing.proofs.Labelled.{label_symbol, marks, near16_back, near_back, said_branch_bit_to, said_branch_cond_to, said_branch_to, said_label, use_of, words_back}
use Rattle.m88_sourcing.proofs.Listed.{Listed, ListedData, ListedPlain, listed_data}
use Rattle.m88_sourcing.proofs.Places.{AllAt, HasAt, IsBranchTo, IsPlain, IsSimple, branch_kind, all_behind_data, all_plain, has_behind_data, has_in_front}
use Rattle.m88_sourcing.proofs.Names.{NameOnly, name_before, name_behind, named, once_both, only_behind, only_more}

-- code and labels stand at multiples of 4
pub code_whole : (image : ProgramImage) (said : Said) (a : ℕ) → IsCode image said a → a % 4 ≡ 0
code_whole image said a is = (code_stands image said a is).1.0.0

away_whole : (pc : ℕ) (words : ℤ) → pc % 4 ≡ 0 → words_away pc words % 4 ≡ 0
away_whole pc words h = by (cast_unsigned w32 words)
  where
    by : (c : ℕ) → (pc + 4 * c) % 2 ^ 32 % 4 ≡ 0
    by c = omega (arith, h)

away_low : (pc : ℕ) (words : ℤ) → words_away pc words < 2 ^ 32
away_low pc words = by (cast_unsigned w32 words)
  where
    by : (c : ℕ) → (pc + 4 * c) % 2 ^ 32 < 2 ^ 32
    by c = omega arith

pub some_is : (x y : ℕ) → Some x ≡ Some y → x ≡ y
some_is x y e = cc

target_is : (pc t : ℕ) (i : Instr) → branch_target pc i ≡ Some t → (words : ℤ) × (t ≡ words_away pc words)
target_is pc t (instr.Branch link delayed words) e = (words, sym (some_is _ _ e))
target_is pc t (instr.BranchBit set delayed bit s1 words) e = (words, sym (some_is _ _ e))
target_is pc t (instr.BranchCond delayed mask s1 words) e = (words, sym (some_is _ _ e))
target_is pc t i e = absurd cc

pub target_whole : (image : ProgramImage) (said : Said) (t : ℕ) → IsTarget image said t → t % 4 ≡ 0
target_whole image said t (from, is, (i, stands, e)) =
    let w = target_is from t i e in
    let f = away_whole from w.0 stands.0.0 in
    let g = w.1 in
    omega (arith, f, g)

pub target_low : (image : ProgramImage) (said : Said) (t : ℕ) → IsTarget image said t → t < 2 ^ 32
target_low image said t (from, is, (i, stands, e)) =
    let w = target_is from t i e in
    let f = away_low from w.0 in
    let g = w.1 in
    omega (arith, f, g)

pub label_whole : (image : ProgramImage) (said : Said) (a : ℕ) → HasLabel image said a → a % 4 ≡ 0
label_whole image said a (some, inl is) = target_whole image said a is
label_whole image said a (some, inr is) = code_whole image said a is.1

-- names are the labels and the mark of the start that stand at addresses of a kind, each once
pub record AreThose (image : ProgramImage) (said : Said) (names : List (List ℕ)) (Kind : ℕ → Type 0)
    (Start : Type 0) : Type 0 where
  pub only : NameOnly (λ a. Kind a × IsSome (byte_at image a)) (Start × IsCode image said image.start) names
  pub once : AreOnce [] names
  pub labels : (a : ℕ) → Kind a → HasLabel image said a → HasName (label_of a) names
  pub start : Start → HasName (codes "_start") names ⊎ (IsCode image said image.start → ⊥)

-- the same of another kind that holds of the same addresses
pub those_as : (image : ProgramImage) (said : Said) (names : List (List ℕ)) (K L : ℕ → Type 0) (S T : Type 0)
    → ((a : ℕ) → K a → L a) → ((a : ℕ) → L a → K a) → (S → T) → (T → S)
    → AreThose image said names K S → AreThose image said names L T
those_as image said names K L S T to from on back t = record {
  only = only_more _ _ _ _ names (λ a k. (to a k.0, k.1)) (λ s. (on s.0, s.1)) t.only;
  once = t.once;
  labels = λ a l. t.labels a (from a l);
  start = λ s. t.start (back s);
}

-- those of two kinds
pub those_both : (image : ProgramImage) (said : Said) (ns ms : List (List ℕ)) (K L : ℕ → Type 0) (S T : Type 0)
    → ((a : ℕ) → K a → L a → ⊥) → (S → T → ⊥)
    → AreThose image said ns K S → AreThose image said ms L T
    → AreThose image said (ns ++ ms) (λ a. K a ⊎ L a) (S ⊎ T)
those_both image said ns ms K L S T apart starts t u = record {
  only =
      only_behind _ _ ns ms
      (only_more _ _ _ _ ns (λ a k. (inl k.0, k.1)) (λ s. (inl s.0, s.1)) t.only)
      (only_more _ _ _ _ ms (λ a k. (inr k.0, k.1)) (λ s. (inr s.0, s.1)) u.only);
  once =
      once_both _ _ _ _ ns ms (λ a k l. apart a k.0 l.0) (λ s v. starts s.0 v.0) t.only u.only t.once u.once;
  labels = λ a k has. elim k [
    | inl l ↦ name_before (label_of a) ns ms (t.labels a l has)
    | inr l ↦ name_behind (label_of a) ns ms (u.labels a l has)
  ];
  start = λ s. elim s [
    | inl l ↦ elim (t.start l) [
      | inl has ↦ inl (name_before (codes "_start") ns ms has)
      | inr none ↦ inr none
    ]
    | inr l ↦ elim (u.start l) [
      | inl has ↦ inl (name_behind (codes "_start") ns ms has)
      | inr none ↦ inr none
    ]
  ];
}

-- none
pub those_none : (image : ProgramImage) (said : Said) → AreThose image said [] (λ a. ⊥) ⊥
those_none image said =
    record { only = tt; once = tt; labels = λ a h. absurd h; start = λ h. absurd h }

-- statements from an address on have the branch at each address of a kind
abbrev pub HasBranches : ProgramImage → Said → (ℕ → Type 0) → ℕ → List Statement → Type 0
HasBranches image said Word at xs =
    (a : ℕ) → Word a → IsCode image said a → (i : Instr) (t : ℕ) → HoldsInstruction image a i → branch_target a i ≡ Some t
    → HasAt (IsBranchTo a i t) at xs

-- lines as statements that give bytes, with the labels and the mark of the start that stand at addresses of a kind, and
-- the branches at addresses of another
pub record Told (image : ProgramImage) (said : Said) (number at : ℕ) (bytes : List ℕ) (lines : List (List ℕ))
    (Kind Word : ℕ → Type 0) (Start : Type 0) : Type 0 where
  pub listed : Listed (named image said) number at bytes lines
  pub those : AreThose image said (names_in listed.statements) Kind Start
  pub branches : HasBranches image said Word at listed.statements
  pub simple : AllAt (IsSimple image said) at listed.statements

pub told_as : (image : ProgramImage) (said : Said) (number at : ℕ) (bytes : List ℕ) (lines : List (List ℕ))
    (K L V W : ℕ → Type 0) (S T : Type 0)
    → ((a : ℕ) → K a → L a) → ((a : ℕ) → L a → K a)
    → ((a : ℕ) → IsCode image said a → W a → V a) → (S → T) → (T → S)
    → Told image said number at bytes lines K V S → Told image said number at bytes lines L W T
told_as image said number at bytes lines K L V W S T to from words on back t = record {
  listed = t.listed;
  those = those_as image said _ K L S T to from on back t.those;
  branches = λ a w is. t.branches a (words a is w) is;
  simple = t.simple;
}

-- one behind the other
pub told_both : (image : ProgramImage) (said : Said) (number later at next : ℕ) (xs ys : List ℕ)
    (ls ms : List (List ℕ)) (K L V W : ℕ → Type 0) (S T : Type 0)
    → later ≡ number + length ls → next ≡ at + length xs
    → ((a : ℕ) → K a → L a → ⊥) → (S → T → ⊥)
    → Told image said number at xs ls K V S → Told image said later next ys ms L W T
    → Told image said number at (xs ++ ys) (ls ++ ms) (λ a. K a ⊎ L a) (λ a. V a ⊎ W a) (S ⊎ T)
told_both image said number later at next xs ys ls ms K L V W S T later_is next_is apart starts t u =
    let ss : List Statement = t.listed.statements in
    let us : List Statement = u.listed.statements in
    record {
      listed = record {
        statements = ss ++ us;
        stated = stated_behind number later ls ms ss us later_is t.listed.stated u.listed.stated;
        datas = data_behind (named image said) at next xs ys ss us next_is t.listed.datas u.listed.datas;
      };
      those =
          subst (λ (ns : List (List ℕ)). AreThose image said ns (λ a. K a ⊎ L a) (S ⊎ T))
          (sym (flat_map-append names_of ss us))
          (those_both image said (names_in ss) (names_in us) K L S T apart starts t.those u.those);
      branches = λ a w is i to stands e. elim w [
        | inl v ↦ has_in_front (IsBranchTo a i to) at ss us (t.branches a v is i to stands e)
        | inr v ↦
            has_behind_data (IsBranchTo a i to) (named image said) at next xs ss us next_is t.listed.datas
            (u.branches a v is i to stands e)
      ];
      simple =
          all_behind_data (IsSimple image said) (named image said) at next xs ss us next_is t.listed.datas
          t.simple
          u.simple;
    }

-- nothing
pub told_none : (image : ProgramImage) (said : Said) (number at : ℕ)
    → Told image said number at [] [] (λ a. ⊥) (λ a. ⊥) ⊥
told_none image said number at = record {
  listed = record { statements = []; stated = tt; datas = no_data };
  those = those_none image said;
  branches = λ a h. absurd h;
  simple = tt;
}

-- a label by itself
gives_mark : (Named : Names) (number at : ℕ) (name : List ℕ) → Named name at → Gives Named at (marks number name) []
gives_mark Named number at name named = record {
  stays = λ c. refl;
  length_is = λ place. refl;
  stands = omega arith;
  bytes_are = λ value place means. refl;
  opens_none = refl;
  sets_none = refl;
  declares_none = λ name. refl;
  labelled = named;
  uses = λ section offset. tt;
}

abbrev listed_mark : (Named : Names) (number at : ℕ) (name : List ℕ) → IsSymbolName name → Named name at
    → Listed Named number at [] (label_line name ∷ [])
listed_mark Named number at name good named =
    let here : at ≡ at + 0 = omega arith in
    record {
      statements = marks number name ∷ [];
      stated = (said_label number name good, tt);
      datas = more_data [] [] refl (gives_mark Named number at name named)
          (subst (λ (a : ℕ). Data Named a [] []) here no_data);
    }

-- the line of a label, where there is one
pub told_label : (image : ProgramImage) (said : Said) (number at : ℕ) (lines : List (List ℕ)) → at < 2 ^ 32
    → IsLabelled image said at lines → Told image said number at [] lines (λ a. a ≡ at) (λ a. ⊥) ⊥
told_label image said number at _ low (so has) = record {
  listed = listed_mark (named image said) number at (label_of at) (label_symbol at) (low, inr (refl, inl has));
  those = record {
    only = (inr (at, refl, low, (refl, has.0)), tt);
    once = (tt, tt);
    labels = λ a is h. inl (ap label_of (sym is));
    start = λ h. absurd h;
  };
  branches = λ a h. absurd h;
  simple = (inl tt, tt);
}
told_label image said number at _ low (not_so none) = record {
  listed = record { statements = []; stated = tt; datas = no_data };
  those = record {
    only = tt;
    once = tt;
    labels = λ a is h. absurd (none (subst (HasLabel image said) is h));
    start = λ h. absurd h;
  };
  branches = λ a h. absurd h;
  simple = tt;
}

-- the line that marks the start, where it is the address of a word of code
pub told_start : (image : ProgramImage) (said : Said) (number at : ℕ) (lines : List (List ℕ)) → at < 2 ^ 32
    → IsCode image said at → IsStartMarked image at lines
    → Told image said number at [] lines (λ a. ⊥) (λ a. ⊥) (image.start ≡ at)
told_start image said number at _ low is (so here) = record {
  listed = listed_mark (named image said) number at (codes "_start") start_symbol (low, inl (refl, here));
  those = record {
    only = (inl (refl, (sym here, subst (IsCode image said) here is)), tt);
    once = (tt, tt);
    labels = λ a h. absurd h;
    start = λ same. inl (inl refl);
  };
  branches = λ a h. absurd h;
  simple = (inl tt, tt);
}
told_start image said number at _ low is (not_so none) = record {
  listed = record { statements = []; stated = tt; datas = no_data };
  those = record {
    only = tt;
    once = tt;
    labels = λ a h. absurd h;
    start = λ same. absurd (none (sym same));
  };
  branches = λ a h. absurd h;
  simple = tt;
}

-- statements that name nothing, where no label and no start stand
told_unnamed : (image : ProgramImage) (said : Said) (number at : ℕ) (bytes : List ℕ) (lines : List (List ℕ))
    (K W : ℕ → Type 0) (S : Type 0) → ((a : ℕ) → K a → HasLabel image said a → ⊥)
    → (S → IsCode image said image.start → ⊥)
    → (l : ListedData (named image said) number at bytes lines)
    → HasBranches image said W at l.listed.statements → AllAt (IsSimple image said) at l.listed.statements
    → Told image said number at bytes lines K W S
told_unnamed image said number at bytes lines K W S none never l branches simple = record {
  listed = l.listed;
  those = record {
    only = subst (NameOnly _ _) (sym l.unnamed) tt;
    once = subst (AreOnce []) (sym l.unnamed) tt;
    labels = λ a k h. absurd (none a k h);
    start = λ s. inr (never s);
  };
  branches = branches;
  simple = simple;
}

-- a word of code
-- a branch whose name stands for its target is the branch
gives_branch : (Named : Names) (number at t : ℕ) (i j : Instr) (kind : Kind) (name : List ℕ) (col : ℕ) → at % 4 ≡ 0
    → Named name t → is_in_reach kind t at ≡ true
    → ((value : List ℕ → ℕ) → value name ≡ t → resolved value at j (Some (use_of kind name col)) ≡ i)
    → Gives Named at (unlabelled number (body.Code j (Some (use_of kind name col)))) (to_be_bytes w32 (word_of i))
gives_branch Named number at t i j kind name col stands named near again = record {
  stays = λ c. refl;
  length_is = λ place. refl;
  stands = stands;
  bytes_are = λ value place means. ap (λ (k : Instr). to_be_bytes w32 (word_of k)) (again value (means name t named));
  opens_none = refl;
  sets_none = refl;
  declares_none = λ name. refl;
  labelled = tt;
  uses = λ section offset.
      (record { to = t; named = named; alone = refl; section_is = refl; offset_is = refl; near = near }, tt);
}

-- what a target is named
pub target_named : (image : ProgramImage) (said : Said) (t : ℕ) → IsTarget image said t
    → named image said (label_of t) t
target_named image said t is = by (byte_at image t) refl
  where
    by : (o : Option ℕ) → byte_at image t ≡ o → named image said (label_of t) t
    by (Some b) e = (target_low image said t is, inr (refl, inl (subst IsSome (sym e) refl, inl is)))
    by None e = (target_low image said t is, inr (refl, inr (is, e)))

abbrev listed_line : (Named : Names) (number at : ℕ) (given line : List ℕ) (x : Statement) → SpokenAs number line x
    → Gives Named at x given → names_of x ≡ [] → ListedData Named number at given (line ∷ [])
listed_line Named number at given line x said gives unnamed = record {
  listed = record {
    statements = x ∷ [];
    stated = (said, tt);
    datas = more_data given [] (sym (append-nil given)) gives no_data;
  };
  unnamed = ap (λ (ns : List (List ℕ)). ns ++ []) unnamed;
}

-- the line of an instruction, and the branch that it may be
record ListedInstr (image : ProgramImage) (said : Said) (number at : ℕ) (i : Instr) : Type 0 where
  line : ListedData (named image said) number at (to_be_bytes w32 (word_of i)) (code_text at i ∷ [])
  branch : (t : ℕ) → branch_target at i ≡ Some t → HasAt (IsBranchTo at i t) at line.listed.statements
  simple : AllAt (IsSimple image said) at line.listed.statements

branch_line : (image : ProgramImage) (said : Said) (number at t : ℕ) (i j : Instr) (kind : Kind) (col : ℕ)
    → IsCode image said at → HoldsInstruction image at i
    → SpokenAs number (code_text at i) (unlabelled number (body.Code j (Some (use_of kind (label_of t) col))))
    → Gives (named image said) at (unlabelled number (body.Code j (Some (use_of kind (label_of t) col))))
    (to_be_bytes w32 (word_of i))
    → branch_target at i ≡ Some t → j ≡ counting (pos 0) i → kind ≡ branch_kind i
    → ListedInstr image said number at i
branch_line image said number at t i j kind col code holds says gives to is kind_is = record {
  line = listed_line (named image said) number at _ _ _ says gives refl;
  branch = λ u e.
      let same : t ≡ u = some_is t u (sym to ∙ e) in
      inl (
        refl,
        record {
          name = use_of kind (label_of t) col;
          body_is = ap (λ (k : Instr). body.Code k (Some (use_of kind (label_of t) col))) is;
          symbol = ap label_of same;
          alone = refl;
        },
      );
  simple = (
    inr (record {
      i = i;
      t = t;
      code = code;
      stands = holds;
      leads = to;
      waits = record {
        name = use_of kind (label_of t) col;
        body_is = ap (λ (k : Instr). body.Code k (Some (use_of kind (label_of t) col))) is;
        symbol = refl;
        alone = refl;
      };
      kind = kind_is;
    }),
    tt,
  );
}

listed_instr : (image : ProgramImage) (said : Said) (number at : ℕ) (i : Instr) → at < 2 ^ 32 → at % 4 ≡ 0
    → IsValid i → IsCode image said at → HoldsInstruction image at i
    → ((t : ℕ) → branch_target at i ≡ Some t → named image said (label_of t) t)
    → ListedInstr image said number at i
listed_instr image said number at (instr.Branch link delayed words) low stands valid code holds names =
    let t : ℕ = words_away at words in
    let s = said_branch_to number link delayed words (label_of t) (label_symbol t) in
    branch_line image said number at t _ _ _ s.col code holds (spoken number _ _ s.said)
    (gives_branch (named image said) number at t (instr.Branch link delayed words) _ Pc26 (label_of t) s.col stands
    (names t refl) (near_back words at low valid)
    (λ value is.
    ap (λ (v : ℕ). resolved (λ name. v) at (instr.Branch link delayed (pos 0)) (Some (use_of Pc26 (label_of t) s.col))) is
    ∙ ap (λ (w : ℤ). instr.Branch link delayed w) (words_back words at low valid)))
    refl refl refl
listed_instr image said number at (instr.BranchBit set delayed bit s1 words) low stands valid code holds names =
    let t : ℕ = words_away at words in
    let s = said_branch_bit_to number set delayed bit s1 words (label_of t) valid.0 (label_symbol t) in
    branch_line image said number at t _ _ _ s.col code holds (spoken number _ _ s.said)
    (gives_branch (named image said) number at t (instr.BranchBit set delayed bit s1 words) _ Pc16 (label_of t) s.col
    stands (names t refl) (near16_back words at low valid.1)
    (λ value is.
    ap (λ (v : ℕ). resolved (λ name. v) at (instr.BranchBit set delayed bit s1 (pos 0))
    (Some (use_of Pc16 (label_of t) s.col))) is
    ∙ ap (λ (w : ℤ). instr.BranchBit set delayed bit s1 w) (words_back words at low (wider words valid.1))))
    refl refl refl
listed_instr image said number at (instr.BranchCond delayed mask s1 words) low stands valid code holds names =
    let t : ℕ = words_away at words in
    let s = said_branch_cond_to number delayed mask s1 words (label_of t) (condition_part mask valid.0) (label_symbol t) in
    branch_line image said number at t _ _ _ s.col code holds (spoken number _ _ s.said)
    (gives_branch (named image said) number at t (instr.BranchCond delayed mask s1 words) _ Pc16 (label_of t) s.col
    stands (names t refl) (near16_back words at low valid.1)
    (λ value is.
    ap (λ (v : ℕ). resolved (λ name. v) at (instr.BranchCond delayed mask s1 (pos 0))
    (Some (use_of Pc16 (label_of t) s.col))) is
    ∙ ap (λ (w : ℤ). instr.BranchCond delayed mask s1 w) (words_back words at low (wider words valid.1))))
    refl refl refl
listed_instr image said number at i low stands valid code holds names =
    record {
      line = listed_line (named image said) number at _ _ _ (spoken number _ _ (said_instr number i valid))
          (gives_instr (named image said) number at i stands) (said_unnamed number i);
      branch = λ t e. absurd cc;
      simple = (inl (said_plain i), tt);
    }
  where
    said_plain : (j : Instr) → IsPlain (said_body j)
    said_plain (instr.Sfu unit rest) = tt
    said_plain j = tt

    said_unnamed : (n : ℕ) (j : Instr) → names_of (unlabelled n (said_body j)) ≡ []
    said_unnamed n (instr.Sfu unit rest) = refl
    said_unnamed n j = refl

-- the image has these bytes from an address on
abbrev pub HasBytes : ProgramImage → ℕ → List ℕ → Type 0
HasBytes image at bytes = (k : ℕ) → k < length bytes → byte_at image (at + k) ≡ slice_get bytes k

get_behind : (n k : ℕ) (bytes : List ℕ) → slice_get (drop n bytes) k ≡ slice_get bytes (n + k)
get_behind zero k bytes = ap (slice_get bytes) (omega arith)
get_behind (suc n) k [] = sym (slice_get_past [] (suc n + k) (omega arith))
get_behind (suc n) k (b ∷ bytes) =
    get_behind n k bytes ∙ ap (slice_get (b ∷ bytes)) (let e : suc (n + k) ≡ suc n + k = omega arith in e)

get_before : (n k : ℕ) (bytes : List ℕ) → k < n → slice_get (take n bytes) k ≡ slice_get bytes k
get_before zero k bytes low = absurd (omega (arith, low))
get_before (suc n) k [] low = refl
get_before (suc n) zero (b ∷ bytes) low = refl
get_before (suc n) (suc k) (b ∷ bytes) low = get_before n k bytes (omega (arith, low))

pub has_behind : (image : ProgramImage) (at n : ℕ) (bytes : List ℕ) → n ≤ length bytes → HasBytes image at bytes
    → HasBytes image (at + n) (drop n bytes)
has_behind image at n bytes within has k low =
    let left = length-drop n bytes in
    ap (byte_at image) (let e : at + n + k ≡ at + (n + k) = omega arith in e)
    ∙ has (n + k) (omega (arith, left, low))
    ∙ sym (get_behind n k bytes)

pub has_front : (image : ProgramImage) (at n : ℕ) (bytes : List ℕ) → n ≤ length bytes → HasBytes image at bytes
    → HasBytes image at (take n bytes)
has_front image at n bytes within has k low =
    let size = length-take-le n bytes within in
    has k (omega (arith, size, low, within)) ∙ sym (get_before n k bytes (omega (arith, size, low)))

some_same : (xs ys : List ℕ) → Some xs ≡ Some ys → xs ≡ ys
some_same xs ys e = cc

-- the bytes of an instruction that stands there
four_are : (image : ProgramImage) (at : ℕ) (bytes : List ℕ) (i : Instr) → 4 ≤ length bytes → HasBytes image at bytes
    → HoldsInstruction image at i → to_be_bytes w32 (word_of i) ≡ take 4 bytes
four_are image at (a ∷ b ∷ c ∷ d ∷ bytes) i long has stands =
    let zero_th : byte_at image at ≡ Some a =
    ap (byte_at image) (let e : at ≡ at + 0 = omega arith in e) ∙ has 0 (omega arith) in
    let bytes_are : four_bytes (byte_at image) at ≡ Some (a ∷ b ∷ c ∷ d ∷ []) =
    ap (λ o. word_bytes o (byte_at image (at + 1)) (byte_at image (at + 2)) (byte_at image (at + 3))) zero_th
    ∙ ap (λ o. word_bytes (Some a) o (byte_at image (at + 2)) (byte_at image (at + 3))) (has 1 (omega arith))
    ∙ ap (λ o. word_bytes (Some a) (Some b) o (byte_at image (at + 3))) (has 2 (omega arith))
    ∙ ap (λ o. word_bytes (Some a) (Some b) (Some c) o) (has 3 (omega arith)) in
    ap (to_be_bytes w32) stands.0.1.2.1
    ∙ some_same _ _ (sym stands.0.1.1 ∙ bytes_are)
four_are image at [] i long has stands = absurd (omega (arith, long))
four_are image at (a ∷ []) i long has stands = absurd (omega (arith, long))
four_are image at (a ∷ b ∷ []) i long has stands = absurd (omega (arith, long))
four_are image at (a ∷ b ∷ c ∷ []) i long has stands = absurd (omega (arith, long))

-- addresses of so many bytes
abbrev pub Among : ℕ → ℕ → ℕ → Type 0
Among at n a = (at ≤ a) × (a < at + n)

-- and behind the first of them
abbrev Behind : ℕ → ℕ → ℕ → Type 0
Behind at n a = (at < a) × (a < at + n)

first_or : (at m n : ℕ) (a : ℕ) → 0 < m → (a ≡ at) ⊎ (Behind at m a ⊎ Among (at + m) n a) → Among at (m + n) a
first_or at m n a some (inl e) = (omega (arith, e), omega (arith, e, some))
first_or at m n a some (inr (inl h)) = let x = h.0 in let y = h.1 in (omega (arith, x), omega (arith, y))
first_or at m n a some (inr (inr h)) = let x = h.0 in let y = h.1 in (omega (arith, x), omega (arith, y))

or_first : (at m n : ℕ) (a : ℕ) → Among at (m + n) a → (a ≡ at) ⊎ (Behind at m a ⊎ Among (at + m) n a)
or_first at m n a h =
    let x = h.0 in
    let y = h.1 in
    elim (cases_lt at a) [
      | inl above ↦ elim (cases_lt a (at + m)) [
        | inl low ↦ inr (inl (above, low))
        | inr high ↦ inr (inr (high, omega (arith, y)))
      ]
      | inr same ↦ inl (omega (arith, x, same))
    ]

-- words of code
pub told_code : (image : ProgramImage) (said : Said) (number at n : ℕ) (bytes : List ℕ) (lines : List (List ℕ))
    → at % 4 ≡ 0 → at + 4 * n ≤ 2 ^ 32 → length bytes ≡ 4 * n → HasBytes image at bytes
    → ((k : ℕ) → k < n → IsCode image said (at + 4 * k))
    → AreCodeLines (λ _. []) image said at n lines
    → Told image said number at bytes lines (Among at (4 * n)) (Among at (4 * n)) (Among at (4 * n) image.start)
told_code image said number at zero [] _ whole low size has are no_word =
    told_as image said number at [] [] (λ a. ⊥) (Among at 0) (λ a. ⊥) (Among at 0) ⊥ (Among at 0 image.start)
    (λ a h. absurd h) (λ a h. absurd (let x = h.0 in let y = h.1 in omega (arith, x, y)))
    (λ a is h. absurd (let x = h.0 in let y = h.1 in omega (arith, x, y)))
    (λ h. absurd h) (λ h. absurd (let x = h.0 in let y = h.1 in omega (arith, x, y)))
    (told_none image said number at)
told_code image said number at zero (b ∷ bytes) _ whole low size has are no_word = absurd (omega (arith, size))
told_code image said number at (suc n) bytes _ whole low size has are
    (word {label = label} {start = start} {lines = lines} i stands is_label is_start rest) =
    let here : IsCode image said at =
    subst (IsCode image said) (let e : at + 4 * 0 ≡ at = omega arith in e) (are 0 (omega arith)) in
    let long : 4 ≤ length bytes = omega (arith, size) in
    let given : List ℕ = to_be_bytes w32 (word_of i) in
    let split : bytes ≡ given ++ drop 4 bytes =
    sym (take-append-drop 4 bytes) ∙ ap (λ (xs : List ℕ). xs ++ drop 4 bytes) (sym (four_are image at bytes i long has stands)) in
    let left = length-drop 4 bytes in
    let line2 : ℕ = number + length label in
    let line3 : ℕ = line2 + length start in
    let fits : at < 2 ^ 32 = omega (arith, low) in
    let others : Told image said (line3 + 1) (at + 4) (drop 4 bytes) lines (Among (at + 4) (4 * n))
    (Among (at + 4) (4 * n)) (Among (at + 4) (4 * n) image.start) =
    told_code image said (line3 + 1) (at + 4) n (drop 4 bytes) lines (omega (arith, whole)) (omega (arith, low))
    (omega (arith, size, left)) (has_behind image at 4 bytes long has)
    (λ k h. subst (IsCode image said) (let e : at + 4 * (k + 1) ≡ at + 4 + 4 * k = omega arith in e)
    (are (k + 1) (omega (arith, h)))) rest in
    let instruction : ListedInstr image said line3 at i =
    listed_instr image said line3 at i fits whole stands.0.1.2.0 here stands
    (λ t e. target_named image said t (at, here, (i, stands, e))) in
    let own : Told image said line3 at given (code_text at i ∷ []) (Behind at 4) (λ a. a ≡ at) (Behind at 4 image.start) =
    told_unnamed image said line3 at given (code_text at i ∷ []) (Behind at 4) (λ a. a ≡ at) (Behind at 4 image.start)
    (λ a h has_one.
    let e = label_whole image said a has_one in let x = h.0 in let y = h.1 in absurd (omega (arith, e, x, y, whole)))
    (λ h is. let e = code_whole image said image.start is in let x = h.0 in let y = h.1 in
    absurd (omega (arith, e, x, y, whole)))
    instruction.line
    (λ a same is k t stands_there e.
    let again : i ≡ k =
    same_instruction image at i k stands (subst (λ (b : ℕ). HoldsInstruction image b k) same stands_there) in
    let to : branch_target at i ≡ Some t = ap (branch_target at) again ∙ subst (λ (b : ℕ). branch_target b k ≡ Some t) same e in
    subst (λ (b : ℕ). HasAt (IsBranchTo b k t) at instruction.line.listed.statements) (sym same)
    (subst (λ (l : Instr). HasAt (IsBranchTo at l t) at instruction.line.listed.statements) again
    (instruction.branch t to))) instruction.simple in
    let last : Told image said line3 at (given ++ drop 4 bytes) (code_text at i ∷ lines)
    (λ a. Behind at 4 a ⊎ Among (at + 4) (4 * n) a) (λ a. (a ≡ at) ⊎ Among (at + 4) (4 * n) a)
    (Behind at 4 image.start ⊎ Among (at + 4) (4 * n) image.start) =
    told_both image said line3 (line3 + 1) at (at + 4) given (drop 4 bytes) (code_text at i ∷ []) lines (Behind at 4)
    (Among (at + 4) (4 * n)) (λ a. a ≡ at) (Among (at + 4) (4 * n)) _ _ refl refl
    (λ a h k. let x = h.1 in let y = k.0 in absurd (omega (arith, x, y)))
    (λ h k. let x = h.1 in let y = k.0 in absurd (omega (arith, x, y))) own others in
    let middle : Told image said line2 at (given ++ drop 4 bytes) (start ++ code_text at i ∷ lines)
    (λ a. ⊥ ⊎ (Behind at 4 a ⊎ Among (at + 4) (4 * n) a)) (λ a. ⊥ ⊎ ((a ≡ at) ⊎ Among (at + 4) (4 * n) a))
    ((image.start ≡ at) ⊎ (Behind at 4 image.start ⊎ Among (at + 4) (4 * n) image.start)) =
    told_both image said line2 line3 at at [] (given ++ drop 4 bytes) start (code_text at i ∷ lines) (λ a. ⊥) _ (λ a. ⊥) _ _ _
    refl (omega arith) (λ a h k. h)
    (λ e k. elim k [
      | inl h ↦ let x = h.0 in absurd (omega (arith, e, x))
      | inr h ↦ let x = h.0 in absurd (omega (arith, e, x))
    ])
    (told_start image said line2 at start fits here is_start) last in
    let all : Told image said number at (given ++ drop 4 bytes) (label ++ (start ++ code_text at i ∷ lines))
    (λ a. (a ≡ at) ⊎ (⊥ ⊎ (Behind at 4 a ⊎ Among (at + 4) (4 * n) a)))
    (λ a. ⊥ ⊎ (⊥ ⊎ ((a ≡ at) ⊎ Among (at + 4) (4 * n) a)))
    (⊥ ⊎ ((image.start ≡ at) ⊎ (Behind at 4 image.start ⊎ Among (at + 4) (4 * n) image.start))) =
    told_both image said number line2 at at [] (given ++ drop 4 bytes) label (start ++ code_text at i ∷ lines)
    (λ a. a ≡ at) _ (λ a. ⊥) _ ⊥ _ refl (omega arith)
    (λ a e k. elim k [
      | inl h ↦ h
      | inr l ↦ elim l [
        | inl h ↦ let x = h.0 in absurd (omega (arith, e, x))
        | inr h ↦ let x = h.0 in absurd (omega (arith, e, x))
      ]
    ])
    (λ h k. h) (told_label image said number at label fits is_label) middle in
    let sum : 4 + 4 * n ≡ 4 * suc n = omega arith in
    subst (λ (k : ℕ). Told image said number at bytes (label ++ (start ++ code_text at i ∷ lines)) (Among at k)
    (Among at k) (Among at k image.start)) sum
    (subst (λ (bs : List ℕ). Told image said number at bs (label ++ (start ++ code_text at i ∷ lines))
    (Among at (4 + 4 * n)) (Among at (4 + 4 * n)) (Among at (4 + 4 * n) image.start)) (sym split)
    (told_as image said number at (given ++ drop 4 bytes) _ _ (Among at (4 + 4 * n)) _ (Among at (4 + 4 * n)) _
    (Among at (4 + 4 * n) image.start)
    (λ a h. first_or at 4 (4 * n) a (omega arith) (elim h [
      | inl e ↦ inl e
      | inr l ↦ elim l [
        | inl f ↦ absurd f
        | inr g ↦ inr g
      ]
    ]))
    (λ a h. elim (or_first at 4 (4 * n) a h) [
      | inl e ↦ inl e
      | inr g ↦ inr (inr g)
    ])
    (λ a is h. elim (or_first at 4 (4 * n) a h) [
      | inl e ↦ inr (inr (inl e))
      | inr g ↦ elim g [
        | inl f ↦
            let e = code_whole image said a is in
            let x = f.0 in
            let y = f.1 in
            absurd (omega (arith, e, x, y, whole))
        | inr f ↦ inr (inr (inr f))
      ]
    ])
    (λ h. first_or at 4 (4 * n) image.start (omega arith) (elim h [
      | inl f ↦ absurd f
      | inr l ↦ l
    ]))
    (λ h. inr (or_first at 4 (4 * n) image.start h))
    all))

-- bytes that are no code
pub told_loose : (image : ProgramImage) (said : Said) (number at : ℕ) (bytes : List ℕ) (lines : List (List ℕ))
    → at + length bytes ≤ 2 ^ 32 → length bytes < 2 ^ 32 → AreBytes bytes
    → ((k : ℕ) → k < length bytes → ¬ InCode image said (at + k))
    → AreLooseLines image said at bytes lines
    → Told image said number at bytes lines (Among at (length bytes)) (Among at (length bytes))
    (Among at (length bytes) image.start)
told_loose image said number at _ _ low few small none no_byte =
    told_as image said number at [] [] (λ a. ⊥) (Among at 0) (λ a. ⊥) (Among at 0) ⊥ (Among at 0 image.start)
    (λ a h. absurd h) (λ a h. absurd (let x = h.0 in let y = h.1 in omega (arith, x, y)))
    (λ a is h. absurd (let x = h.0 in let y = h.1 in omega (arith, x, y)))
    (λ h. absurd h) (λ h. absurd (let x = h.0 in let y = h.1 in omega (arith, x, y)))
    (told_none image said number at)
told_loose image said number at bytes _ low few small none
    (stretch {label = label} {own = own} {lines = lines} n is is_label datas rest) =
    let some = is.some in
    let within = is.within in
    let size = length-take-le n bytes within in
    let left = length-drop n bytes in
    let line2 : ℕ = number + length label in
    let line3 : ℕ = line2 + length own in
    let fits : at < 2 ^ 32 = omega (arith, low, some, within) in
    let no_code_within : (a : ℕ) → Among at n a → IsCode image said a → ⊥ = λ a h code.
    let x = h.0 in
    let y = h.1 in
    let whole = code_whole image said a code in
    let there : word_address (at + (a - at)) ≡ a = omega (arith, x, whole) in
    none (a - at) (omega (arith, x, y, within)) (subst (IsCode image said) (sym there) code) in
    let not_start : Among at n image.start → IsCode image said image.start → ⊥ = no_code_within image.start in
    let others : Told image said line3 (at + n) (drop n bytes) lines (Among (at + n) (length bytes - n))
    (Among (at + n) (length bytes - n)) (Among (at + n) (length bytes - n) image.start) =
    subst (λ (k : ℕ). Told image said line3 (at + n) (drop n bytes) lines (Among (at + n) k) (Among (at + n) k)
    (Among (at + n) k image.start)) left
    (told_loose image said line3 (at + n) (drop n bytes) lines (omega (arith, left, low, within))
    (omega (arith, left, few)) (bytes_dropped n bytes small)
    (λ k h. subst (λ (a : ℕ). ¬ InCode image said a) (let e : at + (n + k) ≡ at + n + k = omega arith in e)
    (none (n + k) (omega (arith, left, h, within)))) rest) in
    let items : ListedPlain (named image said) line2 at (take n bytes) own =
    listed_data (named image said) line2 at (take n bytes) own (omega (arith, size, within, few))
    (bytes_taken n bytes small) datas in
    let first : Told image said line2 at (take n bytes) own (Behind at n) (λ a. ⊥) (Among at n image.start) =
    told_unnamed image said line2 at (take n bytes) own (Behind at n) (λ a. ⊥) (Among at n image.start)
    (λ a h has_one.
    let x = h.0 in
    let y = h.1 in
    let there : at + (a - at) ≡ a = omega (arith, x) in
    is.plain (a - at) (omega (arith, x)) (omega (arith, x, y)) (subst (HasLabel image said) (sym there) has_one))
    not_start
    items.own
    (λ a h. absurd h) (all_plain image said at items.own.listed.statements items.plain) in
    let last : Told image said line2 at (take n bytes ++ drop n bytes) (own ++ lines)
    (λ a. Behind at n a ⊎ Among (at + n) (length bytes - n) a) (λ a. ⊥ ⊎ Among (at + n) (length bytes - n) a)
    (Among at n image.start ⊎ Among (at + n) (length bytes - n) image.start) =
    told_both image said line2 line3 at (at + n) (take n bytes) (drop n bytes) own lines (Behind at n)
    (Among (at + n) (length bytes - n)) (λ a. ⊥) (Among (at + n) (length bytes - n)) _ _ refl (omega (arith, size))
    (λ a h k. let x = h.1 in let y = k.0 in absurd (omega (arith, x, y)))
    (λ h k. let x = h.1 in let y = k.0 in absurd (omega (arith, x, y))) first others in
    let all : Told image said number at (take n bytes ++ drop n bytes) (label ++ (own ++ lines))
    (λ a. (a ≡ at) ⊎ (Behind at n a ⊎ Among (at + n) (length bytes - n) a))
    (λ a. ⊥ ⊎ (⊥ ⊎ Among (at + n) (length bytes - n) a))
    (⊥ ⊎ (Among at n image.start ⊎ Among (at + n) (length bytes - n) image.start)) =
    told_both image said number line2 at at [] (take n bytes ++ drop n bytes) label (own ++ lines) (λ a. a ≡ at) _ (λ a. ⊥) _ ⊥ _
    refl (omega arith)
    (λ a e k. elim k [
      | inl h ↦ let x = h.0 in absurd (omega (arith, e, x))
      | inr h ↦ let x = h.0 in absurd (omega (arith, e, x, some))
    ])
    (λ h k. h) (told_label image said number at label fits is_label) last in
    let sum : n + (length bytes - n) ≡ length bytes = omega (arith, within) in
    subst (λ (k : ℕ). Told image said number at bytes (label ++ (own ++ lines)) (Among at k) (Among at k)
    (Among at k image.start)) sum
    (subst (λ (bs : List ℕ). Told image said number at bs (label ++ (own ++ lines)) (Among at (n + (length bytes - n)))
    (Among at (n + (length bytes - n))) (Among at (n + (length bytes - n)) image.start)) (take-append-drop n bytes)
    (told_as image said number at (take n bytes ++ drop n bytes) _ _ (Among at (n + (length bytes - n))) _
    (Among at (n + (length bytes - n))) _ (Among at (n + (length bytes - n)) image.start)
    (λ a h. first_or at n (length bytes - n) a some h)
    (λ a h. or_first at n (length bytes - n) a h)
    (λ a is h. elim (cases_lt a (at + n)) [
      | inl below ↦ absurd (no_code_within a (h.0, below) is)
      | inr high ↦ let y = h.1 in inr (inr (high, omega (arith, y)))
    ])
    (λ h. elim h [
      | inl f ↦ absurd f
      | inr l ↦ elim l [
        | inl g ↦ let x = g.0 in let y = g.1 in (x, omega (arith, y))
        | inr g ↦ let x = g.0 in let y = g.1 in (omega (arith, x), omega (arith, y))
      ]
    ])
    (λ h. elim (cases_lt image.start (at + n)) [
      | inl below ↦ inr (inl (h.0, below))
      | inr high ↦ let y = h.1 in inr (inr (high, omega (arith, y)))
    ])
    all))
