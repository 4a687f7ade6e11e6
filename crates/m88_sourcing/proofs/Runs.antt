-- The pieces of an image as statements that give its bytes, each piece behind its address.
use Rattle.std.proofs.Common.{◌≡◌, ◌⊎◌, ℕ, zero, suc, ◌+◌, ◌*◌, ◌-◌, ◌%◌, ◌<◌, ◌≤◌, ◌^◌, inl, inr, List, [], ◌∷◌, ◌++◌, length, take, drop, refl, sym, ap, subst, ◌∙◌, arith, append-nil, append_assoc, length-append}
use Rattle.std.specs.Prelude.{None, Option, Some}
use Rattle.std.specs.Option.{option_or}
use Rattle.std.proofs.lemmas.Bool.{cases_lt}
use Rattle.std.proofs.lemmas.List.{length-drop, length-take-le, take-append-drop}
use Rattle.std.proofs.lemmas.List.Concat.{flat_map-append}
use Rattle.std.proofs.lemmas.List.Sums.{sum_by-append, sum_by-cons}
use Rattle.m88_base.specs.Image.{ProgramImage}
use Rattle.m88_base.specs.Placed.{Placed, byte_among, byte_in, count_among}
use Rattle.m88_base.proofs.Laws.{AreBytes, byte_among-append, byte_in-join, bytes_dropped, bytes_taken}
use Rattle.m88_isa.specs.Address.{word_address}
use Rattle.m88_parse.specs.declared.unit.Body.TheVariants as body
use Rattle.m88_parse.specs.declared.unit.Statement.{Statement}
use Rattle.m88_disasm.specs.Listing.{place_line}
use Rattle.m88_disasm.specs.Read.{unlabelled}
use Rattle.m88_disasm.proofs.Laws.{AreInOrder, ArePieces, Names, PartsData, Stated, more_parts, names_in, names_of, no_parts, none_in, said_place, spoken, stated_behind}
use Rattle.m88_sourcing.specs.Code.{InCode, IsCode}
use Rattle.m88_sourcing.specs.Said.{Said, Stays}
use Rattle.m88_sourcing.specs.Source.{AreCodeLines, AreLooseLines, ArePieceLines, IsCutPiece, IsPiece}
use Rattle.m88_sourcing.specs.Source.ArePieceLines.{code, loose, no_piece}
use Rattle.m88_sourcing.proofs.Names.{named}
use Rattle.m88_sourcing.proofs.Places.{AllAt, IsBranchTo, IsSimple, all_anywhere, all_behind_parts, anywhere, has_behind_parts, has_in_front, no_branch}
use Rattle.m88_sourcing.proofs.Told.{Among, AreThose, HasBranches, HasBytes, Told, has_behind, has_front, those_as, those_both, those_none, told_code, told_loose}

-- parts that follow one another from an address on and end before another
abbrev pub Follow : ℕ → List Placed → ℕ → Type 0
Follow from [] to = from ≤ to
Follow from (run ∷ runs) to = (from ≤ run.at) × Follow (run.at + length run.bytes) runs to

pub follow_on : (from middle to : ℕ) (xs ys : List Placed) → Follow from xs middle → Follow middle ys to
    → Follow from (xs ++ ys) to
follow_on from middle to [] [] h k = omega (arith, h, k)
follow_on from middle to [] (y ∷ ys) h k = (let l = k.0 in omega (arith, h, l), k.1)
follow_on from middle to (x ∷ xs) ys h k = (h.0, follow_on (x.at + length x.bytes) middle to xs ys h.1 k)

pub follow_order : (from to : ℕ) (runs : List Placed) → Follow from runs to → AreInOrder from runs
follow_order from to [] h = tt
follow_order from to (run ∷ runs) h = (h.0, follow_order (run.at + length run.bytes) to runs h.1)

pub pieces_behind : (xs ys : List Placed) → ArePieces xs → ArePieces ys → ArePieces (xs ++ ys)
pieces_behind [] ys h k = k
pieces_behind (x ∷ xs) ys h k = (h.0, h.1, h.2, pieces_behind xs ys h.3 k)

pub parts_behind : (Named : Names) (rs ss : List Placed) (xs ys : List Statement) → PartsData Named rs xs
    → PartsData Named ss ys → PartsData Named (rs ++ ss) (xs ++ ys)
parts_behind Named _ ss _ ys no_parts rest = rest
parts_behind Named _ ss xs ys (more_parts {run = run} {runs = runs} n own more are datas others) rest =
    more_parts n own (more ++ ys)
    (ap (λ (zs : List Statement). zs ++ ys) are
    ∙ ap (λ (zs : List Statement). unlabelled n (body.At run.at) ∷ zs) (append_assoc own more ys)) datas
    (parts_behind Named runs ss more ys others rest)

-- one of the parts has a byte at an address
abbrev pub InParts : List Placed → ℕ → Type 0
InParts [] a = ⊥
InParts (run ∷ runs) a = Among run.at (length run.bytes) a ⊎ InParts runs a

pub in_front : (xs ys : List Placed) (a : ℕ) → InParts xs a → InParts (xs ++ ys) a
in_front [] ys a h = absurd h
in_front (x ∷ xs) ys a (inl h) = inl h
in_front (x ∷ xs) ys a (inr h) = inr (in_front xs ys a h)

pub in_behind : (xs ys : List Placed) (a : ℕ) → InParts ys a → InParts (xs ++ ys) a
in_behind [] ys a h = h
in_behind (x ∷ xs) ys a h = inr (in_behind xs ys a h)

-- the image has the bytes of each part where it stands
abbrev pub EachHas : ProgramImage → List Placed → Type 0
EachHas image [] = Unit {0}
EachHas image (run ∷ runs) = HasBytes image run.at run.bytes × EachHas image runs

pub each_behind : (image : ProgramImage) (xs ys : List Placed) → EachHas image xs → EachHas image ys
    → EachHas image (xs ++ ys)
each_behind image [] ys h k = k
each_behind image (x ∷ xs) ys h k = (h.0, each_behind image xs ys h.1 k)

pub follow_from : (low from to : ℕ) (runs : List Placed) → low ≤ from → Follow from runs to → Follow low runs to
follow_from low from to [] h k = omega (arith, h, k)
follow_from low from to (run ∷ runs) h k = (let l = k.0 in omega (arith, h, l), k.1)

-- lines as the statements of parts, with the labels and the mark of the start that stand at addresses of a kind
pub record ToldRuns (image : ProgramImage) (said : Said) (number from to : ℕ) (lines : List (List ℕ))
    (Kind Word : ℕ → Type 0) (Start : Type 0) : Type 0 where
  pub runs : List Placed
  pub statements : List Statement
  pub stated : Stated number lines statements
  pub datas : PartsData (named image said) runs statements
  pub those : AreThose image said (names_in statements) Kind Start
  pub branches : HasBranches image said Word from statements
  pub simple : AllAt (IsSimple image said) from statements
  pub pieces : ArePieces runs
  pub has : EachHas image runs
  pub covers : (a : ℕ) → Kind a → InParts runs a
  pub order : Follow from runs to

abbrev pub runs_as : (image : ProgramImage) (said : Said) (number from to : ℕ) (lines : List (List ℕ))
    (K L V W : ℕ → Type 0) (S T : Type 0)
    → ((a : ℕ) → K a → L a) → ((a : ℕ) → L a → K a) → ((a : ℕ) → W a → V a) → (S → T) → (T → S)
    → ToldRuns image said number from to lines K V S → ToldRuns image said number from to lines L W T
runs_as image said number from to lines K L V W S T onto back words on off t = record {
  runs = t.runs;
  statements = t.statements;
  stated = t.stated;
  datas = t.datas;
  those = those_as image said _ K L S T onto back on off t.those;
  branches = λ a w. t.branches a (words a w);
  simple = t.simple;
  pieces = t.pieces;
  has = t.has;
  covers = λ a l. t.covers a (back a l);
  order = t.order;
}

abbrev pub runs_both : (image : ProgramImage) (said : Said) (number later from middle to : ℕ) (ls ms : List (List ℕ))
    (K L V W : ℕ → Type 0) (S T : Type 0)
    → later ≡ number + length ls → ((a : ℕ) → K a → L a → ⊥) → (S → T → ⊥)
    → ToldRuns image said number from middle ls K V S → ToldRuns image said later middle to ms L W T
    → ToldRuns image said number from to (ls ++ ms) (λ a. K a ⊎ L a) (λ a. V a ⊎ W a) (S ⊎ T)
runs_both image said number later from middle to ls ms K L V W S T later_is apart starts t u = record {
  runs = t.runs ++ u.runs;
  statements = t.statements ++ u.statements;
  stated = stated_behind number later ls ms t.statements u.statements later_is t.stated u.stated;
  datas = parts_behind (named image said) t.runs u.runs t.statements u.statements t.datas u.datas;
  those =
      subst (λ (ns : List (List ℕ)). AreThose image said ns (λ a. K a ⊎ L a) (S ⊎ T))
      (sym (flat_map-append names_of t.statements u.statements))
      (those_both image said (names_in t.statements) (names_in u.statements) K L S T apart starts t.those u.those);
  branches = λ a w is i to_address stands e. elim w [
    | inl v ↦
        has_in_front (IsBranchTo a i to_address) from t.statements u.statements
        (t.branches a v is i to_address stands e)
    | inr v ↦
        has_behind_parts (IsBranchTo a i to_address) (named image said) from t.runs t.statements u.statements t.datas
        (λ q. anywhere (IsBranchTo a i to_address) (named image said) middle q u.runs u.statements
        (no_branch a i to_address) u.datas (u.branches a v is i to_address stands e))
  ];
  simple =
      all_behind_parts image said (named image said) from t.runs t.statements u.statements t.datas t.simple
      (λ q. all_anywhere image said (named image said) middle q u.runs u.statements u.datas u.simple);
  pieces = pieces_behind t.runs u.runs t.pieces u.pieces;
  has = each_behind image t.runs u.runs t.has u.has;
  covers = λ a m. elim m [
    | inl k ↦ in_front t.runs u.runs a (t.covers a k)
    | inr l ↦ in_behind t.runs u.runs a (u.covers a l)
  ];
  order = follow_on from middle to t.runs u.runs t.order u.order;
}

-- the same from a lower address on
abbrev pub runs_from : (image : ProgramImage) (said : Said) (number low from to : ℕ) (lines : List (List ℕ))
    (K W : ℕ → Type 0) (S : Type 0) → low ≤ from
    → ToldRuns image said number from to lines K W S → ToldRuns image said number low to lines K W S
runs_from image said number low from to lines K W S below t = record {
  runs = t.runs;
  statements = t.statements;
  stated = t.stated;
  datas = t.datas;
  those = t.those;
  branches = λ a w is i to_address stands e.
      anywhere (IsBranchTo a i to_address) (named image said) from low t.runs t.statements (no_branch a i to_address)
      t.datas (t.branches a w is i to_address stands e);
  simple = all_anywhere image said (named image said) from low t.runs t.statements t.datas t.simple;
  pieces = t.pieces;
  has = t.has;
  covers = t.covers;
  order = follow_from low from to t.runs below t.order;
}

abbrev pub runs_none : (image : ProgramImage) (said : Said) (number at : ℕ)
    → ToldRuns image said number at at [] (λ a. ⊥) (λ a. ⊥) ⊥
runs_none image said number at = record {
  runs = [];
  statements = [];
  stated = tt;
  datas = no_parts;
  those = those_none image said;
  branches = λ a h. absurd h;
  simple = tt;
  pieces = tt;
  has = tt;
  covers = λ a h. absurd h;
  order = omega arith;
}

-- the parts have these bytes from an address on, and no others
pub record ToldPart (image : ProgramImage) (said : Said) (number at to : ℕ) (bytes : List ℕ)
    (lines : List (List ℕ)) (Kind : ℕ → Type 0) (Start : Type 0) : Type 0 where
  pub told : ToldRuns image said number at to lines Kind Kind Start
  pub ends : to ≡ at + length bytes
  pub bytes_are : (a : ℕ) → byte_among told.runs a ≡ byte_in (record { at = at; bytes = bytes }) a
  pub count : count_among told.runs ≡ length bytes

part_as : (image : ProgramImage) (said : Said) (number at to : ℕ) (bytes : List ℕ) (lines : List (List ℕ))
    (K L : ℕ → Type 0) (S T : Type 0)
    → ((a : ℕ) → K a → L a) → ((a : ℕ) → L a → K a) → (S → T) → (T → S)
    → ToldPart image said number at to bytes lines K S → ToldPart image said number at to bytes lines L T
part_as image said number at to bytes lines K L S T onto back on off t = record {
  told = runs_as image said number at to lines K L K L S T onto back back on off t.told;
  ends = t.ends;
  bytes_are = t.bytes_are;
  count = t.count;
}

part_both : (image : ProgramImage) (said : Said) (number later at middle to : ℕ) (xs ys : List ℕ)
    (ls ms : List (List ℕ)) (K L : ℕ → Type 0) (S T : Type 0)
    → later ≡ number + length ls → ((a : ℕ) → K a → L a → ⊥) → (S → T → ⊥)
    → ToldPart image said number at middle xs ls K S → ToldPart image said later middle to ys ms L T
    → ToldPart image said number at to (xs ++ ys) (ls ++ ms) (λ a. K a ⊎ L a) (S ⊎ T)
part_both image said number later at middle to xs ys ls ms K L S T later_is apart starts t u =
    let size = length-append xs ys in
    let first_end = t.ends in
    let last_end = u.ends in
    record {
      told = runs_both image said number later at middle to ls ms K L K L S T later_is apart starts t.told u.told;
      ends = omega (arith, size, first_end, last_end);
      bytes_are = λ a.
          byte_among-append t.told.runs u.told.runs a
          ∙ ap (λ (o : Option ℕ). option_or o (byte_among u.told.runs a)) (t.bytes_are a)
          ∙ ap (λ (o : Option ℕ). option_or (byte_in (record { at = at; bytes = xs }) a) o) (u.bytes_are a)
          ∙ sym (byte_in-join at xs ys middle a (sym t.ends));
      count =
          sum_by-append (λ (r : Placed). length r.bytes) t.told.runs u.told.runs
          ∙ (let m = t.count in let n = u.count in omega (arith, size, m, n));
    }

or_none : (o : Option ℕ) → option_or o None ≡ o
or_none None = refl
or_none (Some b) = refl

-- a piece
part_of : (image : ProgramImage) (said : Said) (number at : ℕ) (bytes : List ℕ) (lines : List (List ℕ))
    (K : ℕ → Type 0) (S : Type 0) → AreBytes bytes → 0 < length bytes → at + length bytes ≤ 2 ^ 32
    → HasBytes image at bytes → ((a : ℕ) → K a → Among at (length bytes) a)
    → Told image said (number + 1) at bytes lines K K S
    → ToldPart image said number at (at + length bytes) bytes (place_line at ∷ lines) K S
part_of image said number at bytes lines K S small some low has among t =
    let xs : List Statement = t.listed.statements in
    record {
      told = record {
        runs = record { at = at; bytes = bytes } ∷ [];
        statements = unlabelled number (body.At at) ∷ (xs ++ []);
        stated = (
          spoken number (place_line at) (body.At at) (said_place number at (omega (arith, some, low))),
          subst (λ (ys : List Statement). Stated (number + 1) lines ys) (sym (append-nil xs)) t.listed.stated,
        );
        datas = more_parts number xs [] refl t.listed.datas no_parts;
        those = subst (λ (ys : List Statement). AreThose image said (names_in ys) K S) (sym (append-nil xs)) t.those;
        branches = λ a w is i t_address stands e.
            inr (has_in_front (IsBranchTo a i t_address) at xs [] (t.branches a w is i t_address stands e));
        simple = (inl tt, subst (AllAt (IsSimple image said) at) (sym (append-nil xs)) t.simple);
        pieces = (small, some, low, tt);
        has = (has, tt);
        covers = λ a k. inl (among a k);
        order = (omega arith, omega arith);
      };
      ends = refl;
      bytes_are = λ a. or_none (byte_in (record { at = at; bytes = bytes }) a);
      count = sum_by-cons (λ (r : Placed). length r.bytes) (record { at = at; bytes = bytes }) [] ∙ omega arith;
    }

among_both : (at m n : ℕ) (a : ℕ) → (Among at m a ⊎ Among (at + m) n a) → Among at (m + n) a
among_both at m n a (inl h) = let x = h.0 in let y = h.1 in (x, omega (arith, y))
among_both at m n a (inr h) = let x = h.0 in let y = h.1 in (omega (arith, x), omega (arith, y))

either_among : (at m n : ℕ) (a : ℕ) → Among at (m + n) a → (Among at m a ⊎ Among (at + m) n a)
either_among at m n a h = elim (cases_lt a (at + m)) [
  | inl low ↦ inl (h.0, low)
  | inr high ↦ let y = h.1 in inr (high, omega (arith, y))
]

not_either : (at m n : ℕ) (a : ℕ) → Among at m a → Among (at + m) n a → ⊥
not_either at m n a h k = let x = h.1 in let y = k.0 in absurd (omega (arith, x, y))

-- the first n bytes as a piece
pub piece_part : (image : ProgramImage) (said : Said) (number at n : ℕ) (bytes : List ℕ) (own : List (List ℕ))
    → n ≤ length bytes → 0 < n → AreBytes bytes → at + length bytes ≤ 2 ^ 32 → HasBytes image at bytes
    → Told image said (number + 1) at (take n bytes) own (Among at n) (Among at n) (Among at n image.start)
    → ToldPart image said number at (at + n) (take n bytes) (place_line at ∷ own) (Among at n)
    (Among at n image.start)
piece_part image said number at n bytes own within some small low has t =
    let size = length-take-le n bytes within in
    subst (λ (k : ℕ). ToldPart image said number at (at + k) (take n bytes) (place_line at ∷ own) (Among at n)
    (Among at n image.start)) size
    (part_of image said number at (take n bytes) own (Among at n) (Among at n image.start)
    (bytes_taken n bytes small)
    (omega (arith, size, some)) (omega (arith, size, within, low)) (has_front image at n bytes within has)
    (λ a h. let x = h.0 in let y = h.1 in (x, omega (arith, y, size))) t)

-- a piece before the others of its part
piece_before : (image : ProgramImage) (said : Said) (number later at to n : ℕ) (bytes : List ℕ)
    (own lines : List (List ℕ)) → n ≤ length bytes → 0 < n → AreBytes bytes → at + length bytes ≤ 2 ^ 32
    → HasBytes image at bytes → later ≡ number + length (place_line at ∷ own)
    → Told image said (number + 1) at (take n bytes) own (Among at n) (Among at n) (Among at n image.start)
    → ToldPart image said later (at + n) to (drop n bytes) lines (Among (at + n) (length bytes - n))
    (Among (at + n) (length bytes - n) image.start)
    → ToldPart image said number at to bytes (place_line at ∷ own ++ lines) (Among at (length bytes))
    (Among at (length bytes) image.start)
piece_before image said number later at to n bytes own lines within some small low has later_is t p =
    let rest : ℕ = length bytes - n in
    let first : ToldPart image said number at (at + n) (take n bytes) (place_line at ∷ own) (Among at n)
    (Among at n image.start) =
    piece_part image said number at n bytes own within some small low has t in
    let both : ToldPart image said number at to (take n bytes ++ drop n bytes) (place_line at ∷ own ++ lines)
    (λ a. Among at n a ⊎ Among (at + n) rest a) (Among at n image.start ⊎ Among (at + n) rest image.start) =
    part_both image said number later at (at + n) to (take n bytes) (drop n bytes) (place_line at ∷ own) lines
    (Among at n) (Among (at + n) rest) (Among at n image.start) (Among (at + n) rest image.start)
    later_is (not_either at n rest) (not_either at n rest image.start) first p in
    let all : ToldPart image said number at to (take n bytes ++ drop n bytes) (place_line at ∷ own ++ lines)
    (Among at (n + rest)) (Among at (n + rest) image.start) =
    part_as image said number at to (take n bytes ++ drop n bytes) (place_line at ∷ own ++ lines) _
    (Among at (n + rest)) _ (Among at (n + rest) image.start)
    (among_both at n rest) (either_among at n rest) (among_both at n rest image.start)
    (either_among at n rest image.start) both in
    let sum : n + rest ≡ length bytes = omega (arith, within) in
    subst (λ (k : ℕ). ToldPart image said number at to bytes (place_line at ∷ own ++ lines) (Among at k)
    (Among at k image.start)) sum
    (subst (λ (bs : List ℕ). ToldPart image said number at to bs (place_line at ∷ own ++ lines)
    (Among at (n + rest)) (Among at (n + rest) image.start)) (take-append-drop n bytes) all)

-- behind bytes that are no code a word of code begins
pub loose_whole : (image : ProgramImage) (said : Said) (at n : ℕ) → 0 < n
    → ((k : ℕ) → k < n → ¬ InCode image said (at + k)) → InCode image said (at + n) → (at + n) % 4 ≡ 0
loose_whole image said at n some none c = by ((at + n) % 4) refl
  where
    by : (r : ℕ) → (at + n) % 4 ≡ r → (at + n) % 4 ≡ 0
    by zero e = e
    by (suc r) e =
        let same : word_address (at + n) ≡ word_address (at + (n - 1)) = omega (arith, e, some) in
        absurd (none (n - 1) (omega (arith, some)) (subst (IsCode image said) same c))

-- a piece of code, and one of what is no code
pub code_piece : (image : ProgramImage) (said : Said) (number at n : ℕ) (bytes : List ℕ) (own : List (List ℕ))
    → at % 4 ≡ 0 → at + length bytes ≤ 2 ^ 32 → HasBytes image at bytes
    → IsCutPiece (InCode image said) (Stays said) at bytes (4 * n) → AreCodeLines (λ _. []) image said at n own
    → Told image said number at (take (4 * n) bytes) own (Among at (4 * n)) (Among at (4 * n))
    (Among at (4 * n) image.start)
code_piece image said number at n bytes own begins low has is are =
    let within = is.within in
    told_code image said number at n (take (4 * n) bytes) own begins (omega (arith, within, low))
    (length-take-le (4 * n) bytes within) (has_front image at (4 * n) bytes within has)
    (λ k h. subst (IsCode image said) (let e : word_address (at + 4 * k) ≡ at + 4 * k = omega (arith, begins) in e)
    (is.even (4 * k) (omega (arith, h)))) are

pub loose_piece : (image : ProgramImage) (said : Said) (number at n : ℕ) (bytes : List ℕ) (own : List (List ℕ))
    → at + length bytes ≤ 2 ^ 32 → length bytes < 2 ^ 32 → AreBytes bytes
    → IsPiece (λ a. ¬ InCode image said a) at bytes n → AreLooseLines image said at (take n bytes) own
    → Told image said number at (take n bytes) own (Among at n) (Among at n) (Among at n image.start)
loose_piece image said number at n bytes own low few small is are =
    let within = is.within in
    let size = length-take-le n bytes within in
    subst (λ (k : ℕ). Told image said number at (take n bytes) own (Among at k) (Among at k)
    (Among at k image.start)) size
    (told_loose image said number at (take n bytes) own (omega (arith, size, within, low))
    (omega (arith, size, within, few)) (bytes_taken n bytes small) (λ k h. is.even k (omega (arith, h, size))) are)

-- the pieces of bytes from an address on, where no word of code began before
pub told_pieces : (image : ProgramImage) (said : Said) (number at : ℕ) (bytes : List ℕ) (lines : List (List ℕ))
    → at + length bytes ≤ 2 ^ 32 → length bytes < 2 ^ 32 → AreBytes bytes → HasBytes image at bytes
    → (0 < length bytes → InCode image said at → at % 4 ≡ 0)
    → ArePieceLines (λ _. []) image said at bytes lines
    → ToldPart image said number at (at + length bytes) bytes lines (Among at (length bytes))
    (Among at (length bytes) image.start)
told_pieces image said number at _ _ low few small has whole no_piece = record {
  told = record {
    runs = [];
    statements = [];
    stated = tt;
    datas = no_parts;
    those = those_as image said [] (λ a. ⊥) (Among at 0) ⊥ (Among at 0 image.start)
        (λ a h. absurd h) (λ a h. absurd (let x = h.0 in let y = h.1 in omega (arith, x, y)))
        (λ h. absurd h) (λ h. absurd (let x = h.0 in let y = h.1 in omega (arith, x, y)))
        (those_none image said);
    branches = λ a h. absurd (let x = h.0 in let y = h.1 in omega (arith, x, y));
    simple = tt;
    pieces = tt;
    has = tt;
    covers = λ a h. absurd (let x = h.0 in let y = h.1 in omega (arith, x, y));
    order = omega arith;
  };
  ends = refl;
  bytes_are = λ a. sym (none_in at a);
  count = refl;
}
told_pieces image said number at bytes _ low few small has whole (code {own = own} {lines = lines} n is are rest) =
    let some = is.some in
    let within = is.within in
    let left = length-drop (4 * n) bytes in
    let begins : at % 4 ≡ 0 =
    whole (omega (arith, some, within))
    (subst (InCode image said) (let e : at + 0 ≡ at = omega arith in e) (is.even 0 some)) in
    let later : ℕ = number + length (place_line at ∷ own) in
    let end : at + 4 * n + length (drop (4 * n) bytes) ≡ at + length bytes = omega (arith, left, within) in
    let others : ToldPart image said later (at + 4 * n) (at + length bytes) (drop (4 * n) bytes) lines
    (Among (at + 4 * n) (length bytes - 4 * n)) (Among (at + 4 * n) (length bytes - 4 * n) image.start) =
    subst (λ (k : ℕ). ToldPart image said later (at + 4 * n) k (drop (4 * n) bytes) lines
    (Among (at + 4 * n) (length bytes - 4 * n)) (Among (at + 4 * n) (length bytes - 4 * n) image.start)) end
    (subst (λ (k : ℕ). ToldPart image said later (at + 4 * n) (at + 4 * n + length (drop (4 * n) bytes))
    (drop (4 * n) bytes) lines (Among (at + 4 * n) k) (Among (at + 4 * n) k image.start)) left
    (told_pieces image said later (at + 4 * n) (drop (4 * n) bytes) lines (omega (arith, left, within, low))
    (omega (arith, left, few)) (bytes_dropped (4 * n) bytes small) (has_behind image at (4 * n) bytes within has)
    (λ h c. omega (arith, begins)) rest)) in
    piece_before image said number later at (at + length bytes) (4 * n) bytes own lines within some small low has
    refl
    (code_piece image said (number + 1) at n bytes own begins low has is are) others
told_pieces image said number at bytes _ low few small has whole (loose {own = own} {lines = lines} n is are rest) =
    let some = is.some in
    let within = is.within in
    let left = length-drop n bytes in
    let later : ℕ = number + length (place_line at ∷ own) in
    let end : at + n + length (drop n bytes) ≡ at + length bytes = omega (arith, left, within) in
    let next_whole : 0 < length (drop n bytes) → InCode image said (at + n) → (at + n) % 4 ≡ 0 = λ h c.
    loose_whole image said at n is.some is.even c in
    let others : ToldPart image said later (at + n) (at + length bytes) (drop n bytes) lines
    (Among (at + n) (length bytes - n)) (Among (at + n) (length bytes - n) image.start) =
    subst (λ (k : ℕ). ToldPart image said later (at + n) k (drop n bytes) lines
    (Among (at + n) (length bytes - n)) (Among (at + n) (length bytes - n) image.start)) end
    (subst (λ (k : ℕ). ToldPart image said later (at + n) (at + n + length (drop n bytes))
    (drop n bytes) lines (Among (at + n) k) (Among (at + n) k image.start)) left
    (told_pieces image said later (at + n) (drop n bytes) lines (omega (arith, left, within, low))
    (omega (arith, left, few)) (bytes_dropped n bytes small) (has_behind image at n bytes within has)
    next_whole rest)) in
    piece_before image said number later at (at + length bytes) n bytes own lines within some small low has refl
    (loose_piece image said (number + 1) at n bytes own low few small is are) others
