-- A label alone is read as such a statement, a branch to a label as an instruction that waits for it, and with what the
-- label stands for in its place it is the branch again.
use Rattle.std.proofs.Common.{◌≡◌, ◌≢◌, inl, ℕ, ℤ, pos, negsuc, ◌+◌, ◌-◌, ◌*◌, ◌/◌, ◌%◌, ◌<◌, ◌^◌, Bool, true, false, ◌&&◌, List, [], ◌∷◌, ◌++◌, length, get_or, refl, sym, ap, ◌∙◌, arith, codes, lt-ltb, le-ltb}
use Rattle.std.specs.Prelude.{Some, if◌then◌else◌}
use Rattle.std.specs.List.{list_all}
use Rattle.std.specs.Int.{cast_unsigned, w32}
use Rattle.std.proofs.lemmas.Bool.Decides.{nat_tests}
use Rattle.std.proofs.lemmas.List.Folds.{list_all-append}
use Rattle.m88_base.specs.Hex.{hex_digit, hex8}
use Rattle.m88_base.specs.Name.{IsName, continues_name}
use Rattle.m88_base.specs.declared.fixup.Fixup.{Fixup}
use Rattle.m88_base.specs.declared.fixup.Kind.{Kind}
use Rattle.m88_base.specs.declared.fixup.Kind.TheVariants.{Pc26, Pc16}
use Rattle.m88_base.specs.declared.reg.Reg.{Reg}
use Rattle.m88_isa.specs.Flow.{words_away}
use Rattle.m88_isa.specs.Instr.{FitsWords}
use Rattle.m88_isa.specs.Names.{branch_cond_name, operation_name}
use Rattle.m88_isa.specs.declared.instr.Instr.{Instr}
use Rattle.m88_isa.specs.declared.instr.Instr.TheVariants as instr
use Rattle.m88_link.specs.Field.{distance, is_near}
use Rattle.m88_asm.specs.Filled.{words_of}
use Rattle.m88_parse.specs.Language.Names.{IsControlName, IsSymbolName}
use Rattle.m88_parse.specs.Language.Operands.{branch, branch_bit, branch_condition, symbol}
use Rattle.m88_parse.specs.Language.Statements.{label_alone, set as set_symbol}
use Rattle.m88_parse.specs.declared.unit.Body.TheVariants as body
use Rattle.m88_parse.specs.declared.unit.Statement.{Statement}
use Rattle.m88_disasm.specs.Text.{register_name}
use Rattle.m88_disasm.proofs.Laws.{ConditionPart, Spoken, SpokenAs, behind, comma, comma_good, is_printed, name_is_printed, part_hex, part_mark, part_name, part_number, piece_of, reg_good, reg_part, says_body, says_waiting, word_name, word_part_good}
use Rattle.m88_sourcing.specs.Labels.{label_line, label_of, named_text}
use Rattle.m88_sourcing.specs.Source.{far_line}

-- names
digit_goes_on : (d : ℕ) → d < 16 → continues_name (hex_digit d) ≡ true
digit_goes_on d h = grind (arith, nat_tests)

digits_go_on : (a : ℕ) → list_all continues_name (hex8 a) ≡ true
digits_go_on n =
    rw (
      digit_goes_on (n / 268435456 % 16) (omega arith),
      digit_goes_on (n / 16777216 % 16) (omega arith),
      digit_goes_on (n / 1048576 % 16) (omega arith),
      digit_goes_on (n / 65536 % 16) (omega arith),
      digit_goes_on (n / 4096 % 16) (omega arith),
      digit_goes_on (n / 256 % 16) (omega arith),
      digit_goes_on (n / 16 % 16) (omega arith),
      digit_goes_on (n / 1 % 16) (omega arith),
    ) refl

label_name : (a : ℕ) → IsName (label_of a)
label_name a = word_name (label_of a) (digits_go_on a)

other_first : (a b : ℕ) (name : List ℕ) → label_of a ≡ name → get_or name 0 0 ≡ b → b ≢ 76 → ⊥
other_first a b name e f other = other (sym (ap (λ (xs : List ℕ). get_or xs 0 0) e ∙ f))

pub label_symbol : (a : ℕ) → IsSymbolName (label_of a)
label_symbol a = record {
  valid = label_name a;
  no_place = λ e. other_first a 46 (codes ".") e refl (omega arith);
  no_register = λ n h. other_first a 114 _ h.0 refl (omega arith);
  no_control = no_control;
}
  where
    no_control : (float : Bool) (n : ℕ) → IsControlName float (label_of a) n → ⊥
    no_control true n h = other_first a 102 _ h.0 refl (omega arith)
    no_control false n h = other_first a 99 _ h.0 refl (omega arith)

-- the statement of a label alone
abbrev pub marks : ℕ → List ℕ → Statement
marks number name = record { line = number; label = Some (name, 1); col = 1; body = body.Empty }

pub said_label : (number : ℕ) (name : List ℕ) → IsSymbolName name → SpokenAs number (label_line name) (marks number name)
said_label number name good = record {
  tokens = piece_of 1 (part_name name) ∷ piece_of (1 + length name) (part_mark 58) ∷ [];
  are_tokens = (
    58 ∷ [],
    record {
      gap = [];
      bytes_are = refl;
      blank = refl;
      place = refl;
      token = (refl, good.valid);
      longest = λ h. refl;
    },
    (
      [],
      record {
        gap = [];
        bytes_are = refl;
        blank = refl;
        place = omega arith;
        token = (refl, refl);
        longest = λ h. tt;
      },
      record { gap = []; tail = []; bytes_are = refl; blank = refl; comment = tt },
    ),
  );
  statement = label_alone (record { symbol = (refl, good); colon = refl });
  printed = list_all-append is_printed name (58 ∷ []) ∙ ap (λ (t : Bool). t && true) (name_is_printed name good.valid);
}

-- the line that gives a name its value
pub said_far : (number a : ℕ) → a < 2 ^ 32 → Spoken number (far_line a) (body.Set (label_of a) 6 a)
said_far number a small =
    says_body (codes ".set") (part_name (label_of a)) (comma ∷ part_hex (hex8 a) a ∷ []) number
    (body.Set (label_of a) 6 a) refl
    (label_name a, (comma_good, (word_part_good a small, tt))) refl refl
    (set_symbol refl (refl, label_symbol a) refl (refl, small))

-- a use of a name in a field of a kind, at a column
abbrev pub use_of : Kind → List ℕ → ℕ → Fixup
use_of kind name col = record { kind = kind; symbol = name; addend = 0; col = col }

-- a branch whose text names its target
pub record SaidTo (number : ℕ) (i j : Instr) (kind : Kind) (name : List ℕ) : Type 0 where
  pub col : ℕ
  pub said : Spoken number (named_text i name) (body.Code j (Some (use_of kind name col)))

pub said_branch_to : (number : ℕ) (link delayed : Bool) (words : ℤ) (name : List ℕ) → IsSymbolName name
    → SaidTo number (instr.Branch link delayed words) (instr.Branch link delayed (pos 0)) Pc26 name
said_branch_to number link delayed words name good =
    let i : Instr = instr.Branch link delayed (pos 0) in
    record {
      col = 1 + length (operation_name i) + 1;
      said =
          says_waiting (part_name name) [] i (Some (use_of Pc26 name (1 + length (operation_name i) + 1))) number _ refl
          (good.valid, tt) refl refl (branch (symbol ((refl, (refl, good), refl), refl)));
    }

pub said_branch_bit_to : (number : ℕ) (set delayed : Bool) (bit : ℕ) (s1 : Reg) (words : ℤ) (name : List ℕ) → bit < 32
    → IsSymbolName name
    → SaidTo number (instr.BranchBit set delayed bit s1 words) (instr.BranchBit set delayed bit s1 (pos 0)) Pc16 name
said_branch_bit_to number set delayed bit s1 words name small good =
    let i : Instr = instr.BranchBit set delayed bit s1 (pos 0) in
    record {
      col = _;
      said =
          says_waiting (part_number bit) (comma ∷ reg_part s1 ∷ comma ∷ part_name name ∷ []) i _ number _ refl
          (omega arith, (comma_good, (reg_good s1, (comma_good, (good.valid, tt))))) refl refl
          (branch_bit (inl (refl, small)) refl (behind s1 _ _ _ refl refl) (symbol ((refl, (refl, good), refl), refl)));
    }

pub said_branch_cond_to : (number : ℕ) (delayed : Bool) (mask : ℕ) (s1 : Reg) (words : ℤ) (name : List ℕ)
    → ConditionPart mask → IsSymbolName name
    → SaidTo number (instr.BranchCond delayed mask s1 words) (instr.BranchCond delayed mask s1 (pos 0)) Pc16 name
said_branch_cond_to number delayed mask s1 words name c good =
    let i : Instr = instr.BranchCond delayed mask s1 (pos 0) in
    record {
      col = _;
      said =
          says_waiting c.part (comma ∷ reg_part s1 ∷ comma ∷ part_name name ∷ []) i _ number _
          (ap (λ (ys : List ℕ). branch_cond_name delayed ++ 32 ∷
          (ys ++ 44 ∷ (register_name s1 ++ 44 ∷ (name ++ [])))) c.text_is)
          (c.good, (comma_good, (reg_good s1, (comma_good, (good.valid, tt))))) refl c.plain
          (branch_condition (c.read (piece_of (1 + length (branch_cond_name delayed) + 1) c.part) refl) refl
          (behind s1 _ _ _ refl refl) (symbol ((refl, (refl, good), refl), refl)));
    }

-- a target behind is as far as its words are
distance_on : (n at : ℕ) → at < 2 ^ 32 → n < 2 ^ 25 → distance ((words_away at (pos n) + 0) % 2 ^ 32) at ≡ 4 * n
distance_on n at low fits = omega arith

distance_from : (n c at : ℕ) → at < 2 ^ 32 → n < 2 ^ 25 → c ≡ 2 ^ 32 - (n + 1)
    → distance (((at + 4 * c) % 2 ^ 32 + 0) % 2 ^ 32) at ≡ 2 ^ 32 - 4 * (n + 1)
distance_from n c at low fits is = omega (arith, is)

distance_back : (n at : ℕ) → at < 2 ^ 32 → n < 2 ^ 25
    → distance ((words_away at (negsuc n) + 0) % 2 ^ 32) at ≡ 2 ^ 32 - 4 * (n + 1)
distance_back n at low fits = distance_from n (cast_unsigned w32 (negsuc n)) at low fits (omega arith)

count_back : (n : ℕ) → n < 2 ^ 25 → (2 ^ 32 - (2 ^ 32 - 4 * (n + 1))) / 4 - 1 ≡ n
count_back n fits = omega arith

-- the count of words comes back from the target
pub words_back : (words : ℤ) (at : ℕ) → at < 2 ^ 32 → FitsWords 25 words
    → words_of (distance ((words_away at words + 0) % 2 ^ 32) at) ≡ words
words_back (pos n) at low fits =
    let d : distance ((words_away at (pos n) + 0) % 2 ^ 32) at ≡ 4 * n = distance_on n at low fits in
    ap words_of d
    ∙ ap (λ (t : Bool). if t then pos (4 * n / 4) else negsuc ((2 ^ 32 - 4 * n) / 4 - 1))
    (lt-ltb (4 * n) (2 ^ 31) (omega arith))
    ∙ ap (λ (k : ℕ). pos k) (omega arith)
words_back (negsuc n) at low fits =
    ap words_of (distance_back n at low fits)
    ∙ ap (λ (t : Bool). if t then pos ((2 ^ 32 - 4 * (n + 1)) / 4) else negsuc ((2 ^ 32 - (2 ^ 32 - 4 * (n + 1))) / 4 - 1))
    (le-ltb (2 ^ 32 - 4 * (n + 1)) (2 ^ 31) (omega arith))
    ∙ ap (λ (k : ℕ). negsuc k) (count_back n fits)

near_on : (n : ℕ) → n < 2 ^ 25 → is_near 26 (4 * n) ≡ true
near_on n fits = grind (arith, nat_tests)

near_from : (n : ℕ) → n < 2 ^ 25 → is_near 26 (2 ^ 32 - 4 * (n + 1)) ≡ true
near_from n fits = grind (arith, nat_tests)

-- and the target is in reach
pub near_back : (words : ℤ) (at : ℕ) → at < 2 ^ 32 → FitsWords 25 words
    → is_near 26 (distance (words_away at words) at) ≡ true
near_back words at low fits = by words fits
  where
    same : (v : ℤ) → (words_away at v + 0) % 2 ^ 32 ≡ words_away at v
    same v = again (cast_unsigned w32 v)
      where
        again : (c : ℕ) → ((at + 4 * c) % 2 ^ 32 + 0) % 2 ^ 32 ≡ (at + 4 * c) % 2 ^ 32
        again c = omega arith

    by : (v : ℤ) → FitsWords 25 v → is_near 26 (distance (words_away at v) at) ≡ true
    by (pos n) f =
        ap (λ (t : ℕ). is_near 26 (distance t at)) (sym (same (pos n))) ∙ ap (is_near 26) (distance_on n at low f)
        ∙ near_on n f
    by (negsuc n) f =
        ap (λ (t : ℕ). is_near 26 (distance t at)) (sym (same (negsuc n))) ∙ ap (is_near 26) (distance_back n at low f)
        ∙ near_from n f

-- the same of a field of 16 bits
near16_on : (n : ℕ) → n < 2 ^ 15 → is_near 16 (4 * n) ≡ true
near16_on n fits = grind (arith, nat_tests)

near16_from : (n : ℕ) → n < 2 ^ 15 → is_near 16 (2 ^ 32 - 4 * (n + 1)) ≡ true
near16_from n fits = grind (arith, nat_tests)

pub near16_back : (words : ℤ) (at : ℕ) → at < 2 ^ 32 → FitsWords 15 words
    → is_near 16 (distance (words_away at words) at) ≡ true
near16_back words at low fits = by words fits
  where
    same : (v : ℤ) → (words_away at v + 0) % 2 ^ 32 ≡ words_away at v
    same v = again (cast_unsigned w32 v)
      where
        again : (c : ℕ) → ((at + 4 * c) % 2 ^ 32 + 0) % 2 ^ 32 ≡ (at + 4 * c) % 2 ^ 32
        again c = omega arith

    by : (v : ℤ) → FitsWords 15 v → is_near 16 (distance (words_away at v) at) ≡ true
    by (pos n) f =
        ap (λ (t : ℕ). is_near 16 (distance t at)) (sym (same (pos n)))
        ∙ ap (is_near 16) (distance_on n at low (omega arith)) ∙ near16_on n f
    by (negsuc n) f =
        ap (λ (t : ℕ). is_near 16 (distance t at)) (sym (same (negsuc n)))
        ∙ ap (is_near 16) (distance_back n at low (omega arith)) ∙ near16_from n f
