-- Lines that are each read as a statement are a source, whose unit has these statements.
use Rattle.std.proofs.Common.{◌≡◌, ℕ, ◌+◌, true, false, ◌==◌, List, [], ◌∷◌, ◌++◌, length, refl, sym, ap, subst, ◌∙◌, arith, append-nil, append_assoc, codes}
use Rattle.std.specs.Prelude.{◌≢◌}
use Rattle.std.proofs.lemmas.Bool.{and_parts}
use Rattle.std.proofs.lemmas.Bool.Decides.{nat_tests}
use Rattle.m88_base.proofs.Laws.{first_line, no_lines}
use Rattle.m88_base.specs.Lines.{IsOneLine, line_end, lines_of, text_of_lines}
use Rattle.m88_parse.specs.Language.Pieces.{Piece}
use Rattle.m88_parse.specs.Language.Statements.{IsStatement}
use Rattle.m88_parse.specs.Language.Tokens.{LineTokens}
use Rattle.m88_parse.specs.Language.Units.{AreRows, IsUnit, no_row, only_main, row_of_statement, statement_line}
use Rattle.m88_parse.specs.declared.unit.Body.{Body}
use Rattle.m88_parse.specs.declared.unit.Statement.{Statement}
use Rattle.m88_parse.specs.declared.unit.Unit.{Unit as Source}
use Rattle.m88_disasm.specs.Read.{unlabelled}
use Rattle.m88_disasm.proofs.Parts.{are_printed, is_printed}
use Rattle.m88_disasm.proofs.Spoken.{SpokenAs}

-- a printed line is one line
printed_line : (line : List ℕ) → are_printed line ≡ true → IsOneLine line
printed_line [] h = tt
printed_line (b ∷ bs) h =
    let k = and_parts (is_printed b) (are_printed bs) h in
    let printed : is_printed b ≡ true = k.0 in
    (ten b printed, (λ e. absurd (thirteen b printed e)), printed_line bs k.1)
  where
    ten : (c : ℕ) → is_printed c ≡ true → c ≢ 10
    ten c e same = let f : (c == 10) ≡ false = grind (arith, nat_tests) in absurd (grind (arith, nat_tests))

    thirteen : (c : ℕ) → is_printed c ≡ true → c ≡ 13 → ⊥
    thirteen c e same = absurd (grind (arith, nat_tests))

-- lines from a number on, each read as the statement at its place
abbrev pub Stated : ℕ → List (List ℕ) → List Statement → Type 0
Stated number [] [] = Unit {0}
Stated number (line ∷ lines) (x ∷ xs) = SpokenAs number line x × Stated (number + 1) lines xs
Stated number _ _ = ⊥

pub stated_behind : (number later : ℕ) (ls ms : List (List ℕ)) (xs ys : List Statement) → later ≡ number + length ls
    → Stated number ls xs → Stated later ms ys → Stated number (ls ++ ms) (xs ++ ys)
stated_behind number later [] ms [] ys e h k =
    let same : later ≡ number = omega (arith, e) in subst (λ (n : ℕ). Stated n ms ys) same k
stated_behind number later (l ∷ ls) ms (x ∷ xs) ys e h k =
    (h.0, stated_behind (number + 1) later ls ms xs ys (omega (arith, e)) h.1 k)
stated_behind number later [] ms (x ∷ xs) ys e h k = absurd h
stated_behind number later (l ∷ ls) ms [] ys e h k = absurd h

-- the statements of bodies without labels in lines from a number on
abbrev pub numbered : ℕ → List Body → List Statement
numbered number [] = []
numbered number (b ∷ bs) = unlabelled number b ∷ numbered (number + 1) bs

-- lines that are the text's, and rows of statements
pub record AreRead (number : ℕ) (lines : List (List ℕ)) (xs : List Statement) : Type 0 where
  pub lines_are : lines_of (text_of_lines lines) ≡ lines
  pub rows : AreRows number lines xs []

pub read_none : (number : ℕ) → AreRead number [] []
read_none number = record { lines_are = no_lines; rows = no_row }

pub read_one : (number : ℕ) (line : List ℕ) (lines : List (List ℕ)) (tokens : List Piece) (x : Statement)
    (xs : List Statement) → IsOneLine line → LineTokens line tokens → IsStatement number tokens x
    → AreRead (number + 1) lines xs → AreRead number (line ∷ lines) (x ∷ xs)
read_one number line lines tokens x xs is_line are_tokens said rest = record {
  lines_are =
      ap lines_of (append_assoc line line_end (text_of_lines lines))
      ∙ first_line line (text_of_lines lines) is_line
      ∙ ap (λ (ms : List (List ℕ)). let ns : List (List ℕ) = line ∷ ms in ns) rest.lines_are;
  rows = row_of_statement are_tokens (statement_line said) rest.rows;
}

pub read_stated : (number later : ℕ) (ls ms : List (List ℕ)) (xs ys : List Statement) → later ≡ number + length ls
    → Stated number ls xs → AreRead later ms ys → AreRead number (ls ++ ms) (xs ++ ys)
read_stated number later [] ms [] ys e h rest =
    let same : later ≡ number = omega (arith, e) in subst (λ (n : ℕ). AreRead n ms ys) same rest
read_stated number later (l ∷ ls) ms (x ∷ xs) ys e h rest =
    read_one number l (ls ++ ms) h.0.tokens x (xs ++ ys) (printed_line l h.0.printed) h.0.are_tokens h.0.statement
    (read_stated (number + 1) later ls ms xs ys (omega (arith, e)) h.1 rest)
read_stated number later [] ms (x ∷ xs) ys e h rest = absurd h
read_stated number later (l ∷ ls) ms [] ys e h rest = absurd h

pub read_all : (number : ℕ) (ls : List (List ℕ)) (xs : List Statement) → Stated number ls xs → AreRead number ls xs
read_all number ls xs h =
    subst (λ (ms : List (List ℕ)). AreRead number ms xs) (append-nil ls)
    (subst (AreRead number (ls ++ [])) (append-nil xs)
    (read_stated number (number + length ls) ls [] xs [] refl h (read_none (number + length ls))))

-- the unit of statements in lines from the first on
abbrev pub unit_of : List Statement → Source
unit_of xs = record { modules = record { name = codes "main"; line = 1; statements = xs } ∷ [] }

-- they are a source
pub read_unit : (ls : List (List ℕ)) (xs : List Statement) (text : List ℕ) → text ≡ text_of_lines ls → AreRead 1 ls xs
    → IsUnit text (unit_of xs)
read_unit ls xs text text_is h = record {
  statements = xs;
  modules = [];
  are_rows =
      subst (λ (ms : List (List ℕ)). AreRows 1 ms xs []) (sym (ap lines_of text_is ∙ h.lines_are)) h.rows;
  are_modules = only_main;
}

pub unit_is : (ls : List (List ℕ)) (xs : List Statement) (text : List ℕ) → text ≡ text_of_lines ls → Stated 1 ls xs
    → IsUnit text (unit_of xs)
unit_is ls xs text text_is h = read_unit ls xs text text_is (read_all 1 ls xs h)
