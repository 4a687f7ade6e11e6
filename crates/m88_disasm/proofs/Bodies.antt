-- The statements of a listing, and the bytes that each gives.
use Rattle.std.proofs.Common.{◌≡◌, ℕ, ◌+◌, ◌%◌, ◌<◌, ◌≤◌, ◌^◌, List, [], ◌∷◌, ◌++◌, length, refl, ap, subst, ◌∙◌, arith}
use Rattle.std.specs.Prelude.{None}
use Rattle.std.specs.Int.{from_be_bytes, to_be_bytes, w32}
use Rattle.std.proofs.lemmas.Nat.{be_bytes_4}
use Rattle.m88_base.specs.Found.{FindsBytes}
use Rattle.m88_base.specs.Placed.{AreApart, Placed, byte_among}
use Rattle.m88_base.proofs.Laws.{AreBytes, behind_finds, byte_below, part_bytes, part_ends}
use Rattle.m88_isa.specs.Word.{word_of}
use Rattle.m88_isa.specs.declared.instr.Instr.{Instr}
use Rattle.m88_isa.specs.declared.instr.Instr.TheVariants as instr
use Rattle.m88_parse.specs.declared.unit.Body.TheVariants as body
use Rattle.m88_parse.specs.declared.unit.Statement.{Statement}
use Rattle.m88_parse.specs.declared.unit.Value.TheVariants.{Number}
use Rattle.m88_disasm.specs.Listing.{AreLinesFrom, ArePartLines, IsWordLine, byte, lone_byte_line, instruction, no_instruction, no_line, no_part, part, place_line, word}
use Rattle.m88_disasm.specs.Read.{said_body, unlabelled}
use Rattle.m88_disasm.specs.Text.{instr_text, word_text}
use Rattle.m88_disasm.proofs.Rows.{Stated, stated_behind}
use Rattle.m88_disasm.proofs.Spoken.{SpokenAs, said_byte, said_instr, said_place, said_word, spoken}
use Rattle.m88_disasm.proofs.Given.{Data, Gives, Names, PartsData, more_data, more_parts, no_data, no_parts}

-- a listing names nothing but its start
abbrev pub nothing_named : Names
nothing_named name a = ⊥

-- parts of bytes that lie below 2 ^ 32
abbrev pub ArePieces : List Placed → Type 0
ArePieces [] = Unit {0}
ArePieces (p ∷ ps) = AreBytes p.bytes × (0 < length p.bytes) × (p.at + length p.bytes ≤ 2 ^ 32) × ArePieces ps

-- the lines of some bytes, each read as a statement, and the bytes that these give
pub record ListedBytes (number at : ℕ) (bytes : List ℕ) (lines : List (List ℕ)) : Type 0 where
  pub statements : List Statement
  pub stated : Stated number lines statements
  pub datas : Data nothing_named at bytes statements

-- a body that gives bytes wherever it stands, and uses no name
gives_code : (Named : Names) (number at : ℕ) (i : Instr) → at % 4 ≡ 0
    → Gives Named at (unlabelled number (body.Code i None)) (to_be_bytes w32 (word_of i))
gives_code Named number at i stands = record {
  stays = λ c. refl;
  length_is = λ place. refl;
  stands = stands;
  bytes_are = λ value place means. refl;
  opens_none = refl;
  sets_none = refl;
  declares_none = λ name. refl;
  labelled = tt;
  uses = λ section offset. tt;
}

gives_word : (Named : Names) (number at w : ℕ) → at % 4 ≡ 0
    → Gives Named at (unlabelled number (body.Word (Number w ∷ []))) (to_be_bytes w32 w)
gives_word Named number at w stands = record {
  stays = λ c. refl;
  length_is = λ place. refl;
  stands = stands;
  bytes_are = λ value place means. refl;
  opens_none = refl;
  sets_none = refl;
  declares_none = λ name. refl;
  labelled = tt;
  uses = λ section offset. tt;
}

pub gives_byte : (Named : Names) (number at b : ℕ) → Gives Named at (unlabelled number (body.Byte (b ∷ []))) (b ∷ [])
gives_byte Named number at b = record {
  stays = λ c. refl;
  length_is = λ place. refl;
  stands = omega arith;
  bytes_are = λ value place means. refl;
  opens_none = refl;
  sets_none = refl;
  declares_none = λ name. refl;
  labelled = tt;
  uses = λ section offset. tt;
}

pub gives_instr : (Named : Names) (number at : ℕ) (i : Instr) → at % 4 ≡ 0
    → Gives Named at (unlabelled number (said_body i)) (to_be_bytes w32 (word_of i))
gives_instr Named number at (instr.Sfu unit rest) stands =
    gives_word Named number at (word_of (instr.Sfu unit rest)) stands
gives_instr Named number at i stands = gives_code Named number at _ stands

four : (a b c d : ℕ) → a < 256 → b < 256 → c < 256 → d < 256
    → to_be_bytes w32 (from_be_bytes w32 (a ∷ b ∷ c ∷ d ∷ [])) ≡ a ∷ b ∷ c ∷ d ∷ []
four a b c d ha hb hc hd =
    be_bytes_4 (a ∷ b ∷ c ∷ d ∷ []) (from_be_bytes w32 (a ∷ b ∷ c ∷ d ∷ [])) refl
    (byte_below (a ∷ b ∷ c ∷ d ∷ []) (ha, (hb, (hc, (hd, tt))))) refl

word_below : (a b c d : ℕ) → a < 256 → b < 256 → c < 256 → d < 256 → from_be_bytes w32 (a ∷ b ∷ c ∷ d ∷ []) < 2 ^ 32
word_below a b c d ha hb hc hd = omega arith

-- a line before others that are listed, whose statement gives the first bytes
listed_before : (number at : ℕ) (given rest bytes line : List ℕ) (lines : List (List ℕ)) (x : Statement)
    → bytes ≡ given ++ rest
    → Gives nothing_named at x given → SpokenAs number line x
    → ListedBytes (number + 1) (at + length given) rest lines → ListedBytes number at bytes (line ∷ lines)
listed_before number at given rest bytes line lines x bytes_are gives said l = record {
  statements = x ∷ l.statements;
  stated = (said, l.stated);
  datas = more_data given rest bytes_are gives l.datas;
}

-- the line of a word
listed_word : (number at a b c d : ℕ) (rest line : List ℕ) (lines : List (List ℕ)) → a < 256 → b < 256 → c < 256
    → d < 256
    → at % 4 ≡ 0 → IsWordLine (from_be_bytes w32 (a ∷ b ∷ c ∷ d ∷ [])) line
    → ListedBytes (number + 1) (at + 4) rest lines → ListedBytes number at (a ∷ b ∷ c ∷ d ∷ rest) (line ∷ lines)
listed_word number at a b c d rest _ lines ha hb hc hd stands (instruction i is) l =
    let given : List ℕ = a ∷ b ∷ c ∷ d ∷ [] in
    let x : Statement = unlabelled number (said_body i) in
    let bytes : to_be_bytes w32 (word_of i) ≡ given = ap (to_be_bytes w32) is.1 ∙ four a b c d ha hb hc hd in
    listed_before number at given rest _ (instr_text i) lines x refl
    (subst (λ (xs : List ℕ). Gives nothing_named at x xs) bytes (gives_instr nothing_named number at i stands))
    (spoken number (instr_text i) (said_body i) (said_instr number i is.0)) l
listed_word number at a b c d rest _ lines ha hb hc hd stands (no_instruction none) l =
    let w : ℕ = from_be_bytes w32 (a ∷ b ∷ c ∷ d ∷ []) in
    let x : Statement = unlabelled number (body.Word (Number w ∷ [])) in
    listed_before number at (a ∷ b ∷ c ∷ d ∷ []) rest _ (word_text w) lines x refl
    (subst (λ (xs : List ℕ). Gives nothing_named at x xs) (four a b c d ha hb hc hd)
    (gives_word nothing_named number at w stands))
    (spoken number (word_text w) (body.Word (Number w ∷ [])) (said_word number w (word_below a b c d ha hb hc hd))) l

listed : (number at : ℕ) (bytes : List ℕ) (lines : List (List ℕ)) → AreBytes bytes → AreLinesFrom at bytes lines
    → ListedBytes number at bytes lines
listed number at _ _ small no_line = record { statements = []; stated = tt; datas = no_data }
listed number at _ _ small (word {a = a} {b = b} {c = c} {d = d} {bytes = rest} {line = line} {lines = lines} begins
    is more) =
    listed_word number at a b c d rest line lines small.0 small.1.0 small.1.1.0 small.1.1.1.0 begins.0 is
    (listed (number + 1) (at + 4) rest lines small.1.1.1.1 more)
listed number at _ _ small (byte {b = b} {bytes = rest} {lines = lines} none more) =
    listed_before number at (b ∷ []) rest _ (lone_byte_line b) lines (unlabelled number (body.Byte (b ∷ []))) refl
    (gives_byte nothing_named number at b)
    (spoken number (lone_byte_line b) (body.Byte (b ∷ [])) (said_byte number b small.0))
    (listed (number + 1) (at + 1) rest lines small.1 more)

-- the lines of parts, each read as a statement
pub record ListedParts (number : ℕ) (runs : List Placed) (lines : List (List ℕ)) : Type 0 where
  pub statements : List Statement
  pub stated : Stated number lines statements
  pub datas : PartsData nothing_named runs statements

pub listed_parts : (number : ℕ) (runs : List Placed) (lines : List (List ℕ)) → ArePieces runs → ArePartLines runs lines
    → ListedParts number runs lines
listed_parts number _ _ pieces no_part = record { statements = []; stated = tt; datas = no_parts }
listed_parts number _ _ pieces (part {run = run} {runs = runs} {lines = lines} {more = more} own others) =
    let l : ListedBytes (number + 1) run.at run.bytes lines = listed (number + 1) run.at run.bytes lines pieces.0 own in
    let later : ℕ = number + 1 + length lines in
    let k : ListedParts later runs more = listed_parts later runs more pieces.3 others in
    record {
      statements = unlabelled number (body.At run.at) ∷ (l.statements ++ k.statements);
      stated = (
        spoken number (place_line run.at) (body.At run.at)
            (said_place number run.at (omega (arith, pieces.1, pieces.2))),
        stated_behind (number + 1) later lines more l.statements k.statements refl l.stated k.stated,
      );
      datas = more_parts number l.statements k.statements refl l.datas k.datas;
    }

-- the parts of an image
pub pieces_of : (from : ℕ) (ps : List Placed) → AreApart from ps → FindsBytes (byte_among ps) → ArePieces ps
pieces_of from [] apart finds = tt
pieces_of from (p ∷ ps) apart finds = (
  part_bytes p ps finds,
  apart.1,
  part_ends p ps apart.1 finds,
  pieces_of (p.at + length p.bytes + 1) ps apart.2 (behind_finds from p ps apart finds),
)
