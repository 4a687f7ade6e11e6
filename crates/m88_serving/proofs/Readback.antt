-- The lines that m88 writes of a data fault and of words tell these.
use Rattle.std.specs.Prelude.{ℕ, Bool, true, false, not, List, [], ◌∷◌, ◌++◌, ◌≡◌, ◌<◌, ◌+◌, ◌/◌, ◌%◌, ◌^◌, ◌==◌, ◌&&◌, Option, Some, None, Ok, All, bytes_eq, codes, drop, flat_map, length, map, option_and_then, option_map, take, if◌then◌else◌}
use Rattle.std.specs.Fmt.{digits}
use Rattle.std.specs.List.{list_all}
use Rattle.std.proofs.Common.{refl, ap, ◌∙◌, arith}
use Rattle.std.proofs.lemmas.Bool.Decides.{nat_tests}
use Rattle.std.proofs.lemmas.List.Folds.{list_all-append}
use Rattle.std.proofs.lemmas.List.Elements.{All-head, All-tail}
use Rattle.m88_base.proofs.Laws.{hex8_of-hex8, no_lines}
use Rattle.m88_base.specs.Hex.{hex8, hex_digit}
use Rattle.m88_base.specs.Lines.{lines_of, on_first_line}
use Rattle.m88_base.specs.declared.triple.Triple.{Triple}
use Rattle.m88_event.specs.declared.record.Record.{Record}
use Rattle.m88_report.specs.Report.{status_line, triple_line, word_line}
use Rattle.m88_serving.specs.Cases.{case_in, first_told, record_with, words_told}
use Rattle.m88_serving.specs.Lines.{alone, behind_front, last_word, status_in, triple_in, word_after, word_first, named_word_in}
use Rattle.m88_serving.specs.Laws.{IsRecordOfWords, IsShownWord, IsTripleOfWords}
use Rattle.m88_serving.specs.declared.lines.StatusLine.{StatusLine}

-- what stands behind a front
front_same : (front : List ℕ) → bytes_eq front front ≡ true
front_same [] = refl
front_same (b ∷ bs) = let same : (b == b) ≡ true = grind (arith, nat_tests) in rw same (front_same bs)

taken : (front rest : List ℕ) → take (length front) (front ++ rest) ≡ front
taken [] rest = refl
taken (b ∷ bs) rest = ap (λ t. b ∷ t) (taken bs rest)

dropped : (front rest : List ℕ) → drop (length front) (front ++ rest) ≡ rest
dropped [] rest = refl
dropped (b ∷ bs) rest = dropped bs rest

front_read : (front rest : List ℕ) → behind_front front (front ++ rest) ≡ Some rest
unfolding behind_front
front_read front rest =
    (λ i. if bytes_eq (taken front rest i) front then Some (dropped front rest i) else None)
    ∙ ap (λ same. if same then Some rest else None) (front_same front)

-- a word behind a front
word_read : (front rest : List ℕ) (n : ℕ) → n < 2 ^ 32 → word_after front (front ++ (hex8 n ++ rest)) ≡ Some (n, rest)
unfolding word_after
word_read front rest n small =
    ap (option_and_then word_first) (front_read front (hex8 n ++ rest)) ∙ ap (option_map (λ (m : ℕ). (m, rest))) (hex8_of-hex8 n small)

last_read : (front : List ℕ) (n : ℕ) → n < 2 ^ 32 → last_word front (front ++ hex8 n) ≡ Some n
unfolding last_word
last_read front n small = ap (option_and_then alone) (word_read front [] n small)

-- one part more
and_then : {A B : Type 0} (f : A → Option B) (o : Option A) (x : A) (y : Option B) → o ≡ Some x → f x ≡ y → option_and_then f o ≡ y
and_then f o x y is next = ap (option_and_then f) is ∙ next

-- the texts of the lines without their ends
abbrev pub status_text : Record → List ℕ
status_text r =
    codes "epsr " ++ (hex8 r.epsr ++ (codes " sxip " ++ (hex8 r.sxip ++ (codes " snip " ++ (hex8 r.snip
    ++ (codes " sfip " ++ (hex8 r.sfip ++ (codes " ssbr " ++ hex8 r.ssbr))))))))

abbrev pub triple_text : List ℕ → Triple → List ℕ
triple_text name t = name ++ (hex8 t.dmt ++ (codes " " ++ (hex8 t.dmd ++ (codes " " ++ hex8 t.dma))))

abbrev pub word_text : ℕ × ℕ → List ℕ
word_text word = codes "mem " ++ (hex8 word.0 ++ (codes " " ++ hex8 word.1))

abbrev pub status_of_record : Record → StatusLine
status_of_record r = record { epsr = r.epsr; sxip = r.sxip; snip = r.snip; sfip = r.sfip; ssbr = r.ssbr }

pub status_read : (r : Record) → IsRecordOfWords r → status_in (status_text r) ≡ Some (status_of_record r)
unfolding status_in
status_read r small =
    let ssbr : List ℕ = codes " ssbr " ++ hex8 r.ssbr in
    let sfip : List ℕ = codes " sfip " ++ (hex8 r.sfip ++ ssbr) in
    let snip : List ℕ = codes " snip " ++ (hex8 r.snip ++ sfip) in
    let sxip : List ℕ = codes " sxip " ++ (hex8 r.sxip ++ snip) in
    and_then _ _ (r.epsr, sxip) _ (word_read (codes "epsr ") sxip r.epsr small.epsr)
    (and_then _ _ (r.sxip, snip) _ (word_read (codes " sxip ") snip r.sxip small.sxip)
    (and_then _ _ (r.snip, sfip) _ (word_read (codes " snip ") sfip r.snip small.snip)
    (and_then _ _ (r.sfip, ssbr) _ (word_read (codes " sfip ") ssbr r.sfip small.sfip)
    (ap (option_map (λ (w : ℕ). record { epsr = r.epsr; sxip = r.sxip; snip = r.snip; sfip = r.sfip; ssbr = w }))
    (last_read (codes " ssbr ") r.ssbr small.ssbr)))))

pub triple_read : (name : List ℕ) (t : Triple) → IsTripleOfWords t → triple_in name (triple_text name t) ≡ Some t
unfolding triple_in
triple_read name t small =
    let dma : List ℕ = codes " " ++ hex8 t.dma in
    let dmd : List ℕ = codes " " ++ (hex8 t.dmd ++ dma) in
    and_then _ _ (t.dmt, dmd) _ (word_read name dmd t.dmt small.dmt)
    (and_then _ _ (t.dmd, dma) _ (word_read (codes " ") dma t.dmd small.dmd)
    (ap (option_map (λ (w : ℕ). record { dmt = t.dmt; dmd = t.dmd; dma = w })) (last_read (codes " ") t.dma small.dma)))

word_line_read : (word : ℕ × ℕ) → IsShownWord word → named_word_in (word_text word) ≡ Some word
unfolding named_word_in
word_line_read word shown =
    let value : List ℕ = codes " " ++ hex8 word.1 in
    let aligned : (word.0 % 4 == 0) ≡ true = ap (λ n. n == 0) shown.aligned in
    and_then _ _ (word.0, value) _ (word_read (codes "mem ") value word.0 shown.address)
    (and_then _ _ word.1 _ (last_read (codes " ") word.1 shown.value) (rw aligned refl))

pub words_read : (number : ℕ) (words : List (ℕ × ℕ)) → All IsShownWord words → words_told number (map word_text words) ≡ Ok words
unfolding words_told
words_read number [] shown = refl
words_read number (word ∷ words) shown =
    rw (word_line_read word (All-head IsShownWord word words shown), words_read (number + 1) words (All-tail IsShownWord word words shown)) refl

-- a line ends at its end
abbrev plain : ℕ → Bool
plain b = not (b == 10) && not (b == 13)

not_set : (a b : Bool) → (not a && not b) ≡ true → (a ≡ false) × (b ≡ false)
not_set true b e = absurd cc
not_set false true e = absurd cc
not_set false false e = (refl, refl)

both : (a b : Bool) → (a && b) ≡ true → (a ≡ true) × (b ≡ true)
both true true e = (refl, refl)
both true false e = absurd cc
both false b e = absurd cc

line_first : (line rest : List ℕ) → list_all plain line ≡ true → lines_of (line ++ 10 ∷ rest) ≡ line ∷ lines_of rest
unfolding lines_of
line_first [] rest plains = refl
line_first (b ∷ bs) rest plains =
    let parts = both (plain b) (list_all plain bs) plains in
    let other = not_set (b == 10) (b == 13) parts.0 in
    rw (other.0, other.1) (ap (on_first_line b) (line_first bs rest parts.1))

plain_append : (a b : List ℕ) → list_all plain a ≡ true → list_all plain b ≡ true → list_all plain (a ++ b) ≡ true
plain_append a b first second = list_all-append plain a b ∙ (λ i. first i && second i)

plain_digit : (d : ℕ) → d < 16 → plain (hex_digit d) ≡ true
plain_digit d h = grind (arith, nat_tests)

plain_hex : (n : ℕ) → list_all plain (hex8 n) ≡ true
plain_hex n = rw (
  plain_digit (n / 268435456 % 16) (omega arith),
  plain_digit (n / 16777216 % 16) (omega arith),
  plain_digit (n / 1048576 % 16) (omega arith),
  plain_digit (n / 65536 % 16) (omega arith),
  plain_digit (n / 4096 % 16) (omega arith),
  plain_digit (n / 256 % 16) (omega arith),
  plain_digit (n / 16 % 16) (omega arith),
  plain_digit (n / 1 % 16) (omega arith),
) refl

-- a word behind a front, and what stands behind it
plain_more : (front rest : List ℕ) (n : ℕ) → list_all plain front ≡ true → list_all plain rest ≡ true → list_all plain (front ++ (hex8 n ++ rest)) ≡ true
plain_more front rest n fronts rests = plain_append front (hex8 n ++ rest) fronts (plain_append (hex8 n) rest (plain_hex n) rests)

plain_last : (front : List ℕ) (n : ℕ) → list_all plain front ≡ true → list_all plain (front ++ hex8 n) ≡ true
plain_last front n fronts = plain_append front (hex8 n) fronts (plain_hex n)

plain_status : (r : Record) → list_all plain (status_text r) ≡ true
plain_status r =
    let ssbr : List ℕ = codes " ssbr " ++ hex8 r.ssbr in
    let sfip : List ℕ = codes " sfip " ++ (hex8 r.sfip ++ ssbr) in
    let snip : List ℕ = codes " snip " ++ (hex8 r.snip ++ sfip) in
    let sxip : List ℕ = codes " sxip " ++ (hex8 r.sxip ++ snip) in
    plain_more (codes "epsr ") sxip r.epsr refl (plain_more (codes " sxip ") snip r.sxip refl (plain_more (codes " snip ") sfip r.snip refl
    (plain_more (codes " sfip ") ssbr r.sfip refl (plain_last (codes " ssbr ") r.ssbr refl))))

plain_triple : (name : List ℕ) (t : Triple) → list_all plain name ≡ true → list_all plain (triple_text name t) ≡ true
plain_triple name t named =
    let dma : List ℕ = codes " " ++ hex8 t.dma in
    let dmd : List ℕ = codes " " ++ (hex8 t.dmd ++ dma) in
    plain_more name dmd t.dmt named (plain_more (codes " ") dma t.dmd refl (plain_last (codes " ") t.dma refl))

plain_word : (word : ℕ × ℕ) → list_all plain (word_text word) ≡ true
plain_word word = plain_more (codes "mem ") (codes " " ++ hex8 word.1) word.0 refl (plain_last (codes " ") word.1 refl)

-- the lines of words
word_lines : (words : List (ℕ × ℕ)) → lines_of (flat_map word_line words) ≡ map word_text words
word_lines [] = no_lines
word_lines (word ∷ words) =
    line_first (word_text word) (flat_map word_line words) (plain_word word) ∙ ap (λ ls. word_text word ∷ ls) (word_lines words)

-- those of a record and of words
pub fault_lines : (r : Record) (t0 t1 t2 : Triple) (words : List (ℕ × ℕ)) → r.triples ≡ t0 ∷ t1 ∷ t2 ∷ []
    → lines_of ((status_line r ++ flat_map triple_line ((0, t0) ∷ (1, t1) ∷ (2, t2) ∷ [])) ++ flat_map word_line words)
    ≡ status_text r ∷ triple_text (codes "t0 ") t0 ∷ triple_text (codes "t1 ") t1 ∷ triple_text (codes "t2 ") t2 ∷ map word_text words
unfolding status_line triple_line digits
fault_lines r t0 t1 t2 words are =
    let w : List ℕ = flat_map word_line words in
    let l2 : List ℕ = triple_text (codes "t2 ") t2 ++ 10 ∷ w in
    let l1 : List ℕ = triple_text (codes "t1 ") t1 ++ 10 ∷ l2 in
    let l0 : List ℕ = triple_text (codes "t0 ") t0 ++ 10 ∷ l1 in
    line_first (status_text r) l0 (plain_status r)
    ∙ ap (λ ls. status_text r ∷ ls) (line_first (triple_text (codes "t0 ") t0) l1 (plain_triple (codes "t0 ") t0 refl)
    ∙ ap (λ ls. triple_text (codes "t0 ") t0 ∷ ls) (line_first (triple_text (codes "t1 ") t1) l2 (plain_triple (codes "t1 ") t1 refl)
    ∙ ap (λ ls. triple_text (codes "t1 ") t1 ∷ ls) (line_first (triple_text (codes "t2 ") t2) w (plain_triple (codes "t2 ") t2 refl)
    ∙ ap (λ ls. triple_text (codes "t2 ") t2 ∷ ls) (word_lines words))))

-- what such lines tell
pub case_read : (l0 l1 l2 l3 : List ℕ) (ls : List (List ℕ)) (status : StatusLine) (t0 t1 t2 : Triple) (words : List (ℕ × ℕ))
    → status_in l0 ≡ Some status → triple_in (codes "t0 ") l1 ≡ Some t0 → triple_in (codes "t1 ") l2 ≡ Some t1 → triple_in (codes "t2 ") l3 ≡ Some t2
    → words_told 5 ls ≡ Ok words
    → case_in (l0 ∷ l1 ∷ l2 ∷ l3 ∷ ls) ≡ Ok (record { fault = record_with status t0 t1 t2; words = words })
unfolding case_in first_told
case_read l0 l1 l2 l3 ls status t0 t1 t2 words e0 e1 e2 e3 e4 = rw (e0, e1, e2, e3, e4) refl
