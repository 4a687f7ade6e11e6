-- The draws of a workload, as they are made one by one.
use Rattle.std.proofs.Common.{◌≡◌, ℕ, zero, suc, ◌+◌, ◌*◌, ◌/◌, ◌%◌, ◌^◌, List, [], ◌∷◌, ◌++◌, add-one, refl, ap, sym, ◌∙◌, arith, append-nil}
use Rattle.std.specs.Prelude.{map}
use Rattle.std.specs.List.{range_with_len}
use Rattle.std.proofs.Math.Path.{fun_ext}
use Rattle.std.proofs.lemmas.List.{map-append}
use Rattle.std.proofs.lemmas.List.Concat.{flat_map-append}
use Rattle.std.proofs.lemmas.List.FromFn.{map-range_with_len_more}
use Rattle.m88_base.specs.Lines.{line_end, text_of_lines}
use Rattle.m88_isa.specs.declared.instr.Instr.{Instr}
use Rattle.m88_disasm.specs.Text.{instr_text}
use Rattle.m88_event.specs.Letters.{letter_byte}
use Rattle.m88_event.specs.declared.letter.Letter.{Letter}
use Rattle.m88_commands.specs.Inside.Drawing.{after_four, statement_from, upper_half}
use Rattle.m88_commands.specs.Answer.Workload.{draw, drawn_instruction, drawn_letter, drawn_letters, drawn_register, drawn_statement, next_seed, seed_after, workload_source}

-- the number before the first draw, and after one more
pub seed_first : (number : ℕ) → seed_after number 0 ≡ number
unfolding seed_after
seed_first number = refl

seed_suc : (number n : ℕ) → seed_after number (suc n) ≡ next_seed (seed_after number n)
unfolding seed_after
seed_suc number n = refl

pub seed_next : (number n : ℕ) → seed_after number (n + 1) ≡ next_seed (seed_after number n)
seed_next number n = ap (seed_after number) (add-one n) ∙ seed_suc number n

-- the same where the count of draws is known by another sum
pub seed_more : (number m n x : ℕ) → m ≡ n + 1 → seed_after number n ≡ x → seed_after number m ≡ next_seed x
seed_more number m n x e f = ap (seed_after number) e ∙ seed_next number n ∙ ap next_seed f

-- four draws
pub four_draws : (number n : ℕ) → seed_after number (4 * (n + 1)) ≡ after_four (seed_after number (4 * n))
four_draws number n =
    seed_more number (4 * (n + 1)) (4 * n + 3) _ (omega arith)
    (seed_more number (4 * n + 3) (4 * n + 2) _ (omega arith)
    (seed_more number (4 * n + 2) (4 * n + 1) _ (omega arith)
    (seed_more number (4 * n + 1) (4 * n) _ refl refl)))

-- the same instruction of the same draws
same_instruction : (a b c d k l m n : ℕ) → a ≡ k → b ≡ l → c ≡ m → d ≡ n
    → drawn_instruction (upper_half a % 8) (drawn_register (upper_half b)) (drawn_register (upper_half c)) (upper_half d)
    ≡ drawn_instruction (upper_half k % 8) (drawn_register (upper_half l)) (drawn_register (upper_half m)) (upper_half n)
same_instruction a b c d k l m n e f g h = cc

-- make a statement
pub statement_is : (number n : ℕ) → statement_from (seed_after number (4 * n)) ≡ drawn_statement number n
statement_is number n =
    let x : ℕ = seed_after number (4 * n) in
    let one : next_seed x ≡ seed_after number (4 * n + 1) = sym (seed_more number (4 * n + 1) (4 * n) x refl refl) in
    let two : next_seed (next_seed x) ≡ seed_after number (4 * n + 1 + 1) =
    sym (seed_more number (4 * n + 1 + 1) (4 * n + 1) (next_seed x) refl (sym one)) in
    let three : next_seed (next_seed (next_seed x)) ≡ seed_after number (4 * n + 2 + 1) =
    sym (seed_more number (4 * n + 2 + 1) (4 * n + 1 + 1) (next_seed (next_seed x)) (omega arith) (sym two)) in
    let four : after_four x ≡ seed_after number (4 * n + 3 + 1) =
    sym (seed_more number (4 * n + 3 + 1) (4 * n + 2 + 1) (next_seed (next_seed (next_seed x))) (omega arith) (sym three)) in
    same_instruction _ _ _ _ (seed_after number (4 * n + 1)) (seed_after number (4 * n + 1 + 1))
    (seed_after number (4 * n + 2 + 1)) (seed_after number (4 * n + 3 + 1)) one two three four

-- one statement more
pub source_more : (number n : ℕ)
    → workload_source number (n + 1) ≡ workload_source number n ++ (instr_text (drawn_statement number n) ++ line_end)
unfolding workload_source
source_more number n =
    let lines : List (List ℕ) = map (λ k. instr_text (drawn_statement number k)) (range_with_len 0 n) in
    ap text_of_lines (map-range_with_len_more (λ k. instr_text (drawn_statement number k)) 0 n n (omega arith))
    ∙ flat_map-append (λ (line : List ℕ). line ++ line_end) lines (instr_text (drawn_statement number n) ∷ [])
    ∙ ap (λ (t : List ℕ). text_of_lines lines ++ t) (append-nil (instr_text (drawn_statement number n) ++ line_end))

pub no_source : (number : ℕ) → workload_source number 0 ≡ []
unfolding workload_source
no_source number = refl

-- one letter more
pub letters_more : (number n : ℕ) → map letter_byte (drawn_letters number 0 (n + 1))
    ≡ map letter_byte (drawn_letters number 0 n) ++ letter_byte (drawn_letter (draw number n)) ∷ []
unfolding drawn_letters
letters_more number n =
    let letters : List Letter = map (λ k. drawn_letter (draw number (0 + k))) (range_with_len 0 n) in
    let here : 0 + n ≡ n = omega arith in
    ap (map letter_byte) (map-range_with_len_more (λ k. drawn_letter (draw number (0 + k))) 0 n n here)
    ∙ map-append letter_byte letters (drawn_letter (draw number (0 + n)) ∷ [])
    ∙ ap (λ (k : ℕ). map letter_byte letters ++ letter_byte (drawn_letter (draw number k)) ∷ []) here

pub no_letters : (number : ℕ) → map letter_byte (drawn_letters number 0 0) ≡ []
unfolding drawn_letters
no_letters number = refl

-- a statement and a letter that the code appends are the next ones
pub appends_statement : (number n seed : ℕ) (i : Instr) (old new : List ℕ) → seed ≡ seed_after number (4 * n)
    → i ≡ statement_from seed → old ≡ workload_source number n → new ≡ old ++ (instr_text i ++ line_end)
    → new ≡ workload_source number (n + 1)
appends_statement number n seed i old new at is before after =
    after ∙ ap (λ (t : List ℕ). t ++ (instr_text i ++ line_end)) before
    ∙ ap (λ (j : Instr). workload_source number n ++ (instr_text j ++ line_end))
    (is ∙ ap statement_from at ∙ statement_is number n)
    ∙ sym (source_more number n)

pub appends_letter : (number n seed d : ℕ) (old new : List ℕ) → seed ≡ seed_after number n → d ≡ upper_half (next_seed seed)
    → old ≡ map letter_byte (drawn_letters number 0 n) → new ≡ old ++ letter_byte (drawn_letter d) ∷ []
    → new ≡ map letter_byte (drawn_letters number 0 (n + 1))
appends_letter number n seed d old new at is before after =
    after ∙ ap (λ (t : List ℕ). t ++ letter_byte (drawn_letter d) ∷ []) before
    ∙ ap (λ (x : ℕ). map letter_byte (drawn_letters number 0 n) ++ letter_byte (drawn_letter x) ∷ [])
    (is ∙ ap (λ (x : ℕ). upper_half (next_seed x)) at ∙ ap upper_half (sym (seed_next number n)))
    ∙ sym (letters_more number n)

-- draws behind others
seed_behind : (number a b : ℕ) → seed_after (seed_after number a) b ≡ seed_after number (a + b)
seed_behind number a zero = seed_first (seed_after number a) ∙ ap (seed_after number) (omega arith)
seed_behind number a (suc b) =
    seed_suc (seed_after number a) b ∙ ap next_seed (seed_behind number a b) ∙ sym (seed_next number (a + b))
    ∙ ap (seed_after number) (omega arith)

pub letters_behind : (number first n : ℕ) → drawn_letters (seed_after number first) 0 n ≡ drawn_letters number first n
unfolding drawn_letters
letters_behind number first n =
    ap (λ (f : ℕ → Letter). map f (range_with_len 0 n))
    (fun_ext (λ k. ap (λ (x : ℕ). drawn_letter (x / 2 ^ 16))
    (seed_behind number first (0 + k + 1) ∙ ap (seed_after number) (omega arith))))
