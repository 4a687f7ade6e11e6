-- The bytes of a record against its count, address, data and sum.
use Rattle.std.proofs.Common.{◌≡◌, ℕ, zero, suc, ◌+◌, ◌-◌, ◌/◌, ◌<◌, ◌≤◌, get_or, List, [], ◌∷◌, ◌++◌, length, take, drop, sym, refl, ap, ◌∙◌, append_assoc, length-append, add-one, arith}
use Rattle.std.specs.Prelude.{slice_index, sum}
use Rattle.std.proofs.lemmas.List.Sums.{sum_by_push}
use Rattle.std.proofs.lemmas.List.{take-append-drop, take-take, take_all, take_more, length-take-le, get_or_default}
use Rattle.std.proofs.Math.Seq.{take-append_seam, drop-append_seam}
use lib.Seq.{get_or-append_seam}
use Rattle.m88_srec.specs.Records.{bytes_in, check_of, counted, framed}

-- two digits write a byte
pub pairs_halved : (digits : List ℕ) → length (bytes_in digits) ≡ length digits / 2
pairs_halved [] = refl
pairs_halved (high ∷ []) = refl
pairs_halved (high ∷ low ∷ digits) = let rest = pairs_halved digits in omega arith

-- a front and what is left of a longer front
front_and_rest : (w m : ℕ) (xs : List ℕ) → w ≤ m → take w xs ++ drop w (take m xs) ≡ take m xs
front_and_rest w m xs h =
    ap (λ ys. ys ++ drop w (take m xs)) (sym (take-take w m xs h)) ∙ take-append-drop w (take m xs)

-- with the right count and room for the address, the bytes before the sum are the counted body
counted_by : (w m n : ℕ) (bs : List ℕ) → n ≡ suc m → w ≤ m → m ≤ length bs
    → counted (take w bs ++ drop w (take m bs)) ≡ n ∷ take m bs
counted_by w m n bs e h k =
    let whole = front_and_rest w m bs h in
    let size : length (take m bs) + 1 ≡ n = omega (arith, length-take-le m bs k) in
    ap counted whole ∙ ap (λ (c : ℕ). let xs : List ℕ = c ∷ take m bs in xs) size

pub counted_is : (w n : ℕ) (bytes : List ℕ) → n + 1 ≡ length bytes → slice_index bytes 0 ≡ n → w + 1 ≤ n
    → counted (take w (drop 1 bytes) ++ drop (w + 1) (take n bytes)) ≡ take n bytes
counted_is w n [] l e h = absurd (omega arith)
counted_is w zero (b ∷ bs) l e h = absurd (omega arith)
counted_is w (suc m) (b ∷ bs) l e h =
    let tail : drop (w + 1) (b ∷ take m bs) ≡ drop w (take m bs) = rw add-one refl in
    ap (λ ys. counted (take w bs ++ ys)) tail ∙ counted_by w m b bs e (omega arith) (omega arith)

-- and with the right sum behind them they are all bytes of the body's frame
pub framed_is : (w n : ℕ) (bytes : List ℕ) → n + 1 ≡ length bytes → slice_index bytes 0 ≡ n → w + 1 ≤ n
    → slice_index bytes n ≡ check_of (take n bytes)
    → bytes ≡ framed (take w (drop 1 bytes) ++ drop (w + 1) (take n bytes))
framed_is w n bytes l e h s =
    let same = counted_is w n bytes l e h in
    let whole : take (n + 1) bytes ≡ bytes = take_all (n + 1) bytes (omega arith) in
    let last : take (n + 1) bytes ≡ take n bytes ++ slice_index bytes n ∷ [] = take_more bytes n 0 (omega arith) in
    let sum : (take n bytes ++ slice_index bytes n ∷ []) ≡ (take n bytes ++ check_of (take n bytes) ∷ []) =
    ap (λ (c : ℕ). take n bytes ++ c ∷ []) s in
    sym whole ∙ last ∙ sum ∙ ap (λ (xs : List ℕ). xs ++ check_of xs ∷ []) (sym same)

-- the frame of an address and data, looked into
pub count_in_frame : (body : List ℕ) → slice_index (framed body) 0 ≡ length body + 1
count_in_frame body = refl

pub length-framed : (body : List ℕ) → length (framed body) ≡ length body + 2
length-framed body = omega (arith, length-append (counted body) (check_of (counted body) ∷ []))

pub take-framed : (body : List ℕ) → take (length body + 1) (framed body) ≡ counted body
take-framed body =
    let e : length body + 1 ≡ length (counted body) = omega arith in
    ap (λ (n : ℕ). take n (framed body)) e ∙ take-append_seam (counted body) (check_of (counted body) ∷ [])

pub last-framed : (body : List ℕ) → slice_index (framed body) (length body + 1) ≡ check_of (counted body)
last-framed body =
    let e : length body + 1 ≡ length (counted body) = omega arith in
    ap (λ (n : ℕ). slice_index (framed body) n) e ∙ get_or-append_seam (counted body) (check_of (counted body)) [] 0

pub address-framed : (address given : List ℕ) → take (length address) (drop 1 (framed (address ++ given))) ≡ address
address-framed address given =
    rw append_assoc (take-append_seam address (given ++ check_of (counted (address ++ given)) ∷ []))

pub data-framed : (address given : List ℕ) → drop (length address + 1) (counted (address ++ given)) ≡ given
data-framed address given =
    let e : length address + 1 ≡ suc (length address) = omega arith in
    ap (λ (n : ℕ). drop n (counted (address ++ given))) e ∙ drop-append_seam address given

-- one byte more adds to the sum
pub sum_more : (bytes : List ℕ) (b : ℕ) → sum (bytes ++ b ∷ []) ≡ sum bytes + b
sum_more bytes b = sum_by_push (λ (n : ℕ). n) bytes b

-- the last byte is in the sum
sum_before : (bytes : List ℕ) (n : ℕ) → n + 1 ≡ length bytes → sum (take n bytes) + slice_index bytes n ≡ sum bytes
sum_before bytes n e =
    let last : take (n + 1) bytes ≡ take n bytes ++ slice_index bytes n ∷ [] = take_more bytes n 0 (omega (arith, e)) in
    sym (sum_more (take n bytes) (slice_index bytes n)) ∙ ap sum (sym last) ∙ ap sum (take_all (n + 1) bytes (omega (arith, e)))

last_of : (bytes : List ℕ) (total last : ℕ) → 0 < length bytes → total ≡ sum bytes → last ≡ get_or bytes (length bytes - 1) last
    → sum (take (length bytes - 1) bytes) + last ≡ total
last_of bytes total last some is e =
    let same : slice_index bytes (length bytes - 1) ≡ last = get_or_default bytes (length bytes - 1) 0 last (omega (arith, some)) ∙ sym e in
    omega (arith, sum_before bytes (length bytes - 1) (omega (arith, some)), same, is)

-- it is no greater
pub last_within : (bytes : List ℕ) (total last : ℕ) → 0 < length bytes → total ≡ sum bytes → last ≡ get_or bytes (length bytes - 1) last → last ≤ total
last_within bytes total last some is e = omega (arith, last_of bytes total last some is e)

-- and without it the sum is that of the bytes before
pub without_last : (bytes : List ℕ) (total last : ℕ) → 0 < length bytes → total ≡ sum bytes → last ≡ get_or bytes (length bytes - 1) last
    → total - last ≡ sum (take (length bytes - 1) bytes)
without_last bytes total last some is e = omega (arith, last_of bytes total last some is e)
