-- The words of a page, and its bytes.
use Rattle.std.specs.Prelude.{ℕ, zero, suc, true, false, List, [], ◌∷◌, ◌++◌, ◌≡◌, ◌≢◌, ◌<◌, ◌≤◌, ◌+◌, ◌-◌, ◌*◌, ◌/◌, ◌%◌, ◌^◌, ◌==◌, ◌⊎◌, drop, length, map, slice_index_or, take, if◌then◌else◌}
use Rattle.std.proofs.Common.{append-nil, arith, inl, inr, length-append, length-drop, length-take, refl, sym, ap, ap₂, ◌∙◌}
use Rattle.std.proofs.Math.Path.{fun_ext}
use Rattle.std.proofs.lemmas.Bool.{cases_lt}
use Rattle.std.proofs.lemmas.Bool.Decides.{nat_tests}
use Rattle.std.proofs.lemmas.List.{drop-drop, drop_all, get_or-append_right, get_or-drop, get_or-take, get_or_append_left, take_all}
use Rattle.std.proofs.lemmas.List.FromFn.{fill_by_all, get_or-map-range_with_len, length-map-range_with_len}
use Rattle.std.specs.Int.{from_be_bytes, to_be_bytes, w32}
use Rattle.m88_base.specs.Pages.{page_bytes, page_number}
use Rattle.m88_isa.specs.Address.{word_address}
use Rattle.m88_isa.specs.Bus.{bus_after, bus_after_all, in_words, stored, with_word}
use Rattle.m88_isa.specs.Lanes.{AreBytes, byte_of, is_touched, merged, number_at, stored_byte, touched_below}
use Rattle.m88_isa.specs.Triples.{access_in}
use Rattle.m88_base.specs.declared.triple.Triple.{Triple}
use Rattle.m88_isa.specs.declared.planned.Access.{Access}
use Rattle.m88_pager.specs.Inside.Bytes.{AreWords, in_bytes}
use Rattle.m88_pager.specs.Pages.{page_of}

-- a byte of a page
pub byte_in : (memory : ℕ → ℕ) (page place : ℕ) → place < page_bytes → slice_index_or (page_of memory page) place 0 ≡ memory (page * page_bytes + place)
unfolding page_of
byte_in memory page place h =
    get_or-map-range_with_len (λ (k : ℕ). memory (page * page_bytes + k)) 0 page_bytes place place 0 h (omega arith)

pub page_length : (memory : ℕ → ℕ) (page : ℕ) → length (page_of memory page) ≡ page_bytes
unfolding page_of
page_length memory page = length-map-range_with_len (λ (k : ℕ). memory (page * page_bytes + k)) 0 page_bytes

-- bytes that are those of a page, each of them
pub page_by_each : (memory : ℕ → ℕ) (page : ℕ) (bytes : List ℕ) → length bytes ≡ page_bytes →
    ((place : ℕ) → place < page_bytes → slice_index_or bytes place 0 ≡ memory (page * page_bytes + place)) →
    bytes ≡ page_of memory page
unfolding page_of
page_by_each memory page bytes long each = fill_by_all (λ (k : ℕ). memory (page * page_bytes + k)) bytes page_bytes 0 long each

-- two pages whose bytes are the same
pub same_page : (m n : ℕ → ℕ) (page : ℕ) → ((place : ℕ) → place < page_bytes → m (page * page_bytes + place) ≡ n (page * page_bytes + place)) →
    page_of m page ≡ page_of n page
same_page m n page same = page_by_each n page (page_of m page) (page_length m page) (λ place h. byte_in m page place h ∙ same place h)

-- the bytes behind a word that is put
pub rest_stays : (xs : List ℕ) (p : ℕ) → p + 4 ≤ length xs →
    drop 4 (take (length xs - p) (drop p xs)) ++ drop (length xs - p) (drop p xs) ≡ drop (p + 4) xs
rest_stays xs p h =
    let long = length-drop p xs in
    ap₂ (λ (ys zs : List ℕ). drop 4 ys ++ zs) (take_all (length xs - p) (drop p xs) (omega (arith, long)))
    (drop_all (length xs - p) (drop p xs) (omega (arith, long)))
    ∙ append-nil (drop 4 (drop p xs))
    ∙ drop-drop 4 p xs

-- the bytes of a word among others
in_word : (n word : ℕ) (ys : List ℕ) → n < 4 → slice_index_or (to_be_bytes w32 word ++ ys) n 0 ≡ byte_of word n
in_word (suc (suc (suc zero))) word ys h = omega arith
in_word (suc (suc (suc (suc n)))) word ys h = absurd (omega (arith, h))
in_word _ word ys h = refl

-- the bytes after a word is put among them
before_put : (xs : List ℕ) (p word i : ℕ) → p + 4 ≤ length xs → i < p →
    slice_index_or (take p xs ++ (to_be_bytes w32 word ++ drop (p + 4) xs)) i 0 ≡ slice_index_or xs i 0
before_put xs p word i fits low =
    let long = length-take p xs in
    get_or_append_left (take p xs) (to_be_bytes w32 word ++ drop (p + 4) xs) 0 i (omega (arith, long, fits, low)) ∙ get_or-take p xs i 0 low

from_put : (xs : List ℕ) (p word i : ℕ) → p + 4 ≤ length xs → p ≤ i →
    slice_index_or (take p xs ++ (to_be_bytes w32 word ++ drop (p + 4) xs)) i 0
    ≡ slice_index_or (to_be_bytes w32 word ++ drop (p + 4) xs) (i - p) 0
from_put xs p word i fits high =
    let long = length-take p xs in
    get_or-append_right (take p xs) (to_be_bytes w32 word ++ drop (p + 4) xs) p i 0 (omega (arith, long, fits)) high

in_put : (xs : List ℕ) (p word i : ℕ) → p + 4 ≤ length xs → p ≤ i → i < p + 4 →
    slice_index_or (take p xs ++ (to_be_bytes w32 word ++ drop (p + 4) xs)) i 0 ≡ byte_of word (i - p)
in_put xs p word i fits low high = from_put xs p word i fits low ∙ in_word (i - p) word (drop (p + 4) xs) (omega (arith, low, high))

behind_put : (xs : List ℕ) (p word i : ℕ) → p + 4 ≤ length xs → p + 4 ≤ i →
    slice_index_or (take p xs ++ (to_be_bytes w32 word ++ drop (p + 4) xs)) i 0 ≡ slice_index_or xs i 0
behind_put xs p word i fits past =
    from_put xs p word i fits (omega (arith, past))
    ∙ get_or-append_right (to_be_bytes w32 word) (drop (p + 4) xs) 4 (i - p) 0 refl (omega (arith, past))
    ∙ get_or-drop (p + 4) xs (i - p - 4) 0
    ∙ ap (λ n. slice_index_or xs n 0) (omega (arith, past))

put_length : (xs : List ℕ) (p word : ℕ) → p + 4 ≤ length xs → length (take p xs ++ (to_be_bytes w32 word ++ drop (p + 4) xs)) ≡ length xs
put_length xs p word fits =
    omega (
      arith,
      fits,
      length-append (take p xs) (to_be_bytes w32 word ++ drop (p + 4) xs),
      length-append (to_be_bytes w32 word) (drop (p + 4) xs),
      length-take p xs,
      length-drop (p + 4) xs,
    )

-- an address of a word's byte, and one of none
touched_byte : (bus : ℕ → ℕ) (addr word a : ℕ) → addr % 4 ≡ 0 → addr ≤ a → a < addr + 4 →
    in_bytes (with_word bus addr word) a ≡ byte_of word (a - addr)
unfolding in_bytes with_word
touched_byte bus addr word a at low high =
    let here : (word_address (word_address a) == addr) ≡ true = grind (arith, nat_tests) in
    rw here (ap (byte_of word) (omega (arith, at, low, high)))

other_byte : (bus : ℕ → ℕ) (addr word a : ℕ) → addr % 4 ≡ 0 → (a < addr) ⊎ (addr + 4 ≤ a) →
    in_bytes (with_word bus addr word) a ≡ in_bytes bus a
unfolding in_bytes with_word
other_byte bus addr word a at (inl low) =
    let apart : (word_address (word_address a) == addr) ≡ false = grind (arith, nat_tests) in
    rw apart refl
other_byte bus addr word a at (inr high) =
    let apart : (word_address (word_address a) == addr) ≡ false = grind (arith, nat_tests) in
    rw apart refl

-- a page once one of its words changes
pub page_put : (bus : ℕ → ℕ) (addr word : ℕ) (bytes : List ℕ) → addr % 4 ≡ 0 → bytes ≡ page_of (in_bytes bus) (page_number addr) →
    take (addr % 4096) bytes ++ (to_be_bytes w32 word ++ drop (addr % 4096 + 4) bytes)
    ≡ page_of (in_bytes (with_word bus addr word)) (page_number addr)
page_put bus addr word bytes at is =
    let long : length bytes ≡ 4096 = ap length is ∙ page_length (in_bytes bus) (page_number addr) in
    let p : ℕ = addr % 4096 in
    let fits : p + 4 ≤ length bytes = omega (arith, long, at) in
    let was = λ (place : ℕ) (h : place < 4096). ap (λ (xs : List ℕ). slice_index_or xs place 0) is ∙ byte_in (in_bytes bus) (page_number addr) place h in
    page_by_each (in_bytes (with_word bus addr word)) (page_number addr) (take p bytes ++ (to_be_bytes w32 word ++ drop (p + 4) bytes))
    (put_length bytes p word fits ∙ long)
    (λ place h. elim (cases_lt place p) [
      | inl low ↦
          before_put bytes p word place fits low ∙ was place h
          ∙ sym (other_byte bus addr word (page_number addr * 4096 + place) at (inl (omega (arith, low))))
      | inr high ↦
          elim (cases_lt place (p + 4)) [
            | inl inside ↦
                in_put bytes p word place fits high inside
                ∙ ap (byte_of word) (omega (arith, high, inside))
                ∙ sym (touched_byte bus addr word (page_number addr * 4096 + place) at (omega (arith, high)) (omega (arith, inside)))
            | inr past ↦
                behind_put bytes p word place fits past ∙ was place h
                ∙ sym (other_byte bus addr word (page_number addr * 4096 + place) at (inr (omega (arith, past))))
          ]
    ])

-- the other pages stay
pub pages_stay : (bus : ℕ → ℕ) (addr word page : ℕ) → addr % 4 ≡ 0 → page_number addr ≢ page →
    page_of (in_bytes (with_word bus addr word)) page ≡ page_of (in_bytes bus) page
pages_stay bus addr word page at other = same_page (in_bytes (with_word bus addr word)) (in_bytes bus) page
    (λ place h. other_byte bus addr word (page * 4096 + place) at (elim (cases_lt (page * 4096 + place) addr) [
      | inl low ↦ inl low
      | inr high ↦ inr (omega (arith, high, h, at, other))
    ]))

-- the number of the bytes of a word
word_back : (w : ℕ) → w < 2 ^ 32 → byte_of w 0 * 256 ^ 3 + byte_of w 1 * 256 ^ 2 + byte_of w 2 * 256 ^ 1 + byte_of w 3 ≡ w
word_back w h = omega (arith, h)

-- a word of a page
pub word_read : (bus : ℕ → ℕ) (page p : ℕ) (bytes : List ℕ) → AreWords bus → p % 4 ≡ 0 → p < 4096 → bytes ≡ page_of (in_bytes bus) page →
    from_be_bytes w32 (take 4 (drop p bytes)) ≡ bus (page * 4096 + p)
unfolding in_bytes
word_read bus page p bytes words at h is =
    let byte : (i : ℕ) → i < 4 → slice_index_or (take 4 (drop p bytes)) i 0 ≡ byte_of (bus (page * 4096 + p)) i =
    λ i few.
    get_or-take 4 (drop p bytes) i 0 few
    ∙ get_or-drop p bytes i 0
    ∙ ap (λ (xs : List ℕ). slice_index_or xs (p + i) 0) is
    ∙ byte_in (in_bytes bus) page (p + i) (omega (arith, at, h, few))
    ∙ ap₂ (λ (a : ℕ) (k : ℕ). byte_of (bus a) k) (omega (arith, at, few)) (omega (arith, at, few)) in
    rw (byte 0 (omega arith), byte 1 (omega arith), byte 2 (omega arith), byte 3 (omega arith)) (word_back (bus (page * 4096 + p)) (words (page * 4096 + p)))

-- memory that is told by its words is told by its bytes
byte_number : (memory : ℕ → ℕ) (w n : ℕ) → AreBytes memory → n < 4 → byte_of (number_at memory w 4) n ≡ memory (w + n)
byte_number memory w (suc (suc (suc (suc n)))) bytes h = absurd (omega (arith, h))
byte_number memory w _ bytes h =
    let b0 = bytes (w + 0) in let b1 = bytes (w + 1) in let b2 = bytes (w + 2) in let b3 = bytes (w + 3) in omega (arith, b0, b1, b2, b3)

pub bytes_back : (memory : ℕ → ℕ) → AreBytes memory → in_bytes (in_words memory) ≡ memory
unfolding in_bytes in_words
bytes_back memory bytes = fun_ext (λ a.
    let same : word_address (word_address a) ≡ word_address a = omega arith in
    ap (λ w. byte_of (number_at memory w 4) (a % 4)) same
    ∙ byte_number memory (word_address a) (a % 4) bytes (omega arith)
    ∙ ap memory (omega arith))

pub words_there : (memory : ℕ → ℕ) → AreBytes memory → AreWords (in_words memory)
unfolding in_words
words_there memory bytes a =
    let w : ℕ = word_address a in
    let b0 = bytes (w + 0) in let b1 = bytes (w + 1) in let b2 = bytes (w + 2) in let b3 = bytes (w + 3) in
    omega (arith, b0, b1, b2, b3)

-- and they stay words
word_stored : (bus : ℕ → ℕ) (a : Access) (at : ℕ) → AreWords bus → stored a bus at < 2 ^ 32
unfolding stored with_word
word_stored bus a at words = elim (word_address at == a.addr) as (λ here. (if here then merged a.en a.value (bus a.addr) else bus at) < 2 ^ 32) [
  | true ↦ merged_word a.en a.value (bus a.addr)
  | false ↦ words at
]
  where
    merged_word : (en value word : ℕ) → merged en value word < 2 ^ 32
    merged_word en value word =
        let byte : (offset : ℕ) → stored_byte en value word offset < 2 ^ 8 = λ offset.
        elim (is_touched en offset) as (λ here. (if here then value / 2 ^ (8 * (touched_below en 4 - touched_below en (offset + 1))) % 2 ^ 8 else byte_of word offset) < 2 ^ 8) [
          | true ↦ omega arith
          | false ↦ omega arith
        ] in
        let b0 = byte 0 in let b1 = byte 1 in let b2 = byte 2 in let b3 = byte 3 in
        omega (arith, b0, b1, b2, b3)

word_after : (bus : ℕ → ℕ) (a : Access) → AreWords bus → AreWords (bus_after a bus)
word_after bus a words at = elim a.write as (λ write. (if write then stored a bus else bus) at < 2 ^ 32) [
  | true ↦ word_stored bus a at words
  | false ↦ words at
]

pub words_stay : (accesses : List Access) (bus : ℕ → ℕ) → AreWords bus → AreWords (bus_after_all accesses bus)
unfolding bus_after_all
words_stay [] bus words = words
words_stay (a ∷ accesses) bus words = words_stay accesses (bus_after a bus) (word_after bus a words)

-- a store to a word of a page
pub stored_page : (a : Access) (bus : ℕ → ℕ) (items : List ℕ) (read word : ℕ) → a.addr % 4 ≡ 0 → AreWords bus →
    items ≡ page_of (in_bytes bus) (page_number a.addr) →
    read ≡ from_be_bytes w32 (take 4 (drop (a.addr % 4096) items)) →
    word ≡ merged a.en a.value read →
    take (a.addr % 4096) items ++ (to_be_bytes w32 word ++ drop (a.addr % 4096 + 4) items)
    ≡ page_of (in_bytes (stored a bus)) (page_number a.addr)
unfolding stored
stored_page a bus items read word at words is reads merges =
    let there : page_number a.addr * 4096 + a.addr % 4096 ≡ a.addr = omega arith in
    let old : read ≡ bus a.addr =
    reads ∙ word_read bus (page_number a.addr) (a.addr % 4096) items words (omega (arith, at)) (omega arith) is ∙ ap bus there in
    ap (λ (w : ℕ). take (a.addr % 4096) items ++ (to_be_bytes w32 w ++ drop (a.addr % 4096 + 4) items))
    (merges ∙ ap (merged a.en a.value) old)
    ∙ page_put bus a.addr (merged a.en a.value (bus a.addr)) items at is

-- the accesses of words, one more
pub one_mapped : (words : List Triple) (k : ℕ) (d : Triple) (y : Access) → k < length words → y ≡ access_in (slice_index_or words k d) →
    map access_in (take k words) ++ (y ∷ []) ≡ map access_in (take (k + 1) words)
one_mapped words k d y h is =
    let next : suc k ≡ k + 1 = omega arith in
    by_place words k h is ∙ ap (λ (n : ℕ). map access_in (take n words)) next
  where
    by_place : (ws : List Triple) (n : ℕ) → n < length ws → y ≡ access_in (slice_index_or ws n d) →
        map access_in (take n ws) ++ (y ∷ []) ≡ map access_in (take (suc n) ws)
    by_place [] n l e = absurd (omega (arith, l))
    by_place (w ∷ ws) zero l e = ap (λ (x : Access). x ∷ []) e
    by_place (w ∷ ws) (suc n) l e = ap (λ (xs : List Access). access_in w ∷ xs) (by_place ws n (omega (arith, l)) e)
