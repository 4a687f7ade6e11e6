-- A load or a store by an enable does what a load or a store of bytes does.
use Rattle.std.specs.Prelude.{ℕ, zero, suc, Bool, ◌≡◌, ◌≢◌, ◌⊎◌, ◌<◌, ◌≤◌, ◌+◌, ◌-◌, ◌*◌, ◌/◌, ◌%◌, ◌^◌, ◌==◌, nat_le, nat_lt, if◌then◌else◌}
use Rattle.std.proofs.Common.{arith, refl, sym, ap, ap₂, ◌∙◌, subst, inl, inr}
use Rattle.std.proofs.lemmas.Bool.{le-leb, lt-ltb, leb-true, ltb-true}
use Rattle.m88_isa.proofs.Alone.{by_test}
use Rattle.m88_isa.specs.Address.{word_address}
use Rattle.m88_isa.specs.Lanes.{AreBytes, IsAligned, LoadsBytes, StoresBytes, byte_of, datum_of, enable_of, merged, number_at, stored_at, widened}

-- an offset in a word is one of four
pub one_of_four : (n : ℕ) → n < 4 → (n ≡ 0) ⊎ (n ≡ 1) ⊎ (n ≡ 2) ⊎ (n ≡ 3)
one_of_four zero h = inl refl
one_of_four (suc zero) h = inr (inl refl)
one_of_four (suc (suc zero)) h = inr (inr (inl refl))
one_of_four (suc (suc (suc zero))) h = inr (inr (inr refl))
one_of_four (suc (suc (suc (suc n)))) h = absurd (omega arith)

-- the bytes of a word are those of memory from its address on
record Bytes (memory : ℕ → ℕ) (a word : ℕ) : Type 0 where
  pub at0 : byte_of word 0 ≡ memory (a + 0)
  pub at1 : byte_of word 1 ≡ memory (a + 1)
  pub at2 : byte_of word 2 ≡ memory (a + 2)
  pub at3 : byte_of word 3 ≡ memory (a + 3)

bytes_of : (memory : ℕ → ℕ) (a word : ℕ) → AreBytes memory → number_at memory a 4 ≡ word → Bytes memory a word
bytes_of memory a word bytes held =
    let b0 = bytes (a + 0) in
    let b1 = bytes (a + 1) in
    let b2 = bytes (a + 2) in
    let b3 = bytes (a + 3) in
    record {
      at0 = omega (arith, held, b0, b1, b2, b3);
      at1 = omega (arith, held, b0, b1, b2, b3);
      at2 = omega (arith, held, b0, b1, b2, b3);
      at3 = omega (arith, held, b0, b1, b2, b3);
    }

-- what a load by an enable gives follows at the enable of its place
loads_at : (en there size : ℕ) (signed : Bool) (word : ℕ) (memory : ℕ → ℕ) (place : ℕ) →
    there ≡ en →
    datum_of there signed word ≡ widened signed size (number_at memory place size) →
    datum_of en signed word ≡ widened signed size (number_at memory place size)
loads_at en there size signed word memory place e h =
    subst (λ n. datum_of n signed word ≡ widened signed size (number_at memory place size)) e h

-- a load of one byte at each of its four offsets
load_byte : (en : ℕ) (signed : Bool) (word : ℕ) (memory : ℕ → ℕ) (place : ℕ) →
    Bytes memory (word_address place) word →
    enable_of place 1 ≡ en →
    datum_of en signed word ≡ widened signed 1 (number_at memory place 1)
load_byte en signed word memory place b enabled = elim (one_of_four (place % 4) (omega arith)) [
  | inl o ↦ loads_at en 8 1 signed word memory place (ap (λ k. 2 ^ (3 - k)) (sym o) ∙ enabled)
      (ap (λ n. widened signed 1 (0 + n)) (b.at0 ∙ ap memory (omega (arith, o))))
  | inr (inl o) ↦ loads_at en 4 1 signed word memory place (ap (λ k. 2 ^ (3 - k)) (sym o) ∙ enabled)
      (ap (λ n. widened signed 1 (0 + n)) (b.at1 ∙ ap memory (omega (arith, o))))
  | inr (inr (inl o)) ↦ loads_at en 2 1 signed word memory place (ap (λ k. 2 ^ (3 - k)) (sym o) ∙ enabled)
      (ap (λ n. widened signed 1 (0 + n)) (b.at2 ∙ ap memory (omega (arith, o))))
  | inr (inr (inr o)) ↦ loads_at en 1 1 signed word memory place (ap (λ k. 2 ^ (3 - k)) (sym o) ∙ enabled)
      (ap (λ n. widened signed 1 (0 + n)) (b.at3 ∙ ap memory (omega (arith, o))))
]

-- a load of a half at each of its two offsets
load_half : (en : ℕ) (signed : Bool) (word : ℕ) (memory : ℕ → ℕ) (place : ℕ) →
    Bytes memory (word_address place) word →
    place % 2 ≡ 0 →
    enable_of place 2 ≡ en →
    datum_of en signed word ≡ widened signed 2 (number_at memory place 2)
load_half en signed word memory place b even enabled = elim (one_of_four (place % 4) (omega arith)) [
  | inl o ↦ loads_at en 12 2 signed word memory place (ap (λ k. if k == 0 then 12 else 3) (sym o) ∙ enabled)
      (ap₂ (λ m n. widened signed 2 ((0 + m) * 256 + n)) (b.at0 ∙ ap memory (omega (arith, o))) (b.at1 ∙ ap memory (omega (arith, o))))
  | inr (inl o) ↦ absurd (omega (arith, o, even))
  | inr (inr (inl o)) ↦ loads_at en 3 2 signed word memory place (ap (λ k. if k == 0 then 12 else 3) (sym o) ∙ enabled)
      (ap₂ (λ m n. widened signed 2 ((0 + m) * 256 + n)) (b.at2 ∙ ap memory (omega (arith, o))) (b.at3 ∙ ap memory (omega (arith, o))))
  | inr (inr (inr o)) ↦ absurd (omega (arith, o, even))
]

-- a load of a whole word
load_word : (en : ℕ) (signed : Bool) (word : ℕ) (memory : ℕ → ℕ) (place : ℕ) →
    Bytes memory (word_address place) word →
    place % 4 ≡ 0 →
    enable_of place 4 ≡ en →
    datum_of en signed word ≡ widened signed 4 (number_at memory place 4)
load_word en signed word memory place b aligned enabled =
    loads_at en 15 4 signed word memory place enabled
    (ap₂ (λ m n. widened signed 4 (m * 256 + n))
    (ap₂ (λ m n. m * 256 + n)
    (ap₂ (λ m n. (0 + m) * 256 + n)
    (b.at0 ∙ ap memory (omega (arith, aligned)))
    (b.at1 ∙ ap memory (omega (arith, aligned))))
    (b.at2 ∙ ap memory (omega (arith, aligned))))
    (b.at3 ∙ ap memory (omega (arith, aligned))))

pub loads_bytes : (en : ℕ) (signed : Bool) (word : ℕ) → LoadsBytes en signed word (datum_of en signed word)
loads_bytes en signed word memory place size bytes aligned enabled held =
    let b = bytes_of memory (word_address place) word bytes held in
    elim aligned [
      | inl one ↦ subst (λ n. enable_of place n ≡ en → datum_of en signed word ≡ widened signed n (number_at memory place n)) (sym one)
          (load_byte en signed word memory place b) enabled
      | inr (inl two) ↦ subst (λ n. enable_of place n ≡ en → datum_of en signed word ≡ widened signed n (number_at memory place n)) (sym two.0)
          (load_half en signed word memory place b two.1) enabled
      | inr (inr four) ↦ subst (λ n. enable_of place n ≡ en → datum_of en signed word ≡ widened signed n (number_at memory place n)) (sym four.0)
          (load_word en signed word memory place b four.1) enabled
    ]

-- a byte that is stored, and one that isn't
inside : (memory : ℕ → ℕ) (place size value x after : ℕ) →
    place ≤ x →
    x < place + size →
    place + size - 1 - x ≡ after →
    stored_at memory place size value x ≡ value / 2 ^ (8 * after) % 2 ^ 8
inside memory place size value x after low high e =
    rw (le-leb place x low) (rw (lt-ltb x (place + size) high) (rw e refl))

outside : (memory : ℕ → ℕ) (place size value x : ℕ) →
    (place ≤ x → x < place + size → ⊥) →
    stored_at memory place size value x ≡ memory x
outside memory place size value x apart = by_test (nat_le place x)
    (λ low. by_test (nat_lt x (place + size))
    (λ high. absurd (apart (leb-true place x low) (ltb-true x (place + size) high)))
    (λ high. rw low (rw high refl)))
    (λ low. rw low refl)

-- the sum of four bytes is the big-endian number of the memory that has them
sum_of_bytes : (memory : ℕ → ℕ) (a c0 c1 c2 c3 : ℕ) →
    memory (a + 0) ≡ c0 →
    memory (a + 1) ≡ c1 →
    memory (a + 2) ≡ c2 →
    memory (a + 3) ≡ c3 →
    c0 * 2 ^ 24 + c1 * 2 ^ 16 + c2 * 2 ^ 8 + c3 ≡ number_at memory a 4
sum_of_bytes memory a c0 c1 c2 c3 e0 e1 e2 e3 = omega (arith, e0, e1, e2, e3)

-- what a store by an enable leaves follows at the enable of its place
stores_at : (en there size value word : ℕ) (memory : ℕ → ℕ) (place : ℕ) →
    there ≡ en →
    merged there value word ≡ number_at (stored_at memory place size value) (word_address place) 4 →
    merged en value word ≡ number_at (stored_at memory place size value) (word_address place) 4
stores_at en there size value word memory place e h =
    subst (λ n. merged n value word ≡ number_at (stored_at memory place size value) (word_address place) 4) e h

-- a store of one byte at each of its four offsets
store_byte : (en value word : ℕ) (memory : ℕ → ℕ) (place : ℕ) →
    Bytes memory (word_address place) word →
    enable_of place 1 ≡ en →
    merged en value word ≡ number_at (stored_at memory place 1 value) (word_address place) 4
store_byte en value word memory place b enabled = elim (one_of_four (place % 4) (omega arith)) [
  | inl o ↦ stores_at en 8 1 value word memory place (ap (λ k. 2 ^ (3 - k)) (sym o) ∙ enabled)
      (sum_of_bytes (stored_at memory place 1 value) (word_address place) _ _ _ _
      (inside memory place 1 value (word_address place + 0) 0 (omega (arith, o)) (omega (arith, o)) (omega (arith, o)))
      (outside memory place 1 value (word_address place + 1) (λ low high. omega (arith, o, low, high)) ∙ sym b.at1)
      (outside memory place 1 value (word_address place + 2) (λ low high. omega (arith, o, low, high)) ∙ sym b.at2)
      (outside memory place 1 value (word_address place + 3) (λ low high. omega (arith, o, low, high)) ∙ sym b.at3))
  | inr (inl o) ↦ stores_at en 4 1 value word memory place (ap (λ k. 2 ^ (3 - k)) (sym o) ∙ enabled)
      (sum_of_bytes (stored_at memory place 1 value) (word_address place) _ _ _ _
      (outside memory place 1 value (word_address place + 0) (λ low high. omega (arith, o, low, high)) ∙ sym b.at0)
      (inside memory place 1 value (word_address place + 1) 0 (omega (arith, o)) (omega (arith, o)) (omega (arith, o)))
      (outside memory place 1 value (word_address place + 2) (λ low high. omega (arith, o, low, high)) ∙ sym b.at2)
      (outside memory place 1 value (word_address place + 3) (λ low high. omega (arith, o, low, high)) ∙ sym b.at3))
  | inr (inr (inl o)) ↦ stores_at en 2 1 value word memory place (ap (λ k. 2 ^ (3 - k)) (sym o) ∙ enabled)
      (sum_of_bytes (stored_at memory place 1 value) (word_address place) _ _ _ _
      (outside memory place 1 value (word_address place + 0) (λ low high. omega (arith, o, low, high)) ∙ sym b.at0)
      (outside memory place 1 value (word_address place + 1) (λ low high. omega (arith, o, low, high)) ∙ sym b.at1)
      (inside memory place 1 value (word_address place + 2) 0 (omega (arith, o)) (omega (arith, o)) (omega (arith, o)))
      (outside memory place 1 value (word_address place + 3) (λ low high. omega (arith, o, low, high)) ∙ sym b.at3))
  | inr (inr (inr o)) ↦ stores_at en 1 1 value word memory place (ap (λ k. 2 ^ (3 - k)) (sym o) ∙ enabled)
      (sum_of_bytes (stored_at memory place 1 value) (word_address place) _ _ _ _
      (outside memory place 1 value (word_address place + 0) (λ low high. omega (arith, o, low, high)) ∙ sym b.at0)
      (outside memory place 1 value (word_address place + 1) (λ low high. omega (arith, o, low, high)) ∙ sym b.at1)
      (outside memory place 1 value (word_address place + 2) (λ low high. omega (arith, o, low, high)) ∙ sym b.at2)
      (inside memory place 1 value (word_address place + 3) 0 (omega (arith, o)) (omega (arith, o)) (omega (arith, o))))
]

-- a store of a half at each of its two offsets
store_half : (en value word : ℕ) (memory : ℕ → ℕ) (place : ℕ) →
    Bytes memory (word_address place) word →
    place % 2 ≡ 0 →
    enable_of place 2 ≡ en →
    merged en value word ≡ number_at (stored_at memory place 2 value) (word_address place) 4
store_half en value word memory place b even enabled = elim (one_of_four (place % 4) (omega arith)) [
  | inl o ↦ stores_at en 12 2 value word memory place (ap (λ k. if k == 0 then 12 else 3) (sym o) ∙ enabled)
      (sum_of_bytes (stored_at memory place 2 value) (word_address place) _ _ _ _
      (inside memory place 2 value (word_address place + 0) 1 (omega (arith, o)) (omega (arith, o)) (omega (arith, o)))
      (inside memory place 2 value (word_address place + 1) 0 (omega (arith, o)) (omega (arith, o)) (omega (arith, o)))
      (outside memory place 2 value (word_address place + 2) (λ low high. omega (arith, o, low, high)) ∙ sym b.at2)
      (outside memory place 2 value (word_address place + 3) (λ low high. omega (arith, o, low, high)) ∙ sym b.at3))
  | inr (inl o) ↦ absurd (omega (arith, o, even))
  | inr (inr (inl o)) ↦ stores_at en 3 2 value word memory place (ap (λ k. if k == 0 then 12 else 3) (sym o) ∙ enabled)
      (sum_of_bytes (stored_at memory place 2 value) (word_address place) _ _ _ _
      (outside memory place 2 value (word_address place + 0) (λ low high. omega (arith, o, low, high)) ∙ sym b.at0)
      (outside memory place 2 value (word_address place + 1) (λ low high. omega (arith, o, low, high)) ∙ sym b.at1)
      (inside memory place 2 value (word_address place + 2) 1 (omega (arith, o)) (omega (arith, o)) (omega (arith, o)))
      (inside memory place 2 value (word_address place + 3) 0 (omega (arith, o)) (omega (arith, o)) (omega (arith, o))))
  | inr (inr (inr o)) ↦ absurd (omega (arith, o, even))
]

-- a store of a whole word
store_word : (en value word : ℕ) (memory : ℕ → ℕ) (place : ℕ) →
    place % 4 ≡ 0 →
    enable_of place 4 ≡ en →
    merged en value word ≡ number_at (stored_at memory place 4 value) (word_address place) 4
store_word en value word memory place aligned enabled =
    stores_at en 15 4 value word memory place enabled
    (sum_of_bytes (stored_at memory place 4 value) (word_address place) _ _ _ _
    (inside memory place 4 value (word_address place + 0) 3 (omega (arith, aligned)) (omega (arith, aligned)) (omega (arith, aligned)))
    (inside memory place 4 value (word_address place + 1) 2 (omega (arith, aligned)) (omega (arith, aligned)) (omega (arith, aligned)))
    (inside memory place 4 value (word_address place + 2) 1 (omega (arith, aligned)) (omega (arith, aligned)) (omega (arith, aligned)))
    (inside memory place 4 value (word_address place + 3) 0 (omega (arith, aligned)) (omega (arith, aligned)) (omega (arith, aligned))))

-- a store leaves every byte outside its word
stays : (memory : ℕ → ℕ) (place size value a : ℕ) →
    IsAligned place size →
    word_address a ≢ word_address place →
    stored_at memory place size value a ≡ memory a
stays memory place size value a aligned other =
    outside memory place size value a (λ low high. other (elim aligned [
      | inl one ↦ omega (arith, one, low, high)
      | inr (inl two) ↦ omega (arith, two.0, two.1, low, high)
      | inr (inr four) ↦ omega (arith, four.0, four.1, low, high)
    ]))

pub stores_bytes : (en value word : ℕ) → StoresBytes en value word (merged en value word)
stores_bytes en value word memory place size bytes aligned enabled held =
    let b = bytes_of memory (word_address place) word bytes held in (
      elim aligned [
        | inl one ↦ subst (λ n. enable_of place n ≡ en → merged en value word ≡ number_at (stored_at memory place n value) (word_address place) 4)
            (sym one) (store_byte en value word memory place b) enabled
        | inr (inl two) ↦ subst (λ n. enable_of place n ≡ en → merged en value word ≡ number_at (stored_at memory place n value) (word_address place) 4)
            (sym two.0) (store_half en value word memory place b two.1) enabled
        | inr (inr four) ↦ subst (λ n. enable_of place n ≡ en → merged en value word ≡ number_at (stored_at memory place n value) (word_address place) 4)
            (sym four.0) (store_word en value word memory place four.1) enabled
      ],
      λ a other. stays memory place size value a aligned other,
    )
