-- A word is taken as a DMT exactly where an access of an instruction has it.
use Rattle.std.specs.Prelude.{ℕ, zero, suc, Bool, true, false, not, ◌≡◌, ◌⊎◌, ◌<◌, ◌+◌, ◌-◌, ◌*◌, ◌%◌, ◌^◌, ◌==◌, ◌&&◌, ◌||◌, [], ◌∷◌}
use Rattle.std.proofs.Common.{refl, sym, ap, ◌∙◌, inl, inr, arith, subst}
use Rattle.std.proofs.lemmas.Bool.{eqb-true}
use Rattle.std.proofs.lemmas.Bool.Decides.{nat_tests}
use Rattle.m88_base.specs.Reg.{number_of}
use Rattle.m88_base.specs.declared.reg.Reg.{Reg}
use Rattle.m88_isa.proofs.Laws.{by_test, told_of}
use Rattle.m88_isa.specs.Address.{after_bytes}
use Rattle.m88_isa.specs.Compute.{weight_if}
use Rattle.m88_isa.specs.Lanes.{IsEnable, enable_of}
use Rattle.m88_isa.specs.Memory.{IsWordAccess, Touch, access_of, first_half, load, locked, store, touches_of}
use Rattle.m88_isa.specs.Operands.{no_register, register_after}
use Rattle.m88_isa.specs.Triples.{dmt_of}
use Rattle.m88_isa.specs.declared.instr.MemOp.{MemOp}
use Rattle.m88_isa.specs.declared.instr.MemOp.TheVariants as memop
use Rattle.m88_isa.specs.declared.planned.Access.{Access}
use Rattle.m88_serving.proofs.Making.{both, fit_of_dmt}
use Rattle.m88_serving.specs.Faults.{access_of_dmt, is_dmt, is_fit, is_fit_byte, is_fit_half, is_fit_size, is_fit_store, is_fit_word}
use Rattle.m88_serving.specs.Laws.{EachDmtIsOfAnAccess, IsDmtAmong, IsDmtOfAnAccess}

-- a DMT by its fields
abbrev dmt_by : Bool → Bool → ℕ → Bool → ℕ → Bool → ℕ
dmt_by doub1 lock r signed en write =
    weight_if doub1 (2 ^ 13) + weight_if lock (2 ^ 12) + r * 2 ^ 7 + weight_if signed (2 ^ 6) + en * 2 ^ 2
    + weight_if write (2 ^ 1) + 1

-- which accesses have it: loads and stores of words, of halves and of bytes
word_loaded : (d l : Bool) (r : Reg) → not (d && l) ≡ true → IsDmtOfAnAccess (dmt_by d l (number_of r) false 15 false)
word_loaded false false r fit = record { op = memop.Ld; d = r; value = 0; second = 0; place = 0; among = inl refl }
word_loaded true false r fit = record { op = memop.LdD; d = r; value = 0; second = 0; place = 0; among = inl refl }
word_loaded false true r fit = record { op = memop.Xmem; d = r; value = 0; second = 0; place = 0; among = inl refl }
word_loaded true true r fit = absurd cc

word_stored : (d l : Bool) → not (d && l) ≡ true → IsDmtOfAnAccess (dmt_by d l 0 false 15 true)
word_stored false false fit = record { op = memop.St; d = no_register; value = 0; second = 0; place = 0; among = inl refl }
word_stored true false fit = record { op = memop.StD; d = no_register; value = 0; second = 0; place = 0; among = inl refl }
word_stored false true fit = record { op = memop.Xmem; d = no_register; value = 0; second = 0; place = 0; among = inr (inl refl) }
word_stored true true fit = absurd cc

half_loaded : (s : Bool) (r : Reg) (place : ℕ) → IsDmtOfAnAccess (dmt_by false false (number_of r) s (enable_of place 2) false)
half_loaded true r place = record { op = memop.LdH; d = r; value = 0; second = 0; place = place; among = inl refl }
half_loaded false r place = record { op = memop.LdHu; d = r; value = 0; second = 0; place = place; among = inl refl }

half_stored : (place : ℕ) → IsDmtOfAnAccess (dmt_by false false 0 false (enable_of place 2) true)
half_stored place = record { op = memop.StH; d = no_register; value = 0; second = 0; place = place; among = inl refl }

byte_loaded : (l s : Bool) (r : Reg) (place : ℕ) → not (l && s) ≡ true → IsDmtOfAnAccess (dmt_by false l (number_of r) s (enable_of place 1) false)
byte_loaded false false r place fit = record { op = memop.LdBu; d = r; value = 0; second = 0; place = place; among = inl refl }
byte_loaded false true r place fit = record { op = memop.LdB; d = r; value = 0; second = 0; place = place; among = inl refl }
byte_loaded true false r place fit = record { op = memop.XmemBu; d = r; value = 0; second = 0; place = place; among = inl refl }
byte_loaded true true r place fit = absurd cc

byte_stored : (l : Bool) (place : ℕ) → IsDmtOfAnAccess (dmt_by false l 0 false (enable_of place 1) true)
byte_stored false place = record { op = memop.StB; d = no_register; value = 0; second = 0; place = place; among = inl refl }
byte_stored true place = record { op = memop.XmemBu; d = no_register; value = 0; second = 0; place = place; among = inr (inl refl) }

-- a test that fails
off : (b : Bool) → not b ≡ true → b ≡ false
off true e = absurd cc
off false e = refl

-- a store has no register and no sign
store_plain : (write : Bool) (n : ℕ) (signed : Bool) → (not write || n == 0 && not signed) ≡ true → write ≡ true → (n ≡ 0) × (signed ≡ false)
store_plain true n signed fit is =
    let parts = both (n == 0) (not signed) fit in (eqb-true n 0 parts.0, off signed parts.1)
store_plain false n signed fit is = absurd cc

-- the number of an access is made of its fields
dmt_of_fields : (a : Access) (d l s w : Bool) (n en : ℕ) → a.doub1 ≡ d → a.lock ≡ l → number_of a.reg ≡ n → a.signed ≡ s → a.en ≡ en → a.write ≡ w
    → dmt_of a ≡ dmt_by d l n s en w
dmt_of_fields a d l s w n en ed el en' es ee ew = λ i. dmt_by (ed i) (el i) (en' i) (es i) (ee i) (ew i)

-- the accesses by size
of_word : (a : Access) → a.en ≡ 15 → is_fit_store a ≡ true → is_fit_word a ≡ true → IsDmtOfAnAccess (dmt_of a)
of_word a is stores fits =
    let parts = both (not a.signed) (not (a.doub1 && a.lock)) fits in
    by_test a.write
    (λ w. let plain = store_plain a.write (number_of a.reg) a.signed stores w in
    subst IsDmtOfAnAccess (sym (dmt_of_fields a a.doub1 a.lock false true 0 15 refl refl plain.0 plain.1 is w)) (word_stored a.doub1 a.lock parts.1))
    (λ r. subst IsDmtOfAnAccess (sym (dmt_of_fields a a.doub1 a.lock false false (number_of a.reg) 15 refl refl refl (off a.signed parts.0) is r))
    (word_loaded a.doub1 a.lock a.reg parts.1))

of_half : (a : Access) (place : ℕ) → a.en ≡ enable_of place 2 → is_fit_store a ≡ true → is_fit_half a ≡ true → IsDmtOfAnAccess (dmt_of a)
of_half a place is stores fits =
    let parts = both (not a.doub1) (not a.lock) fits in
    by_test a.write
    (λ w. let plain = store_plain a.write (number_of a.reg) a.signed stores w in
    subst IsDmtOfAnAccess (sym (dmt_of_fields a false false false true 0 (enable_of place 2) (off a.doub1 parts.0) (off a.lock parts.1) plain.0 plain.1 is w))
    (half_stored place))
    (λ r. subst IsDmtOfAnAccess
    (sym (dmt_of_fields a false false a.signed false (number_of a.reg) (enable_of place 2) (off a.doub1 parts.0) (off a.lock parts.1) refl refl is r))
    (half_loaded a.signed a.reg place))

of_byte : (a : Access) (place : ℕ) → a.en ≡ enable_of place 1 → is_fit_store a ≡ true → is_fit_byte a ≡ true → IsDmtOfAnAccess (dmt_of a)
of_byte a place is stores fits =
    let parts = both (not a.doub1) (not (a.lock && a.signed)) fits in
    by_test a.write
    (λ w. let plain = store_plain a.write (number_of a.reg) a.signed stores w in
    subst IsDmtOfAnAccess (sym (dmt_of_fields a false a.lock false true 0 (enable_of place 1) (off a.doub1 parts.0) refl plain.0 plain.1 is w))
    (byte_stored a.lock place))
    (λ r. subst IsDmtOfAnAccess
    (sym (dmt_of_fields a false a.lock a.signed false (number_of a.reg) (enable_of place 1) (off a.doub1 parts.0) refl refl refl is r))
    (byte_loaded a.lock a.signed a.reg place parts.1))

-- the bytes of each enable
of_size : (a : Access) → is_fit_store a ≡ true → is_fit_size a ≡ true → IsDmtOfAnAccess (dmt_of a)
of_size a stores fits =
    by_test (a.en == 15) (λ t. of_word a (eqb-true a.en 15 t) stores (rw t at fits)) (λ f15.
    by_test (a.en == 12) (λ t. of_half a 0 (eqb-true a.en 12 t) stores (rw (f15, t) at fits)) (λ f12.
    by_test (a.en == 3) (λ t. of_half a 2 (eqb-true a.en 3 t) stores (rw (f15, f12, t) at fits)) (λ f3.
    by_test (a.en == 8) (λ t. of_byte a 0 (eqb-true a.en 8 t) stores (rw (f15, f12, f3, t) at fits)) (λ f8.
    by_test (a.en == 4) (λ t. of_byte a 1 (eqb-true a.en 4 t) stores (rw (f15, f12, f3, f8, t) at fits)) (λ f4.
    by_test (a.en == 2) (λ t. of_byte a 2 (eqb-true a.en 2 t) stores (rw (f15, f12, f3, f8, f4, t) at fits)) (λ f2.
    by_test (a.en == 1) (λ t. of_byte a 3 (eqb-true a.en 1 t) stores (rw (f15, f12, f3, f8, f4, f2, t) at fits)) (λ f1.
    let no : false ≡ true = rw (f15, f12, f3, f8, f4, f2, f1) at fits in absurd cc)))))))

-- a word that is taken is the DMT of its own access
own : (dmt : ℕ) → is_dmt dmt ≡ true → dmt_of (access_of_dmt dmt) ≡ dmt
unfolding is_dmt
own dmt taken = eqb-true (dmt_of (access_of_dmt dmt)) dmt (both (is_fit (access_of_dmt dmt)) _ taken).1

taken_is : (dmt : ℕ) → is_dmt dmt ≡ true → IsDmtOfAnAccess dmt
unfolding is_fit
taken_is dmt taken =
    let parts = both (is_fit_store (access_of_dmt dmt)) (is_fit_size (access_of_dmt dmt)) (fit_of_dmt dmt taken) in
    subst IsDmtOfAnAccess (own dmt taken) (of_size (access_of_dmt dmt) parts.0 parts.1)

-- the DMT of an access that fits is taken
same_true : (n : ℕ) → (n == n) ≡ true
same_true n = grind (arith, nat_tests)

abbrev bare : Access → Access
bare a = record a { addr = 0; value = 0 }

is_taken : (a : Access) → IsEnable a.en → (a.write ≡ true → (a.reg ≡ no_register) × (a.signed ≡ false)) → is_fit a ≡ true → is_dmt (dmt_of a) ≡ true
unfolding is_dmt is_fit
is_taken a enable plain fits =
    let made : IsWordAccess (bare a) = (refl, enable, plain, λ reads. refl) in
    let told : access_of_dmt (dmt_of a) ≡ bare a = told_of (bare a) made in
    ap (λ x. is_fit x && dmt_of x == dmt_of a) told ∙ (λ i. fits i && same_true (dmt_of a) i)

-- the enables of halves and bytes
pub half_enable : (place : ℕ) → (enable_of place 2 ≡ 12) ⊎ (enable_of place 2 ≡ 3)
half_enable place = by_test (place % 4 == 0) (λ t. rw t (inl refl)) (λ f. rw f (inr refl))

power : (r : ℕ) → r < 4 → (2 ^ (3 - r) ≡ 8) ⊎ (2 ^ (3 - r) ≡ 4) ⊎ (2 ^ (3 - r) ≡ 2) ⊎ (2 ^ (3 - r) ≡ 1)
power zero h = inl refl
power (suc zero) h = inr (inl refl)
power (suc (suc zero)) h = inr (inr (inl refl))
power (suc (suc (suc zero))) h = inr (inr (inr refl))
power (suc (suc (suc (suc r)))) h = absurd (omega (arith, h))

pub byte_enable : (place : ℕ) → (enable_of place 1 ≡ 8) ⊎ (enable_of place 1 ≡ 4) ⊎ (enable_of place 1 ≡ 2) ⊎ (enable_of place 1 ≡ 1)
byte_enable place = power (place % 4) (omega arith)

-- a load of a register and a store by an enable
abbrev pub load_by : Reg → Bool → Bool → Bool → ℕ → Access
load_by d signed first lock en = record { write = false; addr = 0; en = en; reg = d; signed = signed; doub1 = first; lock = lock; value = 0 }

abbrev pub store_by : Bool → Bool → ℕ → Access
store_by first lock en = record { write = true; addr = 0; en = en; reg = no_register; signed = false; doub1 = first; lock = lock; value = 0 }

load_taken : (d : Reg) (signed first lock : Bool) (en : ℕ) → IsEnable en → is_fit (load_by d signed first lock en) ≡ true
    → is_dmt (dmt_of (load_by d signed first lock en)) ≡ true
load_taken d signed first lock en enable fits = is_taken (load_by d signed first lock en) enable (λ w. absurd cc) fits

store_taken : (first lock : Bool) (en : ℕ) → IsEnable en → is_fit (store_by first lock en) ≡ true → is_dmt (dmt_of (store_by first lock en)) ≡ true
store_taken first lock en enable fits = is_taken (store_by first lock en) enable (λ w. (refl, refl)) fits

-- at an enable that is one of these
load_at : (d : Reg) (signed first lock : Bool) (en e : ℕ) → en ≡ e → IsEnable e → is_fit (load_by d signed first lock e) ≡ true
    → is_dmt (dmt_of (load_by d signed first lock en)) ≡ true
load_at d signed first lock en e is enable fits =
    subst (λ (n : ℕ). is_dmt (dmt_of (load_by d signed first lock n)) ≡ true) (sym is) (load_taken d signed first lock e enable fits)

store_at : (first lock : Bool) (en e : ℕ) → en ≡ e → IsEnable e → is_fit (store_by first lock e) ≡ true
    → is_dmt (dmt_of (store_by first lock en)) ≡ true
store_at first lock en e is enable fits =
    subst (λ (n : ℕ). is_dmt (dmt_of (store_by first lock n)) ≡ true) (sym is) (store_taken first lock e enable fits)

pub load_word : (d : Reg) (first lock : Bool) → not (first && lock) ≡ true → is_dmt (dmt_of (load_by d false first lock 15)) ≡ true
unfolding is_fit
load_word d first lock apart = load_taken d false first lock 15 (inl refl) apart

pub store_word : (first lock : Bool) → not (first && lock) ≡ true → is_dmt (dmt_of (store_by first lock 15)) ≡ true
unfolding is_fit
store_word first lock apart = store_taken first lock 15 (inl refl) apart

pub load_half : (d : Reg) (signed : Bool) (place : ℕ) → is_dmt (dmt_of (load_by d signed false false (enable_of place 2))) ≡ true
unfolding is_fit
load_half d signed place = elim (half_enable place) [
  | inl e ↦ load_at d signed false false (enable_of place 2) 12 e (inr (inl refl)) refl
  | inr e ↦ load_at d signed false false (enable_of place 2) 3 e (inr (inr (inl refl))) refl
]

pub store_half : (place : ℕ) → is_dmt (dmt_of (store_by false false (enable_of place 2))) ≡ true
unfolding is_fit
store_half place = elim (half_enable place) [
  | inl e ↦ store_at false false (enable_of place 2) 12 e (inr (inl refl)) refl
  | inr e ↦ store_at false false (enable_of place 2) 3 e (inr (inr (inl refl))) refl
]

pub load_byte : (d : Reg) (signed lock : Bool) (place : ℕ) → not (lock && signed) ≡ true
    → is_dmt (dmt_of (load_by d signed false lock (enable_of place 1))) ≡ true
unfolding is_fit
load_byte d signed lock place apart = elim (byte_enable place) [
  | inl e ↦ load_at d signed false lock (enable_of place 1) 8 e (inr (inr (inr (inl refl)))) apart
  | inr (inl e) ↦ load_at d signed false lock (enable_of place 1) 4 e (inr (inr (inr (inr (inl refl))))) apart
  | inr (inr (inl e)) ↦ load_at d signed false lock (enable_of place 1) 2 e (inr (inr (inr (inr (inr (inl refl)))))) apart
  | inr (inr (inr e)) ↦ load_at d signed false lock (enable_of place 1) 1 e (inr (inr (inr (inr (inr (inr refl)))))) apart
]

apart_alone : (lock : Bool) → not (lock && false) ≡ true
apart_alone true = refl
apart_alone false = refl

pub store_byte : (lock : Bool) (place : ℕ) → is_dmt (dmt_of (store_by false lock (enable_of place 1))) ≡ true
unfolding is_fit
store_byte lock place = elim (byte_enable place) [
  | inl e ↦ store_at false lock (enable_of place 1) 8 e (inr (inr (inr (inl refl)))) (apart_alone lock)
  | inr (inl e) ↦ store_at false lock (enable_of place 1) 4 e (inr (inr (inr (inr (inl refl))))) (apart_alone lock)
  | inr (inr (inl e)) ↦ store_at false lock (enable_of place 1) 2 e (inr (inr (inr (inr (inr (inl refl)))))) (apart_alone lock)
  | inr (inr (inr e)) ↦ store_at false lock (enable_of place 1) 1 e (inr (inr (inr (inr (inr (inr refl)))))) (apart_alone lock)
]

-- of one touch, and of two
one : (dmt : ℕ) (t : Touch) → IsDmtAmong dmt (t ∷ []) → is_dmt (dmt_of (access_of t)) ≡ true → is_dmt dmt ≡ true
one dmt t (inl e) taken = subst (λ (n : ℕ). is_dmt n ≡ true) (sym e) taken
one dmt t (inr none) taken = absurd none

two : (dmt : ℕ) (t u : Touch) → IsDmtAmong dmt (t ∷ u ∷ []) → is_dmt (dmt_of (access_of t)) ≡ true → is_dmt (dmt_of (access_of u)) ≡ true → is_dmt dmt ≡ true
two dmt t u (inl e) first second = subst (λ (n : ℕ). is_dmt n ≡ true) (sym e) first
two dmt t u (inr (inl e)) first second = subst (λ (n : ℕ). is_dmt n ≡ true) (sym e) second
two dmt t u (inr (inr none)) first second = absurd none

among_taken : (op : MemOp) (d : Reg) (value second place dmt : ℕ) → IsDmtAmong dmt (touches_of op d value second place) → is_dmt dmt ≡ true
among_taken memop.XmemBu d value second place dmt h =
    two dmt (locked (load 1 false d place)) (locked (store 1 value place)) h (load_byte d false true place refl) (store_byte true place)
among_taken memop.Xmem d value second place dmt h =
    two dmt (locked (load 4 false d place)) (locked (store 4 value place)) h (load_word d false true refl) (store_word false true refl)
among_taken memop.LdHu d value second place dmt h = one dmt (load 2 false d place) h (load_half d false place)
among_taken memop.LdBu d value second place dmt h = one dmt (load 1 false d place) h (load_byte d false false place refl)
among_taken memop.LdD d value second place dmt h =
    two dmt (first_half (load 4 false d place)) (load 4 false (register_after d) (after_bytes place 4)) h
    (load_word d true false refl) (load_word (register_after d) false false refl)
among_taken memop.Ld d value second place dmt h = one dmt (load 4 false d place) h (load_word d false false refl)
among_taken memop.LdH d value second place dmt h = one dmt (load 2 true d place) h (load_half d true place)
among_taken memop.LdB d value second place dmt h = one dmt (load 1 true d place) h (load_byte d true false place refl)
among_taken memop.StD d value second place dmt h =
    two dmt (first_half (store 4 value place)) (store 4 second (after_bytes place 4)) h
    (store_word true false refl) (store_word false false refl)
among_taken memop.St d value second place dmt h = one dmt (store 4 value place) h (store_word false false refl)
among_taken memop.StH d value second place dmt h = one dmt (store 2 value place) h (store_half place)
among_taken memop.StB d value second place dmt h = one dmt (store 1 value place) h (store_byte false place)

pub each_dmt_is_of_an_access : EachDmtIsOfAnAccess
each_dmt_is_of_an_access = λ dmt. (taken_is dmt, λ is. among_taken is.op is.d is.value is.second is.place dmt is.among)
