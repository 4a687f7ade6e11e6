-- The history in bytes and the history in words are one: an access does to the words what it does to the bytes.
use Rattle.std.specs.Prelude.{ℕ, zero, suc, List, [], ◌∷◌, Option, Some, None, IfSome, unwrap_or, ◌++◌, ◌≡◌, ◌≢◌, ◌<◌, ◌+◌, ◌^◌, ◌==◌, ◌&&◌, map, nat_le, nat_lt}
use Rattle.std.proofs.Common.{arith, refl, sym, ap, ◌∙◌}
use Rattle.std.proofs.Math.Path.{fun_ext}
use Rattle.std.proofs.lemmas.Bool.{eqb-true, eqb-false}
use Rattle.m88_base.specs.Reg.{with_register}
use Rattle.m88_isa.proofs.Alone.{by_test}
use Rattle.m88_isa.proofs.TouchedBytes.{loads_bytes, stores_bytes}
use Rattle.m88_isa.proofs.Turns.{TurnFits, turn_fits}
use Rattle.m88_isa.specs.Address.{word_address}
use Rattle.m88_isa.specs.Bus.{Cells, after_access, after_accesses, bus_after, bus_after_all, in_words, loaded, stored, with_word}
use Rattle.m88_isa.specs.Effect.{AreAligned, Change}
use Rattle.m88_isa.specs.History.{Completed, after_turn, change_accesses, completed_state, transactions, turn_accesses}
use Rattle.m88_isa.specs.Lanes.{AreBytes, IsAligned, enable_of, number_at, stored_at, widened}
use Rattle.m88_isa.specs.Machine.{IsProgram, Program, State, Turn, after_change, after_touch, after_touches, changes, opening, outputs, state, state_after, stepped, stops, turn_at, with_written}
use Rattle.m88_isa.specs.Memory.{Touch, access_of}
use Rattle.m88_isa.specs.declared.planned.Access.{Access}

-- a word's address is its own
same_word : (a : ℕ) → word_address (word_address a) ≡ word_address a
same_word a = omega arith

-- a load of words gives what the load of bytes gives
pub touch_loads : (t : Touch) (memory : ℕ → ℕ) → AreBytes memory → IsAligned t.place t.size →
    loaded (access_of t) (in_words memory) ≡ widened t.signed t.size (number_at memory t.place t.size)
unfolding loaded in_words
touch_loads t memory bytes aligned =
    loads_bytes (enable_of t.place t.size) t.signed (number_at memory (word_address (word_address t.place)) 4) memory t.place t.size bytes
    aligned refl (ap (λ a. number_at memory a 4) (sym (same_word t.place)))

-- bytes that agree from an address on give one number
same_number : (m n : ℕ → ℕ) (a : ℕ) → m (a + 0) ≡ n (a + 0) → m (a + 1) ≡ n (a + 1) → m (a + 2) ≡ n (a + 2) →
    m (a + 3) ≡ n (a + 3) → number_at m a 4 ≡ number_at n a 4
same_number m n a e0 e1 e2 e3 = rw (e0, e1, e2, e3) refl

-- a store to words leaves what the store to bytes leaves
pub touch_stores : (t : Touch) (memory : ℕ → ℕ) → AreBytes memory → IsAligned t.place t.size →
    in_words (stored_at memory t.place t.size t.value) ≡ stored (access_of t) (in_words memory)
unfolding stored in_words with_word
touch_stores t memory bytes aligned = fun_ext (λ a.
    let law = stores_bytes (enable_of t.place t.size) t.value (number_at memory (word_address (word_address t.place)) 4) memory t.place
    t.size bytes aligned refl (ap (λ x. number_at memory x 4) (sym (same_word t.place))) in
    by_test (word_address a == word_address t.place)
    (λ here. rw here (ap (λ x. number_at (stored_at memory t.place t.size t.value) x 4) (eqb-true (word_address a) (word_address t.place) here)
    ∙ sym law.0))
    (λ apart.
    let other : word_address a ≢ word_address t.place = eqb-false (word_address a) (word_address t.place) apart in
    rw apart (same_number (stored_at memory t.place t.size t.value) memory (word_address a)
    (law.1 (word_address a + 0) (λ e. other (omega (arith, e))))
    (law.1 (word_address a + 1) (λ e. other (omega (arith, e))))
    (law.1 (word_address a + 2) (λ e. other (omega (arith, e))))
    (law.1 (word_address a + 3) (λ e. other (omega (arith, e)))))))

-- memory stays bytes
pub byte_stored : (memory : ℕ → ℕ) (place size value : ℕ) → AreBytes memory → AreBytes (stored_at memory place size value)
byte_stored memory place size value bytes a = by_test (nat_le place a && nat_lt a (place + size))
    (λ inside. rw inside (omega arith))
    (λ outside. rw outside (bytes a))

touch_bytes : (t : Touch) (s : State) → AreBytes s.memory → AreBytes (after_touch t s).memory
touch_bytes t s bytes = by_test t.write
    (λ write. rw write (byte_stored s.memory t.place t.size t.value bytes))
    (λ read. rw read bytes)

pub touches_bytes : (ts : List Touch) (s : State) → AreBytes s.memory → AreBytes (after_touches ts s).memory
touches_bytes [] s bytes = bytes
touches_bytes (t ∷ ts) s bytes = touches_bytes ts (after_touch t s) (touch_bytes t s bytes)

-- the registers and the words of a state
cells_of : State → Cells
cells_of s = record { regs = s.regs; bus = in_words s.memory }

touch_agrees : (t : Touch) (s : State) → AreBytes s.memory → IsAligned t.place t.size →
    cells_of (after_touch t s) ≡ after_access (access_of t) (cells_of s)
unfolding cells_of stored loaded
touch_agrees t s bytes aligned = by_test t.write
    (λ write. rw write (ap (λ b. record { regs = s.regs; bus = b }) (touch_stores t s.memory bytes aligned)))
    (λ read. rw read (ap (λ v. record { regs = with_register t.register v s.regs; bus = in_words s.memory })
    (sym (touch_loads t s.memory bytes aligned))))

touches_agree : (ts : List Touch) (s : State) → AreBytes s.memory → AreAligned ts →
    cells_of (after_touches ts s) ≡ after_accesses (map access_of ts) (cells_of s)
unfolding after_accesses
touches_agree [] s bytes aligned = refl
touches_agree (t ∷ ts) s bytes aligned =
    touches_agree ts (after_touch t s) (touch_bytes t s bytes) aligned.1
    ∙ ap (after_accesses (map access_of ts)) (touch_agrees t s bytes aligned.0)

-- accesses leave all but registers and memory as they are
touches_rest : (ts : List Touch) (s : State) →
    after_touches ts s ≡ record s { regs = (after_touches ts s).regs; memory = (after_touches ts s).memory }
touches_rest [] s = refl
touches_rest (t ∷ ts) s = touches_rest ts (after_touch t s)

-- a step in bytes is the turn in words
change_agrees : (change : Change) (s : State) → AreBytes s.memory → AreAligned change.touches →
    completed_state (after_change change s) ≡ after_turn (changes change) (completed_state s)
unfolding completed_state after_turn cells_of
change_agrees change s bytes aligned =
    let before : State = record s { regs = with_written change.register s.regs; carry = change.carry; pc = change.after.0; next = change.after.1 } in
    let agree = touches_agree change.touches before bytes aligned in
    ap completed_state (touches_rest change.touches before)
    ∙ ap (λ (c : Cells). record {
      regs = c.regs;
      carry = change.carry;
      mxm = s.mxm;
      pc = change.after.0;
      next = change.after.1;
      bus = c.bus;
      out = s.out;
    }) agree

pub turn_agrees : (turn : Turn) (s : State) → AreBytes s.memory → TurnFits turn →
    completed_state (state_after (stepped turn s) s) ≡ after_turn turn (completed_state s)
unfolding completed_state after_turn
turn_agrees (changes change) s bytes fits = change_agrees change s bytes fits.aligned
turn_agrees (outputs byte) s bytes aligned = refl
turn_agrees (stops stop) s bytes aligned = refl

-- memory stays bytes through a history
pub turn_bytes : (turn : Turn) (s : State) → AreBytes s.memory → AreBytes (state_after (stepped turn s) s).memory
turn_bytes (changes change) s bytes = touches_bytes change.touches _ bytes
turn_bytes (outputs byte) s bytes = bytes
turn_bytes (stops stop) s bytes = bytes

byte_there : (byte : Option ℕ) → IfSome byte (λ b. b < 2 ^ 8) → unwrap_or byte 0 < 2 ^ 8
byte_there None h = omega arith
byte_there (Some b) h = h

pub opening_bytes : (p : Program) → IsProgram p → AreBytes (opening p).memory
unfolding opening
opening_bytes p is a = byte_there (p.byte a) (is.bytes a)

pub state_bytes : (p : Program) (n : ℕ) → IsProgram p → AreBytes (state p n).memory
unfolding state
state_bytes p zero is = opening_bytes p is
state_bytes p (suc n) is = turn_bytes (turn_at p (state p n)) (state p n) (state_bytes p n is)

-- the state after one more step, in words
pub state_agrees : (p : Program) (n : ℕ) → IsProgram p →
    completed_state (state p (suc n)) ≡ after_turn (turn_at p (state p n)) (completed_state (state p n))
unfolding state
state_agrees p n is =
    turn_agrees (turn_at p (state p n)) (state p n) (state_bytes p n is)
    (turn_fits p (state p n).regs (state p n).carry (state p n).mxm (state p n).pc (state p n).next is)

-- memory in words after the transactions of some steps
pub bus_of_append : (xs ys : List Access) (bus : ℕ → ℕ) →
    bus_after_all (xs ++ ys) bus ≡ bus_after_all ys (bus_after_all xs bus)
unfolding bus_after_all
bus_of_append [] ys bus = refl
bus_of_append (x ∷ xs) ys bus = bus_of_append xs ys (bus_after x bus)

-- the words of registers and words after some accesses are those after the accesses alone
pub cells_bus : (xs : List Access) (c : Cells) → (after_accesses xs c).bus ≡ bus_after_all xs c.bus
unfolding after_accesses bus_after_all
cells_bus [] c = refl
cells_bus (x ∷ xs) c = cells_bus xs (after_access x c)

turn_bus : (turn : Turn) (c : Completed) → (after_turn turn c).bus ≡ bus_after_all (turn_accesses turn) c.bus
unfolding after_turn bus_after_all
turn_bus (changes change) c = cells_bus (change_accesses change) _
turn_bus (outputs byte) c = refl
turn_bus (stops stop) c = refl

-- memory of the history, in words, is what its transactions make of the words at first
pub state_bus : (p : Program) (n : ℕ) → IsProgram p →
    in_words (state p n).memory ≡ bus_after_all (transactions p n) (in_words (opening p).memory)
unfolding state transactions bus_after_all completed_state
state_bus p zero is = refl
state_bus p (suc n) is =
    ap (λ (c : Completed). c.bus) (state_agrees p n is)
    ∙ turn_bus (turn_at p (state p n)) (completed_state (state p n))
    ∙ ap (bus_after_all (turn_accesses (turn_at p (state p n)))) (state_bus p n is)
    ∙ sym (bus_of_append (transactions p n) (turn_accesses (turn_at p (state p n))) (in_words (opening p).memory))
