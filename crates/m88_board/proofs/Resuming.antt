-- A board that is resumed from a context stands at the moment for which that stands, and what always holds of a board holds
-- of it.
use Rattle.std.specs.Prelude.{ℕ, zero, suc, Bool, true, false, not, List, [], Option, Some, None, IfSome, ◌≡◌, ◌+◌, ◌==◌, is_none, is_some, length, slice_index, if◌then◌else◌}
use Rattle.std.specs.Int.{bit_at}
use Rattle.std.proofs.Common.{arith, add-one, refl, sym, ap, ap₂, subst, ◌∙◌}
use Rattle.std.proofs.lemmas.List.{drop_all}
use Rattle.std.proofs.lemmas.List.Elements.{All-nil}
use Rattle.m88_base.specs.Image.{ProgramImage}
use Rattle.m88_base.specs.Slot.{IsWordSlot, no_slot, slot_of, slot_word}
use Rattle.m88_base.specs.declared.slot.Slot.{Slot}
use Rattle.m88_ctrl.specs.ControlRegisters.{ControlRegisters, carry_place}
use Rattle.m88_event.proofs.Laws.{drained_bus, ended_is}
use Rattle.m88_event.specs.Local.{Local, local_at}
use Rattle.m88_event.specs.Past.{HasPast}
use Rattle.m88_event.specs.Shadow.{fip_of, nip_of, retired_pointer, status_of}
use Rattle.m88_event.specs.Timeline.{Moment, Run, end_of_turn, nip_at, xip_along, xip_at}
use Rattle.m88_event.specs.declared.happened.End.{End}
use Rattle.m88_isa.proofs.Laws.{program_of_image, state_straight, state_words, twice_at_most}
use Rattle.m88_isa.specs.Address.{after_bytes}
use Rattle.m88_isa.specs.Bus.{after_accesses}
use Rattle.m88_isa.specs.Held.{is_stop}
use Rattle.m88_isa.specs.History.{completed_state, transactions}
use Rattle.m88_isa.specs.ImageProgram.{IsProgramOf}
use Rattle.m88_isa.specs.Machine.{IsProgram, Program, State, Turn, by_vector, changes, exits, four_bytes, outputs, state, stops, turn_at}
use Rattle.m88_isa.specs.Memory.{IsWordAccess}
use Rattle.m88_iunit.specs.Pointers.{Pointers}
use Rattle.m88_mem.specs.DataBus.{ready_of}
use Rattle.m88_scoreboard.specs.Registers.{Registers, none_waits, waiting_of}
use Rattle.m88_board.proofs.OfHistory.{same_turn, zero_is}
use Rattle.m88_board.proofs.ReadBack.{carry_back, mxm_back, slot_back, word_back}
use Rattle.m88_board.proofs.Waiting.{none_wait_for_none}
use Rattle.m88_board.specs.Board.{BoardView, completed_of, local_of, next_of, pc_of}
use Rattle.m88_board.specs.Contexts.{StandsFor, StandsForSome, context_of}
use Rattle.m88_board.specs.Kept.{EndsSo, HasReadyPage, IsBehind, IsKept, IsProgramEnd, SlotsAgree, turn_by}
use Rattle.m88_board.specs.Moves.{IsAt}
use Rattle.m88_board.specs.declared.context.Context.{Context}

-- the pointers of a context's words
abbrev pub pointers_in : Context → Pointers
pointers_in c = record { xip = slot_of c.saved.sxip; nip = slot_of c.saved.snip; fip = slot_of c.saved.sfip }

-- a board that is resumed from a context, by its registers and its control registers
abbrev pub resumed_board : Context → Registers → ControlRegisters → BoardView
resumed_board c file control = record {
  slots = pointers_in c;
  pending = [];
  file = file;
  memory = c.memory;
  control = control;
  book = c.book;
  begun = false;
}

-- its registers and its control registers are those of the context
pub record AreResumed (c : Context) (file : Registers) (control : ControlRegisters) : Type 0 where
  pub numbers : file.numbers ≡ c.saved.regs
  pub waiting : waiting_of file ≡ none_waits
  pub psr : control.psr ≡ c.saved.epsr
  pub epsr : control.epsr ≡ c.saved.epsr

-- the address of the instruction retired last is that of a word
xip_word : (p : Program) (n : ℕ) → IsWordSlot (xip_at p n)
unfolding xip_along
xip_word p zero = refl
xip_word p (suc n) = (state_words p n).here

-- and so are those of NIP and FIP
nip_word : (p : Program) (bubble : Bool) (n : ℕ) → IsWordSlot (nip_of p bubble (xip_at p n) (state p n).pc)
nip_word p true n = let h = xip_word p n in omega (arith, h)
nip_word p false n = (state_words p n).here

fip_word : (p : Program) (bubble : Bool) (n : ℕ) → IsWordSlot (fip_of p bubble (state p n).pc (state p n).next)
fip_word p true n = (state_words p n).here
fip_word p false n = (state_words p n).behind

-- the pointers of a moment
abbrev slots_by : Program → Bool → Slot → ℕ → ℕ → Pointers
slots_by p bubble xip pc next = record { xip = xip; nip = nip_of p bubble xip pc; fip = fip_of p bubble pc next }

abbrev slots_at : Program → Moment → Pointers
slots_at p m = slots_by p m.bubble (xip_at p m.retired) (state p m.retired).pc (state p m.retired).next

-- are those of the context's words
pub slots_back : (r : Run) (m : Moment) (c : Context) → StandsFor r m c → pointers_in c ≡ slots_at r.program m
slots_back r m c stands =
    let xip = ap slot_of stands.saved.sxip ∙ slot_back (xip_at r.program m.retired) (xip_word r.program m.retired) in
    let nip = ap slot_of stands.saved.snip ∙ slot_back (nip_at r.program m) (nip_word r.program m.bubble m.retired) in
    let fip = ap slot_of stands.saved.sfip ∙ slot_back _ (fip_word r.program m.bubble m.retired) in
    λ i. record { xip = xip i; nip = nip i; fip = fip i }

-- the next two addresses, and the mark of a bubble
pc_back : (p : Program) (bubble : Bool) (xip : Slot) (pc next : ℕ) → pc_of (slots_by p bubble xip pc next) ≡ pc
pc_back p true xip pc next = refl
pc_back p false xip pc next = refl

next_back : (p : Program) (bubble : Bool) (xip : Slot) (pc next : ℕ) → (bubble ≡ true → next ≡ after_bytes pc 4) →
    next_of (slots_by p bubble xip pc next) ≡ next
next_back p true xip pc next h = sym (h refl)
next_back p false xip pc next h = refl

bubble_back : (p : Program) (bubble : Bool) (xip : Slot) (pc next : ℕ) → not (slots_by p bubble xip pc next).nip.v ≡ bubble
bubble_back p true xip pc next = refl
bubble_back p false xip pc next = refl

-- behind a taken branch without a delay slot the two next instructions follow one another
straight : (r : Run) (m : Moment) → HasPast r m → m.bubble ≡ true →
    (state r.program m.retired).next ≡ after_bytes (state r.program m.retired).pc 4
straight r m past bubble =
    let behind = past.bubbled bubble in
    subst (λ (n : ℕ). (state r.program n).next ≡ after_bytes (state r.program n).pc 4) (sym behind.last)
    (state_straight r.program behind.before behind.change behind.turn behind.flows)

-- its program has bytes and instructions that there are
is_program : (r : Run) (m : Moment) (c : Context) → StandsFor r m c → IsProgram r.program
is_program r m c stands = program_of_image c.memory.image r.program stands.is_image stands.image

-- it looks like the moment
pub looks : (r : Run) (m : Moment) (c : Context) (file : Registers) (control : ControlRegisters) →
    StandsFor r m c → AreResumed c file control → local_of (resumed_board c file control) ≡ local_at r m
unfolding local_of completed_of local_at completed_state after_accesses
looks r m c file control stands are =
    let s : State = state r.program m.retired in
    let slots = slots_back r m c stands in
    let status = are.psr ∙ stands.saved.epsr in
    let carry = ap (λ w. bit_at w carry_place == 1) status ∙ carry_back s.carry s.mxm in
    let mxm = ap (λ w. bit_at w 2 == 1) status ∙ mxm_back s.carry s.mxm in
    let pc = ap pc_of slots ∙ pc_back r.program m.bubble (xip_at r.program m.retired) s.pc s.next in
    let next = ap next_of slots
    ∙ next_back r.program m.bubble (xip_at r.program m.retired) s.pc s.next (straight r m stands.past) in
    let bubble = ap (λ (x : Pointers). not x.nip.v) slots ∙ bubble_back r.program m.bubble (xip_at r.program m.retired) s.pc s.next in
    let regs = are.numbers ∙ stands.saved.regs in
    let words = stands.words ∙ drained_bus r.program m.retired m.done (is_program r m c stands) stands.drained in
    let pending = sym (drop_all m.done (transactions r.program m.retired) (let e = stands.drained in omega (arith, e))) in
    λ i. record {
      completed = record {
        regs = regs i;
        carry = carry i;
        mxm = mxm i;
        pc = pc i;
        next = next i;
        bus = words i;
        out = stands.book.out i;
      };
      bus = stands.words i;
      pending = pending i;
      xip = (slots i).xip;
      bubble = bubble i;
      ended = stands.book.ended i;
      absent = stands.absent i;
      retired = stands.book.retired i;
      done = stands.book.done i;
      events = stands.book.events i;
      answers = stands.book.answers i;
      records = stands.book.records i;
    }

-- it stands at the moment
pub stands_at : (r : Run) (m : Moment) (c : Context) (file : Registers) (control : ControlRegisters) →
    StandsFor r m c → AreResumed c file control → IsAt r m (resumed_board c file control)
stands_at r m c file control stands are = record {
  image = stands.image;
  limit = stands.limit;
  within = let e = stands.drained in omega (arith, e);
  past = stands.past;
  seen = looks r m c file control stands are;
}

-- XIP of a history is an instruction that was retired, or nothing
xip_back : (p : Program) (n : ℕ) → xip_at p n ≡ (if (xip_at p n).v then retired_pointer (xip_at p n).addr else no_slot)
unfolding xip_along
xip_back p zero = refl
xip_back p (suc n) = refl

-- the pointers of a moment are those of a program over its image
slots_agree : (image : ProgramImage) (p : Program) (bubble : Bool) (xip : Slot) (pc next : ℕ) → IsProgramOf image p →
    xip ≡ (if xip.v then retired_pointer xip.addr else no_slot) → SlotsAgree image (slots_by p bubble xip pc next)
slots_agree image p true xip pc next of retired = record {
  nip = refl;
  fip = ap (λ (byte : ℕ → Option ℕ). record { addr = pc; v = true; e = is_none (four_bytes byte pc) }) of.bytes;
  xip = retired;
}
slots_agree image p false xip pc next of retired = record {
  nip = ap (λ (byte : ℕ → Option ℕ). record { addr = pc; v = true; e = is_none (four_bytes byte pc) }) of.bytes;
  fip = ap (λ (byte : ℕ → Option ℕ). record { addr = next; v = true; e = is_none (four_bytes byte next) }) of.bytes;
  xip = retired;
}

-- a bubble is there only behind an instruction
bubble_of : (p : Program) (bubble : Bool) (xip : Slot) (pc next : ℕ) → (slots_by p bubble xip pc next).nip.v ≡ false → bubble ≡ true
bubble_of p true xip pc next h = refl
bubble_of p false xip pc next h = absurd cc

valid_of : (p : Program) (bubble : Bool) (xip : Slot) (pc next : ℕ) → bubble ≡ false → (slots_by p bubble xip pc next).nip.v ≡ true
valid_of p true xip pc next h = absurd cc
valid_of p false xip pc next h = refl

valid_behind : (p : Program) (n before : ℕ) → n ≡ before + 1 → (xip_at p n).v ≡ true
unfolding xip_along
valid_behind p n before last = subst (λ (k : ℕ). (xip_at p k).v ≡ true) (sym last) (rw add-one refl)

behind_at : (r : Run) (m : Moment) → HasPast r m → (slots_at r.program m).nip.v ≡ false →
    IsBehind m.retired (slots_at r.program m)
behind_at r m past h =
    let s : State = state r.program m.retired in
    let behind = past.bubbled (bubble_of r.program m.bubble (xip_at r.program m.retired) s.pc s.next h) in
    record {
      some = let last = behind.last in omega (arith, last);
      xip = valid_behind r.program m.retired behind.before behind.last;
    }

-- a program ends by itself
ends_itself : (t : Bool) (turn : Turn) → (t ≡ true → is_stop turn ≡ true) →
    IfSome (if t then Some (end_of_turn turn) else None) IsProgramEnd
ends_itself false turn h = tt
ends_itself true (changes change) h = absurd (let e = h refl in cc)
ends_itself true (outputs byte) h = absurd (let e = h refl in cc)
ends_itself true (stops (exits at)) h = tt
ends_itself true (stops (by_vector vector at)) h = tt

-- and as each program of its image does
ends_alike : (t : Bool) (turn : Turn) (P : End → Type 0) → P (end_of_turn turn) → IfSome (if t then Some (end_of_turn turn) else None) P
ends_alike false turn P h = tt
ends_alike true turn P h = h

-- the status of a program that goes on, or has ended
either : (t : Bool) (a b w : ℕ) → a ≡ w → b ≡ w → (if t then a else b) ≡ w
either true a b w first second = first
either false a b w first second = second

-- the turn of a program at the state reached
ends_by : (q : Program) (r : Run) (m : Moment) (b : BoardView) → local_of b ≡ local_at r m →
    turn_by q (completed_of b) ≡ turn_by q (completed_state (state r.program m.retired))
unfolding local_of local_at
ends_by q r m b seen = ap (λ (l : Local). turn_by q l.completed) seen

-- what always holds of a board
pub kept_resumed : (r : Run) (m : Moment) (c : Context) (file : Registers) (control : ControlRegisters) →
    StandsFor r m c → AreResumed c file control → IsKept (resumed_board c file control)
kept_resumed r m c file control stands are =
    let s : State = state r.program m.retired in
    let slots = sym (slots_back r m c stands) in
    let status = stands.saved.epsr in
    let carry = ap (λ w. bit_at w carry_place == 1) (are.psr ∙ status) ∙ carry_back s.carry s.mxm in
    let mxm = ap (λ w. bit_at w 2 == 1) (are.psr ∙ status) ∙ mxm_back s.carry s.mxm in
    let ended = ap (λ (e : Option End). is_some e) stands.book.ended ∙ ended_is r.program m in
    let retired = stands.book.retired in
    let done = stands.book.done in
    let answers = stands.book.answers in
    let records = ap length stands.book.records in
    let out = ap length stands.book.out in
    let drained = stands.drained in
    let twice = twice_at_most r.program m.retired (is_program r m c stands) in
    let counted = stands.past.counted in
    let put_out = stands.past.put_out in
    let within = stands.past.within in
    let limit = stands.limit in
    let seen = looks r m c file control stands are in
    record {
      parts = record {
        few = omega arith;
        made = All-nil IsWordAccess;
        apart = tt;
        waiting = are.waiting ∙ none_wait_for_none;
        ready = All-nil (HasReadyPage (ready_of c.memory));
      };
      image = stands.is_image;
      slots = subst (SlotsAgree c.memory.image) slots
          (slots_agree c.memory.image r.program m.bubble (xip_at r.program m.retired) s.pc s.next stands.image (xip_back r.program m.retired));
      bubbled = subst (λ (x : Pointers). x.nip.v ≡ false → IsBehind c.book.retired x) slots
          (λ h. subst (λ (n : ℕ). IsBehind n (slots_at r.program m)) (sym retired) (behind_at r m stands.past h));
      unbubbled = subst (λ (x : Pointers). is_some c.book.end ≡ true → x.nip.v ≡ true) slots
          (λ h. valid_of r.program m.bubble (xip_at r.program m.retired) s.pc s.next (stands.past.unbubbled (sym ended ∙ h)));
      status = either (is_some c.book.end) control.epsr control.psr c.saved.epsr are.epsr are.psr
          ∙ status ∙ ap₂ status_of (sym carry) (sym mxm);
      drained = λ h. refl;
      made = omega (arith, retired, done, drained, twice);
      told = omega (arith, answers, records, done, counted);
      put_out = omega (arith, out, retired, put_out);
      within = omega (arith, retired, within, limit);
      early = λ h. let less = (stands.past.ended (sym ended ∙ h)).early in omega (arith, retired, less, limit);
      ends = subst (λ (e : Option End). IfSome e IsProgramEnd) (sym stands.book.ended)
          (ends_itself m.ended (turn_at r.program s) (λ h. (stands.past.ended h).next));
      ends_so = subst (λ (e : Option End). IfSome e (EndsSo (resumed_board c file control))) (sym stands.book.ended)
          (ends_alike m.ended (turn_at r.program s) (EndsSo (resumed_board c file control))
          (λ q of. ap end_of_turn (ends_by q r m (resumed_board c file control) seen ∙ same_turn c.memory.image r.program q s stands.image of)));
      small = stands.small;
      counted = stands.counted;
    }

-- a board whose parts come from a context
pub record ComesFrom (c : Context) (b : BoardView) : Type 0 where
  pub slots : b.slots ≡ pointers_in c
  pub pending : b.pending ≡ []
  pub memory : b.memory ≡ c.memory
  pub book : b.book ≡ c.book
  pub begun : b.begun ≡ false
  pub are : AreResumed c b.file b.control

-- is resumed from it
same_board : (c : Context) (b : BoardView) → ComesFrom c b → b ≡ resumed_board c b.file b.control
same_board c b from = λ i. record {
  slots = from.slots i;
  pending = from.pending i;
  file = b.file;
  memory = from.memory i;
  control = b.control;
  book = from.book i;
  begun = from.begun i;
}

-- so it is a board
pub kept_from : (c : Context) (b : BoardView) → StandsForSome c → ComesFrom c b → IsKept b
kept_from c b stands from =
    subst IsKept (sym (same_board c b from))
    (kept_resumed stands.0 stands.1 c b.file b.control stands.2 from.are)

-- at each moment for which the context stands
pub at_from : (r : Run) (m : Moment) (c : Context) (b : BoardView) → StandsFor r m c → ComesFrom c b → IsAt r m b
at_from r m c b stands from =
    subst (IsAt r m) (sym (same_board c b from)) (stands_at r m c b.file b.control stands from.are)

-- and has its words
status_from : (ended : Bool) (control : ControlRegisters) (w : ℕ) → control.psr ≡ w → control.epsr ≡ w →
    (if ended then control.epsr else control.psr) ≡ w
status_from ended control w psr epsr = either ended control.epsr control.psr w epsr psr

pub words_from : (c : Context) (b : BoardView) → ComesFrom c b → context_of b ≡ c
words_from c b from =
    let xip = ap (λ (x : Pointers). slot_word x.xip) from.slots ∙ word_back c.saved.sxip in
    let nip = ap (λ (x : Pointers). slot_word x.nip) from.slots ∙ word_back c.saved.snip in
    let fip = ap (λ (x : Pointers). slot_word x.fip) from.slots ∙ word_back c.saved.sfip in
    let status = status_from (is_some b.ended) b.control c.saved.epsr from.are.psr from.are.epsr in
    λ i. record {
      saved = record { regs = from.are.numbers i; epsr = status i; sxip = xip i; snip = nip i; sfip = fip i };
      memory = from.memory i;
      book = from.book i;
    }

-- r0 is 0
pub zero_in : (r : Run) (m : Moment) (c : Context) → StandsFor r m c →
    slice_index c.saved.regs 0 ≡ 0
zero_in r m c stands = ap (λ (regs : List ℕ). slice_index regs 0) stands.saved.regs ∙ zero_is r.program m.retired
