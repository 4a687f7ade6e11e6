-- The control registers ("Control Registers"; "Exception Processing" for what an exception and a return from it do to
-- them). Their numbers, the bits of PSR and its start value are this project's profile, as are that PID can't be
-- written and that bit 0 of SSBR is never set.
use Rattle.std.specs.Prelude.{ℕ, Bool, ◌+◌, ◌*◌, ◌/◌, ◌%◌, ◌^◌, ◌==◌, List, [], ◌∷◌, bit_or, slice_index_or, if◌then◌else◌}
use Rattle.std.specs.Int.{bit_at}
use Rattle.m88_base.specs.declared.triple.Triple.{Triple}
use Rattle.m88_base.specs.Triple.{no_triple}
use Rattle.m88_ctrl.specs.declared.frame.Frame.{Frame}
use Rattle.m88_ctrl.specs.declared.frame.Restart.{Restart}

-- the control registers, each a word: the processor's identification, its status and the one that an exception saves,
-- the scoreboard and the instruction pointers that it saves, the base of the handlers' addresses, the words of three
-- data transactions, of which t0 is the oldest, and the supervisor's storage
pub record ControlRegisters : Type 0 where
  pub pid : ℕ
  pub psr : ℕ
  pub epsr : ℕ
  pub ssbr : ℕ
  pub sxip : ℕ
  pub snip : ℕ
  pub sfip : ℕ
  pub vbr : ℕ
  pub t2 : Triple
  pub t1 : Triple
  pub t0 : Triple
  pub sr0 : ℕ
  pub sr1 : ℕ
  pub sr2 : ℕ
  pub sr3 : ℕ

-- the registers by their numbers, cr0 to cr20
abbrev pub by_number : ControlRegisters → List ℕ
by_number c =
    c.pid
    ∷ c.psr
    ∷ c.epsr
    ∷ c.ssbr
    ∷ c.sxip
    ∷ c.snip
    ∷ c.sfip
    ∷ c.vbr
    ∷ c.t2.dmt
    ∷ c.t2.dmd
    ∷ c.t2.dma
    ∷ c.t1.dmt
    ∷ c.t1.dmd
    ∷ c.t1.dma
    ∷ c.t0.dmt
    ∷ c.t0.dmd
    ∷ c.t0.dma
    ∷ c.sr0
    ∷ c.sr1
    ∷ c.sr2
    ∷ c.sr3
    ∷ []

-- the words of a transaction by its place, 0 the oldest
abbrev pub triples_by_age : ControlRegisters → List Triple
triples_by_age c = c.t0 ∷ c.t1 ∷ c.t2 ∷ []

-- bits of PSR ("Control Registers"). MODE: the supervisor's mode
abbrev pub mode_bit : ℕ
mode_bit = 2 ^ 31

-- the place of C, the carry, counted from bit 0
abbrev pub carry_place : ℕ
carry_place = 28

-- SFD1: the first special function unit is off
abbrev pub sfd1_bit : ℕ
sfd1_bit = 2 ^ 3

-- the place of MXM, counted from bit 0: accesses that aren't aligned are rounded down
abbrev pub mxm_place : ℕ
mxm_place = 2

-- IND: interrupts are off
abbrev pub ind_bit : ℕ
ind_bit = 2 ^ 1

-- SFRZ: the shadow registers are frozen
abbrev pub sfrz_bit : ℕ
sfrz_bit = 2 ^ 0

-- the bits that an exception sets
abbrev pub exception_bits : ℕ
exception_bits = mode_bit + sfd1_bit + ind_bit + sfrz_bit

-- at the start PSR is 0x3F8, or 0x3FC with MXM set: the user's mode, carry clear
abbrev pub at_start : Bool → ControlRegisters
at_start mxm = record {
  pid = 0;
  psr = 0x3F8 + (if mxm then 2 ^ mxm_place else 0);
  epsr = 0;
  ssbr = 0;
  sxip = 0;
  snip = 0;
  sfip = 0;
  vbr = 0;
  t2 = no_triple;
  t1 = no_triple;
  t0 = no_triple;
  sr0 = 0;
  sr1 = 0;
  sr2 = 0;
  sr3 = 0;
}

-- the carry, a bit of PSR
abbrev pub carry_of : ControlRegisters → Bool
carry_of c = bit_at c.psr carry_place == 1

-- MXM, a bit of PSR
abbrev pub mxm_of : ControlRegisters → Bool
mxm_of c = bit_at c.psr mxm_place == 1

-- a status word with the carry set or cleared, and its other bits as they are
abbrev pub with_carry : Bool → ℕ → ℕ
with_carry carry psr =
    psr / 2 ^ (carry_place + 1) * 2 ^ (carry_place + 1) + (if carry then 2 ^ carry_place else 0) + psr % 2 ^ carry_place

-- what a register keeps of a word that is stored into it: SSBR, cr3, clears bit 0
abbrev pub kept_of : ℕ → ℕ → ℕ
kept_of number value = if number == 3 then value / 2 * 2 else value

-- the registers after an exception: EPSR has what PSR had, PSR gains the bits of an exception, and the frame fills its
-- registers
abbrev pub entered : Frame → ControlRegisters → ControlRegisters
entered frame c = record c {
  psr = bit_or c.psr exception_bits;
  epsr = c.psr;
  ssbr = frame.ssbr;
  sxip = frame.sxip;
  snip = frame.snip;
  sfip = frame.sfip;
  t2 = slice_index_or frame.triples 2 no_triple;
  t1 = slice_index_or frame.triples 1 no_triple;
  t0 = slice_index_or frame.triples 0 no_triple;
}

-- the address of a vector's handler, two words for each, modulo 2^32
abbrev pub handler_of : ℕ → ℕ → ℕ
handler_of vbr vector = (vbr + 8 * vector) % 2 ^ 32

-- the registers after a return from an exception
abbrev pub returned : ControlRegisters → ControlRegisters
returned c = record c { psr = c.epsr }

-- what a return from an exception hands back
abbrev pub restart_of : ControlRegisters → Restart
restart_of c = record { ssbr = c.ssbr; snip = c.snip; sfip = c.sfip }
