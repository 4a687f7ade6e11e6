-- Worked runs with MXM set, and with pages that vanish while half of an access is pending, computed by the definitions.
use Rattle.std.specs.Prelude.{true, List, [], ◌∷◌, ◌≡◌, map}
use Rattle.std.proofs.Common.{refl}
use Rattle.m88_base.specs.RegisterSet as set
use Rattle.m88_base.specs.Triple.{no_triple}
use Rattle.m88_isa.specs.Bus.{in_words, waits_for}
use Rattle.m88_isa.specs.Held.{busy_register, first_from}
use Rattle.m88_isa.specs.History.{transactions}
use Rattle.m88_isa.specs.Machine.{opening, state}
use Rattle.m88_isa.specs.Operands.{uses_of, writes_of}
use Rattle.m88_isa.specs.declared.instr.ImmOp.TheVariants as immop
use Rattle.m88_isa.specs.declared.instr.MemOp.TheVariants as memop
use Rattle.m88_event.specs.Letters.{letter_at}
use Rattle.m88_event.specs.Run.{moment_along}
use Rattle.m88_event.specs.Situation.{record_of}
use Rattle.m88_event.specs.Timeline.{after_letter, situation_at, xip_along}
use Rattle.m88_event.specs.declared.letter.Letter.TheVariants.{Issue as i, Answer as r, Evict as e}
use Rattle.m88_event.proofs.Worked.{Worked, came, fault, im, limited, mem, plain_run, triple}

worked : List Worked
worked =
    -- a load that isn't aligned, rounded down, and the same as its page is absent
    record (plain_run (mem memop.Ld 2 0x2002 ∷ []) 1
    (limited 3 1 ((2, 0x11223344) ∷ []) 1)) { mxm = true; bytes = 0x11 ∷ 0x22 ∷ 0x33 ∷ 0x44 ∷ [] }
    ∷ record (plain_run (mem memop.Ld 2 0x2002 ∷ []) 1
    (record (limited 2 1 ((2, 0x11223344) ∷ []) 0) { records = record (fault 2 0x1002 0x1007 0x100B 4 (triple 0x13D 0 0x2000 ∷ no_triple ∷ no_triple ∷ [])) { epsr = 0x3FC } ∷ [] })) { mxm = true; bytes = 0x11 ∷ 0x22 ∷ 0x33 ∷ 0x44 ∷ []; pages = 2 ∷ []; schedule = i ∷ r ∷ [] }
    -- the second half of a double, and of an exchange, alone meets an absent page
    ∷ record (plain_run (mem memop.LdD 2 0x2000 ∷ []) 1
    (record (limited 4 1 ((2, 0x11223344) ∷ (3, 0x55667788) ∷ []) 1) { records = fault 4 0x1002 0x1007 0x100B 8 (triple 0x1BD 0 0x2004 ∷ no_triple ∷ no_triple ∷ []) ∷ [] })) { bytes = 0x11 ∷ 0x22 ∷ 0x33 ∷ 0x44 ∷ 0x55 ∷ 0x66 ∷ 0x77 ∷ 0x88 ∷ []; schedule = i ∷ r ∷ e ∷ r ∷ [] }
    ∷ record (plain_run (im immop.Or 2 0 5 ∷ mem memop.Xmem 2 0x5000 ∷ []) 2
    (record (limited 5 2 [] 1) { words = (0x5000, 5) ∷ []; records = fault 5 0x1006 0x100B 0x100F 0 (triple 0x103F 5 0x5000 ∷ no_triple ∷ no_triple ∷ []) ∷ [] })) { schedule = i ∷ i ∷ r ∷ e ∷ r ∷ [] }
    ∷ []

as_by_hand : map came worked ≡ map (λ w. w.comes) worked
unfolding worked moment_along after_letter situation_at record_of xip_along letter_at state opening transactions waits_for busy_register first_from uses_of writes_of in_words set.bits_below
as_by_hand = refl
