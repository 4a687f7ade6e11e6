use Rattle.std.proofs.Common.{arith, ap, ◌∙◌}
use Rattle.std.specs.Prelude.{ℕ, ◌≡◌, ◌/◌, ◌^◌}
use Rattle.m88_isa.specs.Address.{after_bytes}
use Rattle.m88_isa.specs.Bus.{bus_after_all, stored}
use Rattle.m88_isa.specs.Memory.{access_of, store}
use Rattle.m88_emul.specs.Aid.{byte_stores, places_from}
use Rattle.m88_emul.specs.Inside.Places.{AreOpen}
use Rattle.m88_mem.specs.DataBus.{bus_of}
use Rattle.m88_emul.proofs.bytes.put_half.Goals as goal

pub put_byte-requires : goal.put_byte-requires
unfolding AreOpen places_from
put_byte-requires c = c.requires.0

pub put_byte-requires-2 : goal.put_byte-requires-2
unfolding AreOpen places_from
put_byte-requires-2 c = rw (c.put_byte.ensures.ready, c.put_byte.ensures.absent) c.requires.1.0

pub returns : goal.returns
unfolding bus_after_all byte_stores places_from
returns c =
    let b : ℕ = after_bytes c.args.place 1 in
    let last : c.args.value ≡ c.args.value / 2 ^ 0 = omega arith in
    let first = c.put_byte.ensures in
    let second = c.put_byte-2.ensures in
    record {
      bus =
          second.bus
          ∙ ap (stored (access_of (store 1 c.args.value b))) first.bus
          ∙ ap (λ (v : ℕ). stored (access_of (store 1 v b)) (stored (access_of (store 1 (c.args.value / 2 ^ 8) c.args.place)) (bus_of c.args.memory.now))) last;
      image = second.image ∙ first.image;
      ready = second.ready ∙ first.ready;
      absent = second.absent ∙ first.absent;
    }
