use Rattle.std.proofs.Common.{arith, ap, ◌∙◌}
use Rattle.std.specs.Prelude.{ℕ, ◌≡◌, ◌/◌, ◌^◌}
use Rattle.m88_isa.specs.Address.{after_bytes}
use Rattle.m88_isa.specs.Bus.{bus_after_all, stored}
use Rattle.m88_isa.specs.Memory.{access_of, store}
use Rattle.m88_emul.specs.Aid.{byte_stores, places_from}
use Rattle.m88_emul.specs.Inside.Places.{AreOpen}
use Rattle.m88_mem.specs.DataBus.{bus_of}
use Rattle.m88_emul.proofs.bytes.put_word.Goals as goal

pub put_byte-requires : goal.put_byte-requires
unfolding AreOpen places_from
put_byte-requires c = c.requires.0

pub put_byte-requires-2 : goal.put_byte-requires-2
unfolding AreOpen places_from
put_byte-requires-2 c = rw (c.put_byte.ensures.ready, c.put_byte.ensures.absent) c.requires.1.0

pub put_byte-requires-3 : goal.put_byte-requires-3
unfolding AreOpen places_from
put_byte-requires-3 c = rw (c.put_byte-2.ensures.ready, c.put_byte-2.ensures.absent, c.put_byte.ensures.ready, c.put_byte.ensures.absent) c.requires.1.1.0

pub put_byte-requires-4 : goal.put_byte-requires-4
unfolding AreOpen places_from
put_byte-requires-4 c =
    rw (c.put_byte-3.ensures.ready, c.put_byte-3.ensures.absent, c.put_byte-2.ensures.ready, c.put_byte-2.ensures.absent, c.put_byte.ensures.ready, c.put_byte.ensures.absent)
    c.requires.1.1.1.0

pub returns : goal.returns
unfolding bus_after_all byte_stores places_from
returns c =
    let v : ℕ = c.args.value in
    let a : ℕ = c.args.place in
    let b : ℕ = after_bytes a 1 in
    let d : ℕ = after_bytes b 1 in
    let e : ℕ = after_bytes d 1 in
    let last : v ≡ v / 2 ^ 0 = omega arith in
    let first = c.put_byte.ensures in
    let second = c.put_byte-2.ensures in
    let third = c.put_byte-3.ensures in
    let fourth = c.put_byte-4.ensures in
    record {
      bus =
          fourth.bus
          ∙ ap (stored (access_of (store 1 v e)))
          (third.bus
          ∙ ap (stored (access_of (store 1 (v / 2 ^ 8) d)))
          (second.bus ∙ ap (stored (access_of (store 1 (v / 2 ^ 16) b))) first.bus))
          ∙ ap (λ (x : ℕ). stored (access_of (store 1 x e))
          (stored (access_of (store 1 (v / 2 ^ 8) d))
          (stored (access_of (store 1 (v / 2 ^ 16) b)) (stored (access_of (store 1 (v / 2 ^ 24) a)) (bus_of c.args.memory.now))))) last;
      image = fourth.image ∙ third.image ∙ second.image ∙ first.image;
      ready = fourth.ready ∙ third.ready ∙ second.ready ∙ first.ready;
      absent = fourth.absent ∙ third.absent ∙ second.absent ∙ first.absent;
    }
