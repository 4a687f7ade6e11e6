use Rattle.std.proofs.Common.{ap, sym, ◌∙◌}
use Rattle.std.specs.Prelude.{map}
use Rattle.m88_isa.specs.Address.{after_bytes}
use Rattle.m88_isa.specs.Bus.{bus_after_all}
use Rattle.m88_isa.specs.Memory.{access_of}
use Rattle.m88_mem.specs.DataBus.{absent_of, bus_of, ready_of}
use Rattle.m88_emul.proofs.OpenPlaces.{first_word_open, second_word_open}
use Rattle.m88_emul.proofs.Mending.{both_stored}
use Rattle.m88_emul.specs.Aid.{byte_stores, places_from}
use Rattle.m88_emul.proofs.bytes.put_double.Goals as goal

pub put_word-requires : goal.put_word-requires
put_word-requires c = first_word_open (ready_of c.args.memory.now) (absent_of c.args.memory.now) c.args.place c.requires

pub put_word-requires-2 : goal.put_word-requires-2
put_word-requires-2 c =
    rw (c.put_word.ensures.ready, c.put_word.ensures.absent)
    (second_word_open (ready_of c.args.memory.now) (absent_of c.args.memory.now) c.args.place c.requires)

pub returns : goal.returns
returns c =
    let first = byte_stores c.args.first (places_from c.args.place 4) in
    let second = byte_stores c.args.second (places_from (after_bytes c.args.place 4) 4) in
    record {
      bus =
          c.put_word-2.ensures.bus ∙ ap (bus_after_all (map access_of second)) c.put_word.ensures.bus
          ∙ sym (both_stored first second (bus_of c.args.memory.now));
      image = c.put_word-2.ensures.image ∙ c.put_word.ensures.image;
      ready = c.put_word-2.ensures.ready ∙ c.put_word.ensures.ready;
      absent = c.put_word-2.ensures.absent ∙ c.put_word.ensures.absent;
    }
