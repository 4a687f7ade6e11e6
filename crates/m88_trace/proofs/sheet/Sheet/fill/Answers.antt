-- The datum of the oldest is written.
use Rattle.std.proofs.Common.{arith, ap, drop, refl, sym, ◌≡◌, ◌<◌, ◌∷◌, ◌∙◌, List, length}
use Rattle.m88_base.specs.Hex.{hex8}
use Rattle.m88_trace.proofs.Writing.{filled_by, first_removed, items_put, made_left, none_filled, room_filled, room_first, vec_empty, vec_some}
use Rattle.m88_trace.specs.Inside.Sheets.{waiting_accesses}
use Rattle.m88_trace.specs.declared.waiting.Waiting.{Waiting}
use Rattle.m88_trace.proofs.sheet.Sheet.fill.Goals as goal

pub returns-then-is_empty : goal.returns-then-is_empty
returns-then-is_empty c =
    let s = c.args.self.now in
    let none = vec_empty s.waiting.len s.waiting.items c.is_empty.result c.is_empty.ensures c.if-is_empty.true
    (omega arith) in
    record {
      text = λ bus values are. none_filled s.text.items s.waiting.items bus none;
      waiting = rw none refl;
      made = c.requires;
    }

pub returns : goal.returns
returns c =
    let s = c.args.self.now in
    let w = c.remove-at.result in
    let left = c.remove-at.new.self.items in
    let some : 0 < length s.waiting.items =
    vec_some s.waiting.len s.waiting.items c.is_empty.result c.is_empty.ensures c.if-is_empty.false (omega arith) in
    let first : s.waiting.items ≡ w ∷ left =
    first_removed s.waiting.items w some c.remove-at.ensures.value
    ∙ ap (λ (ws : List Waiting). w ∷ ws) (sym c.remove-at.ensures.items) in
    let put = items_put s.text c.deref_mut.result.now c.copy_from_slice.new.self (hex8 c.args.datum) w.at (omega arith)
    c.deref_mut.ensures.value (c.copy_from_slice.ensures.after ∙ c.word_digits.ensures) refl
    (room_first (length s.text.items) s.waiting.items left w first c.requires.room) in
    record {
      text = λ bus values are. filled_by s.text.items _ s.waiting.items left w c.args.datum values bus first put are;
      waiting = sym (ap (λ (ws : List Waiting). drop 1 (waiting_accesses ws)) first);
      made = record {
        words = made_left s.waiting.items left w first c.requires.words;
        room = room_filled s.text.items _ s.waiting.items left w c.args.datum first put c.requires.room;
      };
    }
