-- Its first access waits behind the others, with room for its datum.
use Rattle.std.proofs.Common.{List, ◌++◌, ◌-◌, ◌∙◌, ap, append_assoc, arith, codes, refl, sym, subst, ℕ}
use Rattle.m88_base.specs.Hex.{hex8}
use Rattle.m88_isa.specs.Bus.{bus_after_all}
use Rattle.m88_isa.specs.declared.planned.Access.{Access}
use Rattle.m88_trace.proofs.Joined.{begun_put}
use Rattle.m88_trace.proofs.Writing.{accesses_by, made_more, open_by, opened_at, opened_long, room_by_open}
use Rattle.m88_trace.specs.Inside.Sheets.{AllWordAccesses, sheet_accesses, sheet_text}
use Rattle.m88_trace.specs.Lines.{access_head, datum_by, head_text, written_text}
use Rattle.m88_trace.specs.declared.waiting.Waiting.{Waiting}
use Rattle.m88_trace.proofs.sheet.Sheet.begin.Goals as goal

pub overflow_sub-at : goal.overflow_sub-at
overflow_sub-at c =
    let s = c.args.self.now in
    let next = c.args.next.now in
    let effect = c.args.effect.now in
    let head = head_text next.number next.at c.args.word in
    let written = written_text effect.reg in
    let new = c.push_begun.new.text.items in
    let put = begun_put s.text.items head written (access_head effect.accesses.first) (codes "????????") new
    c.in_ok-push_begun.ensures in
    opened_long s.text.items (head ++ written ++ access_head effect.accesses.first) (codes "????????") new
    c.len-at.result (put ∙ append_assoc s.text.items (head ++ written ++ access_head effect.accesses.first)
    (codes "????????"))
    refl (omega arith)

pub returns : goal.returns
returns c =
    let s = c.args.self.now in
    let next = c.args.next.now in
    let a = c.args.effect.now.accesses.first in
    let head = head_text next.number next.at c.args.word in
    let written = written_text c.args.effect.now.reg in
    let all = head ++ written ++ access_head a in
    let w : Waiting = record { access = a; at = c.len-at.result - 8 } in
    let new = c.push_begun.new.text.items in
    let put = begun_put s.text.items head written (access_head a) (codes "????????") new c.in_ok-push_begun.ensures in
    let at = opened_at (s.text.items ++ all) (codes "????????") new c.len-at.result put refl (omega arith) in
    let waits = accesses_by s.waiting.items c.push_waiting.new.list.items w a c.in_ok-push_waiting.ensures refl in
    record {
      text = λ bus.
          open_by s.text.items all (codes "????????") (s.text.items ++ all) new
          s.waiting.items c.push_waiting.new.list.items w bus c.requires.made.room c.in_ok-push_waiting.ensures
          refl at put refl
          ∙ ap (λ (xs : List ℕ). sheet_text s bus ++ xs)
          (append_assoc (head ++ written) (access_head a) (hex8 (datum_by a (bus_after_all (sheet_accesses s) bus))));
      waiting = waits;
      made = record {
        words = subst (λ (xs : List Access). AllWordAccesses xs) (sym waits)
            (made_more (sheet_accesses s) a c.requires.made.words c.requires.word);
        room =
            room_by_open s.text.items all (codes "????????") (s.text.items ++ all) new
            s.waiting.items c.push_waiting.new.list.items w c.requires.made.room c.in_ok-push_waiting.ensures
            refl at put refl;
      };
    }
