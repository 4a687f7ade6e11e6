-- It waits behind the others, with room for its datum.
use Rattle.std.proofs.Common.{List, ◌++◌, ◌-◌, ◌∙◌, append_assoc, arith, codes, refl, sym, subst}
use Rattle.m88_isa.specs.declared.planned.Access.{Access}
use Rattle.m88_trace.proofs.Writing.{accesses_by, made_more, open_by, opened_at, opened_long, room_by_open}
use Rattle.m88_trace.specs.Inside.Sheets.{AllWordAccesses, sheet_accesses}
use Rattle.m88_trace.specs.Lines.{access_head}
use Rattle.m88_trace.specs.declared.waiting.Waiting.{Waiting}
use Rattle.m88_trace.proofs.sheet.Sheet.open.Goals as goal

pub overflow_sub-at : goal.overflow_sub-at
overflow_sub-at c =
    opened_long c.args.self.now.text.items (access_head c.args.access.now) (codes "????????") c.push_open.new.text.items
    c.len-at.result c.in_ok-push_open.ensures refl (omega arith)

pub returns : goal.returns
returns c =
    let s = c.args.self.now in
    let a = c.args.access.now in
    let w : Waiting = record { access = a; at = c.len-at.result - 8 } in
    let next = c.push_open.new.text.items in
    let put = c.in_ok-push_open.ensures ∙ sym (append_assoc s.text.items (access_head a) (codes "????????")) in
    let at = opened_at (s.text.items ++ access_head a) (codes "????????") next c.len-at.result put refl (omega arith) in
    let waits = accesses_by s.waiting.items c.push_waiting.new.list.items w a c.in_ok-push_waiting.ensures refl in
    record {
      text = λ bus.
          open_by s.text.items (access_head a) (codes "????????") (s.text.items ++ access_head a) next
          s.waiting.items c.push_waiting.new.list.items w bus c.requires.made.room c.in_ok-push_waiting.ensures
          refl at put refl;
      waiting = waits;
      made = record {
        words = subst (λ (xs : List Access). AllWordAccesses xs) (sym waits)
            (made_more (sheet_accesses s) a c.requires.made.words c.requires.word);
        room =
            room_by_open s.text.items (access_head a) (codes "????????") (s.text.items ++ access_head a) next
            s.waiting.items c.push_waiting.new.list.items w c.requires.made.room c.in_ok-push_waiting.ensures
            refl at put refl;
      };
    }
