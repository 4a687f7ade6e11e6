-- The line stands behind the others, with room for the data of its accesses.
use Rattle.std.proofs.Common.{List, ℕ, ap, arith, sym, ◌++◌, ◌∙◌}
use Rattle.std.proofs.lemmas.List.{append-nil}
use Rattle.m88_base.specs.Lines.{line_end}
use Rattle.m88_isa.specs.Bus.{bus_after_all}
use Rattle.m88_isa.specs.declared.planned.Access.{Access}
use Rattle.m88_trace.proofs.Joined.{line_alone, line_by, listed_none, waits_by}
use Rattle.m88_trace.proofs.Writing.{more_by, room_by}
use Rattle.m88_trace.specs.Inside.Sheets.{text_by, sheet_accesses, sheet_text}
use Rattle.m88_trace.specs.Lines.{head_text, written_text}
use Rattle.m88_trace.proofs.sheet.Sheet.issue.Goals as goal

pub returns-then-effect-eq0 : goal.returns-then-effect-eq0
returns-then-effect-eq0 c =
    let s = c.args.self.now in
    let next = c.args.next.now in
    let accesses = c.args.effect.now.accesses in
    let head = head_text next.number next.at c.args.word in
    let written = written_text c.args.effect.now.reg in
    let line = head ++ written ++ line_end in
    let new = c.push_line.new.text.items in
    let none = c.if-effect-eq0.true in
    record {
      text = λ bus.
          more_by s.text.items new line s.waiting.items bus c.requires.made.room c.in_ok-push_line.ensures
          ∙ ap (λ (xs : List ℕ). sheet_text s bus ++ xs)
          (line_alone accesses (bus_after_all (sheet_accesses s) bus) head written none);
      waiting =
          sym (ap (λ (xs : List Access). sheet_accesses s ++ xs) (listed_none accesses none)
          ∙ append-nil (sheet_accesses s));
      made = record {
        words = c.requires.made.words;
        room = room_by s.text.items new line s.waiting.items c.requires.made.room c.in_ok-push_line.ensures;
      };
    }

pub returns : goal.returns
returns c =
    let s = c.args.self.now in
    let next = c.args.next.now in
    let effect = c.args.effect.now in
    let begun = c.in_ok-begin.ensures in
    let t = c.open_second.new.self in
    let opened = c.in_ok-open_second.ensures in
    let new = c.push_line_end.new.text.items in
    record {
      text = λ bus.
          line_by (sheet_text s bus) (sheet_text c.begin.new.self bus) (sheet_text t bus)
          (text_by new t.waiting.items bus) (head_text next.number next.at c.args.word) (written_text effect.reg)
          (sheet_accesses s) (sheet_accesses c.begin.new.self) effect.accesses bus (omega arith) (begun.text bus) begun.waiting
          (opened.text bus)
          (more_by t.text.items new line_end t.waiting.items bus opened.made.room c.in_ok-push_line_end.ensures);
      waiting =
          waits_by (sheet_accesses s) (sheet_accesses c.begin.new.self) (sheet_accesses t) effect.accesses (omega arith)
          begun.waiting opened.waiting;
      made = record {
        words = opened.made.words;
        room = room_by t.text.items new line_end t.waiting.items opened.made.room c.in_ok-push_line_end.ensures;
      };
    }
