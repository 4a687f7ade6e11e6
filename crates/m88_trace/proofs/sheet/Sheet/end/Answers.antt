-- The line stands behind the others.
use Rattle.std.proofs.Common.{sym}
use Rattle.std.proofs.lemmas.List.{append-nil}
use Rattle.m88_event.specs.EndText.{run_end_line}
use Rattle.m88_trace.proofs.Writing.{more_by, room_by}
use Rattle.m88_trace.specs.Inside.Sheets.{sheet_accesses}
use Rattle.m88_trace.proofs.sheet.Sheet.end.Goals as goal

pub returns : goal.returns
returns c =
    let s = c.args.self.now in
    let line = run_end_line c.args.end in
    let ended = c.push_end.new.text.items in
    record {
      text = λ bus. more_by s.text.items ended line s.waiting.items bus c.requires.made.room c.in_ok-push_end.ensures;
      waiting = sym (append-nil (sheet_accesses s));
      made = record {
        words = c.requires.made.words;
        room = room_by s.text.items ended line s.waiting.items c.requires.made.room c.in_ok-push_end.ensures;
      };
    }
