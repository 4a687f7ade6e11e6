-- The line stands behind the others.
use Rattle.std.proofs.Common.{sym}
use Rattle.std.proofs.lemmas.List.{append-nil}
use Rattle.m88_base.specs.Lines.{line_end}
use Rattle.m88_trace.proofs.Writing.{more_by, more_two, room_by, room_two, three_parts}
use Rattle.m88_trace.specs.Inside.Sheets.{text_by, sheet_accesses, sheet_text}
use Rattle.m88_trace.specs.Lines.{head_text, output_text}
use Rattle.m88_trace.proofs.sheet.Sheet.put_out.Goals as goal

pub returns : goal.returns
returns c =
    let s = c.args.self.now in
    let next = c.args.next.now in
    let head = head_text next.number next.at c.args.word in
    let output = output_text c.args.byte in
    let headed = c.push_head.new.text.items in
    let told = c.push_output.new.text.items in
    let ended = c.push_line_end.new.text.items in
    let room =
    room_two s.text.items headed told head output s.waiting.items c.requires.made.room c.in_ok-push_head.ensures
    c.in_ok-push_output.ensures in
    record {
      text = λ bus.
          three_parts (sheet_text s bus) head output line_end (text_by told s.waiting.items bus)
          (text_by ended s.waiting.items bus)
          (more_two s.text.items headed told head output s.waiting.items bus c.requires.made.room
          c.in_ok-push_head.ensures c.in_ok-push_output.ensures)
          (more_by told ended line_end s.waiting.items bus room c.in_ok-push_line_end.ensures);
      waiting = sym (append-nil (sheet_accesses s));
      made = record {
        words = c.requires.made.words;
        room = room_by told ended line_end s.waiting.items room c.in_ok-push_line_end.ensures;
      };
    }
