-- The words of a piece of code, and the bytes of one that is none.
use Rattle.std.proofs.Common.{◌∙◌, sym}
use Rattle.m88_sourcing.proofs.Piecing.{code_cut, code_piece, cut_ends, loose_piece, stays_whole, whole_piece, words_stand}
use Rattle.m88_sourcing.proofs.pieces.push_piece.Goals as goal

pub stretch_len-own-requires-clause-whole : goal.stretch_len-own-requires-clause-whole
stretch_len-own-requires-clause-whole c = λ a stays.
    stays_whole c.requires.outlined.0 a ((c.requires.outlined.1.stays a).0 stays)

pub push_code-requires-clause-stand : goal.push_code-requires-clause-stand
push_code-requires-clause-stand c =
    let first = sym c.is_in_code.ensures ∙ c.if-is_in_code.true in
    words_stand c.args.image.now c.requires.outlined.0 c.args.at c.stretch_len-own.result c.args.bytes.now
    (c.requires.whole first)
    (code_cut c.args.image.now c.requires.outlined.0 c.args.outline.now c.args.at c.piece_len-len.result
    c.stretch_len-own.result c.args.bytes.now c.requires.outlined.1 first c.piece_len-len.ensures.piece
    c.stretch_len-own.ensures)

pub returns-then-is_in_code-clause-lines : goal.returns-then-is_in_code-clause-lines
returns-then-is_in_code-clause-lines c = λ said is.
    let first = sym c.is_in_code.ensures ∙ c.if-is_in_code.true in
    let cut =
    code_cut c.args.image.now said c.args.outline.now c.args.at c.piece_len-len.result c.stretch_len-own.result
    c.args.bytes.now is first c.piece_len-len.ensures.piece c.stretch_len-own.ensures in
    code_piece c.args.image.now said c.args.at c.stretch_len-own.result c.args.bytes.now c.args.text.now.items
    c.push_place.new.text.items c.push_code.new.text.items
    (whole_piece c.args.image.now said c.args.at c.stretch_len-own.result c.args.bytes.now (c.requires.whole first)
    c.requires.end cut
    (cut_ends c.args.image.now said c.args.outline.now c.args.at c.piece_len-len.result c.stretch_len-own.result
    c.args.bytes.now is c.piece_len-len.ensures.piece.within c.piece_len-len.ensures.whole c.stretch_len-own.ensures))
    cut c.in_ok-push_place.ensures (c.in_ok-push_code.ensures said is)

pub returns-then-is_in_code-clause-whole : goal.returns-then-is_in_code-clause-whole
returns-then-is_in_code-clause-whole c =
    cut_ends c.args.image.now c.requires.outlined.0 c.args.outline.now c.args.at c.piece_len-len.result
    c.stretch_len-own.result c.args.bytes.now c.requires.outlined.1 c.piece_len-len.ensures.piece.within
    c.piece_len-len.ensures.whole c.stretch_len-own.ensures

pub returns-clause-lines : goal.returns-clause-lines
returns-clause-lines c = λ said is.
    loose_piece c.args.image.now said c.args.outline.now c.args.at c.piece_len-len.result c.args.bytes.now
    c.args.text.now.items c.push_place.new.text.items c.push_loose.new.text.items is
    (sym c.is_in_code.ensures ∙ c.if-is_in_code.false) c.piece_len-len.ensures.piece c.in_ok-push_place.ensures
    (c.in_ok-push_loose.ensures c.args.image.now said is)
