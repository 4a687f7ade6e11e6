-- What a line says is added to the draft, or its fault is the fault of the source.
use Rattle.std.proofs.Common.{ℕ, List, ap, sym, ◌∙◌, arith, map}
use Rattle.std.proofs.lemmas.Bool.{eqb-true}
use Rattle.std.proofs.lemmas.List.{length-map}
use Rattle.std.proofs.lemmas.Result.{err_from_is_err_and}
use Rattle.m88_parse.specs.Language.Pieces.{Piece}
use Rattle.m88_parse.specs.Inside.Source.{end_of_line}
use Rattle.m88_parse.specs.Inside.State.{ReaderState}
use Rattle.m88_parse.specs.Inside.Tokens.{piece_in}
use Rattle.m88_parse.proofs.GrowingUnit.{uncut_line, no_tokens, some_left, line_read}
use Rattle.m88_parse.proofs.source.read_line.Goals as goal

pub returns-in_err-cut_line : goal.returns-in_err-cut_line
returns-in_err-cut_line c =
    let p = err_from_is_err_and c.from_residual.result c.from_residual.ensures.1 in
    rw (p.1, p.2)
    (uncut_line c.args.number c.args.line.now c.args.draft.now c.in_err-cut_line.field-0.0
    c.in_err-cut_line.ensures.cuts)

pub returns-then-is_empty : goal.returns-then-is_empty
returns-then-is_empty c =
    let tokens = c.cut_line.new.out in
    let piece = piece_in c.args.line.now in
    let none = eqb-true _ 0 (sym c.is_empty.ensures ∙ c.if-is_empty.true) in
    no_tokens c.args.number c.args.line.now c.args.draft.now (map piece tokens.items) c.in_ok-cut_line.ensures.cuts
    (omega (arith, length-map tokens.items piece, tokens.ok.0, none))

pub returns : goal.returns
returns c =
    let tokens = c.cut_line.new.out in
    let piece = piece_in c.args.line.now in
    let ps = map piece tokens.items in
    let some = some_left _ (sym c.is_empty.ensures ∙ c.if-is_empty.false) in
    let made : ℕ → List Piece → ReaderState = λ n ps. record { line = c.args.number; end_col = n; rest = ps } in
    let end = c.end_of_line-end_col.ensures ∙ ap (λ l. end_of_line (map piece l)) c.deref.ensures.value in
    line_read c.row.result c.args.number c.args.line.now c.row.new.draft c.args.draft.now ps c.new.result
    c.in_ok-cut_line.ensures.cuts
    (omega (arith, length-map tokens.items piece, tokens.ok.0, some))
    (c.new.ensures ∙ ap (λ l. made c.end_of_line-end_col.result (map piece l)) c.deref-2.ensures.value
    ∙ ap (λ n. made n ps) end)
    c.row.ensures.said c.row.ensures.fault
