-- The load, its marks, its register and the place, one behind the other.
use Rattle.std.proofs.Common.{◌∙◌, ◌++◌, ℕ, List, ap}
use Rattle.std.specs.Prelude.{codes, decimal}
use Rattle.m88_base.specs.Reg.{number_of}
use Rattle.m88_serving.specs.Served.{load_text, mark, first_byte_of, size_text, there_text}
use Rattle.m88_serving.proofs.Texts.{part_more}
use Rattle.m88_serving.proofs.text.push_load.Goals as goal

pub returns : goal.returns
unfolding load_text
returns c =
    let text : List ℕ = c.args.text.now.items in
    let en : ℕ = c.args.access.now.en in
    let signed : List ℕ = codes " load" ++ mark (codes " signed") c.args.access.now.signed in
    let sized : List ℕ = signed ++ size_text en ++ codes " r" in
    let number : List ℕ = decimal (number_of c.args.access.now.reg) in
    part_more text (sized ++ number) (there_text (codes " from ") (first_byte_of c.args.access.now) c.args.datum) _ _
    (part_more text sized number _ _
    (part_more text (signed ++ size_text en) (codes " r") _ _
    (part_more text signed (size_text en) _ _
    (part_more text (codes " load") (mark (codes " signed") c.args.access.now.signed) _ _ c.in_ok-extend_from_slice.ensures.items c.in_ok-push_mark.ensures)
    (c.in_ok-extend_from_slice-2.ensures.items ∙ ap (λ s. c.push_mark.new.text.items ++ s) c.size_text.ensures))
    c.in_ok-extend_from_slice-3.ensures.items)
    (c.in_ok-push_decimal.ensures ∙ ap (λ n. c.extend_from_slice-3.new.self.items ++ decimal n) (c.from.ensures ∙ c.number.ensures.value)))
    (c.in_ok-push_there.ensures ∙ ap (λ p. c.push_decimal.new.text.items ++ there_text (codes " from ") p c.args.datum) c.first_byte_of.ensures)
