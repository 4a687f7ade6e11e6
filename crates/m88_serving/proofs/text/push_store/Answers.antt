-- The store, its size and the place, one behind the other.
use Rattle.std.proofs.Common.{◌∙◌, ◌++◌, ℕ, List, ap}
use Rattle.std.specs.Prelude.{codes}
use Rattle.m88_serving.specs.Served.{first_byte_of, size_text, store_text, there_text}
use Rattle.m88_serving.proofs.Texts.{part_more}
use Rattle.m88_serving.proofs.text.push_store.Goals as goal

pub returns : goal.returns
unfolding store_text
returns c =
    let text : List ℕ = c.args.text.now.items in
    let en : ℕ = c.args.access.now.en in
    let value : ℕ = c.args.access.now.value in
    part_more text (codes " store" ++ size_text en) (there_text (codes " to ") (first_byte_of c.args.access.now) value) _ _
    (part_more text (codes " store") (size_text en) _ _ c.in_ok-extend_from_slice.ensures.items
    (c.in_ok-extend_from_slice-2.ensures.items ∙ ap (λ s. c.extend_from_slice.new.self.items ++ s) c.size_text.ensures))
    (c.in_ok-push_there.ensures ∙ ap (λ p. c.extend_from_slice-2.new.self.items ++ there_text (codes " to ") p value) c.first_byte_of.ensures)
