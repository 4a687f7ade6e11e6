-- It is cut off in front of its datum.
use Rattle.std.proofs.Common.{ℕ, List, ap, codes, take, ◌++◌, ◌∙◌}
use Rattle.std.proofs.lemmas.List.{take_at}
use Rattle.m88_trace.proofs.Heads.{head_length}
use Rattle.m88_trace.proofs.Writing.{ok_items, ok_on}
use Rattle.m88_trace.specs.Lines.{access_head}
use Rattle.m88_trace.proofs.parts.push_access.Goals as goal

pub returns : goal.returns
returns c =
    let a = c.args.access.now in
    ok_on c.extend_from_slice.result (ok_items c.extend_from_slice.result _ _ _ c.extend_from_slice.ensures.items)
    (λ e. e
    ∙ ap (λ (xs : List ℕ). c.args.text.now.items ++ xs)
    (ap (λ (xs : List ℕ). take 14 xs) c.open_access.ensures
    ∙ take_at (access_head a) (codes "????????") 14 (head_length a)))
