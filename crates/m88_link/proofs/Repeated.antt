-- The search for a repeated name, one symbol on.
use Rattle.std.proofs.Common.{◌≡◌, ℕ, ◌+◌, ◌<◌, List, [], ◌∷◌, ◌++◌, length, take, drop, get_or, sym, ap, ◌∙◌}
use Rattle.std.proofs.lemmas.List.{drop_more, take_more}
use Rattle.std.specs.Option.{option_or}
use Rattle.m88_link.specs.declared.object.Symbol.{Symbol}
use Rattle.m88_link.specs.Symbols.{repetition, repeated_after}

-- the symbol at a place repeats a name of those before it, or one behind it does
pub repeated_at : (ss : List Symbol) (i : ℕ) (x : Symbol) → i < length ss → x ≡ get_or ss i x
    → repeated_after (take i ss) (drop i ss) ≡ option_or (repetition (take i ss) x) (repeated_after (take (i + 1) ss) (drop (i + 1) ss))
repeated_at ss i x h e =
    let here : drop i ss ≡ x ∷ drop (i + 1) ss = drop_more ss i x h ∙ ap (λ y. y ∷ drop (i + 1) ss) (sym e) in
    let before : take (i + 1) ss ≡ take i ss ++ x ∷ [] = take_more ss i x h ∙ ap (λ y. take i ss ++ y ∷ []) (sym e) in
    ap (λ l. repeated_after (take i ss) l) here
    ∙ ap (λ l. option_or (repetition (take i ss) x) (repeated_after l (drop (i + 1) ss))) (sym before)
