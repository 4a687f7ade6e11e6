-- The bytes of a page that comes in.
use Rattle.std.specs.Prelude.{ℕ, Bool, true, false, List, ◌++◌, Option, Some, None, ◌≡◌, drop, is_some, length, take, unwrap_or}
use Rattle.std.proofs.Common.{append-nil, arith, refl, sym, ap, ◌∙◌}
use Rattle.std.proofs.lemmas.List.{drop_all, take_all}
use Rattle.std.specs.FinMap.{get}
use Rattle.m88_pager.specs.Inside.Contents.{behind}
use Rattle.m88_pager.specs.Inside.Seen.{ComesFrom}
use Rattle.m88_pager.specs.Store.{Finds, PageMap, ReadsPage}

pub none_there : (o : Option (List ℕ)) (d : List ℕ) → is_some o ≡ false → unwrap_or o d ≡ d
none_there None d h = refl
none_there (Some x) d h = absurd cc

found_there : (o : Option (List ℕ)) (d : List ℕ) (found : Bool) (before after : List ℕ) → is_some o ≡ true → Finds o found before after →
    after ≡ unwrap_or o d
found_there None d found before after h finds = absurd cc
found_there (Some x) d found before after h finds = finds.1

-- a page that was never written to the store
pub not_held : (original : ℕ → List ℕ) (held : ℕ → Bool) (told : Option PageMap) (page : ℕ) (bytes : List ℕ) →
    held page ≡ false → bytes ≡ original page → ComesFrom original held told page bytes
unfolding behind
not_held original held None page bytes h is = tt
not_held original held (Some pages) page bytes h is = λ same. is ∙ sym (none_there (get pages page) (original page) (same page ∙ h))

-- and one that was
pub is_held : (original : ℕ → List ℕ) (held : ℕ → Bool) (told : Option PageMap) (page : ℕ) (found : Bool) (before after : List ℕ) →
    held page ≡ true → ReadsPage told page found before after → ComesFrom original held told page after
unfolding behind
is_held original held None page found before after h reads = tt
is_held original held (Some pages) page found before after h reads =
    λ same. found_there (get pages page) (original page) found before after (same page ∙ h) reads

-- a store that tells its pages has forgotten none
none_found : (o : Option (List ℕ)) (before after : List ℕ) → is_some o ≡ true → Finds o false before after → ⊥
none_found None before after h finds = cc
none_found (Some x) before after h finds = let lost = finds.0 in cc

pub not_lost : (original : ℕ → List ℕ) (held : ℕ → Bool) (told : Option PageMap) (page : ℕ) (before after bytes : List ℕ) →
    held page ≡ true → ReadsPage told page false before after → ComesFrom original held told page bytes
not_lost original held None page before after bytes h reads = tt
not_lost original held (Some pages) page before after bytes h reads =
    λ same. absurd (none_found (get pages page) before after (same page ∙ h) reads)

-- bytes that were written whole
pub all_written : (n : ℕ) (xs ys : List ℕ) → n ≡ length xs → length ys ≡ length xs → take n (ys ++ drop (length ys) xs) ≡ ys
all_written n xs ys whole same =
    ap (λ zs. take n (ys ++ zs)) (drop_all (length ys) xs (omega (arith, same)))
    ∙ ap (take n) (append-nil ys)
    ∙ take_all n ys (omega (arith, whole, same))
