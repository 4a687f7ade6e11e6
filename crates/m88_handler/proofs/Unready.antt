-- The words of a page that isn't ready are those of the image.
use Rattle.std.specs.Prelude.{ℕ, false, not, List, Option, Some, None, ◌≡◌, ◌*◌, ◌/◌, ◌%◌, ◌==◌, is_some, slice_index_or, unwrap_or}
use Rattle.std.proofs.Common.{arith, refl, sym, ap, eq-eqb, ◌∙◌}
use Rattle.m88_base.specs.Image.{ProgramImage}
use Rattle.m88_base.specs.Pages.{page_number}
use Rattle.m88_isa.specs.Held.{first_from}
use Rattle.m88_mem.specs.DataBus.{MemoryView, bus_of, image_bus, ready_of, word_in_page}
use Rattle.m88_handler.proofs.Searching.{none_in}
use Rattle.m88_handler.specs.Judging.{word_differs}

unready_by : (o : Option (List ℕ)) (place other : ℕ) → is_some o ≡ false → unwrap_or (word_in_page o place) other ≡ other
unready_by None place other e = refl
unready_by (Some words) place other e = absurd cc

unready : (m : MemoryView) (a page : ℕ) → ready_of m page ≡ false → page_number a ≡ page → bus_of m a ≡ image_bus m.image a
unfolding ready_of bus_of
unready m a page e here =
    unready_by (slice_index_or m.pages (page_number a) None) (a / 4 % 1024) (image_bus m.image a)
    (ap (λ (n : ℕ). is_some (slice_index_or m.pages n None)) here ∙ e)

same_not : (a b : ℕ) → a ≡ b → not (a == b) ≡ false
same_not a b e = ap not (eq-eqb a b e)

pub none_unready : (left wanted : MemoryView) (page : ℕ) → left.image ≡ wanted.image → ready_of left page ≡ false → ready_of wanted page ≡ false
    → first_from (1024 * page) 1024 (word_differs (bus_of left) (bus_of wanted)) ≡ None
none_unready left wanted page images first second =
    none_in (1024 * page) 1024 (word_differs (bus_of left) (bus_of wanted)) (λ place low high.
    let here : page_number (4 * place) ≡ page = omega (arith, low, high) in
    same_not (bus_of left (4 * place)) (bus_of wanted (4 * place))
    (unready left (4 * place) page first here
    ∙ ap (λ (image : ProgramImage). image_bus image (4 * place)) images
    ∙ sym (unready wanted (4 * place) page second here)))
