-- The lines of what a handler left, one after the other.
use Rattle.std.specs.Prelude.{ℕ, Bool, List, ◌≡◌, ◌+◌, ◌++◌, codes, flat_map}
use Rattle.std.proofs.Common.{refl, sym, add-one, ap, append_assoc, ◌∙◌}
use Rattle.m88_base.specs.Lines.{line_end}
use Rattle.m88_base.specs.Pages.{page_count}
use Rattle.m88_event.specs.declared.record.Record.{Record}
use Rattle.m88_handler.specs.Entering.{Faulted}
use Rattle.m88_handler.specs.Handled.{base_of, handling_of}
use Rattle.m88_handler.specs.Machine.{Handling}
use Rattle.m88_handler.specs.declared.cause.Cause.{Cause}
use Rattle.m88_handler.specs.declared.handler.Handler.{Handler}
use Rattle.m88_handler.specs.declared.remark.Remark.{Remark}
use Rattle.m88_handler.specs.declared.remark.Remark.TheVariants as remark
use Rattle.m88_isa.specs.Bus.{changed_words}
use Rattle.m88_mem.specs.DataBus.{absent_of, bus_of, image_bus}
use Rattle.m88_report.specs.Report.{named_word, word_line}
use Rattle.m88_serving.specs.Served.{awaited_text, registers_below, slots_text}
use Rattle.m88_entries.specs.Left.{cause_text, is_shown, left_lines, left_page, left_pages, remark_text}

pub registers_next : (shown : ℕ → Bool) (values : List ℕ) (r : ℕ)
    → registers_below shown values (r + 1) ≡ registers_below shown values r ++ awaited_text shown values r
unfolding registers_below
registers_next shown values r = rw add-one refl

pub pages_next : (absent : ℕ → Bool) (page : ℕ) → left_pages absent (page + 1) ≡ left_pages absent page ++ left_page absent page
unfolding left_pages
pages_next absent page = rw add-one refl

-- one text more behind another
grow : (t a b u v : List ℕ) → u ≡ t ++ a → v ≡ u ++ b → v ≡ t ++ (a ++ b)
grow t a b u v x y = y ∙ ap (λ (k : List ℕ). k ++ b) x ∙ append_assoc t a b

-- why a handler failed, and where
pub failed : (t u v w : List ℕ) (r : Remark) (cause : Cause) (at : ℕ) → u ≡ t ++ codes "fails " → v ≡ u ++ cause_text cause
    → w ≡ v ++ named_word (codes " at") at → r ≡ remark.Fails cause at → w ≡ t ++ remark_text r
unfolding remark_text
failed t u v w r cause at x y z is =
    grow t (codes "fails " ++ cause_text cause) (named_word (codes " at") at) v w (grow t (codes "fails ") (cause_text cause) u v x y) z
    ∙ ap (λ (q : Remark). t ++ remark_text q) (sym is)

-- registers, words, pages, the status and the slots
all_left : (t u v w x registers words pages status slots : List ℕ) → u ≡ t ++ registers → v ≡ u ++ words → w ≡ v ++ pages
    → x ≡ w ++ status ++ line_end ++ slots → x ≡ t ++ (registers ++ words ++ pages ++ status ++ line_end ++ slots)
all_left t u v w x registers words pages status slots p q r s =
    let two = grow t registers words u v p q in
    let three = grow t (registers ++ words) pages v w two r in
    let four = grow t (registers ++ words ++ pages) status w (w ++ status) three refl in
    let five = grow t (registers ++ words ++ pages ++ status) line_end (w ++ status) (w ++ status ++ line_end) four refl in
    grow t (registers ++ words ++ pages ++ status ++ line_end) slots (w ++ status ++ line_end) x five s

-- all that a handler left
pub left_written : (t u v w x : List ℕ) (f : Faulted) (entered : Handling) (h : Handler) (fault : Record) (found : List ℕ) (words : List (ℕ × ℕ))
    → f.fault ≡ fault → f.bus ≡ image_bus (base_of h) → found ≡ entered.regs → words ≡ changed_words (image_bus (base_of h)) (bus_of h.user)
    → u ≡ t ++ registers_below (is_shown fault.ssbr found h.regs) h.regs 32 → v ≡ u ++ flat_map word_line words → w ≡ v ++ left_pages (absent_of h.user) page_count
    → x ≡ w ++ named_word (codes "epsr") h.control.epsr ++ line_end ++ slots_text h.control.ssbr h.control.snip h.control.sfip
    → x ≡ t ++ left_lines f entered (handling_of h)
unfolding left_lines handling_of
left_written t u v w x f entered h fault found words is_fault is_bus is_found is_words p q r s =
    all_left t u v w x (registers_below (is_shown f.fault.ssbr entered.regs h.regs) h.regs 32) (flat_map word_line (changed_words f.bus (bus_of h.user)))
    (left_pages (absent_of h.user) page_count) (named_word (codes "epsr") h.control.epsr)
    (slots_text h.control.ssbr h.control.snip h.control.sfip)
    (p ∙ ap (λ (k : Record). t ++ registers_below (is_shown k.ssbr found h.regs) h.regs 32) (sym is_fault)
    ∙ ap (λ (k : List ℕ). t ++ registers_below (is_shown f.fault.ssbr k h.regs) h.regs 32) is_found)
    (q ∙ ap (λ (k : List (ℕ × ℕ)). u ++ flat_map word_line k) (is_words ∙ ap (λ (k : ℕ → ℕ). changed_words k (bus_of h.user)) (sym is_bus)))
    r s
