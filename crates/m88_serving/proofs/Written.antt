-- What is written of a service, line by line and part by part.
use Rattle.std.specs.Prelude.{ℕ, List, ◌++◌, ◌≡◌, Some, None, flat_map}
use Rattle.std.proofs.Common.{refl, sym, ap, ◌∙◌, append_assoc}
use Rattle.m88_base.specs.RegisterSet.{registers_in}
use Rattle.m88_base.specs.declared.triple.Triple.{Triple}
use Rattle.m88_ctrl.specs.ControlRegisters.{restart_of}
use Rattle.m88_ctrl.specs.declared.frame.Restart.{Restart}
use Rattle.m88_isa.proofs.Laws.{by_test}
use Rattle.m88_isa.specs.Bus.{changed_words, loaded}
use Rattle.m88_isa.specs.Triples.{access_in, is_valid_triple}
use Rattle.m88_isa.specs.declared.planned.Access.{Access}
use Rattle.m88_monitor.specs.Serving.{Serving, after_service, datum_put, served_access}
use Rattle.m88_monitor.specs.declared.served.ServedAccess.{ServedAccess}
use Rattle.m88_report.specs.Report.{word_line}
use Rattle.m88_serving.specs.Served.{access_line, left_text, registers_below, served_text, slots_text, transaction_line, transactions_text}

-- the line of a store tells no datum
same_datum : (index : ℕ) (a : Access) (bus : ℕ → ℕ) → access_line index a (datum_put a bus) ≡ access_line index a (loaded a bus)
unfolding access_line
same_datum index a bus = by_test a.write (λ writes. rw writes refl) (λ reads. rw reads refl)

-- the line of an access that was served
pub its_line : (index : ℕ) (t : Triple) (bus : ℕ → ℕ) (served : ServedAccess) → served_access t bus ≡ Some served
    → access_line index served.access served.datum ≡ transaction_line index t bus
its_line index t bus served made = by_test (is_valid_triple t)
    (λ valid.
    let told : Some (record { access = access_in t; datum = datum_put (access_in t) bus }) ≡ Some served = rw valid at made in
    let same : record { access = access_in t; datum = datum_put (access_in t) bus } ≡ served = cc in
    rw valid (ap (λ (s : ServedAccess). access_line index s.access s.datum) (sym same) ∙ same_datum index (access_in t) bus))
    (λ none. let told : None ≡ Some served = rw none at made in absurd cc)

-- four parts of a text
four_parts : (a b c d : List ℕ) → ((a ++ b) ++ c) ++ d ≡ a ++ (b ++ c ++ d)
four_parts a b c d = ap (λ t. t ++ d) (append_assoc a b c) ∙ append_assoc a (b ++ c) d

-- the text of the service of what a handler finds
pub served_by_parts : (s new : Serving) (restart : Restart) (values : List ℕ) (words : List (ℕ × ℕ)) (lines registers changed text : List ℕ)
    → new ≡ after_service s → lines ≡ transactions_text s → registers ≡ lines ++ registers_below (registers_in s.control.ssbr) values 32
    → values ≡ new.numbers → changed ≡ registers ++ flat_map word_line words → words ≡ changed_words s.bus new.bus
    → text ≡ changed ++ slots_text restart.ssbr restart.snip restart.sfip → restart ≡ restart_of new.control → text ≡ served_text s
unfolding served_text
served_by_parts s new restart values words lines registers changed text made e1 e2 shown e3 differ e4 goes_on =
    e4
    ∙ (λ i. (e3 ∙ ap (λ (t : List ℕ). t ++ flat_map word_line words) e2) i
    ++ slots_text (goes_on i).ssbr (goes_on i).snip (goes_on i).sfip)
    ∙ four_parts lines (registers_below (registers_in s.control.ssbr) values 32) (flat_map word_line words)
    (slots_text new.control.ssbr new.control.snip new.control.sfip)
    ∙ (λ i. e1 i ++ (registers_below (registers_in s.control.ssbr) (shown i) 32 ++ flat_map word_line (differ i)
    ++ slots_text new.control.ssbr new.control.snip new.control.sfip))
    ∙ ap (λ (after : Serving). transactions_text s ++ left_text s after) made
