-- What is written for a fault: how the entry went, its instructions, the console, and what the handler left.
use Rattle.std.specs.Prelude.{ℕ, zero, suc, Bool, not, List, [], ◌++◌, ◌*◌, ◌==◌, ◌||◌, codes, decimal, flat_map, slice_index, if◌then◌else◌}
use Rattle.m88_base.specs.Hex.{hex8}
use Rattle.m88_base.specs.Lines.{line_end}
use Rattle.m88_base.specs.Pages.{page_bytes, page_count}
use Rattle.m88_base.specs.RegisterSet.{registers_in}
use Rattle.m88_isa.specs.Bus.{changed_words}
use Rattle.m88_isa.specs.Machine.{Program}
use Rattle.m88_report.specs.Report.{count_line, named_word, out_text, word_line}
use Rattle.m88_serving.specs.Served.{registers_below, slots_text}
use Rattle.m88_serving.specs.Serving.{named_bus}
use Rattle.m88_handler.specs.Entering.{Faulted, entering, faulted}
use Rattle.m88_handler.specs.Judging.{came_of, judged}
use Rattle.m88_handler.specs.Machine.{Handling}
use Rattle.m88_handler.specs.declared.cause.Cause.{Cause}
use Rattle.m88_handler.specs.declared.cause.Cause.TheVariants as cause
use Rattle.m88_handler.specs.declared.judging.Place.{Place}
use Rattle.m88_handler.specs.declared.judging.Place.TheVariants as place
use Rattle.m88_handler.specs.declared.remark.Remark.{Remark}
use Rattle.m88_handler.specs.declared.remark.Remark.TheVariants as remark
use Rattle.m88_entries.specs.Told.{Told}

-- why a handler failed
unfoldable pub cause_text : Cause → List ℕ
cause_text (cause.Vector vector) = codes "vector " ++ decimal vector
cause_text cause.Psr = codes "psr"
cause_text cause.Steps = codes "steps"
cause_text cause.Sfrz = codes "sfrz"
cause_text cause.Epsr = codes "epsr"
cause_text cause.Ssbr = codes "ssbr"
cause_text cause.Sfip = codes "sfip"

-- two words, the handler's first
unfoldable pub for_text : ℕ → ℕ → List ℕ
for_text left wanted = hex8 left ++ named_word (codes " for") wanted

-- a place at which something differs, with the two
unfoldable pub place_text : Place → ℕ → ℕ → List ℕ
place_text (place.Register r) left wanted = codes "r" ++ decimal r ++ codes " " ++ for_text left wanted
place_text (place.Word address) left wanted = named_word (codes "mem") address ++ codes " " ++ for_text left wanted
place_text (place.Page address) left wanted =
    named_word (codes "page") address ++ codes " " ++ decimal left ++ codes " for " ++ decimal wanted
place_text place.Status left wanted = codes "epsr " ++ for_text left wanted
place_text place.Next left wanted = codes "snip " ++ for_text left wanted
place_text place.Following left wanted = codes "sfip " ++ for_text left wanted

-- how an entry went
unfoldable pub remark_text : Remark → List ℕ
remark_text remark.Kept = codes "kept"
remark_text (remark.Differs d) = codes "differs " ++ place_text d.place d.left d.wanted
remark_text remark.Stops = codes "stops"
remark_text (remark.Fails cause at) = codes "fails " ++ cause_text cause ++ named_word (codes " at") at

-- the fault that was told
abbrev pub fault_of : Told → Faulted
fault_of t = faulted t.fault.fault t.given (named_bus t.fault.words)

-- a register was waited for, or isn't as it was found
abbrev pub is_shown : ℕ → List ℕ → List ℕ → ℕ → Bool
is_shown ssbr before after r = registers_in ssbr r || not (slice_index before r == slice_index after r)

-- the line of a page that is present, by its first address
abbrev pub left_page : (ℕ → Bool) → ℕ → List ℕ
left_page absent page = if absent page then [] else named_word (codes "page") (page * page_bytes) ++ line_end

-- the lines of the pages below a number
unfoldable pub left_pages : (ℕ → Bool) → ℕ → List ℕ
left_pages absent zero = []
left_pages absent (suc page) = left_pages absent page ++ left_page absent page

-- what the handler left, as `m88serve` writes it, with the pages and the status: `found` is how it was entered
unfoldable pub left_lines : Faulted → Handling → Handling → List ℕ
left_lines f found left =
    registers_below (is_shown f.fault.ssbr found.regs left.regs) left.regs 32
    ++ flat_map word_line (changed_words f.bus left.user)
    ++ left_pages left.absent page_count
    ++ named_word (codes "epsr") left.control.epsr ++ line_end
    ++ slots_text left.control.ssbr left.control.snip left.control.sfip

-- how the entry went, its instructions and the console
unfoldable pub head_lines : Remark → Handling → List ℕ
head_lines remark left =
    codes "entry " ++ remark_text remark ++ line_end
    ++ count_line (codes "steps") left.steps
    ++ codes "console " ++ out_text left.console ++ line_end

-- what is written of an entry
abbrev pub entry_text : Remark → Faulted → Handling → Handling → List ℕ
entry_text remark f found left = head_lines remark left ++ left_lines f found left

-- what is written of up to so many instructions of a handler that is entered by what is told
unfoldable pub fault_text : Program → ℕ → Told → List ℕ
fault_text handler most t =
    entry_text (judged (came_of handler most (fault_of t)) (fault_of t)) (fault_of t) (entering handler (fault_of t))
    (came_of handler most (fault_of t)).1
