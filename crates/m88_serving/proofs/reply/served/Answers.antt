-- What is written part by part is the text of the service.
use Rattle.std.proofs.Common.{◌≡◌, ◌∙◌, ◌++◌, List, ap, subst, sym, ℕ}
use Rattle.std.specs.Prelude.{flat_map, true}
use Rattle.m88_base.specs.Image.{ProgramImage}
use Rattle.m88_isa.specs.Bus.{changed_words}
use Rattle.m88_mem.specs.DataBus.{bus_of, image_bus}
use Rattle.m88_monitor.specs.Serving.{CanServeAll, Serving, after_service, serving_of}
use Rattle.m88_report.specs.Report.{word_line}
use Rattle.m88_serving.proofs.Making.{can_make_all}
use Rattle.m88_serving.proofs.Written.{served_by_parts}
use Rattle.m88_serving.specs.Served.{transactions_text}
use Rattle.m88_serving.specs.Serving.{serving_with}
use Rattle.m88_serving.proofs.reply.served.Goals as goal

pub serve_all-requires-clause-able : goal.serve_all-requires-clause-able
serve_all-requires-clause-able c =
    subst (CanServeAll (λ page. true)) (sym c.control_left-ctrl.ensures) (can_make_all c.args.fault.now c.requires)

pub returns-clause-text : goal.returns-clause-text
returns-clause-text c =
    let s : Serving = serving_with c.args.fault.now (image_bus c.args.image.now) in
    let new : Serving = serving_of c.serve_all.new.ctrl c.serve_all.new.regs c.serve_all.new.memory in
    let found : serving_of c.control_left-ctrl.result c.new-regs.result c.in_ok-memory.memory ≡ s = λ i. record {
      control = c.control_left-ctrl.ensures i;
      numbers = c.new-regs.ensures.numbers i;
      bus = c.in_ok-memory.ensures.bus i;
      absent = c.in_ok-memory.ensures.absent i;
    } in
    ap (λ (reply : _). reply.text.items) c.accept.ensures
    ∙ served_by_parts s new c.rte-restart.result _ _ _ _ _ _
    (c.in_ok-serve_all.ensures.served ∙ ap after_service found)
    (c.in_ok-serve_all.ensures.text ∙ (λ i. c.new-text.ensures.items i ++ transactions_text (found i)))
    c.in_ok-push_registers.ensures (c.values.ensures.whole c.in_ok-serve_all.ensures.waiting)
    (c.in_ok-push_words.ensures ∙ ap (λ (words : List (ℕ × ℕ)). c.push_registers.new.text.items ++ flat_map word_line words) c.as_slice.ensures.value)
    (c.in_ok-words.ensures
    ∙ ap (λ (image : ProgramImage). changed_words (image_bus image) (bus_of c.serve_all.new.memory))
    (c.in_ok-serve_all.ensures.image ∙ c.in_ok-memory.ensures.image))
    c.in_ok-push_slots.ensures c.rte-restart.ensures.answer
