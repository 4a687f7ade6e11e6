-- Behind its statements, which are handed over, a module has grown to its object.
use Rattle.std.proofs.Common.{◌∙◌, ap}
use Rattle.std.specs.Prelude.{bytes_eq}
use Rattle.std.specs.List.{list_any}
use Rattle.indexmap.specs.IndexSet.{contains}
use Rattle.m88_parse.specs.declared.unit.Statement.{Statement}
use Rattle.m88_asm.specs.Objects.{declares}
use Rattle.m88_asm.proofs.Finishing.{finished_clean, finished_object, finished_sound}
use Rattle.m88_asm.proofs.objects.consume_module.Goals as goal

pub returns-in-Ok : goal.returns-in-Ok
returns-in-Ok c =
    let m = c.args.«module» in
    let xs = c.into_items-statements.result.items in
    let grown = c.in-Ok.ensures.right in
    let is =
    finished_object m xs c.in-Ok.assembly c.into_items-statements.ensures grown (contains bytes_eq c.in_ok-names.names)
    c.in_ok-into_object-in-Ok.field-0
    (λ name. c.in_ok-names.ensures name ∙ ap (list_any (λ (x : Statement). declares name x.body)) c.deref.ensures.value)
    c.in_ok-into_object-in-Ok.ensures.value in
    record {
      right = (
        is,
        finished_sound m xs c.in-Ok.assembly c.into_items-statements.ensures grown c.in_ok-into_object-in-Ok.field-0 is
            c.in-Ok.ensures.clean c.in_ok-into_object-in-Ok.ensures.names c.in_ok-into_object-in-Ok.ensures.room,
      );
      clean = finished_clean m xs c.in-Ok.assembly c.into_items-statements.ensures grown c.in-Ok.ensures.clean;
      fault = tt;
    }
