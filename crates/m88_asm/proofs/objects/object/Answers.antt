-- Behind its statements a module has grown to its object.
use Rattle.std.specs.Prelude.{bytes_eq}
use Rattle.indexmap.specs.IndexSet.{contains}
use Rattle.m88_asm.proofs.Finishing.{finished_clean, finished_object, finished_sound}
use Rattle.m88_asm.proofs.objects.object.Goals as goal

pub returns-in-Ok : goal.returns-in-Ok
returns-in-Ok c =
    let m = c.args.«module».now in
    let xs = c.as_slice-statements.result.now in
    let grown = c.in-Ok.ensures.right in
    let is =
    finished_object m xs c.in-Ok.assembly c.as_slice-statements.ensures grown (contains bytes_eq c.in_ok-names.names)
    c.in_ok-into_object-in-Ok.field-0 c.in_ok-names.ensures c.in_ok-into_object-in-Ok.ensures.value in
    record {
      right = (
        is,
        finished_sound m xs c.in-Ok.assembly c.as_slice-statements.ensures grown c.in_ok-into_object-in-Ok.field-0 is
            c.in-Ok.ensures.clean c.in_ok-into_object-in-Ok.ensures.names c.in_ok-into_object-in-Ok.ensures.room,
      );
      clean = finished_clean m xs c.in-Ok.assembly c.as_slice-statements.ensures grown c.in-Ok.ensures.clean;
      fault = tt;
    }
