-- The records of the image answer the text, and so does the line that refuses it.
use Rattle.std.proofs.Common.{◌≡◌, List, inl, inr, subst}
use Rattle.std.specs.Prelude.{◌≢◌, ◌⊎◌}
use Rattle.m88_link.specs.Faults.{memory_fault}
use Rattle.m88_link.specs.Layout.{layout_of}
use Rattle.m88_link.specs.Linked.{IsLinked}
use Rattle.m88_link.specs.ObjectRead.{IsSoundText}
use Rattle.m88_link.specs.Refusal.{IsLinkable, IsRefused}
use Rattle.m88_link.specs.declared.fault.LinkFault.{LinkFault}
use Rattle.m88_link.specs.declared.object.Object.{Object}
use Rattle.m88_commands.specs.Command.{link}
use Rattle.m88_commands.proofs.Refusing.{refused_reply}
use Rattle.m88_commands.proofs.commands.objects.link_objects.Goals as goal

-- a fault that isn't want of memory is that of a layout that is refused
refused_by : (objects : List Object) (fault : LinkFault) → (fault ≡ memory_fault) ⊎ IsRefused (layout_of objects) fault
    → fault ≢ memory_fault → IsRefused (layout_of objects) fault
refused_by objects fault (inl memory) told = absurd (told memory)
refused_by objects fault (inr refused) told = refused

pub returns-in-Err : goal.returns-in-Err
returns-in-Err c =
    refused_reply link c.args.text.now c.in-Err.refusal c.refuse.result
    (rw c.in-Err.is at c.in_ok-objects.ensures.objects)
    c.refuse.ensures

pub returns-in-Err-link : goal.returns-in-Err-link
returns-in-Err-link c =
    let told = c.in_ok-unlinked-in-Err-link.ensures in
    let refused = subst (λ (os : List Object). IsRefused (layout_of os) c.in-Err-link.fault) c.as_slice.ensures.value
    (refused_by c.as_slice.result.now c.in-Err-link.fault c.in-Err-link.ensures.err told.told) in
    refused_reply link c.args.text.now c.in_ok-unlinked-in-Err-link.field-0 c.refuse-in-Err-link-2.result
    (inr (inr (record {
      objects = c.in-Ok.objects.items;
      is_text = rw c.in-Ok.is at c.in_ok-objects.ensures.objects;
      fault = c.in-Err-link.fault;
      is_refused = refused;
      refusal = told.refusal;
    })))
    c.refuse-in-Err-link-2.ensures

pub returns : goal.returns
returns c =
    let objects = c.in-Ok.objects.items in
    let read : IsSoundText objects c.args.text.now = rw c.in-Ok.is at c.in_ok-objects.ensures.objects in
    let links = subst (λ (os : List Object). IsLinkable (layout_of os)) c.as_slice.ensures.value
    c.in-Ok-link.ensures.linkable in
    let linked = subst (λ (os : List Object). IsLinked (layout_of os) c.in-Ok-link.image) c.as_slice.ensures.value
    c.in-Ok-link.ensures.image in
    rw c.accept.ensures (record {
      accepted = record { objects = objects; is_text = read; is_linkable = links };
      output = record {
        image = c.in-Ok-link.image;
        of_objects = record { objects = objects; is_text = read; is_image = c.in_ok-records.ensures.image; is_linked = linked };
        is_output = c.in_ok-records.ensures.value;
      };
    })
