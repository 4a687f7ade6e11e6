-- One line after the other.
use Rattle.std.proofs.Common.{ℕ, Bool, ◌≡◌, ◌<◌, ◌++◌, List, length, false, arith, ap, refl, sym, subst, ◌∙◌}
use Rattle.m88_base.proofs.Laws.{few_parts}
use Rattle.m88_base.specs.Image.{IsImage, ProgramImage}
use Rattle.m88_codec.proofs.Laws.{program_in, program_in_holds, program_in_mxm}
use Rattle.m88_isa.proofs.Laws.{program_of_image}
use Rattle.m88_isa.specs.ImageProgram.{IsProgramOf}
use Rattle.m88_isa.specs.Machine.{Program}
use Rattle.m88_trace.proofs.Laws.{one_verdict_of}
use Rattle.m88_trace.proofs.Reading.{Reads, less_left, reads_more, reads_none, reads_other, reads_past}
use Rattle.m88_trace.proofs.Verdicts.{is_empty, not_empty, read_all}
use Rattle.m88_trace.specs.Inside.Doings.{seen_by_follower}
use Rattle.m88_trace.specs.Trace.{trace_line}
use Rattle.m88_trace.proofs.checking.check_trace.Goals as goal

-- an image holds a program with MXM clear
a_program : (image : ProgramImage) → IsImage image → (p : Program) × IsProgramOf image p × (p.mxm ≡ false)
a_program image is = (program_in false image is, program_in_holds false image is, program_in_mxm false image is)

pub returns-in_err-follower-clause-program : goal.returns-in_err-follower-clause-program
returns-in_err-follower-clause-program c = a_program c.args.image.now c.part_count.ensures.image

pub returns-then-ended-clause-program : goal.returns-then-ended-clause-program
returns-then-ended-clause-program c = a_program c.args.image.now c.part_count.ensures.image

pub returns-in_err-ended-clause-program : goal.returns-in_err-ended-clause-program
returns-in_err-ended-clause-program c = a_program c.args.image.now c.part_count.ensures.image

pub returns-in_default-clause-program : goal.returns-in_default-clause-program
returns-in_default-clause-program c = a_program c.args.image.now c.part_count.ensures.image

pub returns-clause-program : goal.returns-clause-program
returns-clause-program c = a_program c.args.image.now c.part_count.ensures.image

pub returns-in_err-follower-clause-one_verdict : goal.returns-in_err-follower-clause-one_verdict
returns-in_err-follower-clause-one_verdict c = λ p. one_verdict_of p c.args.text.now

pub returns-then-ended-clause-one_verdict : goal.returns-then-ended-clause-one_verdict
returns-then-ended-clause-one_verdict c = λ p. one_verdict_of p c.args.text.now

pub returns-in_err-ended-clause-one_verdict : goal.returns-in_err-ended-clause-one_verdict
returns-in_err-ended-clause-one_verdict c = λ p. one_verdict_of p c.args.text.now

pub returns-in_default-clause-one_verdict : goal.returns-in_default-clause-one_verdict
returns-in_default-clause-one_verdict c = λ p. one_verdict_of p c.args.text.now

pub returns-clause-one_verdict : goal.returns-clause-one_verdict
returns-clause-one_verdict c = λ p. one_verdict_of p c.args.text.now

pub loop-rest-init : goal.loop-rest-init
loop-rest-init c = record {
  ready = c.in_ok-follower.ensures.ready;
  image = c.in_ok-follower.ensures.image_is;
  counted = omega arith;
  reads = λ p of clear. reads_none p c.args.text.now (seen_by_follower c.in_ok-follower.follower)
      (c.in_ok-follower.ensures.seen p of);
}

pub returns-then-ended-clause-fault : goal.returns-then-ended-clause-fault
returns-then-ended-clause-fault c = λ p of clear. (
  c.loop-rest.count,
  refl,
  reads_past p c.args.text.now c.loop-rest.rest.now c.loop-rest.count (seen_by_follower c.loop-rest.follower)
      (subst (λ (b : Bool). Reads p c.args.text.now c.loop-rest.rest.now c.loop-rest.count
      (seen_by_follower c.loop-rest.follower) b) c.if-ended.true
      (c.loop-rest.invariant.reads p of clear))
      (not_empty c.loop-rest.rest.now c.is_empty.result c.is_empty.ensures c.loop-rest-test.true),
)

pub returns-in_default-clause-fault : goal.returns-in_default-clause-fault
returns-in_default-clause-fault c = λ p of clear.
    let reads = subst (λ (b : Bool). Reads p c.args.text.now c.loop-rest.rest.now c.loop-rest.count
    (seen_by_follower c.loop-rest.follower) b) c.if-ended.false
    (c.loop-rest.invariant.reads p of clear) in
    let here = subst (λ (image : ProgramImage). IsProgramOf image p) (sym c.loop-rest.invariant.image) of in
    let follows = c.in_ok-ended.ensures.follows p (program_of_image c.args.image.now p c.part_count.ensures.image of)
    here clear reads.seen in (
      c.loop-rest.count,
      refl,
      reads_other p c.args.text.now c.loop-rest.rest.now c.next_line.new.line.items c.loop-rest.count
          (seen_by_follower c.loop-rest.follower)
          c.in_ok-ended.ended c.next_line.new.self reads follows
          (not_empty c.loop-rest.rest.now c.is_empty.result c.is_empty.ensures c.loop-rest-test.true)
          (λ more e. c.in_default.ensures more (e ∙ ap (λ xs. xs ++ more) (sym c.deref.ensures.value))),
    )

pub returns-clause-ok : goal.returns-clause-ok
returns-clause-ok c = λ p of clear.
    read_all (trace_line p) c.args.text.now c.loop-rest.rest.now c.loop-rest.count
    (c.loop-rest.invariant.reads p of clear).read
    (is_empty c.loop-rest.rest.now c.is_empty.result c.is_empty.ensures c.loop-rest-test.false)

-- the line that is read is one of each program of the image, so that less is left
pub loop-rest-smaller : goal.loop-rest-smaller
loop-rest-smaller c =
    let image = c.part_count.ensures.image in
    let some = a_program c.args.image.now image in
    let p = some.0 in
    let reads = subst (λ (b : Bool). Reads p c.args.text.now c.loop-rest.rest.now c.loop-rest.count
    (seen_by_follower c.loop-rest.follower) b) c.if-ended.false
    (c.loop-rest.invariant.reads p some.1 some.2) in
    let here = subst (λ (i : ProgramImage). IsProgramOf i p) (sym c.loop-rest.invariant.image) some.1 in
    let follows = c.in_ok-ended.ensures.follows p (program_of_image c.args.image.now p image some.1) here some.2
    reads.seen in
    less_left p c.args.text.now c.loop-rest.rest.now c.next_line.new.line.items c.in-Some.more.now c.loop-rest.count
    (seen_by_follower c.loop-rest.follower) c.in_ok-ended.ended c.next_line.new.self reads follows
    (c.in-Some.ensures ∙ ap (λ (xs : List ℕ). xs ++ c.in-Some.more.now) c.deref.ensures.value)

pub loop-rest-preserved : goal.loop-rest-preserved
loop-rest-preserved c =
    let image = c.part_count.ensures.image in
    let begins = c.in-Some.ensures ∙ ap (λ (xs : List ℕ). xs ++ c.in-Some.more.now) c.deref.ensures.value in
    let less : length c.in-Some.more.now < length c.loop-rest.rest.now =
    (let some = a_program c.args.image.now image in
    let p = some.0 in
    let reads = subst (λ (b : Bool). Reads p c.args.text.now c.loop-rest.rest.now c.loop-rest.count
    (seen_by_follower c.loop-rest.follower) b) c.if-ended.false
    (c.loop-rest.invariant.reads p some.1 some.2) in
    let here = subst (λ (i : ProgramImage). IsProgramOf i p) (sym c.loop-rest.invariant.image) some.1 in
    let follows = c.in_ok-ended.ensures.follows p (program_of_image c.args.image.now p image some.1) here some.2
    reads.seen in
    less_left p c.args.text.now c.loop-rest.rest.now c.next_line.new.line.items c.in-Some.more.now c.loop-rest.count
    (seen_by_follower c.loop-rest.follower) c.in_ok-ended.ended c.next_line.new.self reads follows begins) in
    let counted = c.loop-rest.invariant.counted in
    record {
      ready = c.in_ok-ended.ensures.ready;
      image = c.in_ok-ended.ensures.image ∙ c.loop-rest.invariant.image;
      counted = omega (arith, less, counted);
      reads = λ p of clear.
          let reads = subst (λ (b : Bool). Reads p c.args.text.now c.loop-rest.rest.now c.loop-rest.count
          (seen_by_follower c.loop-rest.follower) b) c.if-ended.false
          (c.loop-rest.invariant.reads p of clear) in
          let here = subst (λ (i : ProgramImage). IsProgramOf i p) (sym c.loop-rest.invariant.image) of in
          let follows = c.in_ok-ended.ensures.follows p (program_of_image c.args.image.now p image of) here clear
          reads.seen in
          reads_more p c.args.text.now c.loop-rest.rest.now c.next_line.new.line.items c.in-Some.more.now
          c.loop-rest.count
          (seen_by_follower c.loop-rest.follower) c.in_ok-ended.ended c.next_line.new.self reads follows begins;
    }

-- each part of an image has a byte
pub prove-unreachable-requires : goal.prove-unreachable-requires
prove-unreachable-requires c =
    let few = few_parts _ c.part_count.ensures.image in
    absurd (omega (arith, few, c.if-prove.true, c.part_count.ensures.value, c.len.ensures.value))
