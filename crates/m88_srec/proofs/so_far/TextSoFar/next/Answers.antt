-- A line more, or a byte.
use Rattle.std.proofs.Common.{◌≡◌, ℕ, List, ◌∷◌, Bor, Result, Ok, Err, false, ap, arith, length, length-append}
use Rattle.std.specs.Prelude.{IfOk}
use Rattle.m88_base.specs.Lines.{line_feed}
use Rattle.m88_srec.specs.Inside.Loads.{load_seen}
use Rattle.m88_srec.specs.Inside.Steps.{Becomes, Steps}
use Rattle.m88_srec.specs.Inside.Taking.{IsWholeLine, begun_seen, gone_on}
use Rattle.m88_srec.specs.Verdict.{judged}
use Rattle.m88_srec.specs.declared.fault.SrecKind.{SrecKind}
use Rattle.m88_srec.specs.declared.so_far.TextSoFar.{TextSoFar}
use Rattle.m88_srec.proofs.Whole.{refused_line, taken_line}
use Rattle.m88_srec.proofs.so_far.TextSoFar.next.Goals as goal

line_steps : (rest line left : List ℕ) (before after : TextSoFar) (result : Result (Bor (List ℕ)) SrecKind) →
    IsWholeLine rest line left → before.front.len ≡ 0 → before.cr ≡ false →
    Becomes before after result (gone_on (begun_seen before) (judged (load_seen before.loading) line)) →
    IfOk result (λ r. r.now ≡ left) → Steps rest before after result
line_steps rest line left before after (Ok r) whole none no_cr is same =
    let sizes = length-append line (line_feed ∷ left) in
    record {
      taken = taken_line (λ (l : Bor (List ℕ)). l.now) rest line left (begun_seen before) (begun_seen after) (Ok r) whole none no_cr
          is.value same;
      stopped = tt;
      shorter = omega (arith, ap length whole.joined, sizes, ap length same);
      within = omega (arith, ap length whole.joined, sizes, ap length same, is.within);
      counted = is.counted;
    }
line_steps rest line left before after (Err kind) whole none no_cr is same = record {
  taken = tt;
  stopped = refused_line {T = Bor (List ℕ)} rest line left (begun_seen before) (begun_seen after) (Err kind) whole none no_cr is.value;
  shorter = tt;
  within = tt;
  counted = tt;
}

pub returns-in-Some : goal.returns-in-Some
returns-in-Some c =
    line_steps c.args.rest.now c.in-Some.line.now c.in-Some.left.now c.args.self.now c.line.new.self c.line.result
    c.in-Some.ensures c.if-self-eq0.true c.if-not-self.true c.line.ensures.value c.line.ensures.left
