-- The line by the LF that ends it, and by its last byte.
use Rattle.std.proofs.Common.{◌≡◌, ◌∙◌, ◌+◌, ◌<◌, ◌∷◌, ◌++◌, [], List, ℕ, ap, arith, decimal, length, length-append, length-drop, sym, take, take_all, take-append-drop}
use Rattle.std.proofs.Math.Seq.{take-append-le}
use Rattle.std.proofs.lemmas.Bool.{ne_eqb}
use Rattle.std.proofs.lemmas.List.{nil_from_length}
use Rattle.m88_base.specs.Lines.{line_end}
use Rattle.m88_listing.specs.Columns.{at_right, bare_line, columns, no_address}
use Rattle.m88_listing.specs.Inside.Pushed.{IsFirstFeed}
use Rattle.m88_listing.proofs.Lines.{before_last, empty_first, ended_written, feed_ahead, front_lacks, parted, with_cr, without_cr}
use Rattle.m88_listing.proofs.column.Column.put_short.Goals.{After-split_at-2}
use Rattle.m88_listing.proofs.column.Column.put_short.Goals as goal

whole : (c : After-split_at-2) → c.in_ok-near.near.now ++ c.in_ok-near.field-0-1.now ≡ c.args.rest.now
whole c =
    ap (λ xs. xs ++ c.in_ok-near.field-0-1.now) c.in_ok-near.ensures.cases.0
    ∙ ap (λ xs. take 64 c.args.rest.now ++ xs) c.in_ok-near.ensures.cases.1
    ∙ take-append-drop 64 c.args.rest.now

front : (c : After-split_at-2) (n : ℕ) → n < length c.in_ok-near.near.now + 1 → take n c.in_ok-near.near.now ≡ take n c.args.rest.now
front c n le = sym (take-append-le n c.in_ok-near.near.now c.in_ok-near.field-0-1.now (omega (arith, le))) ∙ ap (take n) (whole c)

fed : (c : After-split_at-2) → IsFirstFeed c.args.rest.now c.in_ok-len.len
fed c = feed_ahead c.in_ok-near.near.now c.in_ok-near.field-0-1.now c.args.rest.now c.in_ok-len.len (whole c) c.in_ok-len.ensures

cut : (c : After-split_at-2) → c.split_at.result.0.now ≡ take c.in_ok-len.len c.args.rest.now
cut c = c.split_at.ensures.front ∙ front c c.in_ok-len.len (omega (arith, c.in_ok-len.ensures.within))

parts : (c : After-split_at-2) → c.args.rest.now ≡ c.split_at.result.0.now ++ 10 ∷ c.split_at-2.result.1.now
parts c = parted c.args.rest.now c.split_at.result.0.now c.split_at-2.result.1.now c.in_ok-len.len (fed c) (cut c) c.split_at-2.ensures.back

shorter : (c : After-split_at-2) → length c.split_at-2.result.1.now < length c.args.rest.now
shorter c =
    omega (arith, ap length c.split_at-2.ensures.back, length-drop (c.in_ok-len.len + 1) c.args.rest.now, (fed c).within)

pub put-requires-in-Some-2 : goal.put-requires-in-Some-2
put-requires-in-Some-2 c =
    let head = c.self.inside.head in
    let forty : length head ≡ 40 = omega arith in
    let all : c.put-in-Some.new.self ≡ c.args.block.now ++ head =
    c.put-in-Some.ensures ∙ ap (λ xs. c.args.block.now ++ xs) (take_all 40 head (omega (arith, forty))) in (
      omega arith,
      (
        omega (arith, forty, ap length all, length-append c.args.block.now head, c.requires),
        omega (arith, c.in_ok-len.ensures.within),
      ),
    )

pub returns-in-None-clause-some : goal.returns-in-None-clause-some
returns-in-None-clause-some c =
    let k = (goal.at.returns-in-None-clause-some c).After-split_at-2 in
    let none : c.split_at.result.0.now ≡ [] = nil_from_length c.split_at.result.0.now c.in-None.ensures.cases in
    let eight : length c.self.inside.alone ≡ 8 = omega arith in
    record {
      line = [];
      lines =
          empty_first c.args.rest.now c.split_at-2.result.1.now
          (parts k ∙ ap (λ (l : List ℕ). l ++ 10 ∷ c.split_at-2.result.1.now) none);
      text = c.put.ensures
          ∙ ap (λ (t : List ℕ). c.args.block.now ++ t)
          (take_all 8 c.self.inside.alone (omega (arith, eight)) ∙ c.self.invariant.1
          ∙ ap (λ (n : ℕ). at_right 7 (decimal n) ++ line_end) c.self.view_is);
      shorter = shorter k;
    }

pub returns-then-last-eq13-clause-some : goal.returns-then-last-eq13-clause-some
returns-then-last-eq13-clause-some c =
    let k = (goal.at.returns-then-last-eq13-clause-some c).After-split_at-2 in
    let rest = c.args.rest.now in
    let ended = c.split_at.result.0.now in
    let line = c.in-Some.line.now in
    let last = c.in-Some.last.now in
    record {
      line = line;
      lines =
          with_cr rest ended c.split_at-2.result.1.now line last (parts k) (front_lacks rest ended c.in_ok-len.len (fed k) (cut k))
          c.in-Some.ensures.cases.0 c.if-last-eq13.true;
      text =
          c.put_line.ensures
          ∙ ap (λ (l : List ℕ). c.args.block.now ++ (bare_line c.args.self.now l ++ line_end))
          (before_last c.in_ok-near.near.now line last c.in_ok-len.len (sym c.split_at.ensures.front ∙ c.in-Some.ensures.cases.0));
      shorter = shorter k;
    }

pub returns-else-last-eq13-clause-some : goal.returns-else-last-eq13-clause-some
returns-else-last-eq13-clause-some c =
    let k = (goal.at.returns-else-last-eq13-clause-some c).After-split_at-2 in
    let rest = c.args.rest.now in
    let line = c.split_at.result.0.now in
    let left = c.split_at-2.result.1.now in
    let len = c.in_ok-len.len in
    let head = c.self.inside.head in
    let forty : length head ≡ 40 = omega arith in
    let last = c.in-Some.last.now in
    let before = c.in-Some.line.now in
    record {
      line = line;
      lines =
          without_cr rest line left before last (parts k) (front_lacks rest line len (fed k) (cut k))
          c.in-Some.ensures.cases.0 (ne_eqb last 13 c.if-last-eq13.false);
      text =
          ended_written c.args.self.now len rest line left before c.args.block.now head _ _ _ last (fed k) (cut k) (parts k)
          c.in-Some.ensures.cases.0 (c.self.invariant.2 ∙ ap (λ (n : ℕ). columns n no_address []) c.self.view_is)
          (c.put-in-Some.ensures ∙ ap (λ xs. c.args.block.now ++ xs) (take_all 40 head (omega (arith, forty))))
          (front k (len + 1) (omega (arith, c.in_ok-len.ensures.within))) c.put-in-Some-2.ensures;
      shorter = shorter k;
    }
