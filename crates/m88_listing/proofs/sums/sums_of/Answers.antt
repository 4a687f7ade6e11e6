-- The bytes of one object more.
use Rattle.std.proofs.Common.{◌≡◌, ◌+◌, ℕ, List, ap, arith, drop, filter, sum_by}
use Rattle.m88_link.specs.Sizes.{object_size, sections_size}
use Rattle.m88_link.specs.declared.object.Object.{Object}
use Rattle.m88_link.specs.declared.object.Section.{Section}
use Rattle.m88_listing.specs.Sums.{is_at, is_data, is_text, size_where}
use Rattle.m88_listing.proofs.Adding.{sum_next}
use Rattle.m88_listing.proofs.sums.sums_of.Goals as goal

pub loop-object-preserved : goal.loop-object-preserved
loop-object-preserved c =
    let o : Object = c.object-item.result in
    let os = c.args.objects.now in
    let i = c.loop-object.object-index in
    let own : c.as_slice.result.now ≡ o.sections = c.as_slice.ensures in
    let next : (f : Object → ℕ) → sum_by f (drop i os) ≡ f o + sum_by f (drop (i + 1) os) = λ f. sum_next f os i o c.loop-object-test.true c.object-item.is in
    record {
      text = omega (
        arith,
        c.with_sections-sums.ensures.text,
        ap (λ (xs : List Section). sections_size (filter (λ (x : Section). is_text x.place) xs)) own,
        next (size_where is_text),
        c.loop-object.invariant.text,
      );
      datas = omega (
        arith,
        c.with_sections-sums.ensures.data,
        ap (λ (xs : List Section). sections_size (filter (λ (x : Section). is_data x.place) xs)) own,
        next (size_where is_data),
        c.loop-object.invariant.datas,
      );
      at = omega (
        arith,
        c.with_sections-sums.ensures.at,
        ap (λ (xs : List Section). sections_size (filter (λ (x : Section). is_at x.place) xs)) own,
        next (size_where is_at),
        c.loop-object.invariant.at,
      );
      all = omega (arith, c.with_sections-sums.ensures.all, ap sections_size own, next object_size, c.loop-object.invariant.all);
    }
