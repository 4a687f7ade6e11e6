-- The bit of the address, in its place or by its row's number.
use Rattle.std.proofs.Common.{◌≡◌, ◌∙◌, ℕ, None, Some, ◌<◌, ap, arith, length, nat_eq, rules, sym}
use Rattle.std.specs.Prelude.{Option, slice_index, unwrap_or}
use Rattle.std.specs.FinSet.{FinSet, contains}
use Rattle.std.proofs.lemmas.List.{get_or_default}
use Rattle.std.specs.Ordering.{nat_cmp}
use Rattle.indexmap.specs.IndexMap.{get}
use Rattle.m88_sourcing.specs.Inside.Words.{addresses, is_set, word_row}
use Rattle.m88_sourcing.proofs.Sets.{near_has, no_bit, other_has, placed}
use Rattle.m88_sourcing.proofs.words.Words.contains.Goals as goal

pub returns-in-Some : goal.returns-in-Some
returns-in-Some c =
    let long : c.len.result ≡ length c.self.inside.near.items = search rules in
    let has : contains (addresses c.self.inside) c.args.at ≡ is_set (slice_index c.self.inside.near.items c.in-Some.place) c.args.at =
    near_has c.self.inside c.args.at c.in-Some.place c.ranges.at.fits
    (placed c.self.inside c.args.at c.len.result c.row_of-row.result c.near_place.result (Some c.in-Some.place) long
    c.row_of-row.ensures c.near_place.ensures.place c.in-Some.is) in
    let within = c.in-Some.ensures.within in
    let low : c.in-Some.place < length c.self.inside.near.items = omega (arith, long, within) in
    c.is_set.ensures
    ∙ ap (λ (n : ℕ). is_set n c.args.at) (c.index.ensures ∙ sym (get_or_default c.self.inside.near.items c.in-Some.place 0 c.index.result.now low))
    ∙ sym has ∙ ap (λ (s : FinSet nat_cmp). contains s c.args.at) c.self.view_is

pub returns-in-Some-get : goal.returns-in-Some-get
returns-in-Some-get c =
    let long : c.len.result ≡ length c.self.inside.near.items = search rules in
    let has : contains (addresses c.self.inside) c.args.at ≡ is_set (unwrap_or (get nat_eq c.self.inside.others (word_row c.args.at)) 0) c.args.at =
    other_has c.self.inside c.args.at c.ranges.at.fits
    (placed c.self.inside c.args.at c.len.result c.row_of-row.result c.near_place.result None long
    c.row_of-row.ensures c.near_place.ensures.place c.in_default.is) in
    let found : get nat_eq c.self.inside.others c.row_of-row.result ≡ Some c.in-Some-get.bits.now = sym c.in-Some-get.ensures.value in
    c.is_set-in-Some-get.ensures
    ∙ ap (λ (o : Option ℕ). is_set (unwrap_or o 0) c.args.at) (sym found ∙ ap (get nat_eq c.self.inside.others) c.row_of-row.ensures)
    ∙ sym has ∙ ap (λ (s : FinSet nat_cmp). contains s c.args.at) c.self.view_is

pub returns-in-None : goal.returns-in-None
returns-in-None c =
    let long : c.len.result ≡ length c.self.inside.near.items = search rules in
    let has : contains (addresses c.self.inside) c.args.at ≡ is_set (unwrap_or (get nat_eq c.self.inside.others (word_row c.args.at)) 0) c.args.at =
    other_has c.self.inside c.args.at c.ranges.at.fits
    (placed c.self.inside c.args.at c.len.result c.row_of-row.result c.near_place.result None long
    c.row_of-row.ensures c.near_place.ensures.place c.in_default.is) in
    let none : get nat_eq c.self.inside.others c.row_of-row.result ≡ None = sym c.in-None.ensures.value in
    sym (no_bit c.args.at)
    ∙ ap (λ (o : Option ℕ). is_set (unwrap_or o 0) c.args.at) (sym none ∙ ap (get nat_eq c.self.inside.others) c.row_of-row.ensures)
    ∙ sym has ∙ ap (λ (s : FinSet nat_cmp). contains s c.args.at) c.self.view_is
