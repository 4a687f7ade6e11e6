-- The bit is set in the row of the address, which has its place, or is kept by its number, or begins.
use Rattle.std.proofs.Common.{◌≡◌, ◌∙◌, ◌*◌, ◌/◌, ◌%◌, ◌^◌, ◌<◌, ℕ, None, Some, ap, arith, bit_or, length, nat_eq, rules, sym, subst, refl, true}
use Rattle.std.specs.Prelude.{IsSome, Option, cond, not, unwrap_or}
use Rattle.std.specs.Int.Bits.{or_zero_l}
use Rattle.std.specs.Option.{option_copied_mut}
use Rattle.std.proofs.lemmas.List.{get_or_default}
use Rattle.indexmap.specs.IndexMap.{get}
use Rattle.m88_sourcing.specs.Inside.Words.{word_row}
use Rattle.m88_sourcing.proofs.Sets.{near_bits, near_more, no_bit, other_bits, other_more, placed, was_new}
use Rattle.m88_sourcing.proofs.words.Words.insert.Goals as goal

pub returns-in-Some-clause-new : goal.returns-in-Some-clause-new
returns-in-Some-clause-new c =
    let w = c.self.inside in
    let long : c.len.result ≡ length w.near.items = search rules in
    let within = c.in-Some.ensures.within in
    let low : c.in-Some.place < length w.near.items = omega (arith, long, within) in
    was_new w c.args.self.now c.args.at c.index_mut.result.now c.set_bit.result c.ranges.at.fits c.self.view_is
    (near_bits w (word_row c.args.at) c.in-Some.place
    (placed w c.args.at c.len.result c.row_of-row.result c.near_place.result (Some c.in-Some.place) long
    c.row_of-row.ensures c.near_place.ensures.place c.in-Some.is)
    ∙ get_or_default w.near.items c.in-Some.place 0 c.index_mut.result.now low ∙ sym c.index_mut.ensures.value)
    c.set_bit.ensures.new

pub returns-in-Some-clause-has : goal.returns-in-Some-clause-has
returns-in-Some-clause-has c = λ a.
    let w = c.self.inside in
    let long : c.len.result ≡ length w.near.items = search rules in
    let within = c.in-Some.ensures.within in
    let low : c.in-Some.place < length w.near.items = omega (arith, long, within) in
    near_more w c.args.self.now c.args.at c.in-Some.place c.set_bit.new.bits a c.ranges.at.fits c.self.view_is
    (placed w c.args.at c.len.result c.row_of-row.result c.near_place.result (Some c.in-Some.place) long
    c.row_of-row.ensures c.near_place.ensures.place c.in-Some.is)
    low
    (c.set_bit.ensures.has
    ∙ ap (λ (n : ℕ). bit_or n (1 * 2 ^ (c.args.at / 4 % 32) % 2 ^ 32))
    (c.index_mut.ensures.value ∙ sym (get_or_default w.near.items c.in-Some.place 0 c.index_mut.result.now low)))

pub returns-in-Some-get_mut-clause-new : goal.returns-in-Some-get_mut-clause-new
returns-in-Some-get_mut-clause-new c =
    let w = c.self.inside in
    let long : c.len.result ≡ length w.near.items = search rules in
    let found : Some c.in-Some-get_mut.bits.now ≡ get nat_eq w.others c.row_of-row.result = c.in-Some-get_mut.ensures.value in
    was_new w c.args.self.now c.args.at c.in-Some-get_mut.bits.now c.set_bit-in-Some-get_mut.result c.ranges.at.fits
    c.self.view_is
    (other_bits w (word_row c.args.at)
    (placed w c.args.at c.len.result c.row_of-row.result c.near_place.result None long
    c.row_of-row.ensures c.near_place.ensures.place c.in_default.is)
    ∙ ap (λ (k : ℕ). unwrap_or (get nat_eq w.others k) 0) (sym c.row_of-row.ensures)
    ∙ ap (λ (o : Option ℕ). unwrap_or o 0) (sym found))
    c.set_bit-in-Some-get_mut.ensures.new

pub returns-in-Some-get_mut-clause-has : goal.returns-in-Some-get_mut-clause-has
returns-in-Some-get_mut-clause-has c = λ a.
    let w = c.self.inside in
    let long : c.len.result ≡ length w.near.items = search rules in
    let bits : ℕ = c.set_bit-in-Some-get_mut.new.bits in
    let found : Some c.in-Some-get_mut.bits.now ≡ get nat_eq w.others c.row_of-row.result = c.in-Some-get_mut.ensures.value in
    let there : IsSome (get nat_eq w.others c.row_of-row.result) = subst (λ (o : Option ℕ). IsSome o) found refl in
    other_more w (record { first = w.first; near = w.near; others = c.get_mut.follows.lender bits }) c.args.self.now c.args.at
    bits a c.ranges.at.fits c.self.view_is
    (placed w c.args.at c.len.result c.row_of-row.result c.near_place.result None long
    c.row_of-row.ensures c.near_place.ensures.place c.in_default.is)
    (record {
      first = refl;
      near = refl;
      others = λ r.
          ((c.get_mut.follows.holds bits).3 there).0 r
          ∙ ap (λ (k : ℕ). cond (nat_eq k r) (Some bits) (get nat_eq w.others r)) c.row_of-row.ensures;
    })
    (c.set_bit-in-Some-get_mut.ensures.has
    ∙ ap (λ (n : ℕ). bit_or n (1 * 2 ^ (c.args.at / 4 % 32) % 2 ^ 32))
    (ap (λ (o : Option ℕ). unwrap_or o 0) found
    ∙ ap (λ (k : ℕ). unwrap_or (get nat_eq w.others k) 0) c.row_of-row.ensures))

pub returns-clause-new : goal.returns-clause-new
returns-clause-new c =
    let w = c.self.inside in
    let long : c.len.result ≡ length w.near.items = search rules in
    let none : None ≡ get nat_eq w.others c.row_of-row.result = ap option_copied_mut (sym c.in_default-get_mut.is)
    ∙ c.get_mut.ensures.value in
    was_new w c.args.self.now c.args.at 0 true c.ranges.at.fits c.self.view_is
    (other_bits w (word_row c.args.at)
    (placed w c.args.at c.len.result c.row_of-row.result c.near_place.result None long
    c.row_of-row.ensures c.near_place.ensures.place c.in_default.is)
    ∙ ap (λ (k : ℕ). unwrap_or (get nat_eq w.others k) 0) (sym c.row_of-row.ensures)
    ∙ ap (λ (o : Option ℕ). unwrap_or o 0) (sym none))
    (ap not (sym (no_bit c.args.at)))

pub returns-clause-has : goal.returns-clause-has
returns-clause-has c = λ a.
    let w = c.self.inside in
    let long : c.len.result ≡ length w.near.items = search rules in
    let bit : ℕ = 1 * 2 ^ (c.args.at / 4 % 32) % 2 ^ 32 in
    let none : None ≡ get nat_eq w.others c.row_of-row.result = ap option_copied_mut (sym c.in_default-get_mut.is)
    ∙ c.get_mut.ensures.value in
    let zero : unwrap_or (get nat_eq w.others (word_row c.args.at)) 0 ≡ 0 =
    sym (ap (λ (o : Option ℕ). unwrap_or o 0) none
    ∙ ap (λ (k : ℕ). unwrap_or (get nat_eq w.others k) 0) c.row_of-row.ensures) in
    other_more w (record { first = w.first; near = w.near; others = c.insert.new.self }) c.args.self.now c.args.at bit a
    c.ranges.at.fits c.self.view_is
    (placed w c.args.at c.len.result c.row_of-row.result c.near_place.result None long
    c.row_of-row.ensures c.near_place.ensures.place c.in_default.is)
    (record {
      first = refl;
      near = refl;
      others = λ r.
          c.in_ok-insert.ensures.updates.0 r
          ∙ ap (λ m. cond (nat_eq c.row_of-row.result r) (Some bit) (get nat_eq m r)) c.get_mut.follows.holds-at-none
          ∙ ap (λ (k : ℕ). cond (nat_eq k r) (Some bit) (get nat_eq w.others r)) c.row_of-row.ensures;
    })
    (sym (ap (λ (n : ℕ). bit_or n bit) zero ∙ or_zero_l bit))
