-- One way more, and all.
use Rattle.std.proofs.Common.{◌≡◌, ◌∙◌, ◌<◌, ℕ, List, Contains, IsTrue, Some, ap, arith, rules, vec_len, inl, inr, length, slice_get, subst, sym, true≢false}
use Rattle.std.proofs.lemmas.Bool.{cases_lt}
use Rattle.std.proofs.lemmas.List.Elements.{Contains-append_left}
use Rattle.std.proofs.lemmas.Option.{slice_get-get_or}
use Rattle.std.specs.FinSet.{contains}
use Rattle.m88_sourcing.specs.Code.{HasInstruction}
use Rattle.m88_sourcing.specs.Code.IsReached.{begins}
use Rattle.m88_sourcing.proofs.Reached.{all_reached}
use Rattle.m88_sourcing.proofs.Walking.{left_as, stands_still}
use Rattle.m88_sourcing.proofs.reaching.follow.Goals as goal

pub loop-next-init : goal.loop-next-init
loop-next-init c = record {
  sound = record {
    code = λ a there. absurd (true≢false (sym there ∙ c.in_ok-new.ensures.code a));
    heads = λ a seed stands. begins seed stands;
    slots = λ b there.
        let low = there.1 in
        let none = ap length c.new-2.ensures.items in
        absurd (omega (arith, low, none));
  };
  closed = record {
    leads = λ a b there led. absurd (true≢false (sym there ∙ c.in_ok-new.ensures.code a));
    slots = λ a b there is_slot. absurd (true≢false (sym there ∙ c.in_ok-new.ensures.code a));
    names = c.in_ok-new.ensures.named c.args.image.now;
    labels = λ a there.
        let named = (((c.in_ok-new.ensures.named c.args.image.now).labels a).0 there).0 in
        absurd (true≢false (sym named.1 ∙ c.in_ok-new.ensures.code named.0));
  };
  seeds = λ a seed. seed;
  done = λ k b low there stands. absurd (omega (arith, low));
}

pub follow_way-requires : goal.follow_way-requires
follow_way-requires c =
    left_as c.args.image.now c.loop-next.walk (λ _. ⊥) (λ b. b ≡ c.index-head.result.now) (λ b none. absurd none)
    c.loop-next.invariant.closed

pub loop-next-preserved : goal.loop-next-preserved
loop-next-preserved c =
    let heads : List ℕ = c.loop-next.walk.heads.items in
    let head : ℕ = c.index-head.result.now in
    let len : c.len.result ≡ vec_len c.loop-next.walk.heads = c.len.ensures in
    let long : vec_len c.loop-next.walk.heads ≡ length heads = search rules in
    let test = c.loop-next-test.true in
    let low : c.loop-next.next < length heads = omega (arith, len, long, test) in
    let at : slice_get heads c.loop-next.next ≡ Some head =
    slice_get-get_or heads c.loop-next.next head low ∙ ap (λ (n : ℕ). Some n) (sym c.index-head.ensures) in
    let keeps = c.in_ok-follow_way.ensures.keeps in
    record {
      sound =
          c.in_ok-follow_way.ensures.sound c.args.seeds.items c.loop-next.invariant.sound
          (c.loop-next.invariant.sound.heads head
          (c.loop-next.next, low, sym c.index-head.ensures));
      closed = c.in_ok-follow_way.ensures.closed;
      seeds = λ a seed.
          subst (λ (xs : List ℕ). Contains xs a) (sym keeps.heads)
          (Contains-append_left heads keeps.more a (c.loop-next.invariant.seeds a seed));
      done = λ k b below there stands.
          let within : k < length heads = (let first = low in omega (arith, first, below)) in
          let was : slice_get heads k ≡ Some b =
          sym (stands_still heads keeps.more k within) ∙ ap (λ (xs : List ℕ). slice_get xs k) (sym keeps.heads)
          ∙ there in
          elim (cases_lt k c.loop-next.next) [
            | inl before ↦ keeps.code b (c.loop-next.invariant.done k b before was stands)
            | inr from ↦
                let here : k ≡ c.loop-next.next = omega (arith, below, from) in
                let now : slice_get heads c.loop-next.next ≡ Some b = ap (λ (n : ℕ). slice_get heads n) (sym here)
                ∙ was in
                let same : b ≡ head = cc in
                subst (λ (n : ℕ). IsTrue (contains c.follow_way.new.walk.outline.code n)) (sym same)
                (c.in_ok-follow_way.ensures.found (subst (λ (n : ℕ). HasInstruction c.args.image.now n) same stands))
          ];
    }

pub returns-clause-all : goal.returns-clause-all
returns-clause-all c = λ a.
    let heads : List ℕ = c.loop-next.walk.heads.items in
    let len : c.len.result ≡ vec_len c.loop-next.walk.heads = c.len.ensures in
    let long : vec_len c.loop-next.walk.heads ≡ length heads = search rules in
    let all = c.loop-next-test.false in
    let found : (b : ℕ) → Contains heads b → HasInstruction c.args.image.now b
    → IsTrue (contains c.loop-next.walk.outline.code b) =
    λ b head stands.
    let low = head.1 in
    c.loop-next.invariant.done head.0 b (omega (arith, low, len, long, all))
    (slice_get-get_or heads head.0 b head.1 ∙ ap (λ (n : ℕ). Some n) head.2) stands in
    all_reached c.args.image.now c.args.seeds.items (λ b. IsTrue (contains c.loop-next.walk.outline.code b))
    (λ b seed stands. found b (c.loop-next.invariant.seeds b seed) stands)
    (λ b d there led.
    elim (c.loop-next.invariant.closed.leads b d there led) [
      | inl is ↦ is
      | inr further ↦ elim further [
        | inl head ↦ found d head led.4
        | inr none ↦ absurd none
      ]
    ])
    a
