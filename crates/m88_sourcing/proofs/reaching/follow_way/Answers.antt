-- One step more, and the end of a way.
use Rattle.std.proofs.Common.{◌≡◌, ◌∙◌, ℕ, Some, IfSome, [], append-nil, refl, subst, sym}
use Rattle.std.specs.Prelude.{Option}
use Rattle.std.specs.Option.{option_to_list}
use Rattle.std.proofs.lemmas.Result.{on_ok_weaker}
use Rattle.m88_sourcing.specs.Inside.Walks.{IsReachedIfCode}
use Rattle.m88_sourcing.proofs.Walking.{ended_closed, ended_sound, kept_then, left_as, none_left}
use Rattle.m88_sourcing.proofs.reaching.follow_way.Goals as goal

pub returns-then-contains-clause-closed : goal.returns-then-contains-clause-closed
returns-then-contains-clause-closed c =
    none_left c.args.image.now c.args.walk.now c.args.head (λ _. ⊥) (λ _. sym c.contains.ensures ∙ c.if-contains.true)
    c.requires

pub returns-then-contains-clause-keeps : goal.returns-then-contains-clause-keeps
returns-then-contains-clause-keeps c = record {
  code = λ a there. there;
  more = [];
  heads = sym (append-nil c.args.walk.now.heads.items);
}

pub returns-in_default-clause-closed : goal.returns-in_default-clause-closed
returns-in_default-clause-closed c =
    left_as c.args.image.now c.loop.walk (λ b. c.loop.next ≡ Some b) (λ _. ⊥)
    (λ b e. absurd (c.in_default.not-Some b e))
    c.loop.invariant.closed

pub step-requires-in-loop-clause-closed : goal.step-requires-in-loop-clause-closed
step-requires-in-loop-clause-closed c =
    left_as c.args.image.now c.loop.walk (λ b. c.loop.next ≡ Some b) (λ b. b ≡ c.in-Some.to)
    (λ b e. let same : Some b ≡ Some c.in-Some.to = sym e ∙ c.in-Some.is in cc) c.loop.invariant.closed

pub loop-preserved : goal.loop-preserved
loop-preserved c = record {
  rest = c.bytes_on-bytes.ensures;
  closed = c.in_ok-next-2.ensures.closed;
  sound = λ seeds sound reached.
      let before = c.loop.invariant.sound seeds sound reached in
      c.in_ok-next-2.ensures.sound seeds before.0
      (subst (λ (o : Option ℕ). IfSome o (IsReachedIfCode c.args.image.now seeds)) c.in-Some.is before.1);
  keeps = kept_then c.args.walk.now c.loop.walk c.step-in-loop.new.walk c.loop.invariant.keeps
      c.in_ok-next-2.ensures.keeps;
  found = λ stands. c.in_ok-next-2.ensures.keeps.code c.args.head (c.loop.invariant.found stands);
}

pub returns-clause-closed : goal.returns-clause-closed
returns-clause-closed c =
    on_ok_weaker c.push_if.result
    (λ e.
    ended_closed c.args.image.now c.loop.walk
    (record { outline = c.loop.walk.outline; heads = c.push_if.new.addresses; slots = c.loop.walk.slots }) c.loop.next
    refl refl
    e c.loop.invariant.closed)
    c.push_if.ensures

pub returns-clause-sound : goal.returns-clause-sound
returns-clause-sound c =
    on_ok_weaker c.push_if.result
    (λ e seeds sound reached.
    ended_sound c.args.image.now seeds c.loop.walk
    (record { outline = c.loop.walk.outline; heads = c.push_if.new.addresses; slots = c.loop.walk.slots }) c.loop.next
    refl refl
    e (c.loop.invariant.sound seeds sound reached))
    c.push_if.ensures

pub returns-clause-keeps : goal.returns-clause-keeps
returns-clause-keeps c =
    on_ok_weaker c.push_if.result
    (λ e.
    kept_then c.args.walk.now c.loop.walk
    (record { outline = c.loop.walk.outline; heads = c.push_if.new.addresses; slots = c.loop.walk.slots })
    c.loop.invariant.keeps (record { code = λ a there. there; more = option_to_list c.loop.next; heads = e }))
    c.push_if.ensures
