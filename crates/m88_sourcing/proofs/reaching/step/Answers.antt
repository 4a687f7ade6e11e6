-- Nothing is left where nothing new was found, else what the instruction leads to.
use Rattle.std.proofs.Common.{◌∙◌, [], ap, append-nil, inl, inr, subst, sym}
use Rattle.m88_sourcing.specs.Inside.Members.{AddsLabel, noted_label}
use Rattle.m88_sourcing.specs.declared.outline.Noted.{Noted}
use Rattle.m88_sourcing.proofs.Walking.{again_closed, again_sound, more_closed, more_sound, none_left, once_more, with_one}
use Rattle.m88_sourcing.proofs.reaching.step.Goals as goal

pub returns-in_default-clause-closed : goal.returns-in_default-clause-closed
returns-in_default-clause-closed c =
    none_left c.args.image.now c.args.walk.now c.args.at _
    (λ h. absurd (c.in_default.not-Some h.0 (c.standing_in.ensures.only c.args.image.now h.0 c.requires.rest h.1)))
    c.requires.closed

pub returns-in_default-clause-found : goal.returns-in_default-clause-found
returns-in_default-clause-found c = λ h.
    absurd (c.in_default.not-Some h.0 (c.standing_in.ensures.only c.args.image.now h.0 c.requires.rest h.1))

pub returns-in_default-2-clause-closed : goal.returns-in_default-2-clause-closed
returns-in_default-2-clause-closed c =
    let there = c.in_ok-label.ensures.again c.in_default-2.is in
    again_closed c.args.image.now c.args.walk.now c.note_word.new.outline c.args.at _ there
    (once_more c.args.walk.now.outline.code c.note_word.new.outline.code c.args.at there c.in_ok-label.ensures.code)
    c.in_ok-label.ensures.named
    (subst (λ (n : Noted). AddsLabel c.args.walk.now.outline c.note_word.new.outline (noted_label n)) c.in_default-2.is
    c.in_ok-label.ensures.labels)
    c.requires.closed

pub returns-in_default-2-clause-sound : goal.returns-in_default-2-clause-sound
returns-in_default-2-clause-sound c = λ seeds sound reached. (
  again_sound c.args.image.now seeds c.args.walk.now c.note_word.new.outline
      (once_more c.args.walk.now.outline.code c.note_word.new.outline.code c.args.at
      (c.in_ok-label.ensures.again c.in_default-2.is) c.in_ok-label.ensures.code) sound,
  tt,
)

pub returns-in_default-2-clause-keeps : goal.returns-in_default-2-clause-keeps
returns-in_default-2-clause-keeps c = record {
  code = λ a there. (c.in_ok-label.ensures.code a).1 (inl there);
  more = [];
  heads = sym (append-nil c.args.walk.now.heads.items);
}

pub returns-clause-closed : goal.returns-clause-closed
returns-clause-closed c =
    more_closed c.args.image.now c.args.walk.now
    (record { outline = c.note_word.new.outline; heads = c.push_if.new.addresses; slots = c.push_other.new.addresses })
    c.args.at c.next_of-next.result c.slot.result c.in-Now.label c.in-Some.instr
    (c.in-Some.ensures.some c.args.image.now c.requires.rest) c.requires.closed c.in_ok-label.ensures.code
    c.in_ok-label.ensures.named
    (subst (λ (n : Noted). AddsLabel c.args.walk.now.outline c.note_word.new.outline (noted_label n)) c.in-Now.is
    c.in_ok-label.ensures.labels)
    c.slot.ensures c.in_ok-push_other.ensures.keeps c.in_ok-push_other.ensures.has c.next_of-next.ensures.only
    c.next_of-next.ensures.has c.in_ok-push_if.ensures

pub returns-clause-sound : goal.returns-clause-sound
returns-clause-sound c = λ seeds sound reached.
    more_sound c.args.image.now seeds c.args.walk.now
    (record { outline = c.note_word.new.outline; heads = c.push_if.new.addresses; slots = c.push_other.new.addresses })
    c.args.at c.next_of-next.result c.slot.result c.in-Some.instr
    (c.in-Some.ensures.some c.args.image.now c.requires.rest) sound reached c.in_ok-label.ensures.code c.slot.ensures
    c.in_ok-push_other.ensures.only
    (λ b there.
    elim ((with_one _ _ _ b c.in_ok-push_if.ensures).0 there) [
      | inl old ↦ inl old
      | inr new ↦
          inr (c.next_of-next.ensures.branch b (c.in_ok-label.ensures.label b (ap noted_label c.in-Now.is ∙ new)))
    ])
    c.next_of-next.ensures.only
