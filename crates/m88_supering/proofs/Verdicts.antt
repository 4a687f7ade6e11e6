-- An input is accepted, or refused for one reason, never both; and it has one text.
use Rattle.std.specs.Prelude.{ℕ, ◌≡◌, ◌+◌, ◌<◌, ◌⊎◌, Bool, true, false, List, Option, Some, None, IfOk, IfSome, Result, Ok, Err, MatchBool, length}
use Rattle.std.proofs.Common.{ap, arith, inl, inr, refl, subst, sym, ◌∙◌}
use Rattle.m88_asm.proofs.Laws.{holds_of_same, not_linked, program_or_refusal, same_program_refusal}
use Rattle.m88_asm.specs.Sources.{HoldsOfProgram, IsProgramSource, IsRefusedProgram}
use Rattle.m88_base.proofs.Laws.{AreVerdicts, denies, one_parting, parted_not_unparted, parted_told, refuses_so, told_once, unrefused}
use Rattle.m88_base.specs.Lines.{lines_of}
use Rattle.m88_base.specs.OneVerdict.{HasOneFaultUnless}
use Rattle.m88_base.specs.Refusal.{Refusal, refusal_line}
use Rattle.m88_base.specs.Reply.{AnswersAs, IsRefusalOf, ShowsLineOf, accepts}
use Rattle.m88_base.specs.Shown.{IsShownOf}
use Rattle.m88_base.specs.declared.failing.NoMemory.{NoMemory}
use Rattle.m88_base.specs.declared.refused.Refused.{Refused}
use Rattle.m88_base.specs.declared.reply.Reply.{Reply}
use Rattle.m88_entries.specs.Left.{fault_text}
use Rattle.m88_entries.specs.Told.{Told, told_verdict}
use Rattle.m88_serving.specs.Served.{turned_down}
use Rattle.m88_serving.specs.declared.fault.ServeFault.{ServeFault}
use Rattle.m88_supering.specs.Answer.{AsAsked, IsAccepted, IsAnswer, IsEntryText, IsMade, IsRefusalText, IsRefused, IsToldBy, IsTurnedDown}
use Rattle.m88_supering.specs.Inputs.{AreParts, IsFaultInput, IsRefusedBefore, IsRefusedBehind, IsRefusedInput, LacksHandler, Parts, handler_separator, no_handler_refusal}
use Rattle.m88_supering.specs.Inside.Replies.{Replies}
use Rattle.m88_supering.specs.Request.{asked_for}
use Rattle.m88_supering.specs.declared.request.Request.{Request}
use Rattle.m88_supering.specs.declared.request.Request.TheVariants.{Fault}

-- what stands before a handler tells a fault or is refused, and in one way
not_told : (lines : List (List ℕ)) (told : Told) (fault : ServeFault) → told_verdict lines ≡ Ok told → told_verdict lines ≡ Err fault → ⊥
not_told lines told fault a b = let e : Ok told ≡ Err fault = sym a ∙ b in absurd cc

one_told : (lines : List (List ℕ)) (s t : Told) → told_verdict lines ≡ Ok s → told_verdict lines ≡ Ok t → s ≡ t
one_told lines s t a b = let e : Ok s ≡ Ok t = sym a ∙ b in cc

one_untold : (lines : List (List ℕ)) (f g : ServeFault) → told_verdict lines ≡ Err f → told_verdict lines ≡ Err g → f ≡ g
one_untold lines f g a b = let e : Err f ≡ Err g = sym a ∙ b in cc

module _ (input : List ℕ) where
  -- an input is parted in one way
  one_of_each : (a b : Parts) → AreParts input a → AreParts input b → a ≡ b
  one_of_each a b h k =
      let same = one_parting handler_separator input a.before a.lines a.source h b.before b.lines b.source k in
      λ i. record { before = same.0 i; lines = same.1 i; source = same.2 i }

  -- or it isn't parted
  there_or_not : (r : Refusal) → LacksHandler input r → (parts : Parts) → AreParts input parts → ⊥
  there_or_not r none parts h =
      parted_not_unparted handler_separator input parts.before parts.lines parts.source h none.lines none.is_unparted

  -- an input that is refused isn't accepted
  pub not_accepted : (r : Refusal) → IsFaultInput input → IsRefusedInput input r → ⊥
  not_accepted r (told, tells) (inl none) = there_or_not r none tells.parts tells.are_parts
  not_accepted r (told, tells) (inr (inl early)) =
      let same = one_of_each tells.parts early.parts tells.are_parts early.are_parts in
      not_told (lines_of early.parts.before) told early.fault
      (subst (λ (p : Parts). told_verdict (lines_of p.before) ≡ Ok told) same tells.is_told) early.is_fault
  not_accepted r (told, tells) (inr (inr late)) =
      let same = one_of_each tells.parts late.parts tells.are_parts late.are_parts in
      not_linked late.parts.lines late.parts.source r
      (subst (λ (p : Parts). IsProgramSource p.source) same tells.is_program) late.is_refused

  -- a handler is refused where what stands before it isn't
  late_or_early : (r s : Refusal) → IsRefusedBehind input r → IsRefusedBefore input s → ⊥
  late_or_early r s late early =
      let same = one_of_each late.parts early.parts late.are_parts early.are_parts in
      not_told (lines_of early.parts.before) late.told early.fault
      (subst (λ (p : Parts). told_verdict (lines_of p.before) ≡ Ok late.told) same late.is_told) early.is_fault

  -- an input has one refusal
  pub refused_once : (r s : Refusal) → IsRefusedInput input r → IsRefusedInput input s → r ≡ s
  refused_once r s (inl a) (inl b) =
      a.refusal ∙ ap (λ n. no_handler_refusal (n + 1)) (a.is_unparted.number ∙ sym b.is_unparted.number) ∙ sym b.refusal
  refused_once r s (inl a) (inr (inl b)) = absurd (there_or_not r a b.parts b.are_parts)
  refused_once r s (inl a) (inr (inr b)) = absurd (there_or_not r a b.parts b.are_parts)
  refused_once r s (inr (inl a)) (inl b) = absurd (there_or_not s b a.parts a.are_parts)
  refused_once r s (inr (inr a)) (inl b) = absurd (there_or_not s b a.parts a.are_parts)
  refused_once r s (inr (inl a)) (inr (inl b)) =
      let same = one_of_each a.parts b.parts a.are_parts b.are_parts in
      a.refusal
      ∙ ap turned_down (one_untold (lines_of b.parts.before) a.fault b.fault
      (subst (λ (p : Parts). told_verdict (lines_of p.before) ≡ Err a.fault) same a.is_fault) b.is_fault)
      ∙ sym b.refusal
  refused_once r s (inr (inl a)) (inr (inr b)) = absurd (late_or_early s r b a)
  refused_once r s (inr (inr a)) (inr (inl b)) = absurd (late_or_early r s a b)
  refused_once r s (inr (inr a)) (inr (inr b)) =
      let same = one_of_each a.parts b.parts a.are_parts b.are_parts in
      same_program_refusal b.parts.lines b.parts.source r s
      (subst (λ (p : Parts). IsRefusedProgram p.lines p.source r) same a.is_refused) b.is_refused

  -- an input is accepted or refused
  fault_or_refusal : IsFaultInput input ⊎ ((r : Refusal) × IsRefusedInput input r)
  fault_or_refusal = elim (parted_told handler_separator input) [
    | inr none ↦ inr (_, inl (record { lines = none.0; is_unparted = none.1; refusal = refl }))
    | inl p ↦ by_fault (record { before = p.before; lines = p.lines; source = p.behind }) p.is_parted _ refl
  ]
    where
      by_handler : (parts : Parts) → AreParts input parts → (told : Told) → told_verdict (lines_of parts.before) ≡ Ok told
          → IsFaultInput input ⊎ ((r : Refusal) × IsRefusedInput input r)
      by_handler parts are told is = elim (program_or_refusal parts.lines parts.source) [
        | inl program ↦ inl (told, record { parts = parts; are_parts = are; is_told = is; is_program = program })
        | inr refused ↦ inr (
          refused.0,
          inr (inr (record { parts = parts; are_parts = are; told = told; is_told = is; is_refused = refused.1 })),
        )
      ]

      by_fault : (parts : Parts) → AreParts input parts → (verdict : Result Told ServeFault) → told_verdict (lines_of parts.before) ≡ verdict
          → IsFaultInput input ⊎ ((r : Refusal) × IsRefusedInput input r)
      by_fault parts are (Ok told) is = by_handler parts are told is
      by_fault parts are (Err fault) is =
          inr (_, inr (inl (record { parts = parts; are_parts = are; fault = fault; is_fault = is; refusal = refl })))

pub one_verdict : (request : Request) (input : List ℕ) → HasOneFaultUnless (IsAccepted request input) (IsRefused request input)
one_verdict (Fault steps) input = told_once (IsRefusedInput input) (fault_or_refusal input) (not_accepted input) (refused_once input)

-- an input has one text of its entry
one_entry : (steps : ℕ) (input a b : List ℕ) → IsEntryText steps input a → IsEntryText steps input b → a ≡ b
one_entry steps input a b x y =
    let same = one_of_each input x.tells.parts y.tells.parts x.tells.are_parts y.tells.are_parts in
    let told = one_told (lines_of y.tells.parts.before) x.told y.told
    (subst (λ (p : Parts). told_verdict (lines_of p.before) ≡ Ok x.told) same x.tells.is_told) y.tells.is_told in
    let first : HoldsOfProgram y.tells.parts.source (λ p. a ≡ fault_text p steps x.told) =
    subst (λ (q : Parts). HoldsOfProgram q.source (λ p. a ≡ fault_text p steps x.told)) same x.is_text in
    holds_of_same y.tells.parts.source _ _ first y.is_text ∙ ap (fault_text y.is_text.program steps) told ∙ sym y.is_text.holds

one_turning : (input a b : List ℕ) → IsRefusalText input a → IsRefusalText input b → a ≡ b
one_turning input a b x y =
    x.is_text ∙ ap refusal_line (refused_once input x.refusal y.refusal x.refused y.refused) ∙ sym y.is_text

pub not_both : (request : Request) (input a b : List ℕ) → IsMade request input a → IsTurnedDown request input b → ⊥
not_both (Fault steps) input a b made down = not_accepted input down.refusal (made.told, made.tells) down.refused

pub one_answer : (request : Request) (input a b : List ℕ) → IsAnswer request input a → IsAnswer request input b → a ≡ b
one_answer (Fault steps) input a b (inl x) (inl y) = one_entry steps input a b x y
one_answer (Fault steps) input a b (inl x) (inr y) = absurd (not_both (Fault steps) input a b x y)
one_answer (Fault steps) input a b (inr x) (inl y) = absurd (not_both (Fault steps) input b a y x)
one_answer (Fault steps) input a b (inr x) (inr y) = one_turning input a b x y

-- what is made of an input is made of one that is accepted, and what is refused isn't
pub made_accepted : (request : Request) (input text : List ℕ) → IsMade request input text → IsAccepted request input
made_accepted (Fault steps) input text made = (made.told, made.tells)

pub down_unaccepted : (request : Request) (input text : List ℕ) → IsTurnedDown request input text → ¬ IsAccepted request input
down_unaccepted (Fault steps) input text down accepted = not_accepted input down.refusal accepted down.refused

-- a refusal has a byte
line_some : (r : Refusal) → 0 < length (refusal_line r)
line_some r = omega arith

down_some : (request : Request) (input text : List ℕ) → IsTurnedDown request input text → 0 < length text
down_some (Fault steps) input text down = subst (λ (t : List ℕ). 0 < length t) (sym down.is_text) (line_some down.refusal)

pub asked_some : (words : List (List ℕ)) (input text : List ℕ) → AsAsked words IsTurnedDown input text → 0 < length text
asked_some words input text h = down_some h.request input text h.is_text

-- words ask for one thing
one_asked : (words : List (List ℕ)) (r s : Request) → asked_for words ≡ Some r → asked_for words ≡ Some s → r ≡ s
one_asked words r s a b = let e : Some r ≡ Some s = sym a ∙ b in cc

-- no input is accepted with a text and refused with one, by the words, and one that is refused has one text
pub verdicts : (words : List (List ℕ)) → AreVerdicts (AsAsked words IsMade) (AsAsked words IsTurnedDown)
verdicts words = record {
  not_both = λ input a b made down.
      not_both down.request input a b
      (subst (λ (r : Request). IsMade r input a) (one_asked words made.request down.request made.asked down.asked) made.is_text)
      down.is_text;
  one_refusal = λ input a b x y.
      one_answer y.request input a b
      (inr (subst (λ (r : Request). IsTurnedDown r input a) (one_asked words x.request y.request x.asked y.asked) x.is_text))
      (inr y.is_text);
}

-- a reply to what is asked for is one to the words
by_words : (words : List (List ℕ)) (request : Request) (input text : List ℕ) → asked_for words ≡ Some request → (accepted : Bool)
    → MatchBool accepted (IsMade request input text) (IsTurnedDown request input text)
    → MatchBool accepted (AsAsked words IsMade input text) (AsAsked words IsTurnedDown input text)
by_words words request input text asked true h = record { request = request; asked = asked; is_text = h }
by_words words request input text asked false h = record { request = request; asked = asked; is_text = h }

pub replied : (words : List (List ℕ)) (request : Request) (input : List ℕ) (reply : Reply) → asked_for words ≡ Some request
    → Replies request input reply
    → AnswersAs (AsAsked words IsMade input) (AsAsked words IsTurnedDown input) reply
replied words request input reply asked h = by_words words request input reply.text.items asked (accepts reply) h.0

-- and its refusal, with the line that it shows
pub told_by_words : (words : List (List ℕ)) (request : Request) (input : List ℕ) (reply : Reply) → asked_for words ≡ Some request
    → Replies request input reply → ShowsLineOf input reply → IfSome reply.refused (IsToldBy words input)
told_by_words words request input reply asked h shown = by reply.refused h.1 shown
  where
    by : (o : Option Refused) → IfSome o (λ r. IsRefused request input r.refusal) → IfSome o (IsShownOf input)
        → IfSome o (IsToldBy words input)
    by None refused shown = tt
    by (Some r) refused shown = record { request = request; asked = asked; refused = refused; shown = shown }

-- the replies, where there was memory for one
pub refused_reply : (request : Request) (input : List ℕ) (r : Refusal) (result : Result Reply NoMemory) → IsRefused request input r
    → IfOk result (IsRefusalOf r) → IfOk result (Replies request input)
refused_reply (Fault steps) input r (Ok reply) refused is = (
  rw (denies r reply is) (record { refusal = r; refused = refused; is_text = is.line }),
  refuses_so r reply is (IsRefusedInput input) refused,
)
refused_reply (Fault steps) input r (Err e) refused is = tt

pub made_reply : (request : Request) (input : List ℕ) (reply : Reply) → IsMade request input reply.text.items → accepts reply ≡ true
    → Replies request input reply
made_reply request input reply made granted = (rw granted made, unrefused reply (IsRefused request input) granted)

-- what is asked for is accepted as it is by the words
pub same_request : (words : List (List ℕ)) (r s : Request) (input : List ℕ) → asked_for words ≡ Some r → asked_for words ≡ Some s
    → IsAccepted r input → IsAccepted s input
same_request words r s input a b accepted = subst (λ (q : Request). IsAccepted q input) (one_asked words r s a b) accepted
