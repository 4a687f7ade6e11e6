-- What a reply to an input says, and what is answered of its refusal.
use Rattle.std.specs.Prelude.{ℕ, ◌≡◌, ◌≢◌, Bool, List, Option, Some, IfSome, MatchBool, MatchOption, is_none}
use Rattle.std.specs.Option.{option_map}
use Rattle.m88_base.specs.Refusal.{Refusal, refusal_line}
use Rattle.m88_base.specs.Shown.{IsShownOf}
use Rattle.m88_base.specs.declared.reply.Answer.{Answer}
use Rattle.m88_base.specs.declared.reply.Reply.{Reply}
use Rattle.m88_base.specs.declared.status.Status.TheVariants as status

-- the reply accepts its input: it has no refusal
abbrev pub accepts : Reply → Bool
accepts r = is_none r.refused

-- the reply's text answers an input that is accepted or one that is refused, as the reply says
abbrev pub AnswersAs : (IsAccepted IsRefused : List ℕ → Type 0) → Reply → Type 0
AnswersAs IsAccepted IsRefused r = MatchBool (accepts r) (IsAccepted r.text.items) (IsRefused r.text.items)

-- where and why the reply refuses its input
abbrev pub refusal_of : Reply → Option Refusal
refusal_of r = option_map (λ refused. refused.refusal) r.refused

-- the reply's refusal, where it has one, is one of these
abbrev pub RefusesAs : (Refusal → Type 0) → Reply → Type 0
RefusesAs IsRefusal r = IfSome r.refused (λ refused. IsRefusal refused.refusal)

-- the reply's refusal, where it has one, shows the line of the input that it is at
abbrev pub ShowsLineOf : List ℕ → Reply → Type 0
ShowsLineOf input r = IfSome r.refused (IsShownOf input)

-- the reply is the line of a refusal
pub record IsRefusalOf (r : Refusal) (reply : Reply) : Type 0 where
  pub refused : refusal_of reply ≡ Some r
  pub line : reply.text.items ≡ refusal_line r

-- a refusal is answered exactly where the input is refused, and then it is the reply's
abbrev pub AnswersRefusal : Reply → Answer → Type 0
AnswersRefusal reply answer =
    MatchOption answer.refused (answer.status ≢ status.Refused)
    (λ refused. (answer.status ≡ status.Refused) × (reply.refused ≡ Some refused))
