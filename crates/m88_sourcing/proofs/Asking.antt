-- What the words of the program ask for, by whether `at` stands first.
use Rattle.std.proofs.Common.{◌≡◌, ◌∙◌, ℕ, true, false, List, [], ◌∷◌, None, Option, Some, ap, arith, drop, length, refl, sym, subst, true≢false}
use Rattle.std.specs.Prelude.{codes, flat_map}
use Rattle.std.specs.Option.{is_some, option_to_list, unwrap_or}
use Rattle.m88_sourcing.specs.Hints.{AreHints, BeginWith}
use Rattle.m88_sourcing.specs.Hints.AreHints.{hint, no_word}
use Rattle.m88_sourcing.specs.Hints.BeginWith.{entries, fixed, start, vectors}
use Rattle.m88_sourcing.specs.Inside.Asked.{ReadsRequest}
use Rattle.m88_sourcing.specs.Places.{IsNumberWord}
use Rattle.m88_sourcing.specs.Request.{Asks, Request, SayHints, start_of, starts_in}
use Rattle.m88_sourcing.specs.Request.Asks.{binary, records}
use Rattle.m88_sourcing.specs.declared.hint.Hint.{Hint}
use Rattle.m88_sourcing.specs.declared.request.Request.{Request as Kept}
use Rattle.m88_sourcing.proofs.Hinted.{first_of, no_other, no_places}

-- `at` begins no hint
at_begins_none : (all rest others : List (List ℕ)) (h : Hint) → all ≡ codes "at" ∷ rest → BeginWith all h others → ⊥
at_begins_none _ rest others _ e (entries {word = word} {places = places} is) =
    no_places word (codes "at") places (first_of e) refl is
at_begins_none _ rest others _ e (fixed is) = no_other (codes "fixed") (codes "at") _ _ refl e
at_begins_none _ rest others _ e (vectors is_at is_count are) = no_other (codes "vectors") (codes "at") _ _ refl e
at_begins_none _ rest others _ e (start is) = no_other (codes "start") (codes "at") _ _ refl e

at_says_none : (all rest : List (List ℕ)) (hints : List Hint) → all ≡ codes "at" ∷ rest → AreHints all hints → ⊥
at_says_none _ rest _ e no_word = absurd (omega (arith, ap (λ (ws : List (List ℕ)). length ws) e))
at_says_none all rest _ e (hint {others = others} {first = first} begin are) = at_begins_none all rest others first e begin

-- what is asked for behind `at`, and where that doesn't stand first
pub record OfBinary (words : List (List ℕ)) (wanted : Request) : Type 0 where
  pub word : List ℕ
  pub rest : List (List ℕ)
  pub at : ℕ
  pub hints : List Hint
  pub words_are : words ≡ word ∷ rest
  pub is : IsNumberWord word at
  pub say : SayHints rest hints
  pub wanted_is : wanted
      ≡ record { binary = Some (record { at = at; start = start_of at (flat_map starts_in hints) }); hints = hints }

pub record OfRecords (words : List (List ℕ)) (wanted : Request) : Type 0 where
  pub hints : List Hint
  pub say : SayHints words hints
  pub none : flat_map starts_in hints ≡ []
  pub wanted_is : wanted ≡ record { binary = None; hints = hints }

pub of_binary : (all words : List (List ℕ)) (wanted : Request) → all ≡ codes "at" ∷ words → Asks all wanted
    → OfBinary words wanted
of_binary all words _ e (records {hints = hints} say none) = absurd (at_says_none all words hints e say.0)
of_binary _ words _ e (binary {word = word} {words = rest} {at = at} {hints = hints} is say) = record {
  word = word;
  rest = rest;
  at = at;
  hints = hints;
  words_are = sym (ap (drop 1) e);
  is = is;
  say = say;
  wanted_is = refl;
}

pub of_records : (all : List (List ℕ)) (wanted : Request) → ((words : List (List ℕ)) → all ≡ codes "at" ∷ words → ⊥)
    → Asks all wanted → OfRecords all wanted
of_records all _ no_at (records {hints = hints} say none) = record { hints = hints; say = say; none = none; wanted_is = refl }
of_records _ _ no_at (binary {word = word} {words = rest} is say) = absurd (no_at (word ∷ rest) refl)

-- words that ask for nothing
pub none_asked : (words : List (List ℕ)) (result : Option Kept) → result ≡ None
    → ((wanted : Request) → Asks words wanted → ⊥) → ReadsRequest words result
none_asked words result e none =
    subst (ReadsRequest words) (sym e)
    (record { found = tt; only = λ wanted asks. none wanted asks; one = λ a b asks other. absurd (none a asks) })

-- the start that hints say, where they say one
pub start_said : (at : ℕ) (said : Option ℕ) (starts : List ℕ) → option_to_list said ≡ starts
    → unwrap_or said at ≡ start_of at starts
start_said at said starts e = by_value said ∙ ap (start_of at) e
  where
    by_value : (o : Option ℕ) → unwrap_or o at ≡ start_of at (option_to_list o)
    by_value None = refl
    by_value (Some s) = refl

pub none_said : (said : Option ℕ) (starts : List ℕ) → option_to_list said ≡ starts → is_some said ≡ false → starts ≡ []
none_said None starts e none = sym e
none_said (Some s) starts e none = absurd (true≢false none)

pub some_said : (said : Option ℕ) (starts : List ℕ) → option_to_list said ≡ starts → is_some said ≡ true → starts ≡ [] → ⊥
some_said None starts e some none = true≢false (sym some)
some_said (Some s) starts e some none = absurd (omega (arith, ap (λ (xs : List ℕ). length xs) (e ∙ none)))
