-- Whether parts of objects are sound can be told, and so objects are sound or have a first part by which one isn't.
use Rattle.std.proofs.Common.{◌≡◌, ℕ, ◌+◌, ◌%◌, ◌≤◌, Bool, true, false, List, [], ◌∷◌, ◌++◌, Option, None, Some, append_assoc, inl, inr, length, refl, sym, subst, ◌∙◌}
use Rattle.std.specs.Prelude.{◌⊎◌, All, IfSome, IsSomeAnd, IsTrue, slice_get}
use Rattle.std.proofs.lemmas.Bool.{cases_eq}
use Rattle.std.proofs.lemmas.List.{append-nil}
use Rattle.std.proofs.lemmas.List.Elements.{All-nil, All-push}
use Rattle.m88_base.proofs.Laws.{IsDecided, at_most, both_decided, same_text}
use Rattle.m88_link.specs.declared.object.Object.{Object}
use Rattle.m88_link.specs.declared.object.Reloc.{Reloc}
use Rattle.m88_link.specs.declared.object.Section.{Section}
use Rattle.m88_link.specs.declared.object.Symbol.{Symbol}
use Rattle.m88_link.specs.ObjectRead.{AreSoundSymbols}
use Rattle.m88_link.specs.Sound.{HasRoom, IsDefinedIn, IsGlobalIfStart, IsPatchIn, origin, start_name}
use Rattle.m88_link.specs.Symbols.{Repetition, first_repeated}
use Rattle.m88_link.specs.Inside.Walked.{ArePatches, AreSoundParts, HaveRoom, IsFound, IsFoundObject, IsFoundPart, objects_count, sections_count}
use Rattle.m88_link.proofs.Walks.{All-last}

-- parts one by one
room_told : (s : Section) → IsDecided (HasRoom s)
room_told s = both_decided (at_most _ _) (at_most _ _)

defined_told : (sections : List Section) (s : Symbol) → IsDecided (IsDefinedIn sections s)
defined_told sections s = by_section s.section
  where
    within : (o : Option Section) → IsDecided (IsSomeAnd o (λ x. s.value ≤ length x.bytes))
    within None = inr (λ h. h)
    within (Some x) = at_most s.value (length x.bytes)

    by_section : (o : Option ℕ) → IsDecided (IfSome o (λ k. IsSomeAnd (slice_get sections k) (λ x. s.value ≤ length x.bytes)))
    by_section None = inl tt
    by_section (Some k) = within (slice_get sections k)

global_told : (s : Symbol) → IsDecided (IsGlobalIfStart s)
global_told s = by_mark s.global
  where
    by_mark : (b : Bool) → IsDecided (s.name ≡ start_name → IsTrue b)
    by_mark true = inl (λ named. refl)
    by_mark false = elim (same_text s.name start_name) [
      | inl named ↦ inr (λ h. absurd (let e : false ≡ true = h named in cc))
      | inr other ↦ inl (λ named. absurd (other named))
    ]

patch_told : (sections : List Section) (r : Reloc) → IsDecided (IsPatchIn sections r)
patch_told sections r = by_section (slice_get sections r.section)
  where
    by_section : (o : Option Section)
        → IsDecided (IsSomeAnd o (λ s. (r.offset + 4 ≤ length s.bytes) × ((origin s.place + r.offset) % 4 ≡ 0)))
    by_section None = inr (λ h. h)
    by_section (Some s) = both_decided (at_most (r.offset + 4) (length s.bytes)) (cases_eq ((origin s.place + r.offset) % 4) 0)

-- one part more behind others that are sound
one_more : {A : Type 0} (P : A → Type 0) → ((x : A) → IsDecided (P x)) → (before : List A) (x : A) → All P before → IsDecided (All P (before ++ x ∷ []))
one_more P told before x good = elim (told x) [
  | inl holds ↦ inl (All-push P before x good holds)
  | inr fails ↦ inr (λ h. fails (All-last P before x h))
]

symbol_more : (sections : List Section) (before : List Symbol) (s : Symbol) → AreSoundSymbols sections before
    → IsDecided (AreSoundSymbols sections (before ++ s ∷ []))
symbol_more sections before s good = elim (one_more (IsDefinedIn sections) (defined_told sections) before s good.defined) [
  | inr fails ↦ inr (λ h. fails h.defined)
  | inl defined ↦ elim (one_more IsGlobalIfStart global_told before s good.start) [
    | inr fails ↦ inr (λ h. fails h.start)
    | inl start ↦ by_name defined start (first_repeated (before ++ s ∷ [])) refl
  ]
]
  where
    by_name : All (IsDefinedIn sections) (before ++ s ∷ []) → All IsGlobalIfStart (before ++ s ∷ []) → (o : Option Repetition)
        → first_repeated (before ++ s ∷ []) ≡ o → IsDecided (AreSoundSymbols sections (before ++ s ∷ []))
    by_name defined start None e = inl (record { defined = defined; names = e; start = start })
    by_name defined start (Some r) e = inr (λ h. absurd (let n = h.names in cc))

-- a list is good or has a first part behind which it isn't
module _ {A : Type 0} (Good : List A → Type 0) (count : List A → ℕ)
    (told : (before : List A) (x : A) → Good before → IsDecided (Good (before ++ x ∷ []))) where
  search_from : (all before rest : List A) → all ≡ before ++ rest → Good before → Good all ⊎ ((n : ℕ) × IsFound Good count all n)
  search_from all before [] e good = inl (subst Good (sym (e ∙ append-nil before)) good)
  search_from all before (x ∷ rest) e good = elim (told before x good) [
    | inl more ↦ search_from all (before ++ x ∷ []) rest (e ∙ sym (append_assoc before (x ∷ []) rest)) more
    | inr bad ↦ inr (
      count before,
      record { before = before; part = x; after = rest; parts = e; good = good; bad = bad; count_is = refl },
    )
  ]

-- the parts of an object
object_told : (o : Object) → AreSoundParts o ⊎ ((n : ℕ) × IsFoundPart o n)
object_told o = elim (search_from HaveRoom sections_count (one_more HasRoom room_told) o.sections [] o.sections refl (All-nil HasRoom)) [
  | inr s ↦ inr (1 + s.0, inl (s.0, s.1, refl))
  | inl room ↦ elim (search_from (AreSoundSymbols o.sections) length (symbol_more o.sections) o.symbols [] o.symbols refl no_symbols) [
    | inr s ↦ inr (1 + sections_count o.sections + s.0, inr (inl (room, (s.0, s.1, refl))))
    | inl symbols ↦ elim (search_from (ArePatches o.sections) length (one_more (IsPatchIn o.sections) (patch_told o.sections)) o.relocs [] o.relocs refl (All-nil (IsPatchIn o.sections))) [
      | inr r ↦ inr (1 + sections_count o.sections + length o.symbols + r.0, inr (inr (room, symbols, (r.0, r.1, refl))))
      | inl relocs ↦ inl (record { room = room; symbols = symbols; relocs = relocs })
    ]
  ]
]
  where
    no_symbols : AreSoundSymbols o.sections []
    no_symbols = record { defined = All-nil (IsDefinedIn o.sections); names = refl; start = All-nil IsGlobalIfStart }

-- objects
objects_from : (all before rest : List Object) → all ≡ before ++ rest → All AreSoundParts before
    → All AreSoundParts all ⊎ ((n : ℕ) × IsFoundObject all n)
objects_from all before [] e sound = inl (subst (All AreSoundParts) (sym (e ∙ append-nil before)) sound)
objects_from all before (o ∷ rest) e sound = elim (object_told o) [
  | inl more ↦ objects_from all (before ++ o ∷ []) rest (e ∙ sym (append_assoc before (o ∷ []) rest)) (All-push AreSoundParts before o sound more)
  | inr part ↦ inr (
    objects_count before + part.0,
    record { before = before; object = o; after = rest; parts = e; sound = sound; within = part.0; part = part.1; count_is = refl },
  )
]

pub sound_or_not : (os : List Object) → All AreSoundParts os ⊎ ((n : ℕ) × IsFoundObject os n)
sound_or_not os = objects_from os [] os refl (All-nil AreSoundParts)
