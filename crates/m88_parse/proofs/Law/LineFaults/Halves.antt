-- hi16 and lo16 as the first token: they lead on where ( follows, and are the fault where it doesn't.
use Rattle.std.proofs.Common.{◌≡◌, ℕ, Bool, true, false, inl, inr, List, [], ◌∷◌, ◌++◌, Option, Some, None, refl, sym, ◌∙◌, subst, arith, append-nil}
use Rattle.m88_base.specs.declared.fixup.Kind.{Kind}
use Rattle.m88_parse.specs.declared.fault.ParseKind.TheVariants.{NoSuchName}
use Rattle.m88_parse.specs.declared.fault.ParseFault.{ParseFault}
use Rattle.m88_parse.specs.Language.Words.{half_named}
use Rattle.m88_parse.specs.Language.Pieces.{a_mark, Piece}
use Rattle.m88_parse.specs.Inside.State.{says_first, is_mark_of}
use Rattle.m88_parse.specs.Language.Names.{IsMark, IsNamed}
use Rattle.m88_parse.specs.Language.LineFaults.{IsOperation, Stops, half_alone, EndsInHalf}
use Rattle.m88_parse.proofs.Law.TestsAndChoices.{tested}
use Rattle.m88_parse.proofs.Law.SingleTokens.{mark_says, saying}
use Rattle.m88_parse.proofs.Law.LineFaults.Readers.{here, Reader, heard, Goes, Reads, Told, Traced, Good}
use Rattle.m88_parse.proofs.Law.LineFaults.TokenByToken.{Leads, reads_on, continues, follows, follows_not, told, moved, fresh_behind}

opening_piece : Piece
opening_piece = saying (a_mark 40)

pub half_leads : (few : ℕ) (num : Bool) (line e : ℕ) (all r : Reader) (h : Piece) (text : List ℕ) (kind : Kind) → IsNamed text h → half_named text ≡ Some kind
    → ((q : Piece) (ps : List Piece) → is_mark_of 40 (Some q.says) ≡ true → all (h ∷ q ∷ ps) ≡ r ps)
    → ((ps : List Piece) → is_mark_of 40 (says_first ps) ≡ false → all (h ∷ ps) ≡ here line h.col NoSuchName)
    → Good few line e r → Leads few num line e all h
unfolding opening_piece
half_leads few num line e all r h text kind named is_half taken alone g law front w reads_all = by_rest
  where
    half_front : List Piece
    half_front = front ++ h ∷ []

    behind : Reader
    behind ps = all (h ∷ ps)

    reads : Reads line e half_front behind
    reads = reads_on line e front all h reads_all

    opened : Goes (λ ps. behind (opening_piece ∷ ps))
    opened = (g.0.0, taken opening_piece g.0.0 refl ∙ g.0.1)

    half_here : EndsInHalf half_front h
    half_here = record {
      before = front;
      tokens = refl;
      name = text;
      kind = kind;
      named = named;
      half = is_half;
      opens = (opening_piece, refl, follows line e law half_front behind opening_piece reads opened);
    }

    fault_here : {ps : List Piece} → is_mark_of 40 (says_first ps) ≡ false → behind ps ≡ None → ⊥
    fault_here {ps = ps} t x = let y : ◌≡◌ {A = Option ParseFault} (here line h.col NoSuchName) None = sym (alone ps t) ∙ x in cc

    stops : (ps : List Piece) → is_mark_of 40 (says_first ps) ≡ false → Stops half_front ps
    stops [] t = λ o. fault_here t (sym (reads []) ∙ (law (half_front ++ [])).1 (subst (IsOperation) (sym (append-nil half_front)) o))
    stops (q ∷ ps) t = follows_not line e law half_front behind q reads (λ us x. fault_here t x)

    no_minus : (q : Piece) → is_mark_of 40 (Some q.says) ≡ true → IsMark 45 q → ⊥
    no_minus q t m = let y = sym (mark_says 40 q.says t) ∙ m in cc

    by_alone : (ps : List Piece) (f : ParseFault) → is_mark_of 40 (says_first ps) ≡ false → heard line e (half_front ++ ps) ≡ Some f
        → Told line (half_front ++ ps) f
    by_alone ps f t x =
        told line half_front ps h.col NoSuchName f (continues line e law half_front behind reads (opening_piece ∷ opened.0, opened.1)) (stops ps t)
        (half_alone half_here)
        (sym x ∙ reads ps ∙ alone ps t)

    by_rest : Traced few line e half_front
    by_rest [] f l a x = by_alone [] f refl x
    by_rest (q ∷ ps) f l a x = elim (tested (is_mark_of 40 (Some q.says))) [
      | inl t ↦
          moved few line e half_front q ps f
          (g.1 law (half_front ++ q ∷ []) (fresh_behind half_front q (no_minus q t))
          (λ qs. reads_on line e half_front behind q (λ us. reads (q ∷ us)) qs ∙ taken q qs t))
          (omega (arith, l)) a x
      | inr t ↦ by_alone (q ∷ ps) f t x
    ]
