-- Numbers with a sign of their own: the - of one leads on to a number alone, and a number too large behind it is a fault at the -.
use Rattle.std.proofs.Common.{◌≡◌, ℕ, ◌<◌, Bool, true, false, nat_le, inr, List, [], ◌∷◌, ◌++◌, length, Option, Some, None, refl, sym, ◌∙◌, subst, arith, le-leb}
use Rattle.m88_parse.specs.declared.fault.ParseKind.TheVariants.{Syntax, OutOfRange}
use Rattle.m88_parse.specs.declared.fault.ParseFault.{ParseFault}
use Rattle.m88_parse.specs.Language.Pieces.{TokenValue, a_name, a_number, a_text, a_mark, Piece}
use Rattle.m88_parse.specs.Language.Names.{IsMark, IsNumber, IsNamed}
use Rattle.m88_parse.specs.Language.LineFaults.{MayFollow, NumberMayFollow, NameMayFollow, signed_out_of_range, other_token, misplaced, EndsInSign, EndsInHalf}
use Rattle.m88_parse.proofs.Law.SingleTokens.{saying}
use Rattle.m88_parse.proofs.Law.LineFaults.Readers.{here, Reader, heard, Goes, Reads, EndsAt, Told, Traced, Good}
use Rattle.m88_parse.proofs.Law.LineFaults.TokenByToken.{Leads, reads_on, continues, follows, follows_not, told, ended, moved, same_last, fresh_behind}

zero_piece : Piece
zero_piece = saying (a_number 0)

mark_no_number : (p : Piece) (m n : ℕ) → IsMark m p → IsNumber n p → ⊥
mark_no_number p m n h k = let x = sym h ∙ k in cc

mark_no_name : (p : Piece) (m : ℕ) (name : List ℕ) → IsMark m p → IsNamed name p → ⊥
mark_no_name p m name h k = let x = sym h ∙ k in cc

pub sign_leads : (few : ℕ) (line e low : ℕ) (all : Reader) (r : ℕ → Reader) (m : Piece) → IsMark 45 m
    → (all (m ∷ []) ≡ here line e Syntax)
    → ((n : ℕ) (q : Piece) (ps : List Piece) → IsNumber n q → nat_le n low ≡ true → all (m ∷ q ∷ ps) ≡ r n ps)
    → ((n : ℕ) (q : Piece) (ps : List Piece) → IsNumber n q → nat_le n low ≡ false → all (m ∷ q ∷ ps) ≡ here line m.col OutOfRange)
    → ((q : Piece) (ps : List Piece) → ((n : ℕ) → IsNumber n q → ⊥) → all (m ∷ q ∷ ps) ≡ here line q.col Syntax)
    → ((n : ℕ) → Good few line e (r n)) → Leads few true line e all m
unfolding zero_piece
sign_leads few line e low all r m is_minus at_end taken large other g law front w h = by_rest
  where
    reads : Reads line e (front ++ m ∷ []) (λ ps. all (m ∷ ps))
    reads = reads_on line e front all m h

    goes : Goes (λ ps. all (m ∷ ps))
    goes = (zero_piece ∷ (g 0).0.0, taken 0 zero_piece (g 0).0.0 refl (le-leb 0 low (omega arith)) ∙ (g 0).0.1)

    number : NumberMayFollow (front ++ m ∷ [])
    number = (zero_piece, 0, refl, follows line e law (front ++ m ∷ []) (λ ps. all (m ∷ ps)) zero_piece reads ((g 0).0.0, taken 0 zero_piece (g 0).0.0 refl (le-leb 0 low (omega arith)) ∙ (g 0).0.1))

    no_half : (x : Piece) → EndsInHalf (front ++ m ∷ []) x → ⊥
    no_half x y = mark_no_name m 45 y.name is_minus (subst (IsNamed y.name) (sym (same_last front y.before m x y.tokens)) y.named)

    sign : EndsInSign (front ++ m ∷ []) m
    sign = record { before = front; tokens = refl; minus = is_minus; number = w }

    refuses_other : (q : Piece) → ((n : ℕ) → IsNumber n q → ⊥) → MayFollow (front ++ m ∷ []) q → ⊥
    refuses_other q k = follows_not line e law (front ++ m ∷ []) (λ ps. all (m ∷ ps)) q reads (λ ps x. let y : ◌≡◌ {A = Option ParseFault} (here line q.col Syntax) None = sym (other q ps k) ∙ x in absurd cc)

    no_name_follows : NameMayFollow (front ++ m ∷ []) → ⊥
    no_name_follows x = refuses_other x.0 (λ n i. let y = sym x.2 ∙ i in cc) x.3

    by_number : (n : ℕ) (q : Piece) (ps : List Piece) (f : ParseFault) → IsNumber n q → (t : Bool) → nat_le n low ≡ t → length (q ∷ ps) < few → EndsAt ((front ++ m ∷ []) ++ q ∷ ps) e → heard line e ((front ++ m ∷ []) ++ q ∷ ps) ≡ Some f
        → Told line ((front ++ m ∷ []) ++ q ∷ ps) f
    by_number n q ps f i true t l a x =
        moved few line e (front ++ m ∷ []) q ps f
        ((g n).1 law ((front ++ m ∷ []) ++ q ∷ []) (fresh_behind (front ++ m ∷ []) q (λ y. mark_no_number q 45 n y i))
        (λ qs. reads_on line e (front ++ m ∷ []) (λ us. all (m ∷ us)) q (λ us. reads (q ∷ us)) qs ∙ taken n q qs i t))
        (omega (arith, l)) a x
    by_number n q ps f i false t l a x =
        told line (front ++ m ∷ []) (q ∷ ps) m.col OutOfRange f (continues line e law (front ++ m ∷ []) (λ us. all (m ∷ us)) reads goes)
        (follows_not line e law (front ++ m ∷ []) (λ us. all (m ∷ us)) q reads (λ us y. let z : ◌≡◌ {A = Option ParseFault} (here line m.col OutOfRange) None = sym (large n q us i t) ∙ y in absurd cc))
        (misplaced no_half (signed_out_of_range (n, i, number) sign))
        (sym x ∙ reads (q ∷ ps) ∙ large n q ps i t)

    by_other : (q : Piece) (ps : List Piece) (f : ParseFault) → ((n : ℕ) → IsNumber n q → ⊥) → heard line e ((front ++ m ∷ []) ++ q ∷ ps) ≡ Some f → Told line ((front ++ m ∷ []) ++ q ∷ ps) f
    by_other q ps f k x =
        told line (front ++ m ∷ []) (q ∷ ps) q.col Syntax f (continues line e law (front ++ m ∷ []) (λ us. all (m ∷ us)) reads goes)
        (refuses_other q k)
        (misplaced no_half (other_token (λ y. k y.0 y.1) (λ y. no_name_follows y.2)))
        (sym x ∙ reads (q ∷ ps) ∙ other q ps k)

    by_says : (q : Piece) (ps : List Piece) (f : ParseFault) (o : TokenValue) → q.says ≡ o → length (q ∷ ps) < few → EndsAt ((front ++ m ∷ []) ++ q ∷ ps) e → heard line e ((front ++ m ∷ []) ++ q ∷ ps) ≡ Some f
        → Told line ((front ++ m ∷ []) ++ q ∷ ps) f
    by_says q ps f (a_name name) i l a x = by_other q ps f (λ n y. let z = sym i ∙ y in cc) x
    by_says q ps f (a_number n) i l a x = by_number n q ps f i (nat_le n low) refl l a x
    by_says q ps f (a_text bytes) i l a x = by_other q ps f (λ n y. let z = sym i ∙ y in cc) x
    by_says q ps f (a_mark b) i l a x = by_other q ps f (λ n y. let z = sym i ∙ y in cc) x

    by_rest : Traced few line e (front ++ m ∷ [])
    by_rest [] f l a x = ended line e law (front ++ m ∷ []) (λ us. all (m ∷ us)) f reads goes no_half a (inr at_end) x
    by_rest (q ∷ ps) f l a x = by_says q ps f q.says refl l a x
