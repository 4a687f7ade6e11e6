-- What the public call of tokens gives, by the law of tokens and that of breaks.
use Rattle.std.proofs.Common.{◌≡◌, ℕ, List, Ok, Err, Result, refl, sym, ap, ◌∙◌, subst, inl, inr, ◌⊎◌, IfOk, IfErr}
use Rattle.m88_parse.specs.declared.fault.ParseFault.{ParseFault}
use Rattle.m88_parse.specs.Fault.{Gives, out_of_memory}
use Rattle.m88_parse.specs.Inside.Tokens.{pieces_of, tokens_from, tokens_of}
use Rattle.m88_parse.specs.Language.Pieces.{Piece, PlainToken}
use Rattle.m88_parse.specs.Language.Tokens.{AreTokensOf}
use Rattle.m88_parse.specs.Language.FirstFaults.{IsTokenFault}
use Rattle.m88_parse.proofs.Law.Tokens.{line_is_cut, line_is_read}
use Rattle.m88_parse.proofs.Law.UncutLines.{breaks_read, line_breaks}

ok_tokens : {a b : List PlainToken} → ◌≡◌ {A = Result (List PlainToken) ParseFault} (Ok a) (Ok b) → a ≡ b
ok_tokens h = cc

err_tokens : {a b : ParseFault} → ◌≡◌ {A = Result (List PlainToken) ParseFault} (Err a) (Err b) → a ≡ b
err_tokens h = cc

tokens_related : (number : ℕ) (line : List ℕ) (ts : List PlainToken) → tokens_of number line ≡ Ok ts → AreTokensOf number line ts
tokens_related number line ts h = by_pieces (pieces_of number line) refl h
  where
    by_pieces : (r : Result (List Piece) ParseFault) → pieces_of number line ≡ r → tokens_from number r ≡ Ok ts → AreTokensOf number line ts
    by_pieces (Ok ps) e g = (ps, line_is_cut number line ps e, sym (ok_tokens g))
    by_pieces (Err f) e g = absurd cc

tokens_again : (number : ℕ) (line : List ℕ) (ts : List PlainToken) → AreTokensOf number line ts → tokens_of number line ≡ Ok ts
tokens_again number line ts h =
    ap (tokens_from number) (line_is_read number line h.0 h.1) ∙ ap (λ (xs : List PlainToken). let r : Result (List PlainToken) ParseFault = Ok xs in r) (sym h.2)

uncut_related : (number : ℕ) (line : List ℕ) (f : ParseFault) → tokens_of number line ≡ Err f → IsTokenFault number line f
uncut_related number line f h = by_pieces (pieces_of number line) refl h
  where
    by_pieces : (r : Result (List Piece) ParseFault) → pieces_of number line ≡ r → tokens_from number r ≡ Err f → IsTokenFault number line f
    by_pieces (Ok ps) e g = absurd cc
    by_pieces (Err k) e g = let b = line_breaks number line k e in subst (IsTokenFault number line) (err_tokens g) (b.tokens, b.breaks, b.same_line)

pub found_tokens : {V : Type 0} (view : V → List PlainToken) (number : ℕ) (line : List ℕ) (r : Result V ParseFault) → Gives view r (tokens_of number line) → IfOk r (λ (v : V). AreTokensOf number line (view v))
found_tokens view number line (Ok v) h = tokens_related number line (view v) h
found_tokens view number line (Err e) h = tt

pub only_tokens : {V : Type 0} (view : V → List PlainToken) (number : ℕ) (line : List ℕ) (r : Result V ParseFault) → Gives view r (tokens_of number line) → (ts : List PlainToken) → AreTokensOf number line ts → Gives view r (Ok ts)
only_tokens view number line r h ts k = subst (Gives view r) (tokens_again number line ts k) h

pub found_flaw : {V : Type 0} (view : V → List PlainToken) (number : ℕ) (line : List ℕ) (r : Result V ParseFault) → Gives view r (tokens_of number line) → IfErr r (λ (e : ParseFault). (e ≡ out_of_memory) ⊎ IsTokenFault number line e)
found_flaw view number line (Ok v) h = tt
found_flaw view number line (Err e) (inl h) = inl h
found_flaw view number line (Err e) (inr h) = inr (uncut_related number line e h)

tokens_refused : (number : ℕ) (line : List ℕ) (f : ParseFault) → IsTokenFault number line f → tokens_of number line ≡ Err f
tokens_refused number line f h =
    ap (tokens_from number) (breaks_read number 1 line h.0 f.col f.kind h.1)
    ∙ ap (λ (n : ℕ). let r : Result (List PlainToken) ParseFault = Err (record { line = n; col = f.col; kind = f.kind }) in r) h.2

pub only_flaw : {V : Type 0} (view : V → List PlainToken) (number : ℕ) (line : List ℕ) (r : Result V ParseFault) → Gives view r (tokens_of number line) → (e : ParseFault) → IsTokenFault number line e → Gives view r (Err e)
only_flaw view number line r h e k = subst (Gives view r) (tokens_refused number line e k) h
