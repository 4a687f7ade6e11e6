-- One front more, a token or a gap, keeps what the loop of `cut_line` keeps; a flaw is the line's first.
use Rattle.std.proofs.Common.{◌+◌, ◌-◌, take, drop, sym, ℕ, List, Option, Result, Ok, ◌≡◌, ◌<◌, ◌≤◌, length, map, inr, ◌++◌, ◌∷◌, [], Some, None, ap, ◌∙◌, arith}
use Rattle.std.proofs.lemmas.Grind.{common_steps}
use Rattle.std.proofs.lemmas.List.{map_push}
use Rattle.std.proofs.lemmas.List.Elements.{All-push}
use Rattle.m88_parse.specs.Inside.Places.{IsCutFrom}
use Rattle.m88_parse.specs.Inside.Tokens.{Cut, front, kept_value_in, piece_in, kept_value, pieces_of}
use Rattle.m88_parse.specs.Language.Pieces.{Piece}
use Rattle.m88_parse.specs.declared.scan.Flaw.{Flaw}
use Rattle.m88_parse.specs.declared.token.Kept.{Kept}
use Rattle.m88_parse.specs.declared.token.Lexeme.{Lexeme}
use Rattle.m88_parse.proofs.CuttingTokens.{rest_goes_on, gap_goes_on, token_goes_on, ends, is_done}
use Rattle.m88_parse.proofs.lexemes.cut_line.Goals as goal
use Rattle.m88_parse.proofs.lexemes.cut_line.Goals.{in-Some+in_ok-push, in_default}

pub returns-in-Err-clause-cuts : goal.returns-in-Err-clause-cuts
returns-in-Err-clause-cuts c =
    let some : 0 < length c.loop-rest.rest.now = grind (arith, common_steps) in
    let done = map (piece_in c.args.line.now) c.loop-rest.out.items in
    let total = pieces_of c.args.number c.args.line.now in
    inr (ends c.args.number c.loop-rest.col c.loop-rest.rest.now c.in-Err.flaw done total some c.in-Err.ensures.value
    c.loop-rest.invariant.cuts)

-- a token that begins where the rest of the line does has its first bytes
piece_at_front : (line rest : List ℕ) (x : Lexeme) → rest ≡ drop (x.col - 1) line
    → piece_in line x ≡ record { text = take x.len rest; col = x.col; says = kept_value (take x.len rest) x.kept }
piece_at_front line rest x h =
    let made : List ℕ → Piece = λ bs. record { text = bs; col = x.col; says = kept_value bs x.kept } in
    ap (λ bs. made (take x.len bs)) (sym h)

pub loop-rest-preserved : goal.loop-rest-preserved
loop-rest-preserved c =
    let some : 0 < length c.loop-rest.rest.now = grind (arith, common_steps) in
    let so_far = c.loop-rest.invariant in
    let line = c.args.line.now in
    let items = c.loop-rest.out.items in
    let col = c.loop-rest.col in
    let rest = c.loop-rest.rest.now in
    let len = c.in-Ok.cut.len in
    let next = c.split_at.result.1.now in
    let back = c.split_at.ensures.back in
    let place : col + len + length next ≡ 1 + length line = omega arith in
    let from_one : 1 ≤ col + len = omega arith in
    let here = rest_goes_on line rest next col len so_far.from_one so_far.here back in
    let total = pieces_of c.args.number line in
    let done = map (piece_in line) items in
    let cut_as : Option Kept → Result Cut Flaw =
    λ o. Ok (record { len = len; says = kept_value_in (take len rest) o }) in
    let some_len = c.in-Ok.ensures.bound.0 in
    elim c.match-cut.branch [
      | in-Some+in_ok-push w ↦
          let x : Lexeme = record { col = col; len = len; kept = w.in-Some.kept } in
          let m = kept_value (take len rest) x.kept in
          let f : front rest ≡ Ok (record { len = len; says = Some m }) =
          c.in-Ok.ensures.value ∙ ap cut_as w.in-Some.is in
          let p : Piece = record { text = take len rest; col = col; says = m } in
          let out : map (piece_in line) c.match-cut.out.items ≡ done ++ p ∷ [] =
          rw (w.out-is, w.in_ok-push.ensures.items)
          (map_push (piece_in line) items x
          ∙ ap (λ (q : Piece). done ++ q ∷ []) (piece_at_front line rest x so_far.here)) in
          let stands : IsCutFrom line x = (so_far.from_one, omega arith) in
          record {
            cuts = rw (out, back) (token_goes_on c.args.number col len m rest done total some f some_len so_far.cuts);
            place = place;
            places =
                rw (w.out-is, w.in_ok-push.ensures.items) (All-push (IsCutFrom line) items x so_far.places stands);
            from_one = from_one;
            here = here;
          }
      | in_default w ↦
          let f : front rest ≡ Ok (record { len = len; says = None }) =
          c.in-Ok.ensures.value ∙ ap cut_as w.in_default.is in
          record {
            cuts = rw (w.out-is, back) (gap_goes_on c.args.number col len rest done total some f some_len so_far.cuts);
            place = place;
            places = rw w.out-is so_far.places;
            from_one = from_one;
            here = here;
          }
    ]

pub returns-clause-cuts : goal.returns-clause-cuts
returns-clause-cuts c =
    let none : length c.loop-rest.rest.now ≡ 0 = grind (arith, common_steps) in
    let done = map (piece_in c.args.line.now) c.loop-rest.out.items in
    let total = pieces_of c.args.number c.args.line.now in
    is_done c.args.number c.loop-rest.col c.loop-rest.rest.now done total none c.loop-rest.invariant.cuts
