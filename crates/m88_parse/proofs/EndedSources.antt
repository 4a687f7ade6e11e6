-- Sources whose last line is ended: each has the unit of the source, and is parted from what stands behind it and a line
-- that no source has.
use Rattle.std.proofs.Common.{◌≡◌, ℕ, suc, ◌+◌, Bool, true, false, cond, ◌&&◌, ◌||◌, ◌==◌, List, [], ◌∷◌, ◌++◌, length, Err, Ok, inl, inr, refl, sym, ap, ap₂, ◌∙◌, subst, subst₂, arith, eqb-true, true≢false, append-nil, append_assoc, length-append}
use Rattle.std.specs.Prelude.{◌⊎◌, ◌≢◌}
use Rattle.std.specs.Char.{is_ascii_digit}
use Rattle.std.specs.List.{All, list_all}
use Rattle.std.proofs.lemmas.List.Elements.{All-cons, All-nil}
use Rattle.std.proofs.lemmas.List.Sums.{list_all-from_AllPass}
use Rattle.std.proofs.lemmas.Bool.{and_parts}
use Rattle.std.proofs.Math.Bool.{and-false}
use Rattle.m88_base.proofs.Laws.{and_true, behind_more, front_by}
use Rattle.m88_base.specs.Lines.{begins_with_lf, behind_line, carriage_return, line_end, line_feed, lines_of, on_first_line}
use Rattle.m88_base.specs.Name.{IsName, continues_name}
use Rattle.m88_base.specs.Parted.{IsParted, LacksLine, behind_lines}
use Rattle.m88_parse.specs.Inside.Source.{row_of_line}
use Rattle.m88_parse.specs.Language.Bytes.{double_quote, is_blank, is_comment, is_mark, single_quote}
use Rattle.m88_parse.specs.Language.Ended.{ended}
use Rattle.m88_parse.specs.Language.Pieces.{Piece, TokenValue, a_mark, a_name, a_number, a_text}
use Rattle.m88_parse.specs.Language.Tokens.{AreNameBytes, AreTokens, Begins, BeginsWithNoNameByte, IsGap, IsNumeral, IsTail, IsToken, LineTokens}
use Rattle.m88_parse.specs.Language.Units.{AreRows, IsUnit, LineSays, Said, begins, no_row, row_of_module, row_of_nothing, row_of_statement, says, says_nothing}
use Rattle.m88_parse.specs.declared.fault.ParseFault.{ParseFault}
use Rattle.m88_parse.specs.declared.unit.Module.{Module}
use Rattle.m88_parse.specs.declared.unit.Statement.{Statement}
use Rattle.m88_parse.specs.declared.unit.Unit.{Unit as Source}
use Rattle.m88_parse.proofs.Law.FirstToken.{decimal_run, hexadecimal_run}
use Rattle.m88_parse.proofs.Law.Statements.{row_for}
use Rattle.m88_parse.proofs.Law.Units.{row_again}

-- Lines: the ended source is whole lines, so its lines stand before those of what is behind it

-- the text is empty, or its last byte ends a line
abbrev EndsLine : List ℕ → Type 0
EndsLine [] = Unit {0}
EndsLine (b ∷ []) = b ≡ line_feed
EndsLine (b ∷ c ∷ bs) = EndsLine (c ∷ bs)

-- an ended text begins as the text does
same_first : (b : ℕ) (bs : List ℕ) → (more : List ℕ) × (ended (b ∷ bs) ≡ b ∷ more)
unfolding ended
same_first b [] = by_byte (b == line_feed)
  where
    by_byte : (v : Bool) → (more : List ℕ) × (cond v (b ∷ []) (b ∷ line_end) ≡ b ∷ more)
    by_byte true = ([], refl)
    by_byte false = (line_end, refl)
same_first b (c ∷ bs) = (ended (c ∷ bs), refl)

ends_last : (b : ℕ) (v : Bool) → (b == line_feed) ≡ v → EndsLine (cond v (b ∷ []) (b ∷ line_end))
ends_last b true e = eqb-true b line_feed e
ends_last b false e = refl

ended_ends : (source : List ℕ) → EndsLine (ended source)
unfolding ended
ended_ends [] = tt
ended_ends (b ∷ []) = ends_last b (b == line_feed) refl
ended_ends (b ∷ c ∷ bs) =
    let k = same_first c bs in
    subst (λ xs. EndsLine (b ∷ xs)) (sym k.1) (subst EndsLine k.1 (ended_ends (c ∷ bs)))

-- whole lines, of which there is one at least, and what stands behind them
record Splits (whole rest : List ℕ) : Type 0 where
  first : List ℕ
  more : List (List ℕ)
  own : lines_of whole ≡ first ∷ more
  joined : lines_of (whole ++ rest) ≡ first ∷ (more ++ lines_of rest)
  behind : behind_lines (suc (length more)) (whole ++ rest) ≡ rest

-- what stands behind a line, by its first byte
behind_by : (n b : ℕ) (bs : List ℕ) (v : Bool) → (b == line_feed) ≡ v
    → behind_lines (suc n) (b ∷ bs) ≡ behind_lines n (cond v bs (behind_line bs))
behind_by n b bs v e = ap (λ (x : Bool). behind_lines n (cond x bs (behind_line bs))) e

-- a line end alone
one_split : (b : ℕ) (rest : List ℕ) → b ≡ line_feed → Splits (b ∷ []) rest
unfolding lines_of
one_split b rest h =
    subst (λ c. Splits (c ∷ []) rest) (sym h)
    (record { first = []; more = []; own = refl; joined = refl; behind = refl })

-- one byte more in front
more_split : (b c : ℕ) (bs rest : List ℕ) (v w : Bool) → (b == line_feed) ≡ v
    → (b == carriage_return && c == line_feed) ≡ w → Splits (c ∷ bs) rest → Splits (b ∷ c ∷ bs) rest
more_split b c bs rest true w e f s = record {
  first = [];
  more = s.first ∷ s.more;
  own = front_by b (c ∷ bs) true w e f ∙ ap (λ ls. let all : List (List ℕ) = [] ∷ ls in all) s.own;
  joined = front_by b (c ∷ bs ++ rest) true w e f ∙ ap (λ ls. let all : List (List ℕ) = [] ∷ ls in all) s.joined;
  behind = behind_by (suc (length s.more)) b (c ∷ bs ++ rest) true e ∙ s.behind;
}
more_split b c bs rest false true e f s = record {
  first = s.first;
  more = s.more;
  own = front_by b (c ∷ bs) false true e f ∙ s.own;
  joined = front_by b (c ∷ bs ++ rest) false true e f ∙ s.joined;
  behind = behind_by (length s.more) b (c ∷ bs ++ rest) false e ∙ s.behind;
}
more_split b c bs rest false false e f s = record {
  first = b ∷ s.first;
  more = s.more;
  own = front_by b (c ∷ bs) false false e f ∙ ap (on_first_line b) s.own;
  joined = front_by b (c ∷ bs ++ rest) false false e f ∙ ap (on_first_line b) s.joined;
  behind = behind_by (length s.more) b (c ∷ bs ++ rest) false e ∙ s.behind;
}

splits : (b : ℕ) (bs rest : List ℕ) → EndsLine (b ∷ bs) → Splits (b ∷ bs) rest
splits b [] rest h = one_split b rest h
splits b (c ∷ bs) rest h =
    more_split b c bs rest (b == line_feed) (b == carriage_return && c == line_feed) refl refl (splits c bs rest h)

lines_joined : (whole rest : List ℕ) → EndsLine whole → lines_of (whole ++ rest) ≡ lines_of whole ++ lines_of rest
unfolding lines_of
lines_joined [] rest h = refl
lines_joined (b ∷ bs) rest h =
    let s = splits b bs rest h in
    s.joined ∙ ap (λ ls. ls ++ lines_of rest) (sym s.own)

behind_whole : (whole rest : List ℕ) → EndsLine whole → behind_lines (length (lines_of whole)) (whole ++ rest) ≡ rest
unfolding lines_of
behind_whole [] rest h = refl
behind_whole (b ∷ bs) rest h =
    let s = splits b bs rest h in
    ap (λ (ls : List (List ℕ)). behind_lines (length ls) (b ∷ bs ++ rest)) s.own ∙ s.behind

-- a line that can't be read: no operation is called so
abbrev pub IsUnread : List ℕ → Type 0
IsUnread line = (number : ℕ) → (fault : ParseFault) × (row_of_line number line ≡ Err fault)

-- an ended text without a line is parted from what stands behind that line
parted : (word source text : List ℕ) → LacksLine word (ended source)
    → lines_of (word ++ line_end ++ text) ≡ word ∷ lines_of text → behind_line (word ++ line_end ++ text) ≡ text
    → IsParted word (ended source ++ word ++ line_end ++ text) (ended source) (length (lines_of (ended source)) + 1) text
parted word source text none line rest_is =
    let whole : List ℕ = ended source in
    let rest : List ℕ = word ++ (line_end ++ text) in
    let n : ℕ = length (lines_of whole) in
    let ends = ended_ends source in
    let place : behind_lines n (whole ++ rest) ≡ rest = behind_whole whole rest ends in
    let count : suc n ≡ n + 1 = omega arith in
    let own : word ++ line_end ++ text ≡ rest = append_assoc word line_end text in
    let input : whole ++ word ++ line_end ++ text ≡ whole ++ rest =
    append_assoc (whole ++ word) line_end text ∙ append_assoc whole word (line_end ++ text) in
    subst (λ xs. IsParted word xs whole (n + 1) text) (sym input) (record {
      lines_are = lines_joined whole rest ends ∙ ap (λ ls. lines_of whole ++ ls) (ap lines_of (sym own) ∙ line);
      is_first = none;
      number = refl;
      before_is = ap (λ xs. whole ++ xs) (sym place);
      behind_is = sym rest_is ∙ ap behind_line (own ∙ sym place) ∙ behind_more n (whole ++ rest)
          ∙ ap (λ k. behind_lines k (whole ++ rest)) count;
    })

-- Tokens: a line whose last byte is CR has the tokens that it has without that byte, for it stands in a comment

-- what stands behind the front of a text has the text's last byte
last_behind : (text front : List ℕ) (b : ℕ) (bs : List ℕ) (last : ℕ) → text ++ last ∷ [] ≡ front ++ b ∷ bs
    → (more : List ℕ) × (b ∷ bs ≡ more ++ last ∷ []) × (text ≡ front ++ more)
last_behind text [] b bs last e = (text, sym e, refl)
last_behind [] (c ∷ front) b bs last e =
    absurd (let one = ap length e in let more = length-append front (b ∷ bs) in omega (arith, one, more))
last_behind (d ∷ text) (c ∷ front) b bs last e =
    let first : d ≡ c = cc in
    let later : text ++ last ∷ [] ≡ front ++ b ∷ bs = cc in
    let k = last_behind text front b bs last later in
    (k.0, k.1, ap₂ (λ x xs. let all : List ℕ = x ∷ xs in all) first k.2)

only_last : (b last : ℕ) (more : List ℕ) → b ∷ [] ≡ more ++ last ∷ [] → b ≡ last
only_last b last [] e = cc
only_last b last (c ∷ more) e =
    absurd (let one = ap length e in let many = length-append more (last ∷ []) in omega (arith, one, many))

-- a test that all bytes pass is one that the last passes
last_passes : (p : ℕ → Bool) (text : List ℕ) (last : ℕ) → list_all p (text ++ last ∷ []) ≡ true → p last ≡ true
last_passes p [] last h = (and_parts (p last) true h).0
last_passes p (b ∷ text) last h = last_passes p text last (and_parts (p b) (list_all p (text ++ last ∷ [])) h).1

-- the last byte of a text, CR, is none of a name
no_name_byte : (front text : List ℕ) → text ≡ front ++ carriage_return ∷ [] → AreNameBytes text → ⊥
no_name_byte front text e h =
    let k : continues_name carriage_return ≡ true =
    last_passes continues_name front carriage_return (ap (list_all continues_name) (sym e) ∙ h) in
    true≢false (sym k)

name_bytes : (name : List ℕ) → IsName name → AreNameBytes name
name_bytes [] h = refl
name_bytes (b ∷ name) h =
    let more : list_all continues_name name ≡ true = list_all-from_AllPass continues_name name h.1 in
    let first : continues_name b ≡ true = ap (λ (t : Bool). t || is_ascii_digit b) h.0 in
    ap (λ (t : Bool). t && list_all continues_name name) first ∙ more

-- nor of a numeral
no_numeral : (front text : List ℕ) (n : ℕ) → text ≡ front ++ carriage_return ∷ [] → IsNumeral text n → ⊥
no_numeral front text n e (inl h) = no_name_byte front text e (decimal_run text n h)
no_numeral front text n e (inr h) =
    no_name_byte front text e (subst AreNameBytes (sym h.bytes) (hexadecimal_run h.digits h.hexadecimal))

-- nor a quote, so it is of no token
last_quote : (quote : ℕ) (front inside : List ℕ) → quote ∷ inside ++ quote ∷ [] ≡ front ++ carriage_return ∷ []
    → quote ≡ carriage_return
last_quote quote front inside e =
    let k = last_behind front (quote ∷ inside) quote [] carriage_return (sym e) in
    only_last quote carriage_return k.0 k.1

no_token : (front text : List ℕ) (m : TokenValue) → text ≡ front ++ carriage_return ∷ [] → IsToken text m → ⊥
no_token front text (a_name name) e h =
    no_name_byte front text e (subst AreNameBytes (sym h.0) (name_bytes name h.1))
no_token front text (a_number n) e (inl h) = no_numeral front text n e h.0
no_token front text (a_number n) e (inr h) =
    let k : single_quote ≡ carriage_return = last_quote single_quote front h.inside (sym h.text_is ∙ e) in absurd cc
no_token front text (a_text bytes) e h =
    let k : double_quote ≡ carriage_return = last_quote double_quote front h.inside (sym h.text_is ∙ e) in absurd cc
no_token front text (a_mark m) e h =
    let k : m ≡ carriage_return = only_last m carriage_return front (sym h.0 ∙ e) in
    let n : is_mark carriage_return ≡ true = subst (λ b. is_mark b ≡ true) k h.1 in
    true≢false (sym n)

-- it stands in no gap, so a gap and a token don't end by it
no_gap : (front gap : List ℕ) → front ++ carriage_return ∷ [] ≡ gap → IsGap gap → ⊥
no_gap front gap e h =
    let k : is_blank carriage_return ≡ true =
    last_passes is_blank front carriage_return (ap (list_all is_blank) e ∙ h) in
    true≢false (sym k)

no_last : (front gap text : List ℕ) (m : TokenValue) → front ++ carriage_return ∷ [] ≡ gap ++ text → IsGap gap
    → IsToken text m → ⊥
no_last front gap [] m e blank h = no_gap front gap (e ∙ append-nil gap) blank
no_last front gap (b ∷ text) m e blank h =
    let k = last_behind front gap b text carriage_return e in no_token k.0 (b ∷ text) m k.1 h

-- so without it what stands there begins as before
front_tail : (b : ℕ) (bs more : List ℕ) (last : ℕ) → b ∷ bs ≡ more ++ last ∷ [] → IsTail (b ∷ bs) → IsTail more
front_tail b bs [] last e h = tt
front_tail b bs (c ∷ more) last e h = let first : b ≡ c = cc in subst (λ x. is_comment x ≡ true) first h

front_other : (more : List ℕ) (last : ℕ) → BeginsWithNoNameByte (more ++ last ∷ []) → BeginsWithNoNameByte more
front_other [] last h = tt
front_other (b ∷ more) last h = h

-- the end of a line, and a token with what stands behind it
empty_cut : (col : ℕ) (line gap tail : List ℕ) → line ++ carriage_return ∷ [] ≡ gap ++ tail → IsGap gap → IsTail tail
    → AreTokens col line []
empty_cut col line gap [] e blank comment = absurd (no_gap line gap (e ∙ append-nil gap) blank)
empty_cut col line gap (b ∷ tail) e blank comment =
    let k = last_behind line gap b tail carriage_return e in
    record {
      gap = gap;
      tail = k.0;
      bytes_are = k.2;
      blank = blank;
      comment = front_tail b tail k.0 carriage_return k.1 comment;
    }

token_cut : (col : ℕ) (line : List ℕ) (p : Piece) (ps : List Piece) (rest : List ℕ)
    → ((from : ℕ) (more : List ℕ) → AreTokens from (more ++ carriage_return ∷ []) ps → AreTokens from more ps)
    → Begins col (line ++ carriage_return ∷ []) p rest → AreTokens (p.col + length p.text) rest ps
    → AreTokens col line (p ∷ ps)
token_cut col line p ps [] others b are =
    absurd (no_last line b.gap p.text p.says (b.bytes_are ∙ ap (λ xs. b.gap ++ xs) (append-nil p.text)) b.blank b.token)
token_cut col line p ps (r ∷ rest) others b are =
    let k = last_behind line (b.gap ++ p.text) r rest carriage_return
    (b.bytes_are ∙ sym (append_assoc b.gap p.text (r ∷ rest))) in (
      k.0,
      record {
        gap = b.gap;
        bytes_are = k.2 ∙ append_assoc b.gap p.text k.0;
        blank = b.blank;
        place = b.place;
        token = b.token;
        longest = λ names. front_other k.0 carriage_return (subst BeginsWithNoNameByte k.1 (b.longest names));
      },
      others (p.col + length p.text) k.0 (subst (λ xs. AreTokens (p.col + length p.text) xs ps) k.1 are),
    )

tokens_cut : (ps : List Piece) (col : ℕ) (line : List ℕ) → AreTokens col (line ++ carriage_return ∷ []) ps
    → AreTokens col line ps
tokens_cut [] col line h = empty_cut col line h.gap h.tail h.bytes_are h.blank h.comment
tokens_cut (p ∷ ps) col line h = token_cut col line p ps h.0 (tokens_cut ps) h.1 h.2

-- Units: the lines of an ended source are those of the source, but that the last may lack its CR

-- a line is another, or that one with a CR behind it
abbrev IsCut : List ℕ → List ℕ → Type 0
IsCut before line = (before ≡ line) ⊎ (before ≡ line ++ carriage_return ∷ [])

abbrev AreCut : List (List ℕ) → List (List ℕ) → Type 0
AreCut [] [] = Unit {0}
AreCut [] (l ∷ ls) = ⊥
AreCut (k ∷ ks) [] = ⊥
AreCut (k ∷ ks) (l ∷ ls) = IsCut k l × AreCut ks ls

all_same : (ls : List (List ℕ)) → AreCut ls ls
all_same [] = tt
all_same (l ∷ ls) = (inl refl, all_same ls)

cut_first : (b : ℕ) (ks ls : List (List ℕ)) → AreCut ks ls → AreCut (on_first_line b ks) (on_first_line b ls)
cut_first b [] [] h = all_same ((b ∷ []) ∷ [])
cut_first b [] (l ∷ ls) h = absurd h
cut_first b (k ∷ ks) [] h = absurd h
cut_first b (k ∷ ks) (l ∷ ls) (inl e, h) = (inl (ap (λ xs. let all : List ℕ = b ∷ xs in all) e), h)
cut_first b (k ∷ ks) (l ∷ ls) (inr e, h) = (inr (ap (λ xs. let all : List ℕ = b ∷ xs in all) e), h)

cut_more : (b : ℕ) (ks ls : List (List ℕ)) (v w : Bool) → AreCut ks ls
    → AreCut (cond v ([] ∷ ks) (cond w ks (on_first_line b ks))) (cond v ([] ∷ ls) (cond w ls (on_first_line b ls)))
cut_more b ks ls true w h = (inl refl, h)
cut_more b ks ls false true h = h
cut_more b ks ls false false h = cut_first b ks ls h

-- the last byte alone
last_lines : (b : ℕ) (w : Bool) → (b == carriage_return) ≡ w → AreCut ((b ∷ []) ∷ []) (cond w ([] ∷ []) ((b ∷ []) ∷ []))
last_lines b true e = (inr (ap (λ x. let all : List ℕ = x ∷ [] in all) (eqb-true b carriage_return e)), tt)
last_lines b false e = (inl refl, tt)

last_cut : (b : ℕ) (v : Bool) → (b == line_feed) ≡ v
    → AreCut (lines_of (b ∷ [])) (lines_of (cond v (b ∷ []) (b ∷ line_end)))
unfolding lines_of
last_cut b true e = all_same (lines_of (b ∷ []))
last_cut b false e =
    let own : lines_of (b ∷ []) ≡ (b ∷ []) ∷ [] = front_by b [] false false e (and-false (b == carriage_return)) in
    let cut : lines_of (b ∷ line_end) ≡ cond (b == carriage_return) ([] ∷ []) ((b ∷ []) ∷ []) =
    front_by b line_end false (b == carriage_return) e (and_true (b == carriage_return)) in
    subst₂ AreCut (sym own) (sym cut) (last_lines b (b == carriage_return) refl)

lines_cut : (source : List ℕ) → AreCut (lines_of source) (lines_of (ended source))
unfolding lines_of ended
lines_cut [] = tt
lines_cut (b ∷ []) = last_cut b (b == line_feed) refl
lines_cut (b ∷ c ∷ bs) =
    let k = same_first c bs in
    let v : Bool = b == line_feed in
    let w : Bool = b == carriage_return && c == line_feed in
    let same : (b == carriage_return && begins_with_lf (ended (c ∷ bs))) ≡ w =
    ap (λ xs. b == carriage_return && begins_with_lf xs) k.1 in
    subst₂ AreCut (sym (front_by b (c ∷ bs) v w refl refl)) (sym (front_by b (ended (c ∷ bs)) v w refl same))
    (cut_more b (lines_of (c ∷ bs)) (lines_of (ended (c ∷ bs))) v w (lines_cut (c ∷ bs)))

-- so each line says what it said
line_cut : (before line : List ℕ) (ps : List Piece) → IsCut before line → LineTokens before ps → LineTokens line ps
line_cut before line ps (inl e) h = subst (λ l. LineTokens l ps) e h
line_cut before line ps (inr e) h = tokens_cut ps 1 line (subst (λ l. LineTokens l ps) e h)

rows_cut : {number : ℕ} {ks : List (List ℕ)} {ss : List Statement} {ms : List Module} → AreRows number ks ss ms
    → (ls : List (List ℕ)) → AreCut ks ls → AreRows number ls ss ms
rows_cut no_row [] c = no_row
rows_cut no_row (l ∷ ls) c = absurd c
rows_cut (row_of_nothing t h g) [] c = absurd c
rows_cut (row_of_nothing {line = k} {ps = ps} t h g) (l ∷ ls) c =
    row_of_nothing (line_cut k l ps c.0 t) h (rows_cut g ls c.1)
rows_cut (row_of_statement t h g) [] c = absurd c
rows_cut (row_of_statement {line = k} {ps = ps} t h g) (l ∷ ls) c =
    row_of_statement (line_cut k l ps c.0 t) h (rows_cut g ls c.1)
rows_cut (row_of_module t h g) [] c = absurd c
rows_cut (row_of_module {line = k} {ps = ps} t h g) (l ∷ ls) c =
    row_of_module (line_cut k l ps c.0 t) h (rows_cut g ls c.1)

-- so an ended source has the unit of the source
pub ended_unit : (source : List ℕ) (unit : Source) → IsUnit source unit → IsUnit (ended source) unit
ended_unit source unit is = record {
  statements = is.statements;
  modules = is.modules;
  are_rows = rows_cut is.are_rows (lines_of (ended source)) (lines_cut source);
  are_modules = is.are_modules;
}

-- and no source that has a unit has a line that can't be read
other_line : (word : List ℕ) → IsUnread word → (number : ℕ) (line : List ℕ) (ps : List Piece) (said : Said) → LineTokens line ps
    → LineSays number ps said → line ≢ word
other_line word unread number line ps said t h e =
    let read : row_of_line number word ≡ Ok (row_for number said) =
    ap (row_of_line number) (sym e) ∙ row_again number line ps said t h in
    let fault = (unread number).1 in
    absurd cc

rows_lack : (word : List ℕ) → IsUnread word → {number : ℕ} {ls : List (List ℕ)} {ss : List Statement} {ms : List Module}
    → AreRows number ls ss ms → All (λ l. l ≢ word) ls
rows_lack word unread no_row = All-nil (λ l. l ≢ word)
rows_lack word unread (row_of_nothing {number = n} {line = l} {lines = ls} {ps = ps} t h g) =
    All-cons (λ k. k ≢ word) l ls (other_line word unread n l ps says_nothing t h) (rows_lack word unread g)
rows_lack word unread (row_of_statement {number = n} {line = l} {lines = ls} {ps = ps} {s = s} t h g) =
    All-cons (λ k. k ≢ word) l ls (other_line word unread n l ps (says s) t h) (rows_lack word unread g)
rows_lack word unread (row_of_module {number = n} {line = l} {lines = ls} {ps = ps} {name = name} t h g) =
    All-cons (λ k. k ≢ word) l ls (other_line word unread n l ps (begins name) t h) (rows_lack word unread g)

-- so an ended source that has a unit is parted from what stands behind such a line
pub ended_parted : (word source text : List ℕ) (unit : Source) → IsUnread word → IsUnit source unit
    → lines_of (word ++ line_end ++ text) ≡ word ∷ lines_of text → behind_line (word ++ line_end ++ text) ≡ text
    → IsParted word (ended source ++ word ++ line_end ++ text) (ended source) (length (lines_of (ended source)) + 1) text
ended_parted word source text unit unread is line rest_is =
    parted word source text (rows_lack word unread (ended_unit source unit is).are_rows) line rest_is
