-- The lines of a source as statements that give the bytes of its pieces.
use Rattle.std.proofs.Common.{◌≡◌, ℕ, zero, suc, ◌+◌, ◌*◌, ◌%◌, ◌<◌, ◌≤◌, ◌^◌, Bool, true, false, ◌==◌, List, [], ◌∷◌, ◌++◌, length, take, drop, replicate, refl, sym, ap, subst, ◌∙◌, arith, eqb-true}
use Rattle.std.specs.Prelude.{cond, flat_map, if◌then◌else◌, map, nat_le, nat_lt}
use Rattle.std.specs.Int.{from_be_bytes, to_be_bytes, w32}
use Rattle.std.specs.List.{AllByRecursion}
use Rattle.std.proofs.lemmas.Bool.Decides.{nat_tests}
use Rattle.std.proofs.Math.Seq.{take-add}
use Rattle.std.proofs.lemmas.List.{length-drop, length-replicate, length-take-le, take-append-drop}
use Rattle.std.proofs.lemmas.List.Sums.{prefix_len-le-length}
use Rattle.std.proofs.lemmas.Nat.{be_bytes_4}
use Rattle.m88_base.proofs.Laws.{AreBytes, byte_below, bytes_dropped}
use Rattle.m88_parse.specs.declared.unit.Body.TheVariants as body
use Rattle.m88_parse.specs.declared.unit.Statement.{Statement}
use Rattle.m88_parse.specs.declared.unit.Value.TheVariants.{Number}
use Rattle.m88_asm.specs.Filled.{filled_word}
use Rattle.m88_disasm.specs.Listing.{lone_byte_line}
use Rattle.m88_disasm.specs.Read.{unlabelled}
use Rattle.m88_asm.specs.Objects.{uses_in_values}
use Rattle.m88_disasm.proofs.Laws.{Data, Gives, IsUse, Names, SpokenAs, Stated, gives_byte, more_data, names_in, names_of, no_data, said_byte, spoken}
use Rattle.m88_sourcing.specs.Data.{AreDataLines, is_own_end, is_printed, is_word_here, item_here, item_length, item_line, most_in_line, printed_here, text_ended, text_here, words_here, whole_words, zeros_here}
use Rattle.m88_sourcing.specs.Data.AreDataLines.{item, no_line}
use Rattle.m88_sourcing.specs.declared.item.Item.{Item}
use Rattle.m88_sourcing.specs.declared.item.Item.TheVariants.{Zeros, Text, Words, Lone}
use Rattle.m88_sourcing.proofs.Items.{item_fits, words_fit}
use Rattle.m88_sourcing.proofs.Places.{AreNumbers, IsPlain}
use Rattle.m88_sourcing.proofs.TextLines.{AllStand, AreWords, can_stand, said_text, said_words, said_zeros}

-- zeros, a text and words give their bytes
gives_zeros : (Named : Names) (number at n : ℕ) → Gives Named at (unlabelled number (body.Zero n)) (replicate n 0)
gives_zeros Named number at n = record {
  stays = λ c. refl;
  length_is = λ place. sym (length-replicate n 0);
  stands = omega arith;
  bytes_are = λ value place means. refl;
  opens_none = refl;
  sets_none = refl;
  declares_none = λ name. refl;
  labelled = tt;
  uses = λ section offset. tt;
}

gives_text : (Named : Names) (number at : ℕ) (bytes : List ℕ)
    → Gives Named at (unlabelled number (body.Ascii bytes)) bytes
gives_text Named number at bytes = record {
  stays = λ c. refl;
  length_is = λ place. refl;
  stands = omega arith;
  bytes_are = λ value place means. refl;
  opens_none = refl;
  sets_none = refl;
  declares_none = λ name. refl;
  labelled = tt;
  uses = λ section offset. tt;
}

-- the bytes of words
abbrev bytes_of : List ℕ → List ℕ
bytes_of ws = flat_map (λ w. to_be_bytes w32 w) ws

word_bytes : (value : List ℕ → ℕ) (ws : List ℕ)
    → flat_map (λ v. to_be_bytes w32 (filled_word value v)) (map (λ w. Number w) ws) ≡ bytes_of ws
word_bytes value [] = refl
word_bytes value (w ∷ ws) = ap (λ (xs : List ℕ). to_be_bytes w32 w ++ xs) (word_bytes value ws)

words_length : (ws : List ℕ) → 4 * length (map (λ (w : ℕ). Number w) ws) ≡ length (bytes_of ws)
words_length [] = omega arith
words_length (w ∷ ws) = let e = words_length ws in omega (arith, e)

no_uses : (section offset line : ℕ) (ws : List ℕ) → uses_in_values section offset line (map (λ w. Number w) ws) ≡ []
no_uses section offset line [] = refl
no_uses section offset line (w ∷ ws) = no_uses section (offset + 4) line ws

gives_words : (Named : Names) (number at : ℕ) (ws : List ℕ) → at % 4 ≡ 0
    → Gives Named at (unlabelled number (body.Word (map (λ w. Number w) ws))) (bytes_of ws)
gives_words Named number at ws stands = record {
  stays = λ c. refl;
  length_is = λ place. words_length ws;
  stands = stands;
  bytes_are = λ value place means. word_bytes value ws;
  opens_none = refl;
  sets_none = refl;
  declares_none = λ name. refl;
  labelled = tt;
  uses = λ section offset.
      subst (AllByRecursion (IsUse Named at section offset)) (sym (no_uses section offset number ws)) tt;
}

-- what stands first of bytes
one_more_taken : (n b : ℕ) (bytes : List ℕ) → take (1 + n) (b ∷ bytes) ≡ b ∷ take n bytes
one_more_taken n b bytes = take-add 1 n (b ∷ bytes)

zeros_are : (bytes : List ℕ) → take (zeros_here bytes) bytes ≡ replicate (zeros_here bytes) 0
zeros_are [] = refl
zeros_are (b ∷ bytes) = by (b == 0) refl (zeros_are bytes)
  where
    zero_first : (n : ℕ) → replicate {A = ℕ} (1 + n) 0 ≡ 0 ∷ replicate n 0
    zero_first n = let e : 1 + n ≡ suc n = omega arith in ap (λ (k : ℕ). replicate {A = ℕ} k 0) e

    by : (t : Bool) → (b == 0) ≡ t → take (zeros_here bytes) bytes ≡ replicate (zeros_here bytes) 0
        → take (cond t (1 + zeros_here bytes) 0) (b ∷ bytes) ≡ replicate (cond t (1 + zeros_here bytes) 0) 0
    by true e others =
        one_more_taken (zeros_here bytes) b bytes
        ∙ ap (λ (m : ℕ). m ∷ take (zeros_here bytes) bytes) (eqb-true b 0 e)
        ∙ ap (λ (xs : List ℕ). 0 ∷ xs) others
        ∙ sym (zero_first (zeros_here bytes))
    by false e others = refl

printed_stand : (k : ℕ) (bytes : List ℕ) → k ≤ printed_here bytes → AllStand (take k bytes)
printed_stand zero bytes h = tt
printed_stand (suc k) [] h = absurd (omega (arith, h))
printed_stand (suc k) (b ∷ bytes) h = by (is_printed b) refl h (printed_stand k bytes)
  where
    by : (t : Bool) → is_printed b ≡ t → suc k ≤ cond t (1 + printed_here bytes) 0
        → (k ≤ printed_here bytes → AllStand (take k bytes)) → AllStand (b ∷ take k bytes)
    by true e h ih = (grind (arith, nat_tests), ih (omega (arith, h)))
    by false e h ih = absurd (omega (arith, h))

-- one more behind the first n
taken_with : (n c : ℕ) (bytes rest : List ℕ) → drop n bytes ≡ c ∷ rest → take (n + 1) bytes ≡ take n bytes ++ c ∷ []
taken_with n c bytes rest e = take-add n 1 bytes ∙ ap (λ (xs : List ℕ). take n bytes ++ take 1 xs) e

stand_behind : (xs ys : List ℕ) → AllStand xs → AllStand ys → AllStand (xs ++ ys)
stand_behind [] ys h k = k
stand_behind (x ∷ xs) ys h k = (h.0, stand_behind xs ys h.1 k)

text_stands : (bytes : List ℕ) → AllStand (take (text_here bytes) bytes)
text_stands bytes = by (nat_lt (printed_here bytes) 8)
  where
    own : (c : ℕ) → is_own_end c ≡ true → can_stand c ≡ true
    own c e = grind (arith, nat_tests)

    ended : (xs : List ℕ) → drop (printed_here bytes) bytes ≡ xs
        → AllStand (take (text_ended (printed_here bytes) xs) bytes)
    ended [] e = tt
    ended (c ∷ xs) e = ends (is_own_end c) (c == 13) refl
      where
        ends : (t s : Bool) → is_own_end c ≡ t
            → AllStand (take (if t then printed_here bytes + 1 else (if s then printed_here bytes else 0)) bytes)
        ends true s f =
            subst AllStand (sym (taken_with (printed_here bytes) c bytes xs e))
            (stand_behind (take (printed_here bytes) bytes) (c ∷ [])
            (printed_stand (printed_here bytes) bytes (omega arith)) (own c f, tt))
        ends false true f = printed_stand (printed_here bytes) bytes (omega arith)
        ends false false f = tt

    by : (t : Bool) → AllStand (take (if t then 0 else text_ended (printed_here bytes) (drop (printed_here bytes) bytes)) bytes)
    by true = tt
    by false = ended (drop (printed_here bytes) bytes) refl

-- words
record FirstWord (bytes : List ℕ) : Type 0 where
  small : from_be_bytes w32 (take 4 bytes) < 2 ^ 32
  back : to_be_bytes w32 (from_be_bytes w32 (take 4 bytes)) ≡ take 4 bytes

first_word : (bytes : List ℕ) → 4 ≤ length bytes → AreBytes bytes → FirstWord bytes
first_word (a ∷ b ∷ c ∷ d ∷ bytes) long h =
    let ha = h.0 in
    let hb = h.1.0 in
    let hc = h.1.1.0 in
    let hd = h.1.1.1.0 in
    record {
      small = omega (arith, ha, hb, hc, hd);
      back =
          be_bytes_4 (a ∷ b ∷ c ∷ d ∷ []) (from_be_bytes w32 (a ∷ b ∷ c ∷ d ∷ [])) refl
          (byte_below (a ∷ b ∷ c ∷ d ∷ []) (ha, (hb, (hc, (hd, tt))))) refl;
    }
first_word [] long h = absurd (omega (arith, long))
first_word (a ∷ []) long h = absurd (omega (arith, long))
first_word (a ∷ b ∷ []) long h = absurd (omega (arith, long))
first_word (a ∷ b ∷ c ∷ []) long h = absurd (omega (arith, long))

words_are : (n : ℕ) (bytes : List ℕ) → 4 * n ≤ length bytes → AreBytes bytes
    → (bytes_of (whole_words n bytes) ≡ take (4 * n) bytes) × AreWords (whole_words n bytes)
words_are zero bytes long h = (let e : 0 ≡ 4 * 0 = omega arith in ap (λ (k : ℕ). take k bytes) e, tt)
words_are (suc n) bytes long h =
    let first = first_word bytes (omega (arith, long)) h in
    let left = length-drop 4 bytes in
    let others = words_are n (drop 4 bytes) (omega (arith, long, left)) (bytes_dropped 4 bytes h) in
    let all : 4 + 4 * n ≡ 4 * suc n = omega arith in (
      ap (λ (xs : List ℕ). xs ++ bytes_of (whole_words n (drop 4 bytes))) first.back
          ∙ ap (λ (xs : List ℕ). take 4 bytes ++ xs) others.0
          ∙ sym (take-add 4 (4 * n) bytes)
          ∙ ap (λ (k : ℕ). take k bytes) all,
      (first.small, others.1),
    )

words_aligned : (at : ℕ) (bytes : List ℕ) → 0 < words_here most_in_line at bytes → at % 4 ≡ 0
words_aligned at bytes some = by (is_word_here at bytes) refl some
  where
    aligned : is_word_here at bytes ≡ true → at % 4 ≡ 0
    aligned e = grind (arith, nat_tests)

    by : (t : Bool) → is_word_here at bytes ≡ t
        → 0 < (if t then words_here 7 (at + 4) (drop 4 bytes) + 1 else 0) → at % 4 ≡ 0
    by true e h = aligned e
    by false e h = absurd (omega (arith, h))

-- the line of what stands first, and its statement
record ItemTold (Named : Names) (number at : ℕ) (bytes : List ℕ) (x : Item) : Type 0 where
  statement : Statement
  said : SpokenAs number (item_line bytes x) statement
  gives : Gives Named at statement (take (item_length x) bytes)
  unnamed : names_of statement ≡ []
  plain : IsPlain statement.body

told_zeros : (Named : Names) (number at : ℕ) (bytes : List ℕ) → length bytes < 2 ^ 32
    → ItemTold Named number at bytes (Zeros (zeros_here bytes))
told_zeros Named number at bytes few =
    let within = prefix_len-le-length (λ b. b == 0) bytes in
    record {
      statement = unlabelled number (body.Zero (zeros_here bytes));
      said = spoken number _ (body.Zero (zeros_here bytes)) (said_zeros number (zeros_here bytes) (omega (arith, within, few)));
      gives =
          subst (Gives Named at (unlabelled number (body.Zero (zeros_here bytes)))) (sym (zeros_are bytes))
          (gives_zeros Named number at (zeros_here bytes));
      unnamed = refl;
      plain = tt;
    }

told_text : (Named : Names) (number at : ℕ) (bytes : List ℕ) → ItemTold Named number at bytes (Text (text_here bytes))
told_text Named number at bytes = record {
  statement = unlabelled number (body.Ascii (take (text_here bytes) bytes));
  said = spoken number _ (body.Ascii (take (text_here bytes) bytes))
      (said_text number (take (text_here bytes) bytes) (text_stands bytes));
  gives = gives_text Named number at (take (text_here bytes) bytes);
  unnamed = refl;
  plain = tt;
}

are_numbers : (ws : List ℕ) → AreNumbers (map (λ w. Number w) ws)
are_numbers [] = tt
are_numbers (w ∷ ws) = are_numbers ws

told_words : (Named : Names) (number at : ℕ) (bytes : List ℕ) → AreBytes bytes
    → 0 < words_here most_in_line at bytes → ItemTold Named number at bytes (Words (words_here most_in_line at bytes))
told_words Named number at bytes small some = by (words_here most_in_line at bytes) some (words_fit most_in_line at bytes)
  where
    by : (n : ℕ) → 0 < n → 4 * n ≤ length bytes → ItemTold Named number at bytes (Words n)
    by zero more long = absurd (omega (arith, more))
    by (suc n) more long =
        let ws : List ℕ = whole_words (suc n) bytes in
        let are = words_are (suc n) bytes long small in
        let x : Statement = unlabelled number (body.Word (map (λ w. Number w) ws)) in
        record {
          statement = x;
          said = spoken number _ (body.Word (map (λ w. Number w) ws))
              (said_words number (from_be_bytes w32 (take 4 bytes)) (whole_words n (drop 4 bytes)) are.1);
          gives = subst (Gives Named at x) are.0 (gives_words Named number at ws (words_aligned at bytes some));
          unnamed = refl;
          plain = are_numbers ws;
        }

told_lone : (Named : Names) (number at : ℕ) (bytes : List ℕ) → 0 < length bytes → AreBytes bytes
    → ItemTold Named number at bytes Lone
told_lone Named number at [] some small = absurd (omega (arith, some))
told_lone Named number at (b ∷ bytes) some small = record {
  statement = unlabelled number (body.Byte (b ∷ []));
  said = spoken number (lone_byte_line b) (body.Byte (b ∷ [])) (said_byte number b small.0);
  gives = gives_byte Named number at b;
  unnamed = refl;
  plain = tt;
}

told_item : (Named : Names) (number at : ℕ) (bytes : List ℕ) → 0 < length bytes → length bytes < 2 ^ 32
    → AreBytes bytes → ItemTold Named number at bytes (item_here at bytes)
told_item Named number at bytes some few small = by1 (nat_le 16 (zeros_here bytes))
  where
    by3 : (t : Bool) → nat_lt 0 (words_here most_in_line at bytes) ≡ t
        → ItemTold Named number at bytes (if t then Words (words_here most_in_line at bytes) else Lone)
    by3 true e = told_words Named number at bytes small (grind (arith, nat_tests))
    by3 false e = told_lone Named number at bytes some small

    by2 : (t : Bool)
        → ItemTold Named number at bytes
        (if t then Text (text_here bytes)
        else if nat_lt 0 (words_here most_in_line at bytes) then Words (words_here most_in_line at bytes) else Lone)
    by2 true = told_text Named number at bytes
    by2 false = by3 (nat_lt 0 (words_here most_in_line at bytes)) refl

    by1 : (t : Bool)
        → ItemTold Named number at bytes
        (if t then Zeros (zeros_here bytes) else if nat_lt 0 (text_here bytes) then Text (text_here bytes)
        else if nat_lt 0 (words_here most_in_line at bytes) then Words (words_here most_in_line at bytes) else Lone)
    by1 true = told_zeros Named number at bytes few
    by1 false = by2 (nat_lt 0 (text_here bytes))

-- lines from a number on as statements that give bytes from an address on
pub record Listed (Named : Names) (number at : ℕ) (bytes : List ℕ) (lines : List (List ℕ)) : Type 0 where
  pub statements : List Statement
  pub stated : Stated number lines statements
  pub datas : Data Named at bytes statements

-- those of bytes between two labels name nothing
pub record ListedData (Named : Names) (number at : ℕ) (bytes : List ℕ) (lines : List (List ℕ)) : Type 0 where
  pub listed : Listed Named number at bytes lines
  pub unnamed : names_in listed.statements ≡ []

-- and use none
pub record ListedPlain (Named : Names) (number at : ℕ) (bytes : List ℕ) (lines : List (List ℕ)) : Type 0 where
  pub own : ListedData Named number at bytes lines
  pub plain : AllByRecursion (λ x. IsPlain x.body) own.listed.statements

pub listed_data : (Named : Names) (number at : ℕ) (bytes : List ℕ) (lines : List (List ℕ)) → length bytes < 2 ^ 32
    → AreBytes bytes → AreDataLines at bytes lines → ListedPlain Named number at bytes lines
listed_data Named number at _ _ few small no_line =
    record {
      own = record { listed = record { statements = []; stated = tt; datas = no_data }; unnamed = refl };
      plain = tt;
    }
listed_data Named number at bytes _ few small (item {n = n} {lines = lines} some is rest) =
    let x : Item = item_here at bytes in
    let told : ItemTold Named number at bytes x = told_item Named number at bytes some few small in
    let fits : n ≤ length bytes = let f = (item_fits at bytes).1 some in omega (arith, is, f) in
    let left = length-drop n bytes in
    let others : ListedPlain Named (number + 1) (at + n) (drop n bytes) lines =
    listed_data Named (number + 1) (at + n) (drop n bytes) lines (omega (arith, left, few)) (bytes_dropped n bytes small)
    rest in
    let given : List ℕ = take (item_length x) bytes in
    let same : given ≡ take n bytes = ap (λ (k : ℕ). take k bytes) (sym is) in
    let size : length given ≡ n = ap length same ∙ length-take-le n bytes fits in
    let later : Listed Named (number + 1) (at + n) (drop n bytes) lines = others.own.listed in
    record {
      own = record {
        listed = record {
          statements = told.statement ∷ later.statements;
          stated = (told.said, later.stated);
          datas = more_data given (drop n bytes)
              (sym (take-append-drop n bytes) ∙ ap (λ (xs : List ℕ). xs ++ drop n bytes) (sym same)) told.gives
              (subst (λ (k : ℕ). Data Named (at + k) (drop n bytes) later.statements) (sym size) later.datas);
        };
        unnamed = ap (λ (ns : List (List ℕ)). ns ++ names_in later.statements) told.unnamed ∙ others.own.unnamed;
      };
      plain = (told.plain, others.plain);
    }
