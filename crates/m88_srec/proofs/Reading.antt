-- One line: what it says where it is taken, and that a line of a record is taken for that record.
use Rattle.std.proofs.Common.{◌≡◌, ℕ, ◌+◌, ◌≤◌, Bool, true, false, List, [], ◌∷◌, ◌++◌, length, take, drop, sym, refl, ap, ◌∙◌, subst, eq-eqb, length-append, arith}
use Rattle.std.specs.Prelude.{Option, Some, None, Result, Ok, Err, ◌==◌, ◌&&◌, is_some, nat_lt, not, ◌||◌, slice_index, if◌then◌else◌}
use Rattle.std.proofs.lemmas.Bool.Decides.{nat_tests}
use Rattle.std.proofs.lemmas.List.{drop_all, length-drop, length-take-le}
use Rattle.m88_srec.specs.Accepted.{address_of}
use Rattle.m88_srec.specs.Records.{Entry, WritesEntry, RecordType, are_pairs, bytes_in, check_of, counted, framed, is_bare, letter_s, record_type, type_of}
use Rattle.m88_srec.specs.Verdict.{Formed, Load, record_address, acted, computed_sum, record_data, following, record_form, formed_as, formed_on, framed_on, is_miscounted, judged, summed, written_count, written_sum}
use Rattle.m88_srec.specs.declared.fault.SrecKind.{SrecKind}
use Rattle.m88_srec.specs.declared.fault.SrecKind.TheVariants.{AfterEnd, Count, Sum}
use Rattle.m88_srec.proofs.Cases.{by_bool}
use Rattle.m88_srec.proofs.Framing.{address-framed, count_in_frame, data-framed, framed_is, last-framed, length-framed, take-framed}

-- a line is taken: it writes an entry, and what the entry does gives the later load
pub record TakesEntry (load later : Load) (line : List ℕ) : Type 0 where
  pub entry : Entry
  pub written : WritesEntry entry line
  pub carried : acted load entry.purpose (address_of entry.address) entry.given ≡ Ok later

-- what a count that is right says
record RightCount (f : Formed) : Type 0 where
  same : written_count f ≡ following f
  room : f.width + 1 ≤ following f
  bare : is_bare f.purpose ≡ true → following f ≡ f.width + 1

right_count : (f : Formed) → is_miscounted f ≡ false → RightCount f
right_count f e = record {
  same = grind (arith, nat_tests);
  room = grind (arith, nat_tests);
  bare = λ h. grind (arith, nat_tests);
}

pub from_test : {T : Type 0} (b : Bool) (kind : SrecKind) (r : Result T SrecKind) (x : T) → (if b then Err kind else r) ≡ Ok x
    → (b ≡ false) × (r ≡ Ok x)
from_test true kind r x e = absurd cc
from_test false kind r x e = (refl, e)

from_sum : (load later : Load) (f : Formed) → summed load f ≡ Ok later
    → (written_sum f ≡ computed_sum f) × (acted load f.purpose (record_address f) (record_data f) ≡ Ok later)
unfolding summed
from_sum load later f e =
    by_bool (written_sum f == computed_sum f)
    (λ t. (grind (arith, nat_tests), subst (λ (b : Bool). (if b then acted load f.purpose (record_address f) (record_data f) else Err (Sum (written_sum f) (computed_sum f))) ≡ Ok later) t e))
    (λ t. absurd (let h : Err (Sum (written_sum f) (computed_sum f)) ≡ Ok later = subst (λ (b : Bool). (if b then acted load f.purpose (record_address f) (record_data f) else Err (Sum (written_sum f) (computed_sum f))) ≡ Ok later) t e in cc))

from_frame : (load later : Load) (f : Formed) → framed_on load f ≡ Ok later → (is_miscounted f ≡ false) × (summed load f ≡ Ok later)
unfolding framed_on
from_frame load later f e = from_test (is_miscounted f) (Count (written_count f) (following f)) (summed load f) later e

-- the entry of a form
abbrev entry_of : Formed → Entry
entry_of f = record { purpose = f.purpose; address = take f.width (drop 1 f.bytes); given = record_data f }

length-address : (f : Formed) → f.width + 1 ≤ following f → length (take f.width (drop 1 f.bytes)) ≡ f.width
length-address f h = length-take-le f.width (drop 1 f.bytes) (omega (arith, length-drop 1 f.bytes))

bare_given : (f : Formed) → RightCount f → is_bare f.purpose ≡ true → record_data f ≡ []
bare_given f right h =
    drop_all (f.width + 1) (take (following f) f.bytes)
    (omega (arith, right.bare h, length-take-le (following f) f.bytes (omega arith)))

from_form : (load later : Load) (line : List ℕ) (digit : ℕ) (digits : List ℕ) (t : RecordType)
    → line ≡ letter_s ∷ digit ∷ digits → are_pairs digits ≡ true → type_of digit ≡ Some t
    → framed_on load (record { purpose = t.purpose; width = t.width; bytes = bytes_in digits }) ≡ Ok later
    → TakesEntry load later line
from_form load later line digit digits t line_is pairs type_is e =
    let f : Formed = record { purpose = t.purpose; width = t.width; bytes = bytes_in digits } in
    let frame = from_frame load later f e in
    let right = right_count f frame.0 in
    let both = from_sum load later f frame.1 in
    record {
      entry = entry_of f;
      written = record {
        digit = digit;
        digits = digits;
        line_is = line_is;
        type_is = type_is ∙ ap (record_type t.purpose) (sym (length-address f right.room));
        pairs = pairs;
        bytes = framed_is t.width (following f) (bytes_in digits) (omega (arith, right.room)) right.same right.room both.0;
        bare = bare_given f right;
      };
      carried = both.1;
    }

from_type : (load later : Load) (line : List ℕ) (digit : ℕ) (digits : List ℕ) (t : Option RecordType)
    → line ≡ letter_s ∷ digit ∷ digits → are_pairs digits ≡ true → type_of digit ≡ t
    → formed_on load (formed_as t (bytes_in digits)) ≡ Ok later
    → TakesEntry load later line
from_type load later line digit digits None line_is pairs type_is e = absurd cc
from_type load later line digit digits (Some t) line_is pairs type_is e =
    from_form load later line digit digits t line_is pairs type_is e

from_letter : (load later : Load) (s digit : ℕ) (digits : List ℕ) (v w : Bool) → (s == letter_s) ≡ v → are_pairs digits ≡ w
    → formed_on load (if v && w then formed_as (type_of digit) (bytes_in digits) else None) ≡ Ok later
    → TakesEntry load later (s ∷ digit ∷ digits)
from_letter load later s digit digits true true e pairs h =
    let is_s : s ≡ letter_s = grind (arith, nat_tests) in
    from_type load later (s ∷ digit ∷ digits) digit digits (type_of digit)
    (ap (λ (b : ℕ). let xs : List ℕ = b ∷ digit ∷ digits in xs) is_s) pairs refl h
from_letter load later s digit digits true false e pairs h = absurd cc
from_letter load later s digit digits false w e pairs h = absurd cc

from_line : (load later : Load) (b : ℕ) (bs : List ℕ) → formed_on load (record_form (b ∷ bs)) ≡ Ok later → TakesEntry load later (b ∷ bs)
unfolding record_form
from_line load later b [] e = absurd cc
from_line load later b (digit ∷ digits) e = from_letter load later b digit digits (b == letter_s) (are_pairs digits) refl refl e

-- a line that isn't empty is taken only before the end record, and for an entry
pub entry_of_line : (load later : Load) (b : ℕ) (bs : List ℕ) → judged load (b ∷ bs) ≡ Ok later
    → (is_some load.start ≡ false) × TakesEntry load later (b ∷ bs)
unfolding judged
entry_of_line load later b bs e =
    let both = from_test (is_some load.start) AfterEnd (formed_on load (record_form (b ∷ bs))) later e in
    (both.0, from_line load later b bs both.1)

-- the form of a line that writes an entry
abbrev form_for : Entry → Formed
form_for entry = record {
  purpose = entry.purpose;
  width = length entry.address;
  bytes = framed (entry.address ++ entry.given);
}

form_of_entry : (entry : Entry) (line : List ℕ) → WritesEntry entry line → record_form line ≡ Some (form_for entry)
unfolding record_form
form_of_entry entry line w =
    ap record_form w.line_is
    ∙ ap (λ (b : Bool). if b then formed_as (type_of w.digit) (bytes_in w.digits) else None) w.pairs
    ∙ ap (λ t. formed_as t (bytes_in w.digits)) w.type_is
    ∙ ap (λ (bytes : List ℕ). let f : Option Formed = Some (record { purpose = entry.purpose; width = length entry.address; bytes = bytes }) in f) w.bytes

counts_right : (written found width : ℕ) (bare : Bool) → written ≡ found → width + 1 ≤ found → (bare ≡ true → found ≡ width + 1)
    → (not (written == found) || nat_lt found (width + 1) || bare && not (found == width + 1)) ≡ false
counts_right written found width true same room bare = let e = bare refl in grind (arith, nat_tests)
counts_right written found width false same room bare = grind (arith, nat_tests)

-- what follows the count of a frame
following-framed : (entry : Entry) → following (form_for entry) ≡ length (entry.address ++ entry.given) + 1
following-framed entry = omega (arith, length-framed (entry.address ++ entry.given))

is_counted : (entry : Entry) → (is_bare entry.purpose ≡ true → entry.given ≡ []) → is_miscounted (form_for entry) ≡ false
is_counted entry bare =
    let follows = following-framed entry in
    let size = length-append entry.address entry.given in
    counts_right (written_count (form_for entry)) (following (form_for entry)) (length entry.address) (is_bare entry.purpose)
    (count_in_frame (entry.address ++ entry.given) ∙ sym follows)
    (omega (arith, follows, size))
    (λ h. let none : length entry.given ≡ 0 = ap length (bare h) in omega (arith, follows, size, none))

-- the tests of a frame
sum_is_right : (entry : Entry) → (written_sum (form_for entry) == computed_sum (form_for entry)) ≡ true
sum_is_right entry =
    let body : List ℕ = entry.address ++ entry.given in
    let follows = following-framed entry in
    let written : written_sum (form_for entry) ≡ check_of (counted body) =
    ap (λ (n : ℕ). slice_index (framed body) n) follows ∙ last-framed body in
    let computed : computed_sum (form_for entry) ≡ check_of (counted body) =
    ap (λ (n : ℕ). check_of (take n (framed body))) follows ∙ ap check_of (take-framed body) in
    let same : written_sum (form_for entry) ≡ computed_sum (form_for entry) = written ∙ sym computed in
    eq-eqb (written_sum (form_for entry)) (computed_sum (form_for entry)) same

given_in_frame : (entry : Entry) → record_data (form_for entry) ≡ entry.given
given_in_frame entry =
    let body : List ℕ = entry.address ++ entry.given in
    ap (λ (n : ℕ). drop (length entry.address + 1) (take n (framed body))) (following-framed entry)
    ∙ ap (drop (length entry.address + 1)) (take-framed body)
    ∙ data-framed entry.address entry.given

-- a line that writes an entry is taken for it
pub carried_by : (load : Load) (entry : Entry) (line : List ℕ) → WritesEntry entry line → is_some load.start ≡ false
    → judged load line ≡ acted load entry.purpose (address_of entry.address) entry.given
unfolding judged framed_on summed
carried_by load entry line w open_end =
    let f : Formed = form_for entry in
    ap (judged load) w.line_is
    ∙ ap (λ (b : Bool). if b then Err AfterEnd else formed_on load (record_form (letter_s ∷ w.digit ∷ w.digits))) open_end
    ∙ ap (formed_on load) (ap record_form (sym w.line_is) ∙ form_of_entry entry line w)
    ∙ ap (λ (b : Bool). if b then Err (Count (written_count f) (following f)) else summed load f) (is_counted entry w.bare)
    ∙ ap (λ (b : Bool). if b then acted load entry.purpose (record_address f) (record_data f) else Err (Sum (written_sum f) (computed_sum f))) (sum_is_right entry)
    ∙ ap (λ (xs : List ℕ). acted load entry.purpose (address_of xs) (record_data f)) (address-framed entry.address entry.given)
    ∙ ap (acted load entry.purpose (address_of entry.address)) (given_in_frame entry)
