-- The text that is written for an image is accepted and writes that image.
use Rattle.std.proofs.Common.{◌≡◌, ℕ, zero, suc, ◌+◌, ◌*◌, ◌^◌, ◌<◌, ◌≤◌, true, List, [], ◌∷◌, ◌++◌, length, map, take, drop, sym, refl, ap, ◌∙◌, subst, append_assoc, length-append, length-take, take-append-drop, arith, inl, inr}
use Rattle.std.specs.Prelude.{None, codes}
use Rattle.std.specs.Int.{to_be_bytes, w32}
use Rattle.std.specs.List.{enumerate_from, flat_map}
use Rattle.std.specs.Option.{option_or}
use Rattle.std.proofs.lemmas.List.{length-drop}
use Rattle.std.proofs.lemmas.List.Sums.{sum_by-cons}
use mathlib.Core.Path.{fun_ext}
use Rattle.m88_base.specs.Image.{IsImage, ProgramImage, byte_at, byte_count, parts}
use Rattle.m88_base.specs.Found.{FindsBytes}
use Rattle.m88_base.proofs.Laws.{AreBytes, behind_finds, byte_in-join, byte_in_above, byte_in_below, bytes_dropped, bytes_taken, option_or-none, option_or_assoc, part_bytes, part_ends}
use Rattle.m88_base.specs.Pieces.{pieces}
use Rattle.m88_base.specs.Placed.{AreApart, Placed, byte_among, byte_in, count_among}
use Rattle.m88_base.specs.Image.{most_bytes}
use Rattle.std.proofs.lemmas.Bool.{cases_lt}
use Rattle.m88_srec.specs.Accepted.{WriteEntries, ComeTo, Fits, IsAccepted, empty_line, ended, entry_line, filled, headed, no_line, address_of, whole_of}
use Rattle.m88_base.specs.Hex.{hex2}
use Rattle.m88_srec.specs.Placing.{Loaded, nothing_loaded, with_data}
use Rattle.m88_srec.specs.Records.{Entry, WritesEntry, check_of, counted, framed, is_bare, record_type, type_of}
use Rattle.m88_srec.specs.Written.{data_line, data_lines, last_line, header_line, lines_for, part_lines, piece_line, record_line, srec_text}
use Rattle.m88_srec.specs.declared.purpose.Purpose.TheVariants.{Header, Data, End}
use Rattle.m88_srec.proofs.Cutting.{next_line, no_lines}
use Rattle.m88_srec.proofs.Spelled.{AllInner, AreInner, bytes_of_digits, digits_are_inner, lines_of_text, pairs_of_bytes}

-- bytes one behind the other
bytes_append : (xs ys : List ℕ) → AreBytes xs → AreBytes ys → AreBytes (xs ++ ys)
bytes_append [] ys h k = k
bytes_append (x ∷ xs) ys h k = (h.0, bytes_append xs ys h.1 k)

frame_bytes : (body : List ℕ) → length body ≤ 254 → AreBytes body → AreBytes (framed body)
frame_bytes body small h =
    bytes_append (counted body) (check_of (counted body) ∷ []) (omega arith, h) (omega arith, tt)

-- a line that is written writes its entry
line_of_entry : (entry : Entry) (digit : ℕ) → type_of digit ≡ record_type entry.purpose (length entry.address)
    → AreBytes (framed (entry.address ++ entry.given)) → (is_bare entry.purpose ≡ true → entry.given ≡ [])
    → WritesEntry entry (record_line digit (entry.address ++ entry.given))
unfolding record_line
line_of_entry entry digit type_is bytes bare = record {
  digit = digit;
  digits = flat_map hex2 (framed (entry.address ++ entry.given));
  line_is = refl;
  type_is = type_is;
  pairs = pairs_of_bytes (framed (entry.address ++ entry.given));
  bytes = bytes_of_digits (framed (entry.address ++ entry.given)) bytes;
  bare = bare;
}

-- an address in four bytes
address_bytes : (n : ℕ) → AreBytes (to_be_bytes w32 n)
address_bytes n = (omega arith, (omega arith, (omega arith, (omega arith, tt))))

address_number : (n : ℕ) → n < 2 ^ 32 → address_of (to_be_bytes w32 n) ≡ n
address_number n h = omega arith

-- the entries of a text
abbrev header_entry : Entry
header_entry = record { purpose = Header; address = 0 ∷ 0 ∷ []; given = codes "M88" }

abbrev data_entry : ℕ → List ℕ → Entry
data_entry at given = record { purpose = Data; address = to_be_bytes w32 at; given = given }

abbrev end_entry : ℕ → Entry
end_entry start = record { purpose = End; address = to_be_bytes w32 start; given = [] }

header_written : WritesEntry header_entry header_line
header_written =
    line_of_entry header_entry 48 refl
    (frame_bytes (0 ∷ 0 ∷ codes "M88") (omega arith) (omega arith, (omega arith, (omega arith, (omega arith, (omega arith, tt))))))
    (λ h. absurd cc)

data_written : (at : ℕ) (given : List ℕ) → length given ≤ 16 → AreBytes given → WritesEntry (data_entry at given) (data_line at given)
data_written at given small h =
    line_of_entry (data_entry at given) 51 refl
    (frame_bytes (to_be_bytes w32 at ++ given) (omega arith) (bytes_append (to_be_bytes w32 at) given (address_bytes at) h))
    (λ e. absurd cc)

end_written : (start : ℕ) → WritesEntry (end_entry start) (last_line start)
end_written start =
    line_of_entry (end_entry start) 55 refl (frame_bytes (to_be_bytes w32 start) (omega arith) (address_bytes start)) (λ e. refl)

-- lines one behind the other
lines_append : (es fs : List Entry) (ls ms : List (List ℕ)) → WriteEntries es ls → WriteEntries fs ms → WriteEntries (es ++ fs) (ls ++ ms)
lines_append [] fs [] ms no_line more = more
lines_append (e ∷ es) fs [] ms nothing more = elim nothing [ ]
lines_append es fs ([] ∷ ls) ms (empty_line rest) more = empty_line (lines_append es fs ls ms rest more)
lines_append (e ∷ es) fs (l ∷ ls) ms (entry_line written rest) more = entry_line written (lines_append es fs ls ms rest more)
lines_append [] fs ((b ∷ bs) ∷ ls) ms nothing more = elim nothing [ ]

-- lines that lead from what was loaded to more
record Leads (lines : List (List ℕ)) (loaded later : Loaded) : Type 0 where
  entries : List Entry
  written : WriteEntries entries lines
  leads : (n start : ℕ) (rest : List Entry) (last : Loaded)
      → ((m : ℕ) → ComeTo later m rest last start) → ComeTo loaded n (entries ++ rest) last start

stays : (loaded : Loaded) → Leads [] loaded loaded
stays loaded = record { entries = []; written = no_line; leads = λ n start rest last on. on n }

joined : (ls ms : List (List ℕ)) (loaded middle later : Loaded) → Leads ls loaded middle → Leads ms middle later → Leads (ls ++ ms) loaded later
joined ls ms loaded middle later a b = record {
  entries = a.entries ++ b.entries;
  written = lines_append a.entries b.entries ls ms a.written b.written;
  leads = λ n start rest last on.
      subst (λ (es : List Entry). ComeTo loaded n es last start) (sym (append_assoc a.entries b.entries rest))
      (a.leads n start (b.entries ++ rest) last (λ m. b.leads m start rest last on));
}

-- one line of data
one_line : (at : ℕ) (given : List ℕ) (loaded : Loaded) → 0 < length given → at + length given ≤ 2 ^ 32 → loaded.count + length given ≤ most_bytes
    → ((a : ℕ) → at ≤ a → loaded.found a ≡ None) → length given ≤ 16 → AreBytes given
    → Leads (data_line at given ∷ []) loaded (with_data at given loaded)
one_line at given loaded some below few free small h =
    let e : address_of (to_be_bytes w32 at) ≡ at = address_number at (omega arith) in
    let fits : Fits (data_entry at given) loaded = record {
      below = subst (λ (k : ℕ). k + length given ≤ 2 ^ 32) (sym e) below;
      few = few;
      free = λ a within. free a (subst (λ (k : ℕ). k ≤ a) e within.0);
    } in
    record {
      entries = data_entry at given ∷ [];
      written = entry_line (data_written at given small h) no_line;
      leads = λ n start rest last on.
          filled refl fits (subst (λ (k : ℕ). ComeTo (with_data k given loaded) (n + 1) rest last start) (sym e) (on (n + 1)));
    }

-- bytes behind bytes
behind : (at next : ℕ) (xs ys : List ℕ) (loaded : Loaded) → at + length xs ≡ next
    → with_data next ys (with_data at xs loaded) ≡ with_data at (xs ++ ys) loaded
behind at next xs ys loaded e =
    let found : (with_data next ys (with_data at xs loaded)).found ≡ (with_data at (xs ++ ys) loaded).found =
    fun_ext (λ a. option_or_assoc (loaded.found a) (byte_in (record { at = at; bytes = xs }) a) (byte_in (record { at = next; bytes = ys }) a)
    ∙ ap (option_or (loaded.found a)) (sym (byte_in-join at xs ys next a e))) in
    let count : loaded.count + length xs + length ys ≡ loaded.count + length (xs ++ ys) = omega (arith, length-append xs ys) in
    λ i. record { found = found i; count = count i }

none_in : (at a : ℕ) → byte_in (record { at = at; bytes = [] }) a ≡ None
none_in at a =
    elim (cases_lt a at) [
      | inl low ↦ byte_in_below (record { at = at; bytes = [] }) a low
      | inr from ↦ byte_in_above (record { at = at; bytes = [] }) a (omega (arith, from))
    ]

no_data : (at : ℕ) (loaded : Loaded) → loaded ≡ with_data at [] loaded
no_data at loaded =
    let found : loaded.found ≡ (with_data at [] loaded).found =
    fun_ext (λ a. sym (ap (option_or (loaded.found a)) (none_in at a) ∙ option_or-none (loaded.found a))) in
    let count : loaded.count ≡ loaded.count + 0 = omega arith in
    λ i. record { found = found i; count = count i }

-- nothing is found behind bytes
free_behind : (at next : ℕ) (xs : List ℕ) (loaded : Loaded) → at + length xs ≤ next → ((a : ℕ) → at ≤ a → loaded.found a ≡ None)
    → (a : ℕ) → next ≤ a → (with_data at xs loaded).found a ≡ None
free_behind at next xs loaded e free a h =
    ap (λ o. option_or o (byte_in (record { at = at; bytes = xs }) a)) (free a (omega arith))
    ∙ byte_in_above (record { at = at; bytes = xs }) a (omega arith)

-- the lines of bytes lead to them, by the first and those behind it
data_leads : (fuel at : ℕ) (bytes : List ℕ) (loaded : Loaded) → length bytes ≤ fuel → at + length bytes ≤ 2 ^ 32
    → loaded.count + length bytes ≤ most_bytes → ((a : ℕ) → at ≤ a → loaded.found a ≡ None) → AreBytes bytes
    → Leads (data_lines at bytes) loaded (with_data at bytes loaded)
data_leads fuel at [] loaded fits below few free h =
    subst (λ (ls : List (List ℕ)). Leads ls loaded (with_data at [] loaded)) (sym (no_lines at))
    (subst (λ (later : Loaded). Leads [] loaded later) (no_data at loaded) (stays loaded))
data_leads zero at (b ∷ bs) loaded fits below few free h = absurd (omega arith)
data_leads (suc fuel) at (b ∷ bs) loaded fits below few free h =
    let bytes : List ℕ = b ∷ bs in
    let piece : List ℕ = take 16 bytes in
    let left : List ℕ = drop 16 bytes in
    let next : ℕ = at + length piece in
    let more : Loaded = with_data at piece loaded in
    let size = length-take 16 bytes in
    let long = length-drop 16 bytes in
    let cut = take-append-drop 16 bytes in
    let first = one_line at piece loaded (omega (arith, size)) (omega (arith, size)) (omega (arith, size)) free (omega (arith, size)) (bytes_taken 16 bytes h) in
    let rest = data_leads fuel next left more (omega (arith, long)) (omega (arith, size, long)) (omega (arith, size, long))
    (free_behind at next piece loaded (omega arith) free) (bytes_dropped 16 bytes h) in
    let whole : with_data next left more ≡ with_data at bytes loaded =
    behind at next piece left loaded refl ∙ ap (λ (xs : List ℕ). with_data at xs loaded) cut in
    subst (λ (later : Loaded). Leads (data_lines at bytes) loaded later) whole
    (subst (λ (ls : List (List ℕ)). Leads ls loaded (with_data next left more)) (sym (next_line at bytes piece left (sym cut) size (omega arith)))
    (joined (data_line at piece ∷ []) (data_lines next left) loaded more (with_data next left more) first rest))

-- parts, each of bytes and below the last address
abbrev pub ArePieces : List Placed → Type 0
ArePieces [] = Unit {0}
ArePieces (p ∷ ps) = AreBytes p.bytes × (p.at + length p.bytes ≤ 2 ^ 32) × ArePieces ps

-- what was loaded, with parts behind it
abbrev with_parts : List Placed → Loaded → Loaded
with_parts ps loaded = record {
  found = λ a. option_or (loaded.found a) (byte_among ps a);
  count = loaded.count + count_among ps;
}

no_parts : (loaded : Loaded) → loaded ≡ with_parts [] loaded
no_parts loaded =
    let found : loaded.found ≡ (with_parts [] loaded).found = fun_ext (λ a. sym (option_or-none (loaded.found a))) in
    let count : loaded.count ≡ loaded.count + 0 = omega arith in
    λ i. record { found = found i; count = count i }

one_more_part : (p : Placed) (ps : List Placed) (loaded : Loaded) → with_parts ps (with_data p.at p.bytes loaded) ≡ with_parts (p ∷ ps) loaded
one_more_part p ps loaded =
    let found : (with_parts ps (with_data p.at p.bytes loaded)).found ≡ (with_parts (p ∷ ps) loaded).found =
    fun_ext (λ a. option_or_assoc (loaded.found a) (byte_in p a) (byte_among ps a)) in
    let count : loaded.count + length p.bytes + count_among ps ≡ loaded.count + count_among (p ∷ ps) =
    omega (arith, sum_by-cons (λ (q : Placed). length q.bytes) p ps) in
    λ i. record { found = found i; count = count i }

-- the lines of parts lead to them
parts_lead : (from : ℕ) (ps : List Placed) (loaded : Loaded) → AreApart from ps → ArePieces ps
    → loaded.count + count_among ps ≤ most_bytes → ((a : ℕ) → from ≤ a → loaded.found a ≡ None)
    → Leads (flat_map part_lines ps) loaded (with_parts ps loaded)
parts_lead from [] loaded apart pieces few free = subst (λ (later : Loaded). Leads [] loaded later) (no_parts loaded) (stays loaded)
parts_lead from (p ∷ ps) loaded apart pieces few free =
    let low : from ≤ p.at = apart.0 in
    let size = sum_by-cons (λ (q : Placed). length q.bytes) p ps in
    let free_here : (a : ℕ) → p.at ≤ a → loaded.found a ≡ None = λ a h. free a (omega arith) in
    let first = data_leads (length p.bytes) p.at p.bytes loaded (omega arith) pieces.1 (omega (arith, size)) free_here pieces.0 in
    let rest = parts_lead (p.at + length p.bytes + 1) ps (with_data p.at p.bytes loaded) apart.2 pieces.2 (omega (arith, size))
    (free_behind p.at (p.at + length p.bytes + 1) p.bytes loaded (omega arith) free_here) in
    subst (λ (later : Loaded). Leads (flat_map part_lines (p ∷ ps)) loaded later) (one_more_part p ps loaded)
    (joined (part_lines p) (flat_map part_lines ps) loaded (with_data p.at p.bytes loaded) (with_parts ps (with_data p.at p.bytes loaded)) first rest)

-- no line has a byte of a line end
inner_line : (digit : ℕ) (body : List ℕ) → 48 ≤ digit → AreInner (record_line digit body)
unfolding record_line
inner_line digit body h = (omega arith, (h, digits_are_inner (framed body)))

inner_append : (ls ms : List (List ℕ)) → AllInner ls → AllInner ms → AllInner (ls ++ ms)
inner_append [] ms h k = k
inner_append (l ∷ ls) ms h k = (h.0, inner_append ls ms h.1 k)

inner_pieces : (at : ℕ) (ps : List (ℕ × List ℕ)) → AllInner (map (piece_line at) ps)
inner_pieces at [] = tt
inner_pieces at (p ∷ ps) = (inner_line 51 (to_be_bytes w32 (at + p.0 * 16) ++ p.1) (omega arith), inner_pieces at ps)

inner_data : (at : ℕ) (bytes : List ℕ) → AllInner (data_lines at bytes)
unfolding data_lines
inner_data at bytes = inner_pieces at (enumerate_from 0 (pieces 16 bytes))

inner_parts : (ps : List Placed) → AllInner (flat_map part_lines ps)
inner_parts [] = tt
inner_parts (p ∷ ps) = inner_append (part_lines p) (flat_map part_lines ps) (inner_data p.at p.bytes) (inner_parts ps)

inner_lines : (image : ProgramImage) → AllInner (lines_for image)
inner_lines image =
    inner_append (header_line ∷ flat_map part_lines (parts image)) (last_line image.start ∷ [])
    (inner_line 48 (0 ∷ 0 ∷ codes "M88") (omega arith), inner_parts (parts image))
    (inner_line 55 (to_be_bytes w32 image.start) (omega arith), tt)

-- the text of an image is accepted and writes the image
pub text_is_accepted : (image : ProgramImage) → AreApart 0 (parts image) → ArePieces (parts image) → count_among (parts image) ≤ most_bytes
    → image.start < 2 ^ 32 → IsAccepted (srec_text image) (whole_of image)
unfolding srec_text byte_at
text_is_accepted image apart pieces few start =
    let body = parts_lead 0 (parts image) nothing_loaded apart pieces (omega arith) (λ a h. refl) in
    let last : Loaded = with_parts (parts image) nothing_loaded in
    let told : address_of (to_be_bytes w32 image.start) ≡ image.start = address_number image.start start in
    let end : (m : ℕ) → ComeTo last m (end_entry image.start ∷ []) last image.start =
    λ m. subst (ComeTo last m (end_entry image.start ∷ []) last) told (ended refl) in
    record {
      entries = header_entry ∷ (body.entries ++ end_entry image.start ∷ []);
      lines = subst (WriteEntries (header_entry ∷ (body.entries ++ end_entry image.start ∷ []))) (sym (lines_of_text (lines_for image) (inner_lines image)))
          (entry_line header_written (lines_append body.entries (end_entry image.start ∷ []) (flat_map part_lines (parts image)) (last_line image.start ∷ []) body.written (entry_line (end_written image.start) no_line)));
      loaded = last;
      comes = headed refl (body.leads 0 image.start (end_entry image.start ∷ []) last end);
      found = refl;
    }

-- the parts of an image
pieces_of : (from : ℕ) (ps : List Placed) → AreApart from ps → FindsBytes (byte_among ps) → ArePieces ps
pieces_of from [] apart finds = tt
pieces_of from (p ∷ ps) apart finds = (
  part_bytes p ps finds,
  part_ends p ps apart.1 finds,
  pieces_of (p.at + length p.bytes + 1) ps apart.2 (behind_finds from p ps apart finds),
)

-- the text of every image is accepted and writes the image
pub image_is_accepted : (image : ProgramImage) (text : List ℕ) → IsImage image → text ≡ srec_text image → IsAccepted text (whole_of image)
unfolding byte_at byte_count
image_is_accepted image text is text_is =
    subst (λ (t : List ℕ). IsAccepted t (whole_of image)) (sym text_is)
    (text_is_accepted image is.apart (pieces_of 0 (parts image) is.apart is.bytes) is.few is.start)
