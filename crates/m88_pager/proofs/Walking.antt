-- A board and its frames go along the letters of a run.
use Rattle.std.specs.Prelude.{ℕ, Bool, true, false, List, [], ◌∷◌, ◌++◌, All, Option, Some, None, IfSome, ◌≡◌, ◌<◌, ◌≤◌, ◌+◌, ◌-◌, ◌*◌, ◌^◌, ◌==◌, ◌||◌, is_some, length, map, take, unwrap_or, if◌then◌else◌}
use Rattle.std.proofs.Common.{add-one, arith, length-take, refl, sym, ap, ap₂, subst, ◌∙◌}
use Rattle.std.proofs.Math.Path.{fun_ext}
use Rattle.std.proofs.lemmas.List.{take_all}
use Rattle.std.proofs.lemmas.Bool.{eqb-true}
use Rattle.std.specs.FinMap.{empty, get, get-empty}
use Rattle.std.specs.Ordering.{nat_cmp}
use Rattle.m88_base.specs.Image.{IsImage, ProgramImage, byte_at}
use Rattle.m88_board.proofs.Laws.{done_at, not_yet, same_bytes}
use Rattle.m88_base.specs.declared.triple.Triple.{Triple}
use Rattle.m88_board.specs.Board.{BoardView, local_of}
use Rattle.m88_board.specs.Kept.{IsKept}
use Rattle.m88_board.specs.Moves.{IsAt}
use Rattle.m88_event.proofs.Laws.{same_over}
use Rattle.m88_event.specs.Letters.{letter_at}
use Rattle.m88_event.specs.Local.{Local, is_over_by, local_at}
use Rattle.m88_event.specs.Run.{NotBefore, moment_after, moment_along}
use Rattle.m88_event.specs.Timeline.{Moment, Run, after_letter, is_over, opening_moment}
use Rattle.m88_event.specs.declared.letter.Letter.{Letter}
use Rattle.m88_isa.specs.Bus.{bus_after_all, in_words}
use Rattle.m88_isa.specs.History.{pending_at, transaction_count, transactions}
use Rattle.m88_isa.specs.ImageProgram.{IsProgramOf}
use Rattle.m88_isa.specs.Lanes.{AreBytes}
use Rattle.m88_isa.specs.Machine.{Program, opening}
use Rattle.m88_isa.specs.Triples.{access_in, triples_of}
use Rattle.m88_isa.specs.declared.planned.Access.{Access}
use Rattle.m88_mem.specs.DataBus.{image_bus, image_bytes}
use Rattle.m88_pager.proofs.Transacted.{done_after, done_ahead, done_of, made_front, told_front}
use Rattle.m88_pager.proofs.Words.{bytes_back}
use Rattle.m88_pager.specs.Frames.{frames_after}
use Rattle.m88_pager.specs.Inside.Bytes.{in_bytes}
use Rattle.m88_pager.specs.Inside.Calls.{AreEmpty}
use Rattle.m88_pager.specs.Inside.Contents.{AreClean, StandWhereTold, StandForMemory, behind, is_dirty_in, over}
use Rattle.m88_pager.specs.Inside.Seen.{AreCarried, IsWholePage, AreWithin, IsWordTriple, held_by, with_mark}
use Rattle.m88_pager.specs.Inside.Told.{StandsAlone}
use Rattle.m88_pager.specs.Paged.{HoldsNoneWhereTold, Tells}
use Rattle.m88_pager.specs.Pages.{HoldsWhereTold, page_of}
use Rattle.m88_pager.specs.Store.{PageMap}
use Rattle.m88_pager.specs.declared.frames.Frame.{Frame}
use Rattle.m88_pager.specs.declared.frames.Frames.{Frames}

-- the bytes of an image are bytes
byte_there : (byte : Option ℕ) (a : ℕ) → IfSome byte (λ b. (a < 2 ^ 32) × (b < 256)) → unwrap_or byte 0 < 2 ^ 8
byte_there None a h = omega arith
byte_there (Some b) a h = h.1

pub bytes_there : (image : ProgramImage) → IsImage image → AreBytes (image_bytes image)
unfolding image_bytes
bytes_there image is a = byte_there (byte_at image a) a (is.bytes a)

-- nothing is carried out yet
none_held : (original : ℕ → ℕ) (held : ℕ → Bool) → AreBytes original → ((page : ℕ) → held page ≡ false) →
    StandForMemory (page_of original) (page_of (in_bytes (in_words original))) (λ page. false) held [] empty
unfolding over behind AreClean is_dirty_in
none_held original held bytes none = record {
  same = fun_ext (λ page.
      ap (λ (o : Option (List ℕ)). unwrap_or o (page_of original page)) (get-empty nat_cmp page)
      ∙ ap (λ (memory : ℕ → ℕ). page_of memory page) (sym (bytes_back original bytes)));
  clean = tt;
  written_are = λ page. ap (λ (o : Option (List ℕ)). is_some o || false) (get-empty nat_cmp page);
  held_are = λ page. ap (λ (o : Option (List ℕ)). is_some o) (get-empty nat_cmp page) ∙ sym (none page);
}

none_told : (original : ℕ → ℕ) (held : ℕ → Bool) (told : Option PageMap) → AreBytes original → ((page : ℕ) → held page ≡ false) →
    HoldsNoneWhereTold told →
    StandWhereTold (page_of original) (page_of (in_bytes (in_words original))) (λ page. false) held [] told
none_told original held None bytes none holds = tt
none_told original held (Some pages) bytes none holds =
    subst (λ (m : PageMap). StandForMemory (page_of original) (page_of (in_bytes (in_words original))) (λ page. false) held [] m) (sym holds)
    (none_held original held bytes none)

none_whole : (es : List (ℕ × Frame)) → es ≡ [] → All IsWholePage es
none_whole es none = subst (All IsWholePage) (sym none) (λ k d h. absurd (omega (arith, h)))

pub none_carried : (original : ℕ → ℕ) (most : ℕ) (f : Frames) (told : Option PageMap) → AreBytes original → f.cache.cap ≡ most → {count : ℕ} →
    AreEmpty count f → HoldsNoneWhereTold told → AreCarried original most [] f told
unfolding frames_after bus_after_all
none_carried original most f told bytes cap opened holds = record {
  bytes = bytes;
  whole = none_whole f.cache.entries opened.empty;
  cap = cap;
  counts = λ i. record { pages = map with_mark (opened.empty i); ins = opened.ins i; outs = opened.outs i };
  stands =
      subst (λ (es : List (ℕ × Frame)). StandWhereTold (page_of original) (page_of (in_bytes (in_words original))) (λ page. false) (held_by f) es told)
      (sym opened.empty) (none_told original (held_by f) told bytes opened.held holds);
}

pub none_within : (n : ℕ) {count : ℕ} {f : Frames} → AreEmpty count f → AreWithin n f
none_within n {count} {f} opened =
    let ins = opened.ins in
    let outs = opened.outs in
    record { whole = none_whole f.cache.entries opened.empty; ins = omega (arith, ins); outs = omega (arith, outs) }

-- where a board and its frames are after as many events, before none of which the run was over
pub record IsThere (r : Run) (k : ℕ) (original : ℕ → ℕ) (most : ℕ) (b : BoardView) (f : Frames) (told : Option PageMap)
    : Type 0 where
  pub at : IsAt r (moment_after r k) b
  pub first : NotBefore (λ j. is_over r (moment_after r j)) k
  pub carried : AreCarried original most (done_of r.program (moment_after r k)) f told

pub there_first : (r : Run) (k : ℕ) (original : ℕ → ℕ) (most : ℕ) (b : BoardView) (f : Frames) (told : Option PageMap) →
    k ≡ 0 → IsAt r opening_moment b → AreCarried original most [] f told → IsThere r k original most b f told
unfolding moment_along transactions
there_first r k original most b f told e at carried =
    subst (λ (n : ℕ). IsThere r n original most b f told) (sym e) (record {
      at = at;
      first = λ j h. absurd (omega (arith, h));
      carried = carried;
    })

-- whether the run is over is seen
pub over_there : (r : Run) (m : Moment) (b : BoardView) → IsAt r m b → is_over r m ≡ is_over_by b.limit (local_of b)
over_there r m b at = sym (ap₂ is_over_by at.limit at.seen ∙ same_over r m at.within)

-- of the board that a walk shows
pub over_shown : {shown b : BoardView} {over : Bool} → shown ≡ b → over ≡ is_over_by shown.limit (local_of shown) →
    is_over_by b.limit (local_of b) ≡ over
over_shown same over = ap (λ (x : BoardView). is_over_by x.limit (local_of x)) (sym same) ∙ sym over

-- what is pending is that of the moment
pending_there : (r : Run) (m : Moment) (b : BoardView) → IsAt r m b → b.pending ≡ pending_at r.program m.retired m.done
unfolding local_of local_at
pending_there r m b at = ap (λ (l : Local). l.pending) at.seen

-- no fewer transactions are done after an event, and no more than were pending
done_grew : (letter : Letter) (b c : BoardView) →
    (r : Run) × (m : Moment) × IsAt r m b → ((r : Run) (m : Moment) → IsAt r m b → IsAt r (after_letter r letter m) c) →
    (b.done ≤ c.done) × (c.done ≤ b.done + length b.pending)
done_grew letter b c there next =
    let r = there.0 in
    let m = there.1 in
    let at = there.2 in
    let after = done_after r letter m at.within in
    let low = after.0 in
    let high = after.1 in
    let old = done_at r m b at in
    let new = done_at r (after_letter r letter m) c (next r m at) in
    let left = ap (λ (xs : List Access). length xs) (pending_there r m b at) in
    (omega (arith, low, old, new), omega (arith, high, old, new, left))

-- an event answered or finished so many of the words that the data unit held, the oldest first
pub record AreDoneBy (b c : BoardView) (words : List Triple) (before now : ℕ) : Type 0 where
  pub low : before ≤ now
  pub few : now - before ≤ length words
  pub most : now - before ≤ 3
  pub made : All IsWordTriple (take (now - before) words)
  pub told : map access_in (take (now - before) words) ≡ take (c.done - b.done) b.pending
  pub long : b.done + length (take (c.done - b.done) b.pending) ≡ c.done

pub done_shown : (letter : Letter) {b c shown later : BoardView} {words : List Triple} {before now : ℕ} → shown ≡ b → later ≡ c → IsKept shown →
    words ≡ triples_of shown.pending → before ≡ shown.done → now ≡ later.done →
    (r : Run) × (m : Moment) × IsAt r m b → ((r : Run) (m : Moment) → IsAt r m b → IsAt r (after_letter r letter m) c) →
    AreDoneBy b c words before now
done_shown letter {b} {c} {shown} {later} {words} {before} {now} same after kept is starts ends there next =
    let grew = done_grew letter b c there next in
    let parts = (subst IsKept same kept).parts in
    let low = grew.0 in
    let high = grew.1 in
    let few = parts.few in
    let from : before ≡ b.done = starts ∙ ap (λ (x : BoardView). x.done) same in
    let to : now ≡ c.done = ends ∙ ap (λ (x : BoardView). x.done) after in
    let told : words ≡ triples_of b.pending = is ∙ ap (λ (x : BoardView). triples_of x.pending) same in
    let three = ap (λ (ws : List Triple). length ws) told in
    let taken = length-take (c.done - b.done) b.pending in
    record {
      low = omega (arith, low, from, to);
      few = omega (arith, high, few, three, from, to);
      most = omega (arith, high, few, from, to);
      made =
          subst (λ (ws : List Triple). All IsWordTriple (take (now - before) ws)) (sym told)
          (made_front (now - before) b.pending (omega (arith, high, from, to)) parts.few parts.made);
      told =
          ap (λ (ws : List Triple). map access_in (take (now - before) ws)) told
          ∙ told_front (now - before) b.pending (omega (arith, high, from, to)) parts.few parts.made
          ∙ ap₂ (λ (x y : ℕ). take (x - y) b.pending) to from;
      long = omega (arith, low, high, taken);
    }

pub there_next : {r : Run} {letters : List Letter} {k last : ℕ} {original : ℕ → ℕ} {most : ℕ} {b c : BoardView}
    {f g : Frames} {told now : Option PageMap} → letters ≡ r.schedule → last ≡ k + 1 →
    is_over_by b.limit (local_of b) ≡ false →
    IsThere r k original most b f told →
    ((m : Moment) → IsAt r m b → IsAt r (after_letter r (letter_at letters k) m) c) →
    ((accesses : List Access) → AreCarried original most accesses f told →
    AreCarried original most (accesses ++ take (c.done - b.done) b.pending) g now) →
    IsThere r last original most c g now
unfolding moment_along
there_next {r} {letters} {k} {original} {most} {b} {c} {g} {now} same counts goes there next carries =
    let m : Moment = moment_after r k in
    let n : Moment = after_letter r (letter_at r.schedule k) m in
    let at : IsAt r n c =
    subst (λ (xs : List Letter). IsAt r (after_letter r (letter_at xs k) m) c) same (next m there.at) in
    let path : done_of r.program m ++ take (c.done - b.done) b.pending ≡ done_of r.program n =
    ap₂ (λ (count : ℕ) (xs : List Access). done_of r.program m ++ take count xs)
    (ap₂ (λ (x y : ℕ). x - y) (done_at r n c at) (done_at r m b there.at)) (pending_there r m b there.at)
    ∙ sym (done_ahead r (letter_at r.schedule k) m there.at.within) in
    subst (λ (j : ℕ). IsThere r j original most c g now) (sym (counts ∙ add-one k)) (record {
      at = at;
      first = not_yet (λ j. is_over r (moment_after r j)) k there.first (over_there r m b there.at ∙ goes);
      carried = subst (λ (xs : List Access). AreCarried original most xs g now) path (carries (done_of r.program m) there.carried);
    })

-- all transactions are done once the run is over
both_of : (a b : Bool) → (Rattle.std.specs.Prelude.◌&&◌ a b) ≡ true → a ≡ true
both_of true b h = refl
both_of false b h = absurd cc

pub all_done : (r : Run) (m : Moment) → is_over r m ≡ true → done_of r.program m ≡ transactions r.program m.retired
all_done r m over =
    let done : m.done ≡ transaction_count r.program m.retired = eqb-true m.done (transaction_count r.program m.retired) (both_of _ _ over) in
    take_all m.done (transactions r.program m.retired) (omega (arith, done))

-- what the pages of a store come to
page_there : (o : Option (List ℕ)) (original now : List ℕ) (is_written : Bool) → unwrap_or o original ≡ now → (is_some o || false) ≡ is_written →
    o ≡ (if is_written then Some now else None)
page_there None original now is_written same marks = subst (λ (b : Bool). None ≡ (if b then Some now else None)) marks refl
page_there (Some bytes) original now is_written same marks =
    subst (λ (b : Bool). Some bytes ≡ (if b then Some now else None)) marks (ap Some same)

pub holds_written : (original memory : ℕ → ℕ) (bus : ℕ → ℕ) (written held : ℕ → Bool) (told : Option PageMap) → bus ≡ in_words memory →
    AreBytes memory → StandWhereTold (page_of original) (page_of (in_bytes bus)) written held [] told →
    HoldsWhereTold written memory told
unfolding over behind is_dirty_in
holds_written original memory bus written held None is bytes s = tt
holds_written original memory bus written held (Some pages) is bytes s = λ page.
    page_there (get pages page) (page_of original page) (page_of memory page) (written page)
    (ap (λ (g : ℕ → List ℕ). g page) s.same
    ∙ ap (λ (b : ℕ → ℕ). page_of (in_bytes b) page) is
    ∙ ap (λ (b : ℕ → ℕ). page_of b page) (bytes_back memory bytes))
    (s.written_are page)

-- a store that tells its pages goes on telling them
pub tells_on : (before after : Option PageMap) → is_some after ≡ is_some before → Tells before → Tells after
tells_on None after same tells = absurd tells
tells_on (Some pages) None same tells = absurd cc
tells_on (Some pages) (Some others) same tells = tt

pub stands_alone : (original bus : ℕ → ℕ) (written held : ℕ → Bool) (told : Option PageMap) → Tells told →
    StandWhereTold (page_of original) (page_of (in_bytes bus)) written held [] told → StandsAlone original bus written held told
stands_alone original bus written held None tells s = absurd tells
stands_alone original bus written held (Some pages) tells s = s

-- memory of a program at first is that of its image
pub opens_so : (p : Program) (image : ProgramImage) → IsProgramOf image p → image_bus image ≡ in_words (opening p).memory
unfolding opening
opens_so p image of = same_bytes p image of
