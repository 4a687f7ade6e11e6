-- One transaction more is carried out in the frames.
use Rattle.std.specs.Prelude.{ℕ, Bool, true, false, List, [], ◌∷◌, ◌++◌, All, Option, Some, None, ◌≡◌, ◌≤◌, ◌+◌, ◌-◌, ◌%◌, ◌==◌, ◌&&◌, ◌||◌, length, map, nat_eq, nat_lt, slice_get}
use Rattle.std.proofs.Common.{append-nil, append_assoc, arith, length-append, refl, sym, ap, subst, ◌∙◌}
use Rattle.std.proofs.Math.Path.{fun_ext}
use Rattle.std.proofs.lemmas.Bool.{eqb-false, eqb-true}
use Rattle.std.proofs.lemmas.Bool.Decides.{nat_tests}
use Rattle.std.proofs.lemmas.List.Elements.{All-cons}
use Rattle.m88_base.specs.Pages.{page_number}
use Rattle.m88_isa.proofs.Laws.{bus_of_append, by_test}
use Rattle.m88_isa.specs.Bus.{bus_after, bus_after_all, in_words, stored}
use Rattle.m88_isa.specs.Memory.{IsWordAccess}
use Rattle.m88_isa.specs.declared.planned.Access.{Access}
use Rattle.std.specs.Map.{lookup}
use Rattle.m88_pager.proofs.Flushing.{at_most_one}
use Rattle.m88_pager.proofs.Standing.{stands_written}
use Rattle.m88_pager.proofs.Taking.{there_brought, without}
use Rattle.m88_pager.proofs.Words.{pages_stay, words_stay, words_there}
use Rattle.m88_pager.specs.Frames.{Frames as FramesSeen, dirtied, brought, brought_as, frames_after, no_frames, touched, with_room}
use Rattle.m88_pager.specs.Inside.Bytes.{AreWords, in_bytes}
use Rattle.m88_pager.specs.Inside.Calls.{AreCarriedOn, IsBrought, IsCarriedThere, IsPutInFront, IsWorked}
use Rattle.m88_pager.specs.Inside.Contents.{StandWhereTold, StandForMemory, behind, over, with_new_page}
use Rattle.m88_pager.specs.Inside.Seen.{AreCarried, IsWholePage, AreWithin, held_by, with_mark, seen_of, seen_with}
use Rattle.m88_pager.specs.Pages.{page_of, writes_page}
use Rattle.m88_pager.specs.Store.{PageMap}
use Rattle.m88_pager.specs.declared.frames.Frame.{Frame}
use Rattle.m88_pager.specs.declared.frames.Frames.{Frames}

-- one transaction more
pub frames_more : (most : ℕ) (xs ys : List Access) (f : FramesSeen) → frames_after most (xs ++ ys) f ≡ frames_after most ys (frames_after most xs f)
unfolding frames_after
frames_more most [] ys f = refl
frames_more most (x ∷ xs) ys f = frames_more most xs ys (touched most x f)

pub one_frame_more : (most : ℕ) (xs : List Access) (a : Access) (f : FramesSeen) →
    frames_after most (xs ++ (a ∷ [])) f ≡ touched most a (frames_after most xs f)
unfolding frames_after
one_frame_more most xs a f = frames_more most xs (a ∷ []) f

pub one_bus_more : (xs : List Access) (a : Access) (bus : ℕ → ℕ) → bus_after_all (xs ++ (a ∷ [])) bus ≡ bus_after a (bus_after_all xs bus)
unfolding bus_after_all
one_bus_more xs a bus = bus_of_append xs (a ∷ []) bus

one_page_more : (xs : List Access) (a : Access) (page : ℕ) →
    writes_page (xs ++ (a ∷ [])) page ≡ (writes_page xs page || (a.write && page_number a.addr == page))
one_page_more [] a page = by_test (a.write && page_number a.addr == page) (λ t. rw t refl) (λ f. rw f refl)
one_page_more (x ∷ xs) a page = by_test (x.write && page_number x.addr == page)
    (λ t. rw t refl)
    (λ f. rw f (one_page_more xs a page))

-- of a read nothing changes but the order
no_page_more : (xs : List Access) (a : Access) → a.write ≡ false → writes_page xs ≡ writes_page (xs ++ (a ∷ []))
no_page_more xs a w = fun_ext (λ page. sym (one_page_more xs a page ∙ rw w (none (writes_page xs page))))
  where
    none : (b : Bool) → (b || false) ≡ b
    none true = refl
    none false = refl

its_page_more : (xs : List Access) (a : Access) → a.write ≡ true →
    (λ (q : ℕ). writes_page xs q || page_number a.addr == q) ≡ writes_page (xs ++ (a ∷ []))
its_page_more xs a w = fun_ext (λ page. sym (one_page_more xs a page ∙ rw w refl))

-- of a write the page at the front changes
front_page : (memory : ℕ → List ℕ) (page : ℕ) (frame : Frame) (es : List (ℕ × Frame)) (back : ℕ → List ℕ) →
    over ((page, frame) ∷ es) back ≡ memory → frame.bytes.items ≡ memory page
unfolding over
front_page memory page frame es back same =
    let own : (page == page) ≡ true = grind (arith, nat_tests) in
    sym (rw own refl) ∙ ap (λ (g : ℕ → List ℕ). g page) same

pages_with : (bus : ℕ → ℕ) (a : Access) (bytes : List ℕ) → a.addr % 4 ≡ 0 → bytes ≡ page_of (in_bytes (stored a bus)) (page_number a.addr) →
    with_new_page (page_number a.addr) bytes (page_of (in_bytes bus)) ≡ page_of (in_bytes (stored a bus))
unfolding stored
pages_with bus a bytes at is = fun_ext (λ q. by_test (page_number a.addr == q)
    (λ t. rw t (is ∙ ap (page_of (in_bytes (stored a bus))) (eqb-true (page_number a.addr) q t)))
    (λ f. rw f (sym (pages_stay bus a.addr _ q at (eqb-false (page_number a.addr) q f)))))

written_on : (original : ℕ → List ℕ) (written held : ℕ → Bool) (es : List (ℕ × Frame)) (a : Access) (bus : ℕ → ℕ) (old new : Frame)
    (told : Option PageMap) → a.addr % 4 ≡ 0 → new.dirty ≡ true →
    (old.bytes.items ≡ page_of (in_bytes bus) (page_number a.addr) → new.bytes.items ≡ page_of (in_bytes (stored a bus)) (page_number a.addr)) →
    StandWhereTold original (page_of (in_bytes bus)) written held ((page_number a.addr, old) ∷ es) told →
    StandWhereTold original (page_of (in_bytes (stored a bus))) (λ q. written q || page_number a.addr == q) held ((page_number a.addr, new) ∷ es) told
written_on original written held es a bus old new None at d changed s = tt
written_on original written held es a bus old new (Some pages) at d changed s =
    let is = changed (front_page (page_of (in_bytes bus)) (page_number a.addr) old es (behind original pages) s.same) in
    subst (λ (memory : ℕ → List ℕ). StandForMemory original memory (λ q. written q || page_number a.addr == q) held ((page_number a.addr, new) ∷ es) pages)
    (pages_with bus a new.bytes.items at is)
    (stands_written original (page_of (in_bytes bus)) written held es (page_number a.addr) old new (Some pages) d s)

worked_seen : (most : ℕ) (a : Access) (old new : Frame) (f g : Frames) → IsWorked a old new →
    seen_with (page_number a.addr) old g ≡ brought most (page_number a.addr) (seen_of f) →
    seen_with (page_number a.addr) new g ≡ touched most a (seen_of f)
worked_seen most a old new f g worked seen = by_test a.write
    (λ t. rw t (
    ap (λ (b : Bool). record { pages = (page_number a.addr, b) ∷ map with_mark g.cache.entries; ins = g.ins; outs = g.outs }) (worked.dirty t)
    ∙ ap (λ (s : FramesSeen). record { pages = dirtied s.pages; ins = s.ins; outs = s.outs }) seen
    ))
    (λ n. rw n (ap (λ (frame : Frame). seen_with (page_number a.addr) frame g) (worked.read n) ∙ seen))

worked_stands : (original : ℕ → ℕ) (xs : List Access) (a : Access) (held : ℕ → Bool) (es : List (ℕ × Frame)) (old new : Frame)
    (told : Option PageMap) → a.addr % 4 ≡ 0 → AreWords (bus_after_all xs (in_words original)) → IsWorked a old new →
    StandWhereTold (page_of original) (page_of (in_bytes (bus_after_all xs (in_words original)))) (writes_page xs) held ((page_number a.addr, old) ∷ es) told →
    StandWhereTold (page_of original) (page_of (in_bytes (bus_after_all (xs ++ (a ∷ [])) (in_words original)))) (writes_page (xs ++ (a ∷ []))) held
    ((page_number a.addr, new) ∷ es) told
worked_stands original xs a held es old new told at words worked s =
    let bus : ℕ → ℕ = bus_after_all xs (in_words original) in
    by_test a.write
    (λ t.
    let next : stored a bus ≡ bus_after_all (xs ++ (a ∷ [])) (in_words original) =
    sym (one_bus_more xs a (in_words original) ∙ rw t refl) in
    subst (λ (b : ℕ → ℕ). StandWhereTold (page_of original) (page_of (in_bytes b)) (writes_page (xs ++ (a ∷ []))) held ((page_number a.addr, new) ∷ es) told) next
    (subst (λ (w : ℕ → Bool). StandWhereTold (page_of original) (page_of (in_bytes (stored a bus))) w held ((page_number a.addr, new) ∷ es) told)
    (its_page_more xs a t)
    (written_on (page_of original) (writes_page xs) held es a bus old new told at (worked.dirty t) (worked.bytes t bus words) s)))
    (λ n.
    let next : bus ≡ bus_after_all (xs ++ (a ∷ [])) (in_words original) =
    sym (one_bus_more xs a (in_words original) ∙ rw n refl) in
    subst (λ (b : ℕ → ℕ). StandWhereTold (page_of original) (page_of (in_bytes b)) (writes_page (xs ++ (a ∷ []))) held ((page_number a.addr, new) ∷ es) told) next
    (subst (λ (w : ℕ → Bool). StandWhereTold (page_of original) (page_of (in_bytes bus)) w held ((page_number a.addr, new) ∷ es) told)
    (no_page_more xs a n)
    (subst (λ (frame : Frame). StandWhereTold (page_of original) (page_of (in_bytes bus)) (writes_page xs) held ((page_number a.addr, frame) ∷ es) told)
    (sym (worked.read n)) s)))

-- what comes in and goes out by one transaction
with_room_more : (most : ℕ) (f : FramesSeen) → (with_room most f).outs ≤ f.outs + 1
with_room_more most f = by_test (nat_lt (length f.pages) most)
    (λ t. rw t (omega arith))
    (λ n. let one = at_most_one (slice_get f.pages (length f.pages - 1)) in rw n (omega (arith, one)))

brought_more : (most page : ℕ) (found : Option Bool) (f : FramesSeen) →
    ((brought_as most page found f).ins ≤ f.ins + 1) × ((brought_as most page found f).outs ≤ f.outs + 1)
brought_more most page None f = (omega arith, with_room_more most f)
brought_more most page (Some dirty) f = (omega arith, omega arith)

pub touched_more : (most : ℕ) (a : Access) (f : FramesSeen) →
    ((touched most a f).ins ≤ f.ins + 1) × ((touched most a f).outs ≤ f.outs + 1)
touched_more most a f =
    let more = brought_more most (page_number a.addr) (lookup (nat_eq (page_number a.addr)) f.pages) f in
    by_test a.write (λ t. rw t more) (λ n. rw n more)

module _ (original : ℕ → ℕ) (a : Access) (f g h : Frames) (old new : Frame) (told now : Option PageMap)
    (at : a.addr % 4 ≡ 0) (out : IsBrought (page_of original) (page_number a.addr) old f g told now) (worked : IsWorked a old new)
    (back : IsPutInFront (page_number a.addr) new g h) where
  seen_on : seen_of h ≡ touched f.cache.cap a (seen_of f)
  seen_on =
      (λ i. record { pages = map with_mark (back.put i); ins = (back.rest i).ins; outs = (back.rest i).outs })
      ∙ worked_seen f.cache.cap a old new f g worked out.counts

  whole_on : All IsWholePage h.cache.entries
  whole_on =
      subst (All IsWholePage) (sym back.put)
      (All-cons IsWholePage (page_number a.addr, new) g.cache.entries (record { number = out.whole.number; size = worked.size }) out.others_whole)

  within_on : (n : ℕ) → AreWithin n f → AreWithin (n + 1) h
  within_on n within =
      let ins = ap (λ (s : FramesSeen). s.ins) seen_on in
      let outs = ap (λ (s : FramesSeen). s.outs) seen_on in
      let more = touched_more f.cache.cap a (seen_of f) in
      let more_in = more.0 in
      let more_out = more.1 in
      let before_in = within.ins in
      let before_out = within.outs in
      record { whole = whole_on; ins = omega (arith, ins, more_in, before_in); outs = omega (arith, outs, more_out, before_out) }

  -- frames that took a page to the front, and then one whose frame was worked on
  one_on : (most : ℕ) (xs : List Access) → AreCarried original most xs f told → AreCarried original most (xs ++ (a ∷ [])) h now
  one_on most xs carried =
      let page : ℕ = page_number a.addr in
      let bus : List Access → ℕ → ℕ = λ ys. bus_after_all ys (in_words original) in
      let next : List Access = xs ++ (a ∷ []) in
      record {
        bytes = carried.bytes;
        whole = whole_on;
        cap = back.cap ∙ out.cap ∙ carried.cap;
        counts =
            seen_on
            ∙ ap (λ (n : ℕ). touched n a (seen_of f)) carried.cap
            ∙ ap (touched most a) carried.counts
            ∙ sym (one_frame_more most xs a no_frames);
        stands =
            subst (λ (es : List (ℕ × Frame)). StandWhereTold (page_of original) (page_of (in_bytes (bus next))) (writes_page next) (held_by h) es now)
            (sym back.put)
            (subst (λ (k : Frames). StandWhereTold (page_of original) (page_of (in_bytes (bus next))) (writes_page next) (held_by k) ((page, new) ∷ g.cache.entries) now)
            (sym back.rest)
            (worked_stands original xs a (held_by g) g.cache.entries old new now at
            (words_stay xs (in_words original) (words_there original carried.bytes)) worked
            (out.stands (page_of (in_bytes (bus xs))) (writes_page xs) carried.stands)));
      }

pub carried_on : (original : ℕ → ℕ) (a : Access) (f g h : Frames) (old new : Frame) (told now : Option PageMap) →
    a.addr % 4 ≡ 0 → IsBrought (page_of original) (page_number a.addr) old f g told now → IsWorked a old new →
    IsPutInFront (page_number a.addr) new g h → AreCarriedOn original (a ∷ []) f h told now
carried_on original a f g h old new told now at out worked back = record {
  within = within_on original a f g h old new told now at out worked back;
  cap = back.cap ∙ out.cap;
  carried = one_on original a f g h old new told now at out worked back;
}

-- in the frame in which its page stands
pub carried_there : (original : ℕ → ℕ) (a : Access) (f h : Frames) (told : Option PageMap) → IsWordAccess a →
    All IsWholePage f.cache.entries → IsCarriedThere a f h → AreCarriedOn original (a ∷ []) f h told told
carried_there original a f h told word whole c =
    let page : ℕ = page_number a.addr in
    carried_on original a f (without page f) h c.old c.new told told word.0
    (there_brought (page_of original) page f c.old told whole c.found) c.worked
    (record {
      put = ap (λ (k : Frames). k.cache.entries) c.front;
      cap = ap (λ (k : Frames). k.cache.cap) c.front;
      rest = c.front ∙ ap (λ (k : Frames). record f { cache = k.cache }) (sym c.front);
    })

-- none are carried out, and some after others
pub none_on : (original : ℕ → ℕ) (f : Frames) (told : Option PageMap) → AreCarriedOn original [] f f told told
none_on original f told = record {
  within = λ n within. subst (λ (m : ℕ). AreWithin m f) (omega arith) within;
  cap = refl;
  carried = λ most before carried. subst (λ (xs : List Access). AreCarried original most xs f told) (sym (append-nil before)) carried;
}

pub on_and_on : {original : ℕ → ℕ} {f g h : Frames} {told between now : Option PageMap} (xs ys : List Access) →
    AreCarriedOn original xs f g told between → AreCarriedOn original ys g h between now → AreCarriedOn original (xs ++ ys) f h told now
on_and_on {original} {f} {g} {h} {told} {between} {now} xs ys first second = record {
  within = λ n within.
      let long = length-append xs ys in
      subst (λ (m : ℕ). AreWithin m h) (omega (arith, long)) (second.within (n + length xs) (first.within n within));
  cap = second.cap ∙ first.cap;
  carried = λ most before carried.
      subst (λ (zs : List Access). AreCarried original most zs h now) (append_assoc before xs ys)
      (second.carried most (before ++ xs) (first.carried most before carried));
}
