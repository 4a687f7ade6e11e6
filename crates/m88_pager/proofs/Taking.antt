-- A page is brought to the front, from its place among the frames or from the store.
use Rattle.std.specs.Prelude.{ℕ, zero, suc, Bool, true, false, List, [], ◌∷◌, All, Option, Some, None, ◌≡◌, ◌<◌, ◌+◌, ◌-◌, length, map, nat_eq, nat_lt, take}
use Rattle.std.proofs.Common.{arith, refl, sym, ap, ap₂, subst, ◌∙◌}
use Rattle.std.proofs.lemmas.Bool.{eqb-true}
use Rattle.std.proofs.lemmas.Bool.Decides.{nat_tests}
use Rattle.std.proofs.lemmas.List.{take_all}
use Rattle.std.proofs.lemmas.List.Elements.{All-cons}
use Rattle.std.specs.Map.{lookup, lookup_entry, remove_entry, set_value}
use Rattle.std.specs.Option.{option_map_or}
use Rattle.lru.specs.LruCache.{LruCache, lru_cache, promoted, put_entries}
use Rattle.m88_isa.proofs.Laws.{by_test}
use Rattle.m88_pager.proofs.Counts.{frames_at, lookup_marked, removed_marked}
use Rattle.m88_pager.proofs.Flushing.{whole_front}
use Rattle.m88_pager.proofs.Standing.{stands_come, stands_taken}
use Rattle.m88_pager.specs.Frames.{Frames as FramesSeen, brought, brought_as, with_room}
use Rattle.m88_pager.specs.Inside.Calls.{IsBrought}
use Rattle.m88_pager.specs.Inside.Contents.{StandWhereTold}
use Rattle.m88_pager.specs.Inside.Seen.{ComesFrom, IsWholePage, held_by, kept, with_mark}
use Rattle.m88_pager.specs.Store.{PageMap}
use Rattle.m88_pager.specs.declared.frames.Frame.{Frame}
use Rattle.m88_pager.specs.declared.frames.Frames.{Frames}

-- a page that is put where it isn't
none_entry : {V : Type 0} (test : ℕ → Bool) (es : List (ℕ × V)) → lookup test es ≡ None → lookup_entry test es ≡ None
none_entry test [] h = refl
none_entry test (e ∷ es) h = by_test (test e.0)
    (λ t. let h' = rw t at h in absurd cc)
    (λ f. rw f (none_entry test es (rw f at h)))

pub put_new : {V : Type 0} (c : LruCache ℕ V) (k : ℕ) (v : V) → length c.entries < c.cap → lookup (nat_eq k) c.entries ≡ None →
    put_entries nat_eq c k v ≡ (k, v) ∷ c.entries
put_new c k v room h =
    rw (none_entry (nat_eq k) c.entries h) (ap (λ es. (k, v) ∷ es) (take_all (c.cap - 1) c.entries (omega (arith, room))))

-- a look-up that finds nothing finds nothing among those that stay
none_in_front : (test : ℕ → Bool) (n : ℕ) (es : List (ℕ × Frame)) → lookup test es ≡ None → lookup test (take n es) ≡ None
none_in_front test zero es h = refl
none_in_front test (suc n) [] h = refl
none_in_front test (suc n) (e ∷ es) h = by_test (test e.0)
    (λ t. let h' = rw t at h in absurd cc)
    (λ f. rw f (none_in_front test n es (rw f at h)))

pub none_kept : (test : ℕ → Bool) (most : ℕ) (es : List (ℕ × Frame)) → lookup test es ≡ None → lookup test (kept most es) ≡ None
none_kept test most es h = by_test (nat_lt (length es) most)
    (λ t. rw t h)
    (λ f. rw f (none_in_front test (length es - 1) es h))

-- those that stay are whole
pub whole_kept : (most : ℕ) (es : List (ℕ × Frame)) → All IsWholePage es → All IsWholePage (kept most es)
whole_kept most es all = by_test (nat_lt (length es) most)
    (λ t. rw t all)
    (λ f. rw f (whole_front (length es - 1) es all))

-- what is left of frames without one
pub whole_removed : (test : ℕ → Bool) (es : List (ℕ × Frame)) → All IsWholePage es → All IsWholePage (remove_entry test es)
whole_removed test [] all = all
whole_removed test (e ∷ es) all =
    let rest : All IsWholePage es = λ k d l. all (suc k) d (omega (arith, l)) in
    by_test (test e.0)
    (λ t. rw t rest)
    (λ f. rw f (All-cons IsWholePage e (remove_entry test es) (all 0 e (omega arith)) (whole_removed test es rest)))

pub found_whole : (page : ℕ) (es : List (ℕ × Frame)) (frame : Frame) → All IsWholePage es → lookup (nat_eq page) es ≡ Some frame →
    IsWholePage (page, frame)
found_whole page [] frame all h = absurd cc
found_whole page (e ∷ es) frame all h = by_test (nat_eq page e.0)
    (λ t.
    let h' = rw t at h in
    let same : e.1 ≡ frame = cc in
    subst IsWholePage (ap₂ (λ (k : ℕ) (f : Frame). (k, f)) (sym (eqb-true page e.0 t)) same) (all 0 e (omega arith)))
    (λ f. found_whole page es frame (λ k d l. all (suc k) d (omega (arith, l))) (rw f at h))

-- as the definition has it
pub taken_seen : (most page : ℕ) (frame : Frame) (es : List (ℕ × Frame)) (ins outs : ℕ) → lookup (nat_eq page) es ≡ Some frame →
    frames_at (with_mark (page, frame) ∷ map with_mark (remove_entry (nat_eq page) es)) ins outs
    ≡ brought most page (frames_at (map with_mark es) ins outs)
taken_seen most page frame es ins outs h =
    rw (lookup_marked (nat_eq page) es, h, removed_marked (nat_eq page) es) refl

pub come_seen : (most page : ℕ) (es : List (ℕ × Frame)) (ins outs : ℕ) → lookup (nat_eq page) es ≡ None →
    brought_as most page None (frames_at (map with_mark es) ins outs) ≡ brought most page (frames_at (map with_mark es) ins outs)
come_seen most page es ins outs h = rw (lookup_marked (nat_eq page) es, h) refl

room_ins : (most : ℕ) (f : FramesSeen) → (with_room most f).ins ≡ f.ins
room_ins most f = by_test (nat_lt (length f.pages) most) (λ t. rw t refl) (λ n. rw n refl)

pub come_brought : (most page : ℕ) (now old : FramesSeen) → now ≡ with_room most old →
    record { pages = (page, false) ∷ now.pages; ins = now.ins + 1; outs = now.outs } ≡ brought_as most page None old
come_brought most page now old is =
    ap (λ (s : FramesSeen). record { pages = (page, false) ∷ s.pages; ins = s.ins + 1; outs = s.outs }) is
    ∙ ap (λ (n : ℕ). record { pages = (page, false) ∷ (with_room most old).pages; ins = n + 1; outs = (with_room most old).outs })
    (room_ins most old)

-- frames without that of a page
abbrev pub without : ℕ → Frames → Frames
without page f = record f { cache = lru_cache (remove_entry (nat_eq page) f.cache.entries) f.cache.cap }

-- a page is brought that stands in a frame
pub there_brought : (original : ℕ → List ℕ) (page : ℕ) (f : Frames) (frame : Frame) (told : Option PageMap) →
    All IsWholePage f.cache.entries → lookup (nat_eq page) f.cache.entries ≡ Some frame →
    IsBrought original page frame f (without page f) told told
there_brought original page f frame told whole found = record {
  whole = found_whole page f.cache.entries frame whole found;
  others_whole = whole_removed (nat_eq page) f.cache.entries whole;
  counts = taken_seen f.cache.cap page frame f.cache.entries f.ins f.outs found;
  cap = refl;
  stands = λ memory written s. stands_taken original memory written (held_by f) f.cache.entries page frame told found s;
}

-- its entry
found_entry : (page : ℕ) (es : List (ℕ × Frame)) (frame : Frame) → lookup (nat_eq page) es ≡ Some frame →
    lookup_entry (nat_eq page) es ≡ Some (page, frame)
found_entry page [] frame h = absurd cc
found_entry page (e ∷ es) frame h = by_test (nat_eq page e.0)
    (λ t.
    let h' = rw t at h in
    let same : e.1 ≡ frame = cc in
    rw t (ap₂ (λ (k : ℕ) (f : Frame). Some (k, f)) (sym (eqb-true page e.0 t)) same))
    (λ f. rw f (found_entry page es frame (rw f at h)))

-- it comes to the front and is written there
pub written_in_front : (page : ℕ) (es : List (ℕ × Frame)) (old new : Frame) → lookup (nat_eq page) es ≡ Some old →
    set_value (nat_eq page) (promoted (nat_eq page) es) new ≡ (page, new) ∷ remove_entry (nat_eq page) es
written_in_front page es old new h =
    let own : nat_eq page page ≡ true = grind (arith, nat_tests) in
    ap (λ o. set_value (nat_eq page) (option_map_or (λ e. e ∷ remove_entry (nat_eq page) es) o es) new) (found_entry page es old h)
    ∙ rw own refl

-- a page comes in, where a store tells its pages or not
pub come_told : (original memory : ℕ → List ℕ) (written held : ℕ → Bool) (es : List (ℕ × Frame)) (page : ℕ) (frame : Frame)
    (told : Option PageMap) → lookup (nat_eq page) es ≡ None → frame.dirty ≡ false → ComesFrom original held told page frame.bytes.items →
    StandWhereTold original memory written held es told →
    StandWhereTold original memory written held ((page, frame) ∷ es) told
come_told original memory written held es page frame None none d comes s = tt
come_told original memory written held es page frame (Some pages) none d comes s =
    stands_come original memory written held es page frame pages none d (comes s.held_are) s
