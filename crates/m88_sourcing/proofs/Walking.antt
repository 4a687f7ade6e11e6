-- A walk from word to word: what it has found stays reached, and what it hasn't found is left.
use Rattle.std.proofs.Common.{◌≡◌, ◌⊎◌, ◌∙◌, ◌<◌, ℕ, zero, suc, length, slice_get, List, [], ◌∷◌, ◌++◌, inl, inr, IsTrue, None, Some, ap, append_assoc, arith, refl, subst, sym}
use Rattle.std.specs.Prelude.{◌↔◌, Contains, IfSome, IsSome, Option}
use Rattle.std.proofs.lemmas.Option.{none-some, same_Some}
use Rattle.std.specs.Option.{option_to_list}
use Rattle.std.proofs.lemmas.List.Elements.{Contains-append_cases, Contains-append_left, Contains-push, Contains-push_cases}
use Rattle.std.specs.FinSet.{contains}
use Rattle.m88_base.specs.Image.{ProgramImage, byte_at}
use Rattle.m88_isa.specs.declared.instr.Instr.{Instr}
use Rattle.m88_sourcing.specs.Code.{HasInstruction, HoldsInstruction, IsReached, IsReachedFrom}
use Rattle.m88_sourcing.specs.Code.IsReached.{leads}
use Rattle.m88_sourcing.specs.Flow.{branch_target, slot}
use Rattle.m88_sourcing.specs.Inside.Members.{AddsLabel, Notes}
use Rattle.m88_sourcing.specs.Inside.Walks.{HasSlot, IsClosed, IsNamedBy, IsReachedIfCode, IsWalkSound, Keeps, MayLeadTo, NamesTargets}
use Rattle.m88_sourcing.specs.Labels.{BranchesTo}
use Rattle.m88_sourcing.specs.declared.outline.Outline.{Outline}
use Rattle.m88_sourcing.specs.declared.reaching.Walk.{Walk}
use Rattle.m88_sourcing.specs.declared.words.Words.{Words}
use Rattle.m88_sourcing.proofs.OneInstruction.{first_byte, same_instruction, some_none}

-- one address more, where there is one
pub with_one : (xs ys : List ℕ) (o : Option ℕ) (b : ℕ) → ys ≡ xs ++ option_to_list o → Contains ys b
    ↔ (Contains xs b ⊎ (o ≡ Some b))
with_one xs ys o b e = (
  λ h. by o (subst (λ (zs : List ℕ). Contains zs b) e h),
  λ h. subst (λ (zs : List ℕ). Contains zs b) (sym e) (back o h),
)
  where
    by : (p : Option ℕ) → Contains (xs ++ option_to_list p) b → Contains xs b ⊎ (p ≡ Some b)
    by (Some a) h = elim (Contains-push_cases xs a b h) [
      | inl old ↦ inl old
      | inr new ↦ inr (ap (λ (n : ℕ). Some n) new)
    ]
    by None h = elim (Contains-append_cases xs [] b h) [
      | inl old ↦ inl old
      | inr none ↦ absurd (let low = none.1 in omega (arith, low))
    ]

    back : (p : Option ℕ) → Contains xs b ⊎ (p ≡ Some b) → Contains (xs ++ option_to_list p) b
    back p (inl old) = Contains-append_left xs (option_to_list p) b old
    back (Some a) (inr new) = let same : a ≡ b = cc in subst (λ (n : ℕ). Contains (xs ++ a ∷ []) n) same
        (Contains-push xs a)
    back None (inr new) = absurd cc

-- one word of code more, and its target
named_more : (image : ProgramImage) (old new : Outline) (at t : ℕ) (i : Instr) (Had Has Other : Type 0)
    → HoldsInstruction image at i
    → ((a : ℕ) → IsTrue (contains new.code a) ↔ (IsTrue (contains old.code a) ⊎ (a ≡ at)))
    → Had ↔ (IsNamedBy image old t × Other) → Has ↔ (Had ⊎ ((branch_target at i ≡ Some t) × Other))
    → Has ↔ (IsNamedBy image new t × Other)
named_more image old new at t i Had Has Other holds code before last = (
  λ has. elim (last.0 has) [
    | inl had ↦
        let p = before.0 had in
        ((p.0.0, (code p.0.0).1 (inl p.0.1), p.0.2), p.1)
    | inr now ↦ ((at, (code at).1 (inr refl), (i, holds, now.0)), now.1)
  ],
  λ named. elim ((code named.0.0).0 named.0.1) [
    | inl there ↦ last.1 (inl (before.1 ((named.0.0, there, named.0.2), named.1)))
    | inr same ↦
        let here : BranchesTo image at t = subst (λ (a : ℕ). BranchesTo image a t) same named.0.2 in
        let one : i ≡ here.0 = same_instruction image at i here.0 holds here.1 in
        last.1 (inr (ap (λ (k : Instr). branch_target at k) one ∙ here.2, named.1))
  ],
)

pub names_more : (image : ProgramImage) (old : Outline) (code : Words) (new : Outline) (at : ℕ) (i : Instr)
    → HoldsInstruction image at i → NamesTargets image old
    → ((a : ℕ) → IsTrue (contains code a) ↔ (IsTrue (contains old.code a) ⊎ (a ≡ at)))
    → Notes image (λ a. branch_target at i ≡ Some a) (record old { code = code }) new
    → NamesTargets image new
names_more image old code new at i holds names more notes =
    let now : (a : ℕ) → IsTrue (contains new.code a) ↔ (IsTrue (contains old.code a) ⊎ (a ≡ at)) =
    λ a. subst (λ (w : Words). IsTrue (contains w a) ↔ (IsTrue (contains old.code a) ⊎ (a ≡ at))) (sym notes.code)
    (more a) in
    record {
      labels = λ a. named_more image old new at a i _ _ _ holds now (names.labels a) (notes.labels a);
      far = λ a. named_more image old new at a i _ _ _ holds now (names.far a) (notes.far a);
    }

-- what was noted, where the target is known: none, one that is a label already, or another
pub notes_none : (image : ProgramImage) (o : Outline) (at : ℕ) (i : Instr) → branch_target at i ≡ None
    → Notes image (λ a. branch_target at i ≡ Some a) o o
notes_none image o at i none = record {
  code = refl;
  labels = λ a. (
    λ h. inl h,
    λ h. elim h [
      | inl old ↦ old
      | inr now ↦ absurd (none-some a (sym none ∙ now.0))
    ],
  );
  far = λ a. (
    λ h. inl h,
    λ h. elim h [
      | inl old ↦ old
      | inr now ↦ absurd (none-some a (sym none ∙ now.0))
    ],
  );
}

pub notes_again : (image : ProgramImage) (o : Outline) (at t : ℕ) (i : Instr) → branch_target at i ≡ Some t
    → IsTrue (contains o.labels t) → IsSome (byte_at image t) → Notes image (λ a. branch_target at i ≡ Some a) o o
notes_again image o at t i to there some = record {
  code = refl;
  labels = λ a. (
    λ h. inl h,
    λ h. elim h [
      | inl old ↦ old
      | inr now ↦
          let same : t ≡ a = same_Some t a (sym to ∙ now.0) in
          subst (λ (n : ℕ). IsTrue (contains o.labels n)) same there
    ],
  );
  far = λ a. (
    λ h. inl h,
    λ h. elim h [
      | inl old ↦ old
      | inr now ↦
          let same : t ≡ a = same_Some t a (sym to ∙ now.0) in
          absurd (some_none (byte_at image a) (subst (λ (n : ℕ). IsSome (byte_at image n)) same some) now.1)
    ],
  );
}

pub notes_as : (image : ProgramImage) (old new : Outline) (at t : ℕ) (i : Instr) → branch_target at i ≡ Some t
    → Notes image (λ a. a ≡ t) old new → Notes image (λ a. branch_target at i ≡ Some a) old new
notes_as image old new at t i to notes =
    let named : (a : ℕ) → (a ≡ t) ↔ (branch_target at i ≡ Some a) =
    λ a. (λ e. to ∙ ap (λ (n : ℕ). Some n) (sym e), λ h. same_Some a t (sym h ∙ to)) in
    record {
      code = notes.code;
      labels = λ a. as_named _ _ _ _ _ (notes.labels a) (named a);
      far = λ a. as_named _ _ _ _ _ (notes.far a) (named a);
    }
  where
    as_named : (Has Had Named Target Other : Type 0) → Has ↔ (Had ⊎ (Named × Other)) → Named ↔ Target
        → Has ↔ (Had ⊎ (Target × Other))
    as_named Has Had Named Target Other is named = (
      λ has. elim (is.0 has) [
        | inl old ↦ inl old
        | inr now ↦ inr (named.0 now.0, now.1)
      ],
      λ h. elim h [
        | inl old ↦ is.1 (inl old)
        | inr now ↦ is.1 (inr (named.1 now.0, now.1))
      ],
    )

-- the targets of the same words
pub names_same : (image : ProgramImage) (old : Outline) (code : Words)
    → ((a : ℕ) → IsTrue (contains code a) ↔ IsTrue (contains old.code a)) → NamesTargets image old
    → NamesTargets image (record old { code = code })
names_same image old code same names =
    let named : (t : ℕ) → IsNamedBy image old t ↔ IsNamedBy image
    (record old { code = code }) t =
    λ t. (λ n. (n.0, (same n.0).1 n.1, n.2), λ n. (n.0, (same n.0).0 n.1, n.2)) in
    record {
      labels = λ a. (
        λ h. let n = (names.labels a).0 h in ((named a).0 n.0, n.1),
        λ n. (names.labels a).1 ((named a).1 n.0, n.1),
      );
      far = λ a. (
        λ h. let n = (names.far a).0 h in ((named a).0 n.0, n.1),
        λ n. (names.far a).1 ((named a).1 n.0, n.1),
      );
    }

-- a set with a member once more
pub once_more : (old new : Words) (at : ℕ) → IsTrue (contains old at)
    → ((a : ℕ) → IsTrue (contains new a) ↔ (IsTrue (contains old a) ⊎ (a ≡ at)))
    → (a : ℕ) → IsTrue (contains new a) ↔ IsTrue (contains old a)
once_more old new at there more a = (
  λ h. elim ((more a).0 h) [
    | inl was ↦ was
    | inr same ↦ subst (λ (n : ℕ). IsTrue (contains old n)) (sym same) there
  ],
  λ h. (more a).1 (inl h),
)

-- nothing is left at a word that was found before
pub again_closed : (image : ProgramImage) (w : Walk) (o : Outline) (at : ℕ) (Left : ℕ → Type 0)
    → IsTrue (contains w.outline.code at) → ((a : ℕ) → IsTrue (contains o.code a) ↔ IsTrue (contains w.outline.code a))
    → NamesTargets image o → AddsLabel w.outline o None → IsClosed image w (λ b. b ≡ at)
    → IsClosed image (record { outline = o; heads = w.heads; slots = w.slots }) Left
again_closed image w o at Left here same names labels closed = record {
  leads = λ a b there led.
      elim (closed.leads a b ((same a).0 there) led) [
        | inl found ↦ inl ((same b).1 found)
        | inr further ↦ elim further [
          | inl head ↦ inr (inl head)
          | inr is ↦ inl ((same b).1 (subst (λ (n : ℕ). IsTrue (contains w.outline.code n)) (sym is) here))
        ]
      ];
  slots = λ a b there. closed.slots a b ((same a).0 there);
  names = names;
  labels = λ a there.
      elim (labels a there) [
        | inl was ↦ closed.labels a was
        | inr none ↦ absurd (none-some a none)
      ];
}

pub again_sound : (image : ProgramImage) (seeds : List ℕ) (w : Walk) (o : Outline)
    → ((a : ℕ) → IsTrue (contains o.code a) ↔ IsTrue (contains w.outline.code a)) → IsWalkSound image seeds w
    → IsWalkSound image seeds (record { outline = o; heads = w.heads; slots = w.slots })
again_sound image seeds w o same sound = record {
  code = λ a there. sound.code a ((same a).0 there);
  heads = sound.heads;
  slots = sound.slots;
}

-- what is left, said otherwise
pub left_as : (image : ProgramImage) (w : Walk) (Left Other : ℕ → Type 0) → ((b : ℕ) → Left b → Other b)
    → IsClosed image w Left
    → IsClosed image w Other
left_as image w Left Other other closed = record {
  leads = λ a b there led.
      elim (closed.leads a b there led) [
        | inl found ↦ inl found
        | inr further ↦ elim further [
          | inl head ↦ inr (inl head)
          | inr left ↦ inr (inr (other b left))
        ]
      ];
  slots = closed.slots;
  names = closed.names;
  labels = closed.labels;
}

-- where nothing is left but what was found
pub none_left : (image : ProgramImage) (w : Walk) (at : ℕ) (Left : ℕ → Type 0)
    → (HasInstruction image at → IsTrue (contains w.outline.code at)) → IsClosed image w (λ b. b ≡ at)
    → IsClosed image w Left
none_left image w at Left found closed = record {
  leads = λ a b there led.
      elim (closed.leads a b there led) [
        | inl old ↦ inl old
        | inr further ↦ elim further [
          | inl head ↦ inr (inl head)
          | inr same ↦
              inl (subst (λ (n : ℕ). IsTrue (contains w.outline.code n)) (sym same)
              (found (subst (λ (n : ℕ). HasInstruction image n) same led.4)))
        ]
      ];
  slots = closed.slots;
  names = closed.names;
  labels = closed.labels;
}

-- one word more, whose slot and whose target were noted or are left
pub more_closed : (image : ProgramImage) (old new : Walk) (at : ℕ) (next slot_there label : Option ℕ) (i : Instr)
    → HoldsInstruction image at i → IsClosed image old (λ b. b ≡ at)
    → ((a : ℕ) → IsTrue (contains new.outline.code a) ↔ (IsTrue (contains old.outline.code a) ⊎ (a ≡ at)))
    → NamesTargets image new.outline → AddsLabel old.outline new.outline label → slot_there ≡ slot at i
    → ((b : ℕ) → Contains old.slots.items b → Contains new.slots.items b)
    → ((b : ℕ) → slot_there ≡ Some b → Contains new.slots.items b ⊎ (next ≡ Some b))
    → ((b : ℕ) → next ≡ Some b → MayLeadTo image at b)
    → ((b : ℕ) → MayLeadTo image at b → (branch_target at i ≡ Some b) ⊎ (next ≡ Some b))
    → new.heads.items ≡ old.heads.items ++ option_to_list label
    → IsClosed image new (λ b. next ≡ Some b)
more_closed image old new at next slot_there label i holds closed code names adds slot_is stay slots on goes heads =
    record {
      leads = λ a b there led.
          elim ((code a).0 there) [
            | inl was ↦ elim (closed.leads a b was led) [
              | inl found ↦ inl ((code b).1 (inl found))
              | inr further ↦ elim further [
                | inl head ↦ inr (inl (stays_head b head))
                | inr same ↦ inl ((code b).1 (inr same))
              ]
            ]
            | inr same ↦
                let here : IsReachedFrom image at b = subst (λ (n : ℕ). IsReachedFrom image n b) same led in
                elim (goes b (here.0, here.1, here.2, here.3)) [
                  | inl to ↦
                      inr (inl (is_head b ((names.labels b).1
                      ((at, (code at).1 (inr refl), (i, holds, to)), first_byte image b here.4))))
                  | inr further ↦ inr (inr further)
                ]
          ];
      slots = λ a b there is_slot.
          elim ((code a).0 there) [
            | inl was ↦ elim (closed.slots a b was is_slot) [
              | inl old_slot ↦ inl (stay b old_slot)
              | inr led ↦ inr led
            ]
            | inr same ↦
                let here : HasSlot image at b = subst (λ (n : ℕ). HasSlot image n b) same is_slot in
                let one : i ≡ here.0 = same_instruction image at i here.0 holds here.1 in
                elim (slots b (slot_is ∙ ap (λ (k : Instr). slot at k) one ∙ here.2)) [
                  | inl now ↦ inl now
                  | inr further ↦
                      inr (subst (λ (n : ℕ). MayLeadTo image n b) (sym same) (on b further))
                ]
          ];
      names = names;
      labels = is_head;
    }
  where
    stays_head : (b : ℕ) → Contains old.heads.items b → Contains new.heads.items b
    stays_head b head = (with_one old.heads.items new.heads.items label b heads).1 (inl head)

    is_head : (b : ℕ) → IsTrue (contains new.outline.labels b) → Contains new.heads.items b
    is_head b there = elim (adds b there) [
      | inl was ↦ stays_head b (closed.labels b was)
      | inr now ↦ (with_one old.heads.items new.heads.items label b heads).1 (inr now)
    ]

-- an address to which a reached one leads
led_to : (image : ProgramImage) (seeds : List ℕ) (a b : ℕ) → IsReached image seeds a → MayLeadTo image a b
    → IsReachedIfCode image seeds b
led_to image seeds a b from led stands = leads from (led.0, led.1, led.2, led.3, stands)

pub more_sound : (image : ProgramImage) (seeds : List ℕ) (old new : Walk) (at : ℕ) (next slot_there : Option ℕ)
    (i : Instr)
    → HoldsInstruction image at i → IsWalkSound image seeds old → IsReachedIfCode image seeds at
    → ((a : ℕ) → IsTrue (contains new.outline.code a) ↔ (IsTrue (contains old.outline.code a) ⊎ (a ≡ at)))
    → slot_there ≡ slot at i
    → ((b : ℕ) → Contains new.slots.items b → Contains old.slots.items b ⊎ (slot_there ≡ Some b))
    → ((b : ℕ) → Contains new.heads.items b → Contains old.heads.items b ⊎ MayLeadTo image at b)
    → ((b : ℕ) → next ≡ Some b → MayLeadTo image at b)
    → IsWalkSound image seeds new × IfSome next (IsReachedIfCode image seeds)
more_sound image seeds old new at next slot_there i holds sound reached code slot_is slots heads on = (
  record {
    code = λ a there.
        elim ((code a).0 there) [
          | inl was ↦ sound.code a was
          | inr same ↦ subst (λ (n : ℕ). IsReached image seeds n) (sym same) (reached (i, holds))
        ];
    heads = λ a head.
        elim (heads a head) [
          | inl was ↦ sound.heads a was
          | inr led ↦ led_to image seeds at a (reached (i, holds)) led
        ];
    slots = λ b there.
        elim (slots b there) [
          | inl was ↦ sound.slots b was
          | inr now ↦ (at, reached (i, holds), (i, holds, sym slot_is ∙ now))
        ];
  },
  goes next refl,
)
  where
    goes : (o : Option ℕ) → next ≡ o → IfSome o (IsReachedIfCode image seeds)
    goes (Some b) e = led_to image seeds at b (reached (i, holds)) (on b e)
    goes None e = tt

pub kept_then : (w0 w1 w2 : Walk) → Keeps w0 w1 → Keeps w1 w2 → Keeps w0 w2
kept_then w0 w1 w2 first second = record {
  code = λ a there. second.code a (first.code a there);
  more = first.more ++ second.more;
  heads =
      second.heads ∙ ap (λ (xs : List ℕ). xs ++ second.more) first.heads
      ∙ append_assoc w0.heads.items first.more second.more;
}

-- a way that ends, or whose rest is a further one
pub ended_closed : (image : ProgramImage) (w : Walk) (new : Walk) (next : Option ℕ) → new.outline ≡ w.outline
    → new.slots ≡ w.slots
    → new.heads.items ≡ w.heads.items ++ option_to_list next → IsClosed image w (λ b. next ≡ Some b)
    → IsClosed image new (λ _. ⊥)
ended_closed image w new next outline slots heads closed = record {
  leads = λ a b there led.
      elim (closed.leads a b (subst (λ (o : Outline). IsTrue (contains o.code a)) outline there) led) [
        | inl found ↦ inl (subst (λ (o : Outline). IsTrue (contains o.code b)) (sym outline) found)
        | inr further ↦ inr (inl ((with_one w.heads.items new.heads.items next b heads).1 further))
      ];
  slots = λ a b there is_slot.
      subst (λ s. Contains s.items b ⊎ MayLeadTo image a b) (sym slots)
      (closed.slots a b (subst (λ (o : Outline). IsTrue (contains o.code a)) outline there) is_slot);
  names = subst (λ (o : Outline). NamesTargets image o) (sym outline) closed.names;
  labels = λ a there.
      (with_one w.heads.items new.heads.items next a heads).1
      (inl (closed.labels a (subst (λ (o : Outline). IsTrue (contains o.labels a)) outline there)));
}

pub ended_sound : (image : ProgramImage) (seeds : List ℕ) (w : Walk) (new : Walk) (next : Option ℕ)
    → new.outline ≡ w.outline
    → new.slots ≡ w.slots → new.heads.items ≡ w.heads.items ++ option_to_list next
    → IsWalkSound image seeds w × IfSome next (IsReachedIfCode image seeds) → IsWalkSound image seeds new
ended_sound image seeds w new next outline slots heads (sound, on) = record {
  code = λ a there. sound.code a (subst (λ (o : Outline). IsTrue (contains o.code a)) outline there);
  heads = λ a head.
      elim ((with_one w.heads.items new.heads.items next a heads).0 head) [
        | inl old ↦ sound.heads a old
        | inr e ↦ subst (λ (o : Option ℕ). IfSome o (IsReachedIfCode image seeds)) e on
      ];
  slots = λ b there. sound.slots b (subst (λ s. Contains s.items b) slots there);
}

-- what stands at an index stays there, where more is appended
pub stands_still : (xs ys : List ℕ) (k : ℕ) → k < length xs → slice_get (xs ++ ys) k ≡ slice_get xs k
stands_still [] ys k low = absurd (omega (arith, low))
stands_still (x ∷ xs) ys zero low = refl
stands_still (x ∷ xs) ys (suc k) low = stands_still xs ys k (omega (arith, low))
