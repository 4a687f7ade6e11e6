-- The pages of entries, as a map tells them.
use Rattle.std.specs.Prelude.{ℕ, Bool, true, false, List, [], ◌∷◌, Vec, Option, Some, None, ◌≡◌, cond, map, option_map}
use Rattle.std.proofs.Common.{refl, sym, ap, subst, ◌∙◌}
use Rattle.std.specs.BTreeMap as tree
use Rattle.std.specs.Cmp.{nat_cmp_total}
use Rattle.std.specs.FinMap.{find, get, get-from_entries, get-insert, insert, nat_cmp-IsAntisymmetric, same_map}
use Rattle.std.specs.Map.{lookup}
use Rattle.std.specs.Ordering.{eq_by_cmp, is_eq, nat_cmp}
use Rattle.m88_pager.specs.MemoryPages.{held_in}
use Rattle.m88_pager.specs.Store.{Finds}

module _ {A : Type 0} where
  abbrev bytes_of : List (ℕ × Vec ℕ A) → List (ℕ × List ℕ)
  bytes_of entries = map (λ e. (e.0, e.1.items)) entries

  find_bytes : (es : List (ℕ × Vec ℕ A)) (q : ℕ) → find nat_cmp q (bytes_of es) ≡ option_map (λ v. v.items) (lookup (λ k. is_eq (nat_cmp q k)) es)
  find_bytes [] q = refl
  find_bytes (e ∷ es) q = by_key (is_eq (nat_cmp q e.0)) (find_bytes es q)
    where
      by_key : (here : Bool) → find nat_cmp q (bytes_of es) ≡ option_map (λ v. v.items) (lookup (λ k. is_eq (nat_cmp q k)) es) →
          cond here (Some e.1.items) (find nat_cmp q (bytes_of es)) ≡ option_map (λ v. v.items) (cond here (Some e.1) (lookup (λ k. is_eq (nat_cmp q k)) es))
      by_key true h = refl
      by_key false h = h

  -- a page that is held
  pub get_held : (m : tree.BTreeMap ℕ (Vec ℕ A)) (q : ℕ) → get (held_in m.entries) q ≡ option_map (λ v. v.items) (tree.get nat_cmp m q)
  get_held m q = get-from_entries nat_cmp_total (bytes_of m.entries) q ∙ find_bytes m.entries q

  -- one more
  pub put_held : (m n : tree.BTreeMap ℕ (Vec ℕ A)) (k : ℕ) (v : Vec ℕ A) →
      ((q : ℕ) → tree.get nat_cmp n q ≡ cond (is_eq (nat_cmp k q)) (Some v) (tree.get nat_cmp m q)) →
      held_in n.entries ≡ insert (held_in m.entries) k v.items
  put_held m n k v put = same_map nat_cmp_total nat_cmp-IsAntisymmetric _ _ (λ q.
      get_held n q
      ∙ ap (option_map (λ (w : Vec ℕ A). w.items)) (put q)
      ∙ by_key _ _ (is_eq (nat_cmp k q)) (is_eq (nat_cmp q k)) (sym (get_held m q)) (tied k q)
      ∙ sym (get-insert nat_cmp_total (held_in m.entries) k v.items q))
    where
      by_key : (x : Option (Vec ℕ A)) (y : Option (List ℕ)) (here there : Bool) → option_map (λ w. w.items) x ≡ y → here ≡ there →
          option_map (λ w. w.items) (cond here (Some v) x) ≡ cond there (Some v.items) y
      by_key x y true true e t = refl
      by_key x y false false e t = e
      by_key x y true false e t = absurd cc
      by_key x y false true e t = absurd cc

      tied : (a b : ℕ) → is_eq (nat_cmp a b) ≡ is_eq (nat_cmp b a)
      tied a b = (Rattle.std.specs.Cmp.eq_by_cmp_equiv nat_cmp_total).symm a b

  -- a page is found, or isn't
  pub finds : (m : tree.BTreeMap ℕ (Vec ℕ A)) (q : ℕ) (v : Vec ℕ A) (before after : List ℕ) → Some v ≡ tree.get nat_cmp m q →
      after ≡ v.items →
      Finds (get (held_in m.entries) q) true before after
  finds m q v before after there copied =
      subst (λ (o : Option (List ℕ)). Finds o true before after)
      (ap (option_map (λ (w : Vec ℕ A). w.items)) there ∙ sym (get_held m q)) (refl, copied)

  pub misses : (m : tree.BTreeMap ℕ (Vec ℕ A)) (q : ℕ) (before : List ℕ) → None ≡ tree.get nat_cmp m q →
      Finds (get (held_in m.entries) q) false before before
  misses m q before none =
      subst (λ (o : Option (List ℕ)). Finds o false before before)
      (ap (option_map (λ (w : Vec ℕ A). w.items)) none ∙ sym (get_held m q)) (refl, refl)
