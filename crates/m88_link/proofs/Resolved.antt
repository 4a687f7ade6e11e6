-- What names mean by the table of global symbols, and which relocations can be carried out by it.
use Rattle.std.proofs.Common.{◌≡◌, ℕ, ◌+◌, ◌<◌, Bool, true, false, List, [], ◌∷◌, filter, refl, ap, ◌∙◌, arith}
use Rattle.std.proofs.Math.Path.{fun_ext}
use Rattle.std.proofs.lemmas.Bool.Decides.{nat_tests}
use Rattle.std.specs.Prelude.{◌==◌, ◌%◌, ◌^◌, ◌&&◌, ◌||◌, Option, None, Some, is_some, nat_lt, option_and_then, if◌then◌else◌, unwrap_or}
use Rattle.std.specs.Option.{option_map, option_or}
use Rattle.m88_base.specs.Placed.{Placed}
use Rattle.m88_link.specs.declared.fault.LinkFault.{LinkFault}
use Rattle.m88_link.specs.declared.object.Object.{Object}
use Rattle.m88_link.specs.declared.object.Reloc.{Reloc}
use Rattle.m88_link.specs.declared.object.Symbol.{Symbol}
use Rattle.m88_link.specs.Bases.{Placement, base_of}
use Rattle.m88_link.specs.Field.{is_in_reach}
use Rattle.m88_link.specs.Forced.{is_resolvable}
use Rattle.m88_link.specs.Inside.Carried.{carried, patched_in}
use Rattle.m88_link.specs.Inside.Exports.{with_global}
use Rattle.m88_link.specs.Inside.Resolved.{carried_known, is_kept, known_value, use_in, value_alone, value_or_zero}
use Rattle.m88_link.specs.Layout.{Reference, reference, value_of_name}
use Rattle.m88_link.specs.Refusal.{too_far_in, undefined_in}
use Rattle.m88_link.specs.Relocated.{target_of}
use Rattle.m88_link.specs.Symbols.{is_known, symbol_meaning, symbol_of, value_in}
use Rattle.m88_link.proofs.Exported.{Finds, count, found_some, no_count}

-- a name is known by its value where it means one thing
pub known_is : (all table : List Symbol) (p : Placement Object) (name : List ℕ) → Finds all table
    → known_value table p name ≡ (if is_known all p.part.symbols name then Some (value_of_name all p name) else None)
known_is all table p name h =
    ap (λ o. option_or (option_map (value_in (base_of p)) (symbol_of p.part.symbols name)) (option_and_then value_alone o)) (h name)
    ∙ own (symbol_of p.part.symbols name)
  where
    alone : Bool
    alone = count name all == 1

    none_alone : (n : ℕ) → n ≡ 0 → false ≡ (n == 1)
    none_alone n e = grind (arith, nat_tests)

    nothing : (t : Bool) → false ≡ t → ◌≡◌ {A = Option ℕ} None (if t then Some 0 else None)
    nothing t e = ap (λ (b : Bool). if b then Some 0 else None) e

    other : (o : Option Symbol) → symbol_of all name ≡ o
        → option_and_then value_alone (option_map (with_global alone) o) ≡ (if alone then Some (unwrap_or (option_map (λ g. g.value) o) 0) else None)
    other None e = nothing alone (none_alone (count name all) (no_count all name e))
    other (Some g) e = refl

    own : (o : Option Symbol)
        → option_or (option_map (value_in (base_of p)) o) (option_and_then value_alone (option_map (with_global alone) (symbol_of all name)))
        ≡ (if is_some o || alone then Some (unwrap_or (option_or (option_map (value_in (base_of p)) o) (option_map (λ g. g.value) (symbol_of all name))) 0) else None)
    own (Some x) = refl
    own None = other (symbol_of all name) refl

-- the relocations that can be carried out are the same
kept_is : (all table : List Symbol) (p : Placement Object) (r : Reloc) → Finds all table → is_kept table p r ≡ is_resolvable all p r
kept_is all table p r h =
    ap (λ o. is_some o && is_in_reach r.kind ((unwrap_or o 0 + r.addend) % 2 ^ 32) (base_of p r.section + r.offset)) (known_is all table p r.symbol h)
    ∙ by (is_known all p.part.symbols r.symbol) (value_of_name all p r.symbol)
  where
    by : (t : Bool) (v : ℕ)
        → (is_some (if t then Some v else None) && is_in_reach r.kind ((unwrap_or (if t then Some v else None) 0 + r.addend) % 2 ^ 32) (base_of p r.section + r.offset))
        ≡ (t && is_in_reach r.kind ((v + r.addend) % 2 ^ 32) (base_of p r.section + r.offset))
    by true v = refl
    by false v = refl

left_true : (s t : Bool) → (s && t) ≡ true → s ≡ true
left_true true t h = refl
left_true false t h = h

-- and so are their targets
kept_target : (all table : List Symbol) (p : Placement Object) (r : Reloc) → Finds all table → is_resolvable all p r ≡ true
    → target_of (value_or_zero table p) r ≡ target_of (value_of_name all p) r
kept_target all table p r h kept =
    ap (λ o. (unwrap_or o 0 + r.addend) % 2 ^ 32)
    (known_is all table p r.symbol h
    ∙ ap (λ (t : Bool). if t then Some (value_of_name all p r.symbol) else None) (left_true (is_known all p.part.symbols r.symbol) _ kept))

carried_same : (t u : Reloc → ℕ) (keep : Reloc → Bool) → ((r : Reloc) → keep r ≡ true → t r ≡ u r) → (rs : List Reloc) (spots : List Placed)
    → carried t (filter keep rs) spots ≡ carried u (filter keep rs) spots
carried_same t u keep same [] spots = refl
carried_same t u keep same (r ∷ rs) spots = by (keep r) refl (λ l. carried_same t u keep same rs l)
  where
    by : (b : Bool) → keep r ≡ b → ((l : List Placed) → carried t (filter keep rs) l ≡ carried u (filter keep rs) l)
        → carried t (if b then r ∷ filter keep rs else filter keep rs) spots ≡ carried u (if b then r ∷ filter keep rs else filter keep rs) spots
    by true e rest = rest (patched_in r (t r) spots) ∙ ap (λ (n : ℕ). carried u (filter keep rs) (patched_in r n spots)) (same r e)
    by false e rest = rest spots

-- so the sections come to the same
pub carried_resolvable : (all table : List Symbol) (p : Placement Object) (rs : List Reloc) (spots : List Placed) → Finds all table
    → carried_known table p rs spots ≡ carried (target_of (value_of_name all p)) (filter (is_resolvable all p) rs) spots
carried_resolvable all table p rs spots h =
    ap (λ (keep : Reloc → Bool). carried (target_of (value_or_zero table p)) (filter keep rs) spots) (fun_ext (λ r. kept_is all table p r h))
    ∙ carried_same (target_of (value_or_zero table p)) (target_of (value_of_name all p)) (is_resolvable all p) (λ r e. kept_target all table p r h e) rs spots

-- where no name has two symbols a name is known by what it means
means_is : (all table : List Symbol) (p : Placement Object) (name : List ℕ) → Finds all table → count name all < 2
    → known_value table p name ≡ symbol_meaning all (base_of p) p.part.symbols name
means_is all table p name h few =
    ap (λ o. option_or (option_map (value_in (base_of p)) (symbol_of p.part.symbols name)) (option_and_then value_alone o)) (h name)
    ∙ ap (option_or (option_map (value_in (base_of p)) (symbol_of p.part.symbols name))) (other (symbol_of all name) (found_some all name))
  where
    one : (n : ℕ) → n < 2 → true ≡ nat_lt 0 n → (n == 1) ≡ true
    one n low some = grind (arith, nat_tests)

    other : (o : Option Symbol) → is_some o ≡ nat_lt 0 (count name all)
        → option_and_then value_alone (option_map (with_global (count name all == 1)) o) ≡ option_map (λ g. g.value) o
    other None e = refl
    other (Some g) e = ap (λ (t : Bool). if t then Some g.value else None) (one (count name all) few e)

pub use_is : (all table : List Symbol) (p : Placement Object) (r : Reloc) → Finds all table → ((name : List ℕ) → count name all < 2)
    → use_in table p r ≡ reference all (base_of p) p.part.symbols r
use_is all table p r h few =
    ap (λ (o : Option ℕ).
    let u : Reference = record {
      kind = r.kind;
      at = base_of p r.section + r.offset;
      name = r.symbol;
      target = option_map (λ v. (v + r.addend) % 2 ^ 32) o;
      line = r.line;
      col = r.col;
    } in
    u) (means_is all table p r.symbol h (few r.symbol))

-- a use that meets no fault can be carried out
pub resolvable_is : (all : List Symbol) (p : Placement Object) (r : Reloc) → count r.symbol all < 2
    → undefined_in (reference all (base_of p) p.part.symbols r) ≡ None → too_far_in (reference all (base_of p) p.part.symbols r) ≡ None
    → is_resolvable all p r ≡ true
resolvable_is all p r few = own (symbol_of p.part.symbols r.symbol) (symbol_of all r.symbol) (found_some all r.symbol)
  where
    at : ℕ
    at = base_of p r.section + r.offset

    one : (n : ℕ) → n < 2 → true ≡ nat_lt 0 n → (n == 1) ≡ true
    one n low some = grind (arith, nat_tests)

    reach : (t : Bool) (x : LinkFault) → (if t then None else Some x) ≡ None → t ≡ true
    reach true x h = refl
    reach false x h = cc

    -- what is said of a use by what its name means
    undefined_by : Option ℕ → Option LinkFault
    undefined_by m = undefined_in (record { kind = r.kind; at = at; name = r.symbol; target = option_map (λ v. (v + r.addend) % 2 ^ 32) m; line = r.line; col = r.col })

    far_by : Option ℕ → Option LinkFault
    far_by m = too_far_in (record { kind = r.kind; at = at; name = r.symbol; target = option_map (λ v. (v + r.addend) % 2 ^ 32) m; line = r.line; col = r.col })

    own : (o g : Option Symbol) → is_some g ≡ nat_lt 0 (count r.symbol all)
        → undefined_by (option_or (option_map (value_in (base_of p)) o) (option_map (λ x. x.value) g)) ≡ None
        → far_by (option_or (option_map (value_in (base_of p)) o) (option_map (λ x. x.value) g)) ≡ None
        → ((is_some o || count r.symbol all == 1)
        && is_in_reach r.kind ((unwrap_or (option_or (option_map (value_in (base_of p)) o) (option_map (λ x. x.value) g)) 0 + r.addend) % 2 ^ 32) at) ≡ true
    own (Some x) g e u f = reach (is_in_reach r.kind ((value_in (base_of p) x + r.addend) % 2 ^ 32) at) _ f
    own None (Some g) e u f =
        ap (λ (t : Bool). t && is_in_reach r.kind ((g.value + r.addend) % 2 ^ 32) at) (one (count r.symbol all) few e)
        ∙ reach (is_in_reach r.kind ((g.value + r.addend) % 2 ^ 32) at) _ f
    own None None e u f = cc
