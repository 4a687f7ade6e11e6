-- What a module has grown to behind its statements, with its symbols marked, is its object, which is sound.
use Rattle.std.proofs.Common.{ℕ, Bool, ◌≡◌, ◌∙◌, List, [], None, ap, map, subst, sym}
use Rattle.std.specs.Prelude.{flat_map}
use Rattle.std.specs.List.{All, list_any}
use Rattle.std.proofs.Math.Path.{fun_ext}
use Rattle.m88_parse.specs.declared.unit.Module.{Module}
use Rattle.m88_parse.specs.declared.unit.Statement.{Statement}
use Rattle.m88_link.specs.Sound.{HasRoom, IsSound}
use Rattle.m88_link.specs.Symbols.{first_repeated}
use Rattle.m88_link.specs.declared.object.Object.{Object}
use Rattle.m88_link.specs.declared.object.Symbol.{Symbol}
use Rattle.m88_asm.specs.Counters.{at_begin, located}
use Rattle.m88_asm.specs.Faults.{module_fault, statements_fault}
use Rattle.m88_asm.specs.Inside.Drafts.{Growth, empty_growth, with_statements}
use Rattle.m88_asm.specs.Inside.Exports.{marked_where}
use Rattle.m88_asm.specs.Objects.{declares, lines_in, marked, object_of, symbols_of}
use Rattle.m88_asm.proofs.Assembling.{grown_object, grown_symbols}
use Rattle.m88_asm.proofs.Sounding.{sound_object}

module _ (m : Module) (xs : List Statement) (g : Growth) (same : xs ≡ m.statements) (grown : g ≡ with_statements (empty_growth m.line) xs) where
  whole : g ≡ with_statements (empty_growth m.line) m.statements
  whole = grown ∙ ap (with_statements (empty_growth m.line)) same

  pub finished_object : (is_declared : List ℕ → Bool) (o : Object) → ((name : List ℕ) → is_declared name ≡ list_any (λ x. declares name x.body) xs)
      → o ≡ record { name = m.name; sections = g.sections; symbols = map (marked_where is_declared) g.symbols; relocs = g.uses }
      → o ≡ object_of m
  finished_object is_declared o declared made =
      let with_symbols : List Symbol → Object = λ ss. record { name = m.name; sections = g.sections; symbols = ss; relocs = g.uses } in
      let of_growth : Growth → Object = λ h. record { name = m.name; sections = h.sections; symbols = map (marked m.statements) h.symbols; relocs = h.uses } in
      made
      ∙ ap (λ (f : List ℕ → Bool). with_symbols (map (marked_where f) g.symbols)) (fun_ext declared)
      ∙ ap (λ (ys : List Statement). with_symbols (map (marked ys) g.symbols)) same
      ∙ ap of_growth whole
      ∙ grown_object m

  pub finished_clean : statements_fault [] (located at_begin xs) ≡ None → module_fault m ≡ None
  finished_clean clean = ap (λ ys. statements_fault [] (located at_begin ys)) (sym same) ∙ clean

  pub finished_sound : (o : Object) → o ≡ object_of m → statements_fault [] (located at_begin xs) ≡ None → first_repeated g.symbols ≡ None
      → All HasRoom o.sections → IsSound o
  finished_sound o is clean names room =
      let symbols : g.symbols ≡ flat_map symbols_of (lines_in m) = ap (λ (h : Growth). h.symbols) whole ∙ grown_symbols m in
      subst IsSound (sym is) (sound_object m (finished_clean clean) (ap first_repeated (sym symbols) ∙ names)
      (subst (λ (q : Object). All HasRoom q.sections) is room))
