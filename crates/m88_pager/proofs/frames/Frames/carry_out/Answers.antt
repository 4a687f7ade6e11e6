-- The page is brought to the front, from its place or from the store, and worked on.
use Rattle.std.specs.Prelude.{ℕ, nat_eq}
use Rattle.std.proofs.Common.{refl, rules, sym, ap, subst, ◌∙◌}
use Rattle.std.proofs.lemmas.Result.{on_ok_weaker}
use Rattle.std.specs.Map.{lookup}
use Rattle.m88_base.specs.Pages.{page_number}
use Rattle.m88_mem.specs.DataBus.{image_bytes}
use Rattle.m88_pager.proofs.Carrying.{carried_on, carried_there}
use Rattle.m88_pager.specs.Inside.Calls.{IsBrought, PutsOut}
use Rattle.m88_pager.specs.Inside.Seen.{AreWithin, most_counted}
use Rattle.m88_pager.specs.Pages.{page_of}
use Rattle.m88_pager.specs.declared.frames.Frames.{Frames}
use Rattle.m88_pager.proofs.frames.Frames.carry_out.Goals as goal

pub returns-then-carry_out_there-clause-carried : goal.returns-then-carry_out_there-clause-carried
returns-then-carry_out_there-clause-carried g c =
    carried_there (image_bytes c.args.image.now) c.args.access.now c.args.self.now c.carry_out_there.new.self
    (g.P.PageStore.pages c.args.store.now) c.requires.word c.requires.within.whole
    (c.carry_out_there.ensures.carried c.if-carry_out_there.true)

pub returns-then-carry_out_there-clause-store : goal.returns-then-carry_out_there-clause-store
returns-then-carry_out_there-clause-store g c =
    let writes = g.P.PageStore.writes c.args.store.now in
    let front = (c.carry_out_there.ensures.carried c.if-carry_out_there.true).front in
    record {
      uses = search rules;
      written = subst (λ (n : ℕ). PutsOut c.args.self.now.outs n writes writes) (sym (ap (λ (f : Frames). f.outs) front)) refl;
    }

pub come_in-requires-clause-may : goal.come_in-requires-clause-may
come_in-requires-clause-may g c =
    let same = c.carry_out_there.ensures.same c.if-carry_out_there.false in
    record {
      within = subst (AreWithin most_counted) (sym same) c.requires.within;
      apart =
          ap (λ (f : Frames). lookup (nat_eq (page_number c.args.access.now.addr)) f.cache.entries) same
          ∙ c.carry_out_there.ensures.none c.if-carry_out_there.false;
    }

pub returns-clause-carried : goal.returns-clause-carried
returns-clause-carried g c =
    let same = c.carry_out_there.ensures.same c.if-carry_out_there.false in
    let original = image_bytes c.args.image.now in
    let told = g.P.PageStore.pages c.args.store.now in
    let now = g.P.PageStore.pages c.come_in.new.store in
    let brought = subst (λ (f : Frames).
    IsBrought (page_of original) (page_number c.args.access.now.addr) c.in_ok-frame.frame f c.come_in.new.self told now) same
    c.in_ok-frame.ensures.brought in
    on_ok_weaker c.put_in_front.result
    (carried_on original c.args.access.now c.args.self.now c.come_in.new.self c.put_in_front.new.self c.in_ok-frame.frame
    c.work.new.frame told now c.requires.word.0 brought c.work.ensures)
    c.put_in_front.ensures.front

pub returns-clause-store : goal.returns-clause-store
returns-clause-store g c =
    let same = c.carry_out_there.ensures.same c.if-carry_out_there.false in
    let writes = g.P.PageStore.writes c.args.store.now in
    let now = g.P.PageStore.writes c.come_in.new.store in
    record {
      uses = search rules;
      written = on_ok_weaker c.put_in_front.result
          (λ front.
          subst (λ (n : ℕ). PutsOut c.args.self.now.outs n writes now) (sym (ap (λ (f : Frames). f.outs) front.rest))
          (subst (λ (n : ℕ). PutsOut n c.come_in.new.self.outs writes now) (ap (λ (f : Frames). f.outs) same)
          c.in_ok-frame.ensures.store.written))
          c.put_in_front.ensures.front;
    }
