-- What the doing is was matched; at the end nothing changes.
use Rattle.std.proofs.Common.{ap, refl, sym, subst, ◌++◌, ◌∙◌}
use Rattle.m88_mem.specs.DataBus.{bus_of}
use Rattle.m88_trace.proofs.Following.{ends_stay}
use Rattle.m88_trace.specs.Inside.Doings.{CanDo, HasDone, doing_line, seen_by_follower}
use Rattle.m88_trace.specs.declared.doing.Doing.{Doing}
use Rattle.m88_trace.proofs.follower.Follower.carry_out.Goals as goal

pub go-requires : goal.go-requires
go-requires c = subst (λ (d : Doing). CanDo d c.args.self.now) c.in-Goes.is c.requires

pub returns-in_ok-go-in-Goes-clause-done : goal.returns-in_ok-go-in-Goes-clause-done
returns-in_ok-go-in-Goes-clause-done c =
    subst (λ (d : Doing).
    HasDone c.args.number c.args.word d c.args.self.now c.go.new.self c.args.line.now.items c.go.new.line.items)
    (sym c.in-Goes.is) c.in_ok-go-in-Goes.ensures

pub returns-in_ok-put_out-in-Outputs-clause-done : goal.returns-in_ok-put_out-in-Outputs-clause-done
returns-in_ok-put_out-in-Outputs-clause-done c =
    subst (λ (d : Doing).
    HasDone c.args.number c.args.word d c.args.self.now c.put_out.new.self c.args.line.now.items
    c.put_out.new.line.items)
    (sym c.in-Outputs.is) c.in_ok-put_out-in-Outputs.ensures

pub returns-in_ok-push_end-in-Ends-clause-done : goal.returns-in_ok-push_end-in-Ends-clause-done
returns-in_ok-push_end-in-Ends-clause-done c =
    let f = c.args.self.now in
    record {
      ready = c.requires.ready;
      image = refl;
      line =
          c.in_ok-push_end-in-Ends.ensures
          ∙ sym (ap (λ (d : Doing).
          c.args.line.now.items ++ doing_line c.args.number f.pc c.args.word d (bus_of f.memory)) c.in-Ends.is);
      seen = ends_stay c.args.doing.now c.in-Ends.end (seen_by_follower f) c.in-Ends.is;
    }
