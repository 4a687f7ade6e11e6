-- The next step of the history, and its line.
use Rattle.std.specs.Prelude.{option_map}
use Rattle.std.specs.Int.{to_be_bytes, w32}
use Rattle.std.proofs.Common.{arith, ap, ap₂, subst, ◌≡◌, ◌<◌, ◌^◌, ◌++◌, ◌∙◌, ℕ, List, false}
use Rattle.m88_base.specs.Image.{byte_at}
use Rattle.m88_isa.specs.Machine.{four_bytes, turn}
use Rattle.m88_mem.specs.DataBus.{bus_of}
use Rattle.m88_trace.proofs.Following.{end_is, line_is, ok_both_of, seen_is, word_is}
use Rattle.m88_trace.specs.Inside.Doings.{after_doing, doing_line, doing_of, ends_by, seen_by_follower}
use Rattle.m88_trace.specs.declared.doing.Doing.{Doing}
use Rattle.m88_trace.specs.declared.doing.Place.{Place}
use Rattle.m88_trace.proofs.follower.Follower.next_line.Goals as goal

pub returns : goal.returns
returns c =
    let f = c.args.self.now in
    let small : c.unwrap_or.result < 2 ^ 32 = omega arith in
    ok_both_of c.carry_out.result _ _ c.carry_out.ensures.ended c.carry_out.ensures.done
    (λ ended ends done. record {
      ready = done.ready;
      image = done.image;
      follows = λ p is of clear seen.
          let does : c.doing_at-doing.result ≡ doing_of (turn p f.regs f.carry false f.pc f.next) =
          subst (λ (place : Place). option_map (λ w. to_be_bytes w32 w) c.fetch-word.result
          ≡ four_bytes (byte_at f.memory.image) place.pc
          → c.doing_at-doing.result ≡ doing_of (turn p f.regs place.carry false place.pc place.next)) c.place.ensures
          (c.doing_at-doing.ensures.value f.memory.image p of) c.fetch-word.ensures in
          record {
            text =
                done.line
                ∙ ap₂ (λ (xs : List ℕ) (d : Doing). xs ++ doing_line c.args.number f.pc c.unwrap_or.result d
                (bus_of f.memory)) c.clear.ensures.items does
                ∙ line_is p c.args.number (seen_by_follower f) c.unwrap_or.result is clear seen
                (c.unwrap_or.ensures ∙ word_is p f.memory.image f.pc c.fetch-word.result of
                (subst (λ (n : ℕ). n < 2 ^ 32) c.unwrap_or.ensures small) c.fetch-word.ensures);
            seen = seen_is p c.args.number (seen_by_follower f) (seen_by_follower c.carry_out.new.self) is clear seen
                (done.seen ∙ ap (λ (d : Doing). after_doing d (seen_by_follower f)) does);
            ended = ends ∙ ap ends_by does ∙ end_is p c.args.number (seen_by_follower f) clear seen;
          };
    })
