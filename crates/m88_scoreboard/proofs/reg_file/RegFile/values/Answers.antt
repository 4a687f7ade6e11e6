-- Where no register waits, the values that are shown are the numbers.
use Rattle.std.proofs.Common.{◌≡◌, ◌∙◌, ap, sym, length}
use Rattle.m88_scoreboard.specs.Registers.{Registers, waiting_of}
use Rattle.m88_scoreboard.proofs.Waits.{all_shown}
use Rattle.m88_scoreboard.proofs.reg_file.RegFile.values.Goals as goal

pub returns-clause-whole : goal.returns-clause-whole
unfolding waiting_of
returns-clause-whole c =
    let long : length c.args.self.now.numbers ≡ 32 =
    ap (λ (file : Registers). length file.numbers) (sym c.self.view_is) ∙ c.self.invariant.numbers in
    all_shown c.args.self.now.numbers c.loop-r.values c.args.self.now.waits c.loop-r.invariant.long long
    c.loop-r.invariant.ready
