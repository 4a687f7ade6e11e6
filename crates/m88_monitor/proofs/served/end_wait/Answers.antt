-- What SSBR keeps of the word with the bit cleared is that word.
use Rattle.std.proofs.Common.{◌≡◌, ◌∙◌, ap, rules}
use Rattle.m88_base.specs.Reg.{number_of}
use Rattle.m88_ctrl.specs.ControlRegisters.{kept_of}
use Rattle.m88_monitor.proofs.Cleared.{cleared_kept}
use Rattle.m88_monitor.specs.Serving.{without_bit}
use Rattle.m88_monitor.proofs.served.end_wait.Goals as goal

pub returns : goal.returns
returns c =
    let kept : c.put.new.ctrl
    ≡ record c.args.ctrl.now { ssbr = kept_of 3 (without_bit (number_of c.args.r) c.args.ctrl.now.ssbr) } = search rules in
    kept
    ∙ ap (λ n. record c.args.ctrl.now { ssbr = n }) (cleared_kept (number_of c.args.r) c.args.ctrl.now.ssbr (search rules))
