-- The line is made of its three parts.
use Rattle.std.proofs.Common.{◌≡◌, ℕ, List, ◌++◌, codes, ap, ◌∙◌, append_assoc}
use Rattle.m88_base.specs.Hex.{hex8}
use Rattle.m88_base.specs.Lines.{line_end}
use Rattle.m88_commands.specs.Answer.Workload.{registers_xor_line, xor_of}
use Rattle.m88_commands.proofs.commands.summary.push_registers_xor.Goals as goal

three_parts : (t0 t1 t2 t3 : List ℕ) (n m : ℕ) → t1 ≡ t0 ++ codes "regs " → t2 ≡ t1 ++ hex8 n → n ≡ m → t3 ≡ t2 ++ line_end
    → t3 ≡ t0 ++ (codes "regs " ++ hex8 m ++ line_end)
three_parts t0 t1 t2 t3 n m e f g h =
    h ∙ ap (λ (t : List ℕ). t ++ line_end) (f ∙ ap (λ (k : ℕ). t1 ++ hex8 k) g ∙ ap (λ (t : List ℕ). t ++ hex8 m) e)
    ∙ append_assoc (t0 ++ codes "regs ") (hex8 m) line_end ∙ append_assoc t0 (codes "regs ") (hex8 m ++ line_end)

pub returns : goal.returns
unfolding registers_xor_line
returns c =
    three_parts c.args.text.now.items c.extend_from_slice.new.self.items c.push_hex8.new.text.items c.push.new.self.items
    c.xor_of.result (xor_of c.args.registers.now) c.in_ok-extend_from_slice.ensures.items c.in_ok-push_hex8.ensures
    c.xor_of.ensures c.in_ok-push.ensures.items
