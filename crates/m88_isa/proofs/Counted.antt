-- An instruction makes at most two transactions.
use Rattle.std.specs.Prelude.{ℕ, zero, suc, ◌≤◌, ◌*◌, length}
use Rattle.std.proofs.Common.{arith, length-append}
use Rattle.std.proofs.lemmas.List.{length-map}
use Rattle.m88_isa.proofs.Turns.{TurnFits, turn_fits}
use Rattle.m88_isa.specs.History.{transaction_count, transactions, turn_accesses}
use Rattle.m88_isa.specs.Machine.{IsProgram, Program, Turn, changes, outputs, state, stops, turn_at}
use Rattle.m88_isa.specs.Memory.{access_of}

two_at_most : (t : Turn) → TurnFits t → length (turn_accesses t) ≤ 2
two_at_most (changes change) fits =
    let short = fits.short in
    let same = length-map change.touches access_of in
    omega (arith, short, same)
two_at_most (outputs byte) fits = omega arith
two_at_most (stops stop) fits = omega arith

-- so many instructions make at most twice as many
pub twice_at_most : (p : Program) (n : ℕ) → IsProgram p → transaction_count p n ≤ 2 * n
unfolding transactions
twice_at_most p zero is = omega arith
twice_at_most p (suc n) is =
    let before = twice_at_most p n is in
    let s = state p n in
    let two = two_at_most (turn_at p s) (turn_fits p s.regs s.carry s.mxm s.pc s.next is) in
    let sum = length-append (transactions p n) (turn_accesses (turn_at p s)) in
    omega (arith, before, two, sum)
