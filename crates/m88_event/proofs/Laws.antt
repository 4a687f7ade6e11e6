-- The laws of events and runs that proofs above cite, by their subject.

-- Letters: a text spells one schedule at most, of any letters that are each spelled by a byte, as those of one program.
pub use Rattle.m88_event.proofs.Letters.{AreSpelled, own_has, own_there, spelled, spells}
-- Outcomes: a run comes to one at most, and a condition holds for the first time at one time at most.
pub use Rattle.m88_event.proofs.Over.{one_first, one_outcome}
-- it does after so many events where the search below them finds none and it holds there
pub use Rattle.m88_event.proofs.Over.{first_after}
-- an outcome and the end of a run are seen of what a board has of its moment
pub use Rattle.m88_event.proofs.Over.{drained_seen, outcome_seen, same_over}
-- what answers of the data unit leave as it is, and memory behind the last of them
pub use Rattle.m88_event.proofs.Over.{answered_issues_none, drained_bus, issued_of}
-- Moments: what is seen of one moves to what is seen of the next, and says the same.
pub use Rattle.m88_event.proofs.Follows.{ended_is, law as moves_as_seen, same_said, same_situation}
-- a transaction that is answered is done, for memory and for what is pending
pub use Rattle.m88_event.proofs.Follows.{answered_bus}
pub use Rattle.m88_event.proofs.Histories.{split_drop}
-- no moment of a run is past what was made, each letter's choice fits its moment, and more instructions make no fewer
-- transactions
pub use Rattle.m88_event.proofs.Follows.{Fits, fits, more_transactions, stays_within}
-- Any history: each letter's choice fits its moment; what is seen of a moment moves as the words of memory along the
-- history do; and when a run is over, and what it comes to, is seen
pub use Rattle.m88_event.proofs.Histories.{AreWords, FitsAlong, IsStep, choice_seen, fits_along, next_xip, outcome_is_seen, over_seen, run_is_seen, situation_seen, supplied}
-- Past: what lies behind a moment is so at the opening, at the next moment where it is so at this one, and so at each of a run
pub use Rattle.m88_event.proofs.Past.{keeps_past, opens_with, past_after}
-- each letter is one event
pub use Rattle.m88_event.proofs.Past.{letter_events}
-- The bound of a run: each letter before its end lessens a weight, which is bounded, at the start too.
pub use Rattle.m88_event.proofs.Bound.{answered_lessens, fuel_stays, lessens, weight_at_start, weight_most}
-- no letter retires more than the limit
pub use Rattle.m88_event.proofs.Bound.{stays_in_limit}
-- a mark counts one at most, and no more than a number that is at least one where it is set
pub use Rattle.m88_event.proofs.Bound.{least_of, one_at_most}
-- Precise faults: nothing is pending where an instruction is served or ends the program, and then all are done.
pub use Rattle.m88_event.proofs.Precise.{IsLastChoice, nothing_left, precise_by, precise_choice}
-- Worked examples: their instructions, words and records in short, and the registers that aren't 0.
pub use Rattle.m88_event.proofs.Worked.{fault, im, mem, regs, set_from, triple}
