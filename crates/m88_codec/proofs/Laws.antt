-- The laws of words and instructions that proofs above cite.

-- Two instructions of one word are the same.
pub use Rattle.m88_codec.proofs.Law.{one_reading}
-- Bytes have one instruction at an address, or none.
pub use Rattle.m88_codec.proofs.OneAt.{one_at}
-- Every image holds a program, with the mode that is asked for.
pub use Rattle.m88_codec.proofs.ImagePrograms.{program_in, program_in_holds, program_in_mxm, some_program}
