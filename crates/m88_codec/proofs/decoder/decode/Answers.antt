-- A word whose form leaves no field unused is the word of its candidate. A valid instruction's word has that instruction as its
-- candidate, and the candidate passes both tests.
use Rattle.std.proofs.Common.{◌≡◌, ◌∙◌, ap, sym, subst, arith, Ok}
use Rattle.std.proofs.lemmas.Bool.Decides.{Decides-eqb, nat_tests}
use Rattle.m88_isa.specs.Instr.{IsValid}
use Rattle.m88_isa.specs.Word.{word_of}
use Rattle.m88_codec.specs.Inside.Candidate.{candidate_of}
use Rattle.m88_codec.proofs.Law.{candidate_law, one_reading}
use Rattle.m88_codec.proofs.Whole.{whole_law}
use Rattle.m88_codec.proofs.decoder.decode.Goals as goal
use Rattle.m88_codec.proofs.decoder.decode.Goals.{
  then-leaves_no_field_unused,
  else-leaves_no_field_unused+then-is_valid,
  else-leaves_no_field_unused+else-is_valid,
}

pub returns-then-encode-word-clause-found : goal.returns-then-encode-word-clause-found
returns-then-encode-word-clause-found c = elim c.if-leaves_no_field_unused.branch [
  | then-leaves_no_field_unused w ↦ rw c.candidate-instr.ensures (whole_law _ (sym c.leaves_no_field_unused.ensures ∙ w.if-leaves_no_field_unused.true))
  | else-leaves_no_field_unused+then-is_valid w ↦
      let word = w.encode.ensures.word in
      (word.0, word.1 ∙ (Decides-eqb _ _).0 (sym w.value-is ∙ c.if-encode-word.true))
  | else-leaves_no_field_unused+else-is_valid w ↦ absurd cc
]

pub returns-then-encode-word-clause-only : goal.returns-then-encode-word-clause-only
returns-then-encode-word-clause-only c =
    λ i h. ap Ok (c.candidate-instr.ensures ∙ ap candidate_of (sym h.1) ∙ candidate_law i h.0)

pub returns-then-encode-word-clause-one_reading : goal.returns-then-encode-word-clause-one_reading
returns-then-encode-word-clause-one_reading c = one_reading _

pub returns-else-encode-word-clause-only : goal.returns-else-encode-word-clause-only
returns-else-encode-word-clause-only c = λ i h.
    let same : c.candidate-instr.result ≡ i =
    c.candidate-instr.ensures ∙ ap candidate_of (sym h.1) ∙ candidate_law i h.0 in
    elim c.if-leaves_no_field_unused.branch [
      | then-leaves_no_field_unused w ↦ absurd cc
      | else-leaves_no_field_unused+then-is_valid w ↦
          let back : w.encode.result ≡ c.args.word = sym w.encode.ensures.word.1 ∙ ap word_of same ∙ h.1 in
          absurd (grind (arith, nat_tests, back))
      | else-leaves_no_field_unused+else-is_valid w ↦
          let valid = w.is_valid.ensures.valid.1 (subst IsValid (sym same) h.0) in
          absurd (grind (arith, valid))
    ]

pub returns-else-encode-word-clause-one_reading : goal.returns-else-encode-word-clause-one_reading
returns-else-encode-word-clause-one_reading c = one_reading _
