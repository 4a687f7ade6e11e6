-- What was taken of a source and fed, turn by turn.
use Rattle.std.proofs.Common.{◌≡◌, ◌≢◌, ℕ, ◌+◌, ◌≤◌, List, [], ◌++◌, Option, length, take, arith, append-nil, length-append, subst}
use Rattle.std.specs.Prelude.{Result, Ok, Err, IfErr}
use Rattle.std.specs.Io.KnownBytes.{Consumes, IsAtEnd}
use Rattle.m88_base.specs.Image.{ProgramImage}
use Rattle.m88_base.proofs.Laws.{consumes_front, consumes_more, length_front}
use Rattle.m88_srec.specs.Fed.{IsFed, LoaderView}
use Rattle.m88_srec.specs.Streamed.{ReadsText, WhereRefused}
use Rattle.m88_srec.specs.Verdict.{IsFirstSrecFault}
use Rattle.m88_srec.specs.declared.load_end.LoadEnd.{LoadEnd}
use Rattle.m88_srec.specs.declared.load_end.LoadEnd.TheVariants.{Memory, Refused, SourceFault, TooLong}

-- some bytes were taken, so many, and fed
pub record TakenAndFed (old new : Option (List ℕ)) (count : ℕ) (loader : LoaderView) : Type 0 where
  pub bytes : List ℕ
  pub taken : Consumes old new bytes
  pub size : length bytes ≡ count
  pub fed : IsFed bytes loader

-- one piece more
pub took_more : (old middle new : Option (List ℕ)) (count n : ℕ) (buf rest : List ℕ) (before after : LoaderView)
    → TakenAndFed old middle count before → Consumes middle new (take n buf) → n ≤ length buf
    → ((text : List ℕ) → IsFed text before → IsFed (text ++ take n (buf ++ rest)) after)
    → TakenAndFed old new (count + n) after
took_more old middle new count n buf rest before after t more short fed = record {
  bytes = t.bytes ++ take n (buf ++ rest);
  taken = consumes_front old middle new t.bytes buf rest n t.taken more short;
  size = omega (arith, length-append t.bytes (take n (buf ++ rest)), t.size, length_front buf rest n short);
  fed = fed t.bytes t.fed;
}

-- nothing more came, so a fault of what was fed is one of the whole text
pub refused_whole : (r : Result ProgramImage LoadEnd) (old middle new : Option (List ℕ)) (max count n : ℕ)
    (buf : List ℕ) (loader : LoaderView) → TakenAndFed old middle count loader → n ≡ 0 → Consumes middle new (take n buf) → IsAtEnd new → count ≤ max
    → IfErr r (WhereRefused (λ fault. (text : List ℕ) → IsFed text loader → IsFirstSrecFault text fault))
    → IfErr r (WhereRefused (λ fault. ReadsText old new max (λ text. IsFirstSrecFault text fault)))
refused_whole (Ok image) old middle new max count n buf loader t zero none ended few told = tt
refused_whole (Err (Refused fault)) old middle new max count n buf loader t zero none ended few told = record {
  text = t.bytes;
  taken = subst (Consumes old new) (append-nil t.bytes)
      (consumes_more old middle new t.bytes [] t.taken (subst (λ k. Consumes middle new (take k buf)) zero none));
  ended = ended;
  few = omega (arith, t.size, few);
  holds = told t.bytes t.fed;
}
refused_whole (Err SourceFault) old middle new max count n buf loader t zero none ended few told = tt
refused_whole (Err TooLong) old middle new max count n buf loader t zero none ended few told = tt
refused_whole (Err Memory) old middle new max count n buf loader t zero none ended few told = tt

-- each turn takes a byte
pub turns_on : (turns taken n : ℕ) → n ≢ 0 → turns ≤ taken → turns + 1 ≤ taken + n
turns_on turns taken n some h = omega arith
