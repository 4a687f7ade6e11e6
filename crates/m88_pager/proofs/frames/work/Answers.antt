-- The word that is read is merged with the value, and put back.
use Rattle.std.specs.Prelude.{ℕ, List, ◌++◌, ◌≡◌, ◌+◌, ◌%◌, drop, length, take}
use Rattle.std.proofs.Common.{arith, ap, refl, ◌∙◌}
use Rattle.std.specs.Int.{from_be_bytes, to_be_bytes, w32}
use Rattle.m88_pager.proofs.Coming.{all_written}
use Rattle.m88_pager.proofs.Words.{stored_page}
use Rattle.m88_pager.proofs.frames.work.Goals as goal

pub returns : goal.returns
returns c =
    let old = c.args.frame.now.bytes in
    let a = c.args.access.now in
    let same : length c.put_word.new.bytes ≡ length old.items = c.put_word.auto.bytes ∙ ap length c.as_mut_slice.ensures.value in
    let whole = all_written old.len old.items c.put_word.new.bytes (omega (arith, old.ok.0)) same in
    record {
      size = ap length whole ∙ same ∙ c.requires.size;
      read = λ reads. absurd cc;
      dirty = λ writes. refl;
      bytes = λ writes bus words is.
          whole
          ∙ c.put_word.ensures
          ∙ ap (λ (items : List ℕ). take (a.addr % 4096) items ++ (to_be_bytes w32 c.merge-word.result ++ drop (a.addr % 4096 + 4) items))
          c.as_mut_slice.ensures.value
          ∙ stored_page a bus old.items c.word_at.result c.merge-word.result c.requires.word.0 words is
          (c.word_at.ensures ∙ ap (λ (items : List ℕ). from_be_bytes w32 (take 4 (drop (a.addr % 4096) items))) c.deref.ensures.value)
          c.merge-word.ensures.value;
    }
