-- The sums so far are those of the sections so far, and with the bytes that are left they are all bytes.
use Rattle.std.proofs.Common.{◌≡◌, ◌+◌, drop, filter}
use Rattle.m88_link.specs.Sizes.{sections_size}
use Rattle.m88_listing.specs.Sums.{is_at, is_data, is_text}
use Rattle.m88_listing.proofs.sums.with_sections.Given as goal

abbrev pub invariant-loop-section : goal.invariant-loop-section
invariant-loop-section l = record {
  text : l.sums.text_size + sections_size (filter (λ x. is_text x.place) (drop l.section-index l.sections))
      ≡ l.initial.sums.text_size + sections_size (filter (λ x. is_text x.place) l.sections);
  datas : l.sums.data_size + sections_size (filter (λ x. is_data x.place) (drop l.section-index l.sections))
      ≡ l.initial.sums.data_size + sections_size (filter (λ x. is_data x.place) l.sections);
  at : l.sums.at_size + sections_size (filter (λ x. is_at x.place) (drop l.section-index l.sections))
      ≡ l.initial.sums.at_size + sections_size (filter (λ x. is_at x.place) l.sections);
  all : l.sums.text_size + l.sums.data_size + l.sums.at_size + sections_size (drop l.section-index l.sections)
      ≡ l.initial.sums.text_size + l.initial.sums.data_size + l.initial.sums.at_size + sections_size l.sections;
}
