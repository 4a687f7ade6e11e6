-- The sums so far are those of the objects so far, and with the bytes that are left they are all bytes.
use Rattle.std.proofs.Common.{◌≡◌, ◌+◌, drop}
use Rattle.m88_link.specs.Sizes.{total_size}
use Rattle.m88_listing.specs.Sums.{is_at, is_data, is_text, sum_where}
use Rattle.m88_listing.proofs.sums.sums_of.Given as goal

abbrev pub invariant-loop-object : goal.invariant-loop-object
invariant-loop-object l = record {
  text : l.sums.text_size + sum_where is_text (drop l.object-index l.objects) ≡ sum_where is_text l.objects;
  datas : l.sums.data_size + sum_where is_data (drop l.object-index l.objects) ≡ sum_where is_data l.objects;
  at : l.sums.at_size + sum_where is_at (drop l.object-index l.objects) ≡ sum_where is_at l.objects;
  all : l.sums.text_size + l.sums.data_size + l.sums.at_size + total_size (drop l.object-index l.objects) ≡ total_size l.objects;
}
