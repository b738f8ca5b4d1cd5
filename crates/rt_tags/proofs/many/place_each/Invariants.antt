use Rattle.std.proofs.Common.{◌≡◌, ℕ, vec_len, vec_capacity}
use Rattle.rt_tags.specs.ManyCounts.{ArePlaced}
use Rattle.rt_tags.specs.Toggles.{count_in}
use Rattle.rt_tags.proofs.many.place_each.Given as goal

abbrev pub invariant-loop-placed : goal.invariant-loop-placed
invariant-loop-placed l = record {
  placed : ArePlaced l.placed l.counts.items;
  counts : (tag : ℕ) → count_in tag l.counts.items ≡ count_in tag l.initial.counts.items;
  len : vec_len l.counts ≡ vec_len l.initial.counts;
  capacity : vec_capacity l.counts ≡ vec_capacity l.initial.counts;
}
