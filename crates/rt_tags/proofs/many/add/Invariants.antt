use Rattle.std.proofs.Common.{◌≡◌, ℕ, ◌+◌, ◌≤◌, drop, length, take, vec_capacity}
use Rattle.rt_tags.specs.ManyCounts.{ArePlaced}
use Rattle.rt_tags.specs.Toggles.{count_in, more_tags}
use Rattle.rt_tags.proofs.many.add.Given as goal

abbrev pub invariant-loop-c : goal.invariant-loop-c
invariant-loop-c l = record {
  placed : ArePlaced l.ordered l.counts.items;
  counts : (t : ℕ) → count_in t l.counts.items + count_in t (drop l.c-index l.others) ≡ count_in t l.initial.counts.items + count_in t l.others;
  first : (t : ℕ) → count_in t l.initial.counts.items ≤ count_in t (take l.ordered l.counts.items);
  tags : length l.counts.items + more_tags (drop l.c-index l.others) l.initial.counts.items ≤ length l.initial.counts.items + more_tags l.others l.initial.counts.items;
  capacity : vec_capacity l.counts ≡ vec_capacity l.initial.counts;
}
