use Rattle.std.proofs.Common.{◌≡◌, ◌++◌, map, drop, take, vec_len, vec_capacity}
use Rattle.rt_tags.specs.ManyCounts.{lessened}
use Rattle.rt_tags.proofs.many.lessen.Given as goal

abbrev pub invariant-loop-i : goal.invariant-loop-i
invariant-loop-i l = record {
  items : l.counts.items ≡ map (lessened l.others) (take l.i l.initial.counts.items) ++ drop l.i l.initial.counts.items;
  len : vec_len l.counts ≡ vec_len l.initial.counts;
  capacity : vec_capacity l.counts ≡ vec_capacity l.initial.counts;
}
