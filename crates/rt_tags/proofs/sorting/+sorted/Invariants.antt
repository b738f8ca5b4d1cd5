use Rattle.std.proofs.Common.{length}
use Rattle.rt_tags.proofs.sorting.+sorted.Given as goal

abbrev pub decreases-sorted : goal.decreases-sorted
decreases-sorted l = length l.writes.now
