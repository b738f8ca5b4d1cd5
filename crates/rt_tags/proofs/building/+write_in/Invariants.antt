use Rattle.std.proofs.Common.{◌+◌, length}
use Rattle.rt_tags.proofs.building.+write_in.Given as goal

abbrev pub decreases-write_in : goal.decreases-write_in
decreases-write_in l = l.id + length l.writes.now
