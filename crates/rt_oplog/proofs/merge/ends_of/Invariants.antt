use Rattle.std.proofs.Common.{take}
use Rattle.rt_oplog.specs.Kept.{IsLogInRows}
use Rattle.rt_oplog.proofs.merge.ends_of.Given as goal

abbrev pub invariant-loop-place : goal.invariant-loop-place
invariant-loop-place l = IsLogInRows l.ops.rows (take l.place-index l.order) l.ends
