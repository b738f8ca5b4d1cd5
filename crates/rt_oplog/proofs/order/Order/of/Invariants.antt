use Rattle.std.proofs.Common.{◌≡◌, take}
use Rattle.rt_oplog.proofs.order.Order.of.Given as goal

abbrev pub invariant-loop-place : goal.invariant-loop-place
invariant-loop-place l = l.order.items ≡ take l.place-index l.places
