use Rattle.std.proofs.Common.{◌≡◌, ◌+◌, drop}
use Rattle.rt_oplog.specs.Kept.{leading}
use Rattle.rt_oplog.specs.Ends.{is_of_another}
use Rattle.rt_oplog.proofs.ends.place_of.Given as goal

abbrev pub invariant-loop-at : goal.invariant-loop-at
invariant-loop-at l = leading (is_of_another l.site) l.recent ≡ l.at + leading (is_of_another l.site) (drop l.at l.recent)
