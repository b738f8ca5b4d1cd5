use Rattle.std.proofs.Common.{◌≡◌, ◌+◌, ◌*◌, drop}
use Rattle.rt_rga.specs.Making.{cuts_of}
use Rattle.rt_rga.proofs.make.cuts.Given as goal

abbrev pub invariant-loop-op : goal.invariant-loop-op
invariant-loop-op l = l.cuts + cuts_of (drop l.op-index l.ops) ≡ cuts_of l.ops + 2 * l.runs
