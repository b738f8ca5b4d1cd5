use Rattle.std.proofs.Common.{◌≡◌}
use Rattle.rt_rga.specs.Batches.{entries_in_front}
use Rattle.rt_rga.proofs.LastWritten.{AreLeft}
use Rattle.rt_rga.proofs.plan.are_in_front.Given as goal

abbrev pub invariant-loop-at : goal.invariant-loop-at
invariant-loop-at l = record {
  left : entries_in_front l.named l.stamp ≡ l.entries → AreLeft l.named l.stamp l.entries l.at;
  all : AreLeft l.named l.stamp l.entries l.at → entries_in_front l.named l.stamp ≡ l.entries;
}
