use Rattle.std.proofs.Common.{◌≡◌, ◌<◌, ◌≤◌, ◌+◌, length, get_or}
use Rattle.rt_oplog.specs.declared.run.Run.{Run}
use Rattle.rt_oplog.specs.Runs.{places_of, places_to}
use Rattle.rt_oplog.proofs.runs.spot_of.Given as goal

abbrev pub invariant-loop-before : goal.invariant-loop-before
invariant-loop-before l = record {
  before : l.before ≡ places_to l.runs l.run;
  runs : l.run ≤ length l.runs;
  most : l.before ≤ l.many;
  past : l.before < l.many → l.number < l.many;
  inside : l.before < l.many → (l.run < length l.runs) × ((d : Run) → l.number < l.before + length (places_of (get_or l.runs l.run d)));
}

abbrev pub decreases-loop-before : goal.decreases-loop-before
decreases-loop-before l = l.run
