use Rattle.std.proofs.Common.{All, take}
use Rattle.std.specs.Prelude.{IfSome}
use Rattle.rt_tags.specs.States.{IsState, KeepsIds, write_at}
use Rattle.rt_rga.specs.Runs.{IsStateChange}
use Rattle.rt_rga.proofs.TagWrites.{AreWritten}
use Rattle.rt_rga.proofs.tagging.written_runs.Given as goal

abbrev pub invariant-loop-run : goal.invariant-loop-run
invariant-loop-run l = record {
  written : AreWritten l.initial.states l.states (write_at l.initial.states l.tag l.writer l.on) (take l.run-index l.runs) l.more.items;
  given : All (λ run. IsState l.states run.state) l.more.items;
  last : IfSome l.last (IsStateChange l.states (write_at l.initial.states l.tag l.writer l.on));
  ids : KeepsIds l.initial.states l.states;
}
