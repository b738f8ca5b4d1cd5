use Rattle.std.proofs.Common.{◌≡◌, filter, take}
use Rattle.std.specs.Prelude.{IfSome}
use Rattle.rt_tags.specs.States.{KeepsIds, write_at}
use Rattle.rt_rga.specs.NamedRuns.{changes_kept}
use Rattle.rt_rga.specs.Runs.{IsStateChange}
use Rattle.rt_rga.proofs.retagged.changed_runs.Given as goal

abbrev pub invariant-loop-run : goal.invariant-loop-run
invariant-loop-run l = record {
  changed : l.changed.items ≡ filter (λ run. changes_kept l.initial.states (write_at l.initial.states l.tag l.writer l.on) run.cell) (take l.run-index l.runs);
  last : IfSome l.last (IsStateChange l.states (write_at l.initial.states l.tag l.writer l.on));
  ids : KeepsIds l.initial.states l.states;
}
