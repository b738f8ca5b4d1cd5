use Rattle.rt_rows.specs.Places.{op_at}
use Rattle.std.proofs.Common.{◌≡◌, drop}
use Rattle.std.specs.List.{list_any}
use Rattle.rt_oplog.specs.Logs.{clash}
use Rattle.rt_oplog.specs.Runs.{places_in}
use Rattle.rt_oplog.proofs.log.any_clash.Given as goal

abbrev pub invariant-loop-run : goal.invariant-loop-run
invariant-loop-run l = list_any (λ place. clash l.op (op_at l.ops.rows place)) (places_in (drop l.run-index l.runs)) ≡ list_any (λ place. clash l.op (op_at l.ops.rows place)) (places_in l.runs)
