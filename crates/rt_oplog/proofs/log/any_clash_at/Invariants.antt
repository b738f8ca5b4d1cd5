use Rattle.rt_rows.specs.Places.{op_at}
use Rattle.std.proofs.Common.{◌≡◌, drop}
use Rattle.std.specs.List.{list_any}
use Rattle.rt_oplog.specs.Logs.{clash}
use Rattle.rt_oplog.specs.Runs.{places_of}
use Rattle.rt_oplog.proofs.log.any_clash_at.Given as goal

abbrev pub invariant-loop-number : goal.invariant-loop-number
invariant-loop-number l = list_any (λ place. clash l.op (op_at l.ops.rows place)) (drop l.number (places_of l.run)) ≡ list_any (λ place. clash l.op (op_at l.ops.rows place)) (places_of l.run)
