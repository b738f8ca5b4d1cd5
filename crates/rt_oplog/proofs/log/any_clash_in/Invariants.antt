use Rattle.rt_rows.specs.Places.{op_at}
use Rattle.std.proofs.Common.{◌≡◌, drop}
use Rattle.std.specs.List.{list_any}
use Rattle.rt_oplog.specs.Logs.{clash}
use Rattle.rt_oplog.specs.Blocks.{places_in_blocks}
use Rattle.rt_oplog.proofs.log.any_clash_in.Given as goal

abbrev pub invariant-loop-block : goal.invariant-loop-block
invariant-loop-block l = list_any (λ place. clash l.op (op_at l.ops.rows place)) (places_in_blocks (drop l.block-index l.blocks)) ≡ list_any (λ place. clash l.op (op_at l.ops.rows place)) (places_in_blocks l.blocks)
