use Rattle.std.proofs.Common.{◌≡◌, take, map}
use Rattle.std.specs.List.{filter}
use Rattle.rt_ops.specs.Views.{operation_in}
use Rattle.rt_peers.specs.Lacking.{is_past, known_in}
use Rattle.rt_peers.proofs.sending.lacking.Given as goal

abbrev pub invariant-loop-op : goal.invariant-loop-op
invariant-loop-op l = l.ops.items ≡ filter (is_past (known_in l.ends)) (map operation_in (take l.op-index l.op-items))
