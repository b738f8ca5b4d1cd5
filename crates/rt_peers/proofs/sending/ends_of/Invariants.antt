use Rattle.std.proofs.Common.{◌≡◌, ℕ, false, None, take, map}
use Rattle.std.specs.List.{list_any}
use Rattle.std.specs.BTreeMap.{get}
use Rattle.std.specs.Ordering.{nat_cmp}
use Rattle.rt_oplog.specs.Logs.{known_end}
use Rattle.rt_peers.specs.Lacking.{known_in}
use Rattle.rt_ops.specs.Views.{operation_in}
use Rattle.rt_peers.proofs.Lacking.{is_of, reached}
use Rattle.rt_peers.proofs.sending.ends_of.Given as goal

abbrev pub invariant-loop-op : goal.invariant-loop-op
invariant-loop-op l = record {
  known : (site : ℕ) → known_in l.ends site ≡ reached (map operation_in (take l.op-index l.op-items)) (known_end l.log.operations) site;
  only : (site : ℕ) → list_any (is_of site) (map operation_in (take l.op-index l.op-items)) ≡ false → get nat_cmp l.ends site ≡ None;
}
