use Rattle.std.proofs.Common.{◌≡◌, All, List, take}
use Rattle.rt_stamps.specs.declared.stamp.Stamp.{Stamp}
use Rattle.rt_tags.specs.States.{IsTag, KeepsIds, Write, writes_at}
use Rattle.rt_tags.specs.Writers.{state_after}
use Rattle.rt_rga.specs.Batches.{entries_on, tag_writes}
use Rattle.rt_rga.proofs.plan.named_writes.Given as goal

abbrev pub invariant-loop-op : goal.invariant-loop-op
invariant-loop-op l = record {
  writes : (state : List Write) (stamp : Stamp) → state_after state (writes_at l.states (entries_on l.named.items stamp)) ≡ state_after state (tag_writes (take l.op-index l.ops) stamp);
  tags : All (λ n. IsTag l.states n.entry.tag) l.named.items;
  ids : KeepsIds l.initial.states l.states;
}
