use Rattle.std.proofs.Common.{◌≡◌, ◌+◌, ◌≤◌, length, drop}
use Rattle.rt_store.specs.Cells.{HasRoom}
use Rattle.rt_store.specs.Tagged.{AreStates}
use Rattle.rt_rga.specs.Making.{CanAllBePut, cuts_of, kept_after}
use Rattle.rt_rga.proofs.make.put_all.Given as goal

abbrev pub invariant-loop-op : goal.invariant-loop-op
invariant-loop-op g l = record {
  list : kept_after (drop l.op-index l.ops) l.left (g.S.TextStore.list l.store) ≡ kept_after l.ops l.new (g.S.TextStore.list l.initial.store);
  put : CanAllBePut (drop l.op-index l.ops) l.left (g.S.TextStore.list l.store);
  states : g.S.TextStore.agrees l.store l.states;
  given : AreStates l.states l.left;
  room : HasRoom (g.S.TextStore.room l.store) (length l.left) (cuts_of (drop l.op-index l.ops)) (length l.states.names);
  spent : (g.S.TextStore.room l.initial.store).cuts + cuts_of (drop l.op-index l.ops) ≤ (g.S.TextStore.room l.store).cuts + cuts_of l.ops;
  tags : (g.S.TextStore.room l.initial.store).tags ≤ (g.S.TextStore.room l.store).tags;
}
