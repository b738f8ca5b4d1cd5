use Rattle.std.proofs.Common.{◌≡◌, ◌+◌, ◌≤◌, drop, length, map, take}
use Rattle.std.specs.Prelude.{IfSome}
use Rattle.rt_store.specs.Cells.{HasRoom}
use Rattle.rt_store.specs.Shown.{shown}
use Rattle.rt_store.specs.Tagged.{AreStates}
use Rattle.rt_rga.specs.Batches.{all_put}
use Rattle.rt_rga.specs.Cells.{cells_of}
use Rattle.rt_rga.specs.Making.{CanAllBePut, cuts_of, fresh_cells, kept_after}
use Rattle.rt_rga.specs.Noted.{AreNotedOf}
use Rattle.rt_rga.proofs.noting.put_all_noting.Given as goal

-- some operations are put in, and noted; the store shows what they leave but for their Tags
abbrev pub invariant-loop-op : goal.invariant-loop-op
invariant-loop-op g l = record {
  list : kept_after (drop l.op-index l.ops) l.left (g.S.TextStore.list l.store) ≡ kept_after l.ops l.new (g.S.TextStore.list l.initial.store);
  put : CanAllBePut (drop l.op-index l.ops) l.left (g.S.TextStore.list l.store);
  states : g.S.TextStore.agrees l.store l.states;
  given : AreStates l.states l.left;
  room : HasRoom (g.S.TextStore.room l.store) (length l.left) (cuts_of (drop l.op-index l.ops)) (length l.states.names);
  spent : (g.S.TextStore.room l.initial.store).cuts + cuts_of (drop l.op-index l.ops) ≤ (g.S.TextStore.room l.store).cuts + cuts_of l.ops;
  tags : (g.S.TextStore.room l.initial.store).tags ≤ (g.S.TextStore.room l.store).tags;
  cells : map (shown l.states) (g.S.TextStore.list l.store) ≡ all_put (take l.op-index l.ops) (cells_of l.log.operations);
  fresh : map (shown l.states) l.left ≡ fresh_cells (drop l.op-index l.ops);
  many : length (g.S.TextStore.list l.store) + length l.left ≡ length (g.S.TextStore.list l.initial.store) + length l.new;
  noted : IfSome l.changes (λ changes. AreNotedOf l.log.operations (take l.op-index l.ops) changes.items);
}
