use Rattle.std.proofs.Common.{◌≡◌, ◌-◌, ◌*◌, length, map, drop}
use Rattle.rt_store.specs.Cells.{HasRoom, Spends}
use Rattle.rt_store.specs.Spans.{gone_in_any}
use Rattle.rt_rga.proofs.edits.set_all_gone.Given as goal

abbrev pub invariant-loop-span : goal.invariant-loop-span
invariant-loop-span g l = record {
  list : map (gone_in_any (drop l.span-index l.spans)) (g.S.TextStore.list l.store) ≡ map (gone_in_any l.spans) (g.S.TextStore.list l.initial.store);
  states : g.S.TextStore.agrees l.store l.states;
  room : HasRoom (g.S.TextStore.room l.store) 0 (2 * (length l.spans - l.span-index)) (length l.states.names);
  spent : Spends (g.S.TextStore.room l.initial.store) (g.S.TextStore.room l.store) 0 (2 * l.span-index);
}
