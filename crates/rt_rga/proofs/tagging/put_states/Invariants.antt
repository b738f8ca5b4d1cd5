use Rattle.std.proofs.Common.{◌≡◌, ◌-◌, ◌*◌, length, map, drop}
use Rattle.rt_store.specs.Cells.{HasRoom}
use Rattle.rt_rga.specs.Runs.{put_back_in_any}
use Rattle.rt_rga.proofs.tagging.put_states.Given as goal

abbrev pub invariant-loop-behind : goal.invariant-loop-behind
invariant-loop-behind g l = record {
  list : g.S.TextStore.list l.store ≡ map (put_back_in_any (drop (length l.runs - l.behind) l.runs)) (g.S.TextStore.list l.initial.store);
  states : g.S.TextStore.agrees l.store l.states;
  room : HasRoom (g.S.TextStore.room l.store) 0 (2 * (length l.runs - l.behind)) (length l.states.names);
}
