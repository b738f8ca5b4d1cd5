use Rattle.std.proofs.Common.{◌≡◌, ◌≤◌, ◌-◌, drop, take}
use Rattle.rt_store.specs.Cells.{text_of}
use Rattle.rt_tree.proofs.tree.Tree.characters.Given as goal

abbrev pub invariant-loop-done : goal.invariant-loop-done
invariant-loop-done l = record {
  within : l.done ≤ l.count;
  characters : take l.done l.buffer ≡ take l.done (drop l.place (text_of l.self.cells));
  rest : drop l.done l.buffer ≡ drop l.done l.initial.buffer;
}

abbrev pub decreases-loop-done : goal.decreases-loop-done
decreases-loop-done l = l.count - l.done
