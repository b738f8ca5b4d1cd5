use Rattle.std.proofs.Common.{◌≡◌, ℕ}
use Rattle.std.specs.List.{AllByRecursion}
use Rattle.rt_tree.specs.Homes.{AreOnceEach, KeepsAll, KeepsOthers}
use Rattle.rt_tree.specs.Shape.{IsTree, tree_runs}
use Rattle.rt_tree.specs.Skips.{HasCells}
use Rattle.rt_tree.specs.Standing.{HaveLeavesBelow, IsBordered}
use Rattle.rt_tree.proofs.homes.Homes.retell_new.Given as goal

-- the runs of the first nodes are told
abbrev pub invariant-loop-index : goal.invariant-loop-index
invariant-loop-index l =
    let old = l.initial.self.leaves in let new = l.self.leaves in let m = l.mem in
    record {
      told : (root : ℕ) → IsTree m root → AreOnceEach (tree_runs m root) → AllByRecursion HasCells (tree_runs m root) → AllByRecursion (IsBordered old) (tree_runs m root) → HaveLeavesBelow l.nodes m old → AllByRecursion (IsBordered new) (tree_runs m root) × HaveLeavesBelow l.index m new;
      keeps : KeepsAll old new;
      others : (root : ℕ) → IsTree m root → KeepsOthers old new (tree_runs m root);
      sure : l.self.sure ≡ l.initial.self.sure;
      left : l.self.left ≡ l.initial.self.left;
    }
