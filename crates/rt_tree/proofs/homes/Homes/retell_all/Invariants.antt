use Rattle.std.proofs.Common.{◌≡◌, ℕ}
use Rattle.std.specs.List.{AllByRecursion}
use Rattle.rt_tree.specs.Homes.{AreOnceEach, KeepsAll, KeepsOthers}
use Rattle.rt_tree.specs.Shape.{IsTree, tree_runs}
use Rattle.rt_tree.specs.Skips.{HasCells}
use Rattle.rt_tree.specs.Standing.{HaveLeavesBelow, IsBordered}
use Rattle.rt_tree.proofs.Leaves.{AreToldTo}
use Rattle.rt_tree.proofs.homes.Homes.retell_all.Given as goal

-- the runs of the first entries are told
abbrev pub invariant-loop-i : goal.invariant-loop-i
invariant-loop-i l =
    let old = l.initial.self.leaves in let m = l.mem in let node = l.node.index in
    record {
      told : (root : ℕ) → IsTree m root → AreOnceEach (tree_runs m root) → AllByRecursion HasCells (tree_runs m root) → AllByRecursion (IsBordered old) (tree_runs m root) → HaveLeavesBelow node m old → AreToldTo m root node l.i l.self.leaves;
      keeps : KeepsAll old l.self.leaves;
      others : (root : ℕ) → IsTree m root → KeepsOthers old l.self.leaves (tree_runs m root);
      sure : l.self.sure ≡ l.initial.self.sure;
      left : l.self.left ≡ l.initial.self.left;
    }
