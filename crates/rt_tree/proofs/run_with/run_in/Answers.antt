use Rattle.std.proofs.Common.{◌≡◌, ℕ, ◌<◌, Option, None, Some, length, refl, slice_get}
use Rattle.std.specs.Prelude.{IfSome}
use Rattle.rt_nodes.specs.Nodes.{entries}
use Rattle.rt_tree.specs.declared.node.Counts.{Counts}
use Rattle.rt_tree.specs.declared.node.Entry.TheVariants.{Here}
use Rattle.rt_tree.specs.declared.node.Run.{Run}
use Rattle.rt_tree.specs.Shape.{IsTree, Memory, level_of, runs_before, tree_runs}
use Rattle.rt_tree.specs.Sums.{counts_of}
use Rattle.rt_tree.specs.Walks.{IsBehind}
use Rattle.rt_tree.proofs.Stands.{parted}
use Rattle.rt_tree.proofs.run_with.run_in.Goals as goal

-- a run at an entry of a leaf stands among all runs
stands : (m : Memory) (root leaf entry : ℕ) → IsTree m root → leaf < length m.heads → level_of m leaf ≡ 0
    → (found : Option Run) → IfSome found (λ run. slice_get (entries m leaf) entry ≡ Some (Here run))
    → IfSome found (λ run. (front : Counts) × IsBehind (tree_runs m root) run front)
stands m root leaf entry t is low None h = tt
stands m root leaf entry t is low (Some run) h =
    let front : Counts = counts_of (runs_before m root leaf entry) in
    (front, parted m root t leaf entry run front is low h refl)

pub returns-clause-stands : goal.returns-clause-stands
returns-clause-stands c =
    let leaf = c.is_leaf.ensures.yes c.if-not-is_leaf.false in
    stands c.args.mem.now c.args.root.index c.args.leaf.index c.in_ok-entry.entry c.requires leaf.0.0 leaf.1 c.run_at.result c.run_at.ensures
