-- Where a spot stands among the runs of a tree.
use Rattle.std.proofs.Common.{◌≡◌, ℕ, zero, suc, ◌<◌, List, [], ◌∷◌, ◌++◌, length, take, drop, slice_get, Some, sym, ap, ◌∙◌, arith, append_assoc}
use Rattle.rt_nodes.specs.Nodes.{entries}
use Rattle.rt_tree.specs.declared.node.Counts.{Counts}
use Rattle.rt_tree.specs.declared.node.Entry.{Entry}
use Rattle.rt_tree.specs.declared.node.Entry.TheVariants.{Here}
use Rattle.rt_tree.specs.declared.node.CountedBy.{CountedBy}
use Rattle.rt_tree.specs.declared.node.Run.{Run}
use Rattle.rt_tree.specs.Shape.{Memory, IsTree, ahead, all_below, behind, below, level_of, runs_before, tree_runs}
use Rattle.rt_tree.specs.Sums.{amount, counts_of}
use Rattle.rt_tree.specs.Walks.{IsSpot, IsBehind, StandsAt}
use Rattle.rt_tree.proofs.Around.{cut_at, regroup}

-- the runs of a leaf around one of them
pub cut_leaf : (m : Memory) (es : List Entry) (i : ℕ) (r : Run) → slice_get es i ≡ Some (Here r) → all_below m 0 es ≡ all_below m 0 (take i es) ++ ((r ∷ []) ++ all_below m 0 (drop (suc i) es))
cut_leaf m [] i r is = cc
cut_leaf m (e ∷ es) zero r is = let h : e ≡ Here r = cc in ap (λ x. below m 0 x ++ all_below m 0 es) h
cut_leaf m (e ∷ es) (suc i) r is = ap (λ l. below m 0 e ++ l) (cut_leaf m es i r is) ∙ sym (append_assoc (below m 0 e) (all_below m 0 (take i es)) ((r ∷ []) ++ all_below m 0 (drop (suc i) es)))

-- the runs before an entry of a leaf stand before its run
abbrev pub parted : (m : Memory) (root : ℕ) → IsTree m root → (leaf entry : ℕ) (run : Run) (front : Counts) → leaf < length m.heads → level_of m leaf ≡ 0 → slice_get (entries m leaf) entry ≡ Some (Here run) → front ≡ counts_of (runs_before m root leaf entry) → IsBehind (tree_runs m root) run front
parted m root t leaf entry run front is low here counts =
    let es = entries m leaf in
    let top = level_of m root in
    let after = all_below m 0 (drop (suc entry) es) in
    record {
      left = runs_before m root leaf entry;
      right = after ++ behind m top leaf;
      here = cut_at m (level_of m root) root t.shape top 0 leaf is low (omega arith) ∙ ap (λ l. ahead m top leaf ++ (l ++ behind m top leaf)) (cut_leaf m es entry run here) ∙ regroup (ahead m top leaf) (all_below m 0 (take entry es)) (run ∷ []) after (behind m top leaf);
      before = counts;
    }

-- the run of a spot stands where the spot's place is
abbrev pub stands : (m : Memory) (root : ℕ) → IsTree m root → (by : CountedBy) (place leaf entry offset : ℕ) (run : Run) (front : Counts) → IsSpot m root by place leaf entry offset run → front ≡ counts_of (runs_before m root leaf entry) → StandsAt by (tree_runs m root) run front offset place
stands m root t by place leaf entry offset run front spot is =
    let behind_it = parted m root t leaf entry run front spot.is spot.low spot.here is in
    let count = ap (amount by) is in
    record {
      left = behind_it.left;
      right = behind_it.right;
      here = behind_it.here;
      before = behind_it.before;
      at = omega (arith, count, spot.at);
      inside = spot.inside;
    }
