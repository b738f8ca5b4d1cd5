-- A run put in before another.
use Rattle.std.proofs.Common.{◌≡◌, ℕ, zero, suc, ◌+◌, ◌<◌, ◌≤◌, List, [], ◌∷◌, ◌++◌, length, take, drop, set, insert, slice_get, Some, refl, sym, ap, ◌∙◌, arith, subst, length-append, length-take}
use Rattle.std.proofs.lemmas.List.{set_split}
use Rattle.std.proofs.lemmas.List.Concat.{flat_map-append}
use Rattle.rt_nodes.specs.Nodes.{entries}
use Rattle.rt_tree.specs.declared.node.Entry.{Entry}
use Rattle.rt_tree.specs.declared.node.Entry.TheVariants.{Here}
use Rattle.rt_tree.specs.declared.node.CountedBy.TheVariants.{Cells}
use Rattle.rt_tree.specs.declared.node.Run.{Run}
use Rattle.rt_tree.specs.Changes.{AreExact, bare, links}
use Rattle.rt_tree.specs.Shape.{AreFilled, IsShape, IsTree, Memory, ahead, all_below, behind, below, level_of, runs, runs_before, tree_runs}
use Rattle.rt_tree.specs.Stretches.{IsEdge, lengths}
use Rattle.rt_tree.specs.Sums.{AreFew, counts_of, counts_of_run, plus}
use Rattle.rt_tree.specs.Walks.{IsPutAt, IsReplacedAt, IsSpot, StandsAt}
use Rattle.rt_tree.proofs.Around.{regroup}
use Rattle.rt_tree.proofs.Down.{each-take}
use Rattle.rt_tree.proofs.Edges.{stands_first}
use Rattle.rt_tree.proofs.Amounts.{Le}
use Rattle.rt_tree.proofs.NewLeaf.{IsLeafEntry, leaf-entries}
use Rattle.rt_tree.proofs.Rooms.{insert_at_end, length-leaf}
use Rattle.rt_tree.proofs.Stands.{parted, stands}
use Rattle.rt_tree.proofs.Wholes.{ahead-bare, behind-bare, flat-bare, below-bare, runs-bare, tree-exact, tree-shape, whole, whole_runs}

-- one more run adds what it counts
counts-insert : (l : List Run) (k : ℕ) (x : Run) → Le (counts_of (insert l k x)) (plus (counts_of_run x) (counts_of l))
counts-insert l zero x = record { cells = omega arith; visible = omega arith; newlines = omega arith }
counts-insert [] (suc k) x = record { cells = omega arith; visible = omega arith; newlines = omega arith }
counts-insert (y ∷ l) (suc k) x = let h = counts-insert l k x in record { cells = omega (arith, h.cells); visible = omega (arith, h.visible); newlines = omega (arith, h.newlines) }

pub few-insert : (l : List Run) (k : ℕ) (x : Run) → AreFew (plus (counts_of_run x) (counts_of l)) → AreFew (counts_of (insert l k x))
few-insert l k x few = let h = counts-insert l k x in record { cells = omega (arith, h.cells, few.cells); visible = omega (arith, h.visible, few.visible); newlines = omega (arith, h.newlines, few.newlines) }

pub few-rest : (x : Run) (l : List Run) → AreFew (plus (counts_of_run x) (counts_of l)) → AreFew (counts_of l)
few-rest x l few = record { cells = omega (arith, few.cells); visible = omega (arith, few.visible); newlines = omega (arith, few.newlines) }

pub some_entry : (es : List Entry) (i : ℕ) (e : Entry) → slice_get es i ≡ Some e → i < length es
some_entry [] i e is = cc
some_entry (x ∷ es) zero e is = omega arith
some_entry (x ∷ es) (suc i) e is = let h = some_entry es i e is in omega (arith, h)

pub spot_within : (m : Memory) (root at leaf entry offset : ℕ) (run : Run) → IsSpot m root Cells at leaf entry offset run → entry < length (entries m leaf)
spot_within m root at leaf entry offset run s = some_entry (entries m leaf) entry (Here run) s.here

module _ (m : Memory) (root : ℕ) (t : IsTree m root) where
  -- the runs before a place of a leaf, as they are numbered
  before-length : (leaf i : ℕ) → leaf < length m.heads → level_of m leaf ≡ 0 → i ≤ length (entries m leaf) → length (runs_before m root leaf i) ≡ length (ahead (bare m) (level_of m root) leaf) + i
  before-length leaf i is low le =
      let h = level_of m root in
      let front = take i (entries m leaf) in
      let all = each-take IsLeafEntry i (entries m leaf) (leaf-entries m h root (tree-shape m root t) (tree-exact m root t) leaf is low) in
      let a = length-append (ahead m h leaf) (all_below m 0 front) in
      let b = ap length (ahead-bare m h leaf) in
      let c = ap length (sym (flat-bare m 0 (below-bare m 0) front)) ∙ length-leaf (bare m) front all in
      let d = length-take i (entries m leaf) in
      omega (arith, a, b, c, d, le)

  pub puts : (leaf entry offset at : ℕ) (next run : Run) (new : List Run) → IsSpot m root Cells at leaf entry offset next → new ≡ insert (tree_runs m root) (length (ahead (bare m) (level_of m root) leaf) + entry) run → IsPutAt (tree_runs m root) new at run
  puts leaf entry offset at next run new spot is =
      let was = stands m root t Cells at leaf entry offset next (counts_of (runs_before m root leaf entry)) spot refl in
      let lt = spot_within m root at leaf entry offset next spot in
      let long = before-length leaf entry spot.is spot.low (omega (arith, lt)) in
      record {
        next = next;
        front = counts_of (runs_before m root leaf entry);
        offset = offset;
        was = was;
        is = is ∙ ap (λ l. insert l (length (ahead (bare m) (level_of m root) leaf) + entry) run) was.here ∙ insert_at_end (runs_before m root leaf entry) (next ∷ was.right) (length (ahead (bare m) (level_of m root) leaf) + entry) run long;
      }

same_front : (a b c d : List Run) → a ++ b ≡ c ++ d → length a ≡ length c → a ≡ c
same_front [] b [] d same long = refl
same_front [] b (y ∷ c) d same long = absurd (omega (arith, long))
same_front (x ∷ a) b [] d same long = absurd (omega (arith, long))
same_front (x ∷ a) b (y ∷ c) d same long =
    let head : x ≡ y = cc in
    let tail : a ++ b ≡ c ++ d = cc in
    let rest = same_front a b c d tail (omega (arith, long)) in
    λ i. head i ∷ rest i

-- a run that was put in where one begins stands at the place that it was given
pub put_spot : (m n : Memory) (root : ℕ) → IsTree m root → IsTree n root → (x i offset at : ℕ) (next run : Run) → IsSpot m root Cells at x i offset next
    → tree_runs n root ≡ insert (tree_runs m root) (length (ahead (bare m) (level_of m root) x) + i) run
    → (leaf entry : ℕ) → leaf < length n.heads → level_of n leaf ≡ 0 → slice_get (entries n leaf) entry ≡ Some (Here run)
    → length (ahead (bare n) (level_of n root) leaf) + entry ≡ length (ahead (bare m) (level_of m root) x) + i
    → IsEdge (lengths (tree_runs m root)) at → 0 < run.len → IsSpot n root Cells at leaf entry 0 run
put_spot m n root t s x i offset at next run spot is leaf entry within low here place edge some =
    let was = stands m root t Cells at x i offset next (counts_of (runs_before m root x i)) spot refl in
    let first = stands_first (tree_runs m root) next (counts_of (runs_before m root x i)) offset at was edge in
    let lt = spot_within m root at x i offset next spot in
    let long = before-length m root t x i spot.is spot.low (omega (arith, lt)) in
    let now = parted n root s leaf entry run (counts_of (runs_before n root leaf entry)) within low here refl in
    let inside = some_entry (entries n leaf) entry (Here run) here in
    let new_long = before-length n root s leaf entry within low (omega (arith, inside)) in
    let cut = is ∙ ap (λ l. insert l (length (ahead (bare m) (level_of m root) x) + i) run) was.here ∙ insert_at_end (runs_before m root x i) (next ∷ was.right) (length (ahead (bare m) (level_of m root) x) + i) run long in
    let same = same_front (runs_before n root leaf entry) (run ∷ now.right) (runs_before m root x i) (run ∷ next ∷ was.right) (sym now.here ∙ cut) (omega (arith, long, new_long, place)) in
    let count = ap (λ l. (counts_of l).cells) same in
    record {
      is = within;
      low = low;
      here = here;
      at = omega (arith, count, first.1);
      inside = some;
    }

-- what is known once the root has room
pub record IsOpened (m0 m1 : Memory) (root0 root1 height : ℕ) : Type 0 where
  pub tree : IsTree m1 root1
  pub same : tree_runs m1 root1 ≡ tree_runs m0 root0

pub opened : (m0 : Memory) (root0 height0 : ℕ) → height0 ≡ level_of m0 root0 → (m1 : Memory) (root1 height1 : ℕ) → IsShape (bare m1) height1 root1 → AreExact m1 → AreFilled m1 root1 → runs (bare m1) height1 root1 ≡ runs (bare m0) height0 root0 → IsOpened m0 m1 root0 root1 height1
opened m0 root0 height0 h m1 root1 height1 s e f same = record {
  tree = whole m1 height1 root1 s e f;
  same = whole_runs m1 height1 root1 s e f ∙ same ∙ ap (λ k. runs (bare m0) k root0) h ∙ runs-bare m0 (level_of m0 root0) root0;
}

-- another run in place of one adds at most what it counts
counts-replaced : (a : List Run) (x y : Run) (b : List Run) → Le (counts_of (a ++ x ∷ b)) (plus (counts_of_run x) (counts_of (a ++ y ∷ b)))
counts-replaced [] x y b = record { cells = omega arith; visible = omega arith; newlines = omega arith }
counts-replaced (z ∷ a) x y b = let h = counts-replaced a x y b in record { cells = omega (arith, h.cells); visible = omega (arith, h.visible); newlines = omega (arith, h.newlines) }

-- the runs of a leaf with another run in it
set-cut : (m : Memory) (es : List Entry) (i : ℕ) (r : Run) → i < length es → all_below m 0 (set es i (Here r)) ≡ all_below m 0 (take i es) ++ ((r ∷ []) ++ all_below m 0 (drop (suc i) es))
set-cut m es i r lt = ap (all_below m 0) (set_split es i (Here r) lt) ∙ flat_map-append (below m 0) (take i es) (Here r ∷ drop (suc i) es)

module _ (m : Memory) (root : ℕ) (t : IsTree m root) (leaf entry offset at : ℕ) (old run : Run) (spot : IsSpot m root Cells at leaf entry offset old) where
  abbrev top : ℕ
  top = level_of m root

  abbrev at_spot : StandsAt Cells (tree_runs m root) old (counts_of (runs_before m root leaf entry)) offset at
  at_spot = stands m root t Cells at leaf entry offset old (counts_of (runs_before m root leaf entry)) spot refl

  -- all runs with another run at a spot
  pub set_at : ahead (bare m) top leaf ++ (all_below (bare m) 0 (links (set (entries m leaf) entry (Here run))) ++ behind (bare m) top leaf) ≡ at_spot.left ++ run ∷ at_spot.right
  set_at =
      let es = entries m leaf in
      let new = set es entry (Here run) in
      let lt = spot_within m root at leaf entry offset old spot in
      let after = all_below m 0 (drop (suc entry) es) in
      ap (λ a. a ++ (all_below (bare m) 0 (links new) ++ behind (bare m) top leaf)) (ahead-bare m top leaf)
      ∙ ap (λ b. ahead m top leaf ++ (all_below (bare m) 0 (links new) ++ b)) (behind-bare m top leaf)
      ∙ ap (λ l. ahead m top leaf ++ (l ++ behind m top leaf)) (flat-bare m 0 (below-bare m 0) new ∙ set-cut m es entry run lt)
      ∙ regroup (ahead m top leaf) (all_below m 0 (take entry es)) (run ∷ []) after (behind m top leaf)

  pub few_set : AreFew (plus (counts_of_run run) (counts_of (tree_runs m root))) → AreFew (counts_of (at_spot.left ++ run ∷ at_spot.right))
  few_set few =
      let h = counts-replaced at_spot.left run old at_spot.right in
      let same = ap counts_of at_spot.here in
      let few' = subst (λ c. AreFew (plus (counts_of_run run) c)) same few in
      record { cells = omega (arith, h.cells, few'.cells); visible = omega (arith, h.visible, few'.visible); newlines = omega (arith, h.newlines, few'.newlines) }

  pub replaced : (new : List Run) → new ≡ at_spot.left ++ run ∷ at_spot.right → IsReplacedAt (tree_runs m root) new at run
  replaced new is = record {
    before = old;
    front = counts_of (runs_before m root leaf entry);
    offset = offset;
    was = at_spot;
    is = is;
  }

-- a run that stands in place of another leaves as many
pub replaced_length : (old new : List Run) (at : ℕ) (run : Run) → IsReplacedAt old new at run → length new ≡ length old
replaced_length old new at run rep =
    let is = ap (λ (l : List Run). length l) rep.is ∙ length-append rep.was.left (run ∷ rep.was.right) in
    let was = ap (λ (l : List Run). length l) rep.was.here ∙ length-append rep.was.left (rep.before ∷ rep.was.right) in
    omega (arith, is, was)
