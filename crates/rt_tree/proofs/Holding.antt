-- Runs that are known to stand somewhere.
use Rattle.std.proofs.Common.{◌≡◌, ℕ, zero, suc, ◌+◌, ◌<◌, List, [], ◌∷◌, ◌++◌, length, take, set, refl, sym, ap, ◌∙◌, arith, slice_get, Some}
use Rattle.std.proofs.lemmas.List.{take-map, take-set}
use Rattle.rt_nodes.specs.Nodes.{entries, with_entries}
use Rattle.rt_tree.specs.declared.node.Counts.{Counts}
use Rattle.rt_tree.specs.declared.node.Entry.{Entry}
use Rattle.rt_tree.specs.declared.node.Entry.TheVariants.{Down, Here}
use Rattle.rt_tree.specs.declared.node.CountedBy.{CountedBy}
use Rattle.rt_tree.specs.declared.node.Run.{Run}
use Rattle.rt_tree.specs.Changes.{bare, links, strip}
use Rattle.rt_tree.specs.Holds.{IsHeld}
use Rattle.rt_tree.specs.Shape.{IsShape, IsTree, Memory, ahead, all_below, below, level_of, runs_before}
use Rattle.rt_tree.specs.Sums.{amount, counts_of, counts_of_run}
use Rattle.rt_tree.specs.Walks.{IsSpot}
use Rattle.rt_tree.proofs.Bares.{bare-entries}
use Rattle.rt_tree.proofs.Frame.{ahead-same, new-at}
use Rattle.rt_tree.proofs.Wholes.{ahead-bare, tree-shape}

-- the runs of a leaf's entries are told by its links
zero_runs : (m n : Memory) (es fs : List Entry) → links es ≡ links fs → all_below m 0 es ≡ all_below n 0 fs
zero_runs m n [] [] same = refl
zero_runs m n [] (f ∷ fs) same = cc
zero_runs m n (e ∷ es) [] same = cc
zero_runs m n (e ∷ es) (f ∷ fs) same =
    let tail : links es ≡ links fs = cc in
    let head : strip e ≡ strip f = cc in
    (λ i. (one e f head) i ++ (zero_runs m n es fs tail) i) where
      one : (e f : Entry) → strip e ≡ strip f → below m 0 e ≡ below n 0 f
      one (Here r) (Here s) is = let h : r ≡ s = cc in ap (λ x. x ∷ []) h
      one (Here r) (Down c t) is = cc
      one (Down c t) (Here r) is = cc
      one (Down c t) (Down d u) is = refl

here_strip : (e : Entry) (run : Run) → strip e ≡ Here run → e ≡ Here run
here_strip (Here r) run is = is
here_strip (Down c t) run is = cc

-- what the links say of a run, the entries do
pub here_at : (es fs : List Entry) (i : ℕ) (run : Run) → links es ≡ links fs → slice_get fs i ≡ Some (Here run) → slice_get es i ≡ Some (Here run)
here_at [] [] i run same is = is
here_at [] (f ∷ fs) i run same is = cc
here_at (e ∷ es) [] i run same is = cc
here_at (e ∷ es) (f ∷ fs) zero run same is =
    let head : strip e ≡ strip f = cc in
    let f_is : f ≡ Here run = cc in
    ap (λ (x : Entry). Some x) (here_strip e run (head ∙ ap strip f_is))
here_at (e ∷ es) (f ∷ fs) (suc i) run same is = let tail : links es ≡ links fs = cc in here_at es fs i run tail is

set_here : (es : List Entry) (i : ℕ) (y b : Entry) → slice_get es i ≡ Some b → slice_get (set es i y) i ≡ Some y
set_here [] i y b is = cc
set_here (e ∷ es) zero y b is = refl
set_here (e ∷ es) (suc i) y b is = set_here es i y b is

-- a place in the run
pub held_spot : (m : Memory) (root : ℕ) (by : CountedBy) (place leaf entry offset : ℕ) (run : Run) (front : Counts) → IsHeld m root leaf entry run front → amount by front + offset ≡ place → offset < amount by (counts_of_run run) → IsSpot m root by place leaf entry offset run
held_spot m root by place leaf entry offset run front held at inside = record {
  is = held.is;
  low = held.low;
  here = held.here;
  at = let f = ap (amount by) held.before in omega (arith, f, at);
  inside = inside;
}

pub spot_held : (m : Memory) (root : ℕ) (by : CountedBy) (place leaf entry offset : ℕ) (run : Run) (front : Counts) → IsSpot m root by place leaf entry offset run → front ≡ counts_of (runs_before m root leaf entry) → IsHeld m root leaf entry run front
spot_held m root by place leaf entry offset run front spot is = record { is = spot.is; low = spot.low; here = spot.here; before = is }

module _ (m new : Memory) (root height x i : ℕ) (run before : Run) (front : Counts) (t : IsTree m root) (top : height ≡ level_of m root)
    (is : bare new ≡ with_entries (bare m) x (links (set (entries m x) i (Here run)))) (held : IsHeld m root x i before front) where
  abbrev now : List Entry
  now = set (entries m x) i (Here run)

  shape : IsShape (bare m) (level_of m root) root
  shape = tree-shape m root t

  there : links (entries new x) ≡ links now
  there = sym (bare-entries new x) ∙ ap (λ (b : Memory). entries b x) is ∙ new-at (bare m) (level_of m root) root shape x held.is (links now)

  ahead_is : ahead new (level_of new root) x ≡ ahead m (level_of m root) x
  ahead_is =
      let h = level_of m root in
      let level : level_of new root ≡ h = ap (λ (b : Memory). level_of b root) is in
      ap (λ k. ahead new k x) level
      ∙ sym (ahead-bare new h x)
      ∙ ap (λ (b : Memory). ahead b h x) is
      ∙ ahead-same (bare m) h root shape x held.is (links now) h 0 x held.is (omega arith) (omega (arith, held.low)) refl
      ∙ ahead-bare m h x

  front_is : all_below new 0 (take i (entries new x)) ≡ all_below m 0 (take i (entries m x))
  front_is =
      let cut = sym (take-map strip i (entries new x)) ∙ ap (take i) there ∙ take-map strip i now ∙ ap links (take-set (entries m x) i (Here run)) in
      zero_runs new m (take i (entries new x)) (take i (entries m x)) cut

  -- another run in its place stands there
  pub held_set : IsHeld new root x i run front
  held_set = record {
    is = let n = ap (λ (b : Memory). length b.heads) is in omega (arith, held.is, n);
    low = ap (λ (b : Memory). level_of b x) is ∙ held.low;
    here = here_at (entries new x) now i run there (set_here (entries m x) i (Here run) (Here before) held.here);
    before = held.before ∙ ap (λ l. counts_of (l ++ all_below m 0 (take i (entries m x)))) (sym ahead_is) ∙ ap (λ l. counts_of (ahead new (level_of new root) x ++ l)) (sym front_is);
  }
