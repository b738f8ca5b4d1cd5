-- A walk from the root down.
use Rattle.std.proofs.Common.{◌≡◌, ℕ, zero, suc, ◌+◌, ◌-◌, ◌<◌, ◌≤◌, List, [], ◌∷◌, ◌++◌, length, take, get_or, slice_get, Some, refl, sym, ap, ◌∙◌, arith, subst}
use Rattle.rt_nodes.specs.Nodes.{entries}
use Rattle.rt_nodes.specs.declared.memory.NodeId.{NodeId}
use Rattle.rt_tree.specs.declared.node.Counts.{Counts}
use Rattle.rt_tree.specs.declared.node.Run.{Run}
use Rattle.rt_tree.specs.declared.node.Entry.{Entry}
use Rattle.rt_tree.specs.declared.node.Entry.TheVariants.{Down, Here}
use Rattle.rt_tree.specs.declared.node.CountedBy.{CountedBy}
use Rattle.rt_tree.specs.declared.node.Totals.{Totals}
use Rattle.rt_tree.specs.Shape.{Memory, Fits, IsTree, all_below, runs, runs_before, tree_runs, entry_counts, ahead, behind, level_of, sum_of}
use Rattle.rt_tree.specs.Sums.{AreFew, amount, counts_of, no_counts, plus}
use Rattle.rt_tree.specs.Walks.{IsSpot}
use Rattle.rt_tree.proofs.Around.{cut_at}
use Rattle.rt_tree.proofs.Down.{down, fits-at, low, sum-front, sum-node}
use Rattle.rt_tree.proofs.Amounts.{amount-none, amount-plus, counts-append}

-- the place that a walk looks for is in the runs below a node, so much into them
pub record Going (m : Memory) (root : ℕ) (by : CountedBy) (place id rest : ℕ) (front : Counts) : Type 0 where
  pub is : id < length m.heads
  pub low : level_of m id ≤ level_of m root
  pub at : amount by front + rest ≡ place
  pub before : front ≡ counts_of (ahead m (level_of m root - level_of m id) id)
  pub within : rest < amount by (counts_of (runs m (level_of m id) id))

-- the entry of a node to which it goes on
pub record Into (m : Memory) (by : CountedBy) (id rest : ℕ) (front : Counts) (i : ℕ) (e : Entry) (inside : ℕ) (next : Counts) : Type 0 where
  pub lt : i < length (entries m id)
  pub here : e ≡ get_or (entries m id) i e
  pub before : next ≡ plus front (sum_of (take i (entries m id)))
  pub at : amount by (sum_of (take i (entries m id))) + inside ≡ rest
  pub inside_it : inside < amount by (entry_counts e)

pub get-at : {X : Type 0} (xs : List X) (i : ℕ) (x : X) → i < length xs → x ≡ get_or xs i x → slice_get xs i ≡ Some x
get-at [] i x lt is = absurd (omega arith)
get-at (y ∷ xs) zero x lt is = ap (λ z. Some z) (sym is)
get-at (y ∷ xs) (suc i) x lt is = get-at xs i x (omega arith) is

module _ (m : Memory) (root : ℕ) (t : IsTree m root) (by : CountedBy) (place : ℕ) where
  pub begins : place < amount by (counts_of (tree_runs m root)) → Going m root by place root place no_counts
  begins within =
      let z : level_of m root - level_of m root ≡ 0 = omega arith in
      record {
        is = t.shape.root_is;
        low = omega arith;
        at = omega (arith, amount-none by);
        before = ap (λ d. counts_of (ahead m d root)) (sym z);
        within = within;
      }

  -- what stands before a node and below it is few
  pub few-node : (id rest : ℕ) (front : Counts) → Going m root by place id rest front → AreFew (counts_of (tree_runs m root)) → AreFew (plus front (sum_of (entries m id)))
  few-node id rest front g few =
      let k = level_of m id in
      let d = level_of m root - k in
      let cut = ap counts_of (cut_at m (level_of m root) root t.shape d k id g.is refl (omega (arith, g.low))) ∙ counts-append (ahead m d id) (runs m k id ++ behind m d id) ∙ ap (plus (counts_of (ahead m d id))) (counts-append (runs m k id) (behind m d id)) in
      let whole = subst AreFew cut few in
      let own = sum-node m root t id g.is in
      let P : Counts → Type 0 = λ x. AreFew (plus x (sum_of (entries m id))) in
      let Q : Counts → Type 0 = λ x. AreFew (plus (counts_of (ahead m d id)) x) in
      subst P (sym g.before) (subst Q (sym own) (record { cells = omega (arith, whole.cells); visible = omega (arith, whole.visible); newlines = omega (arith, whole.newlines) }))

  pub goes_down : (id rest : ℕ) (front : Counts) (i : ℕ) (e : Entry) (inside : ℕ) (next : Counts) (c : NodeId) (x : Totals) → Going m root by place id rest front → Into m by id rest front i e inside next → e ≡ Down c x → Going m root by place c.index inside next
  goes_down id rest front i e inside next c x g n to =
      let lo = down m root t id i e c x g.is n.lt n.here to in
      let deep : level_of m root - level_of m c.index ≡ suc (level_of m root - level_of m id) = omega (arith, lo.level, g.low) in
      let sum = sum_of (take i (entries m id)) in
      let v = ap (amount by) n.before ∙ amount-plus by front sum in
      let w = ap (amount by) lo.counts in
      record {
        is = lo.is;
        low = omega (arith, lo.level, g.low);
        at = omega (arith, v, n.at, g.at);
        before = n.before ∙ ap (λ y. plus y sum) g.before ∙ sym (lo.ahead (level_of m root - level_of m id)) ∙ ap (λ d. counts_of (ahead m d c.index)) (sym deep);
        within = omega (arith, w, n.inside_it);
      }

  pub lower : (id rest : ℕ) (front : Counts) (i : ℕ) (e : Entry) (inside : ℕ) (next : Counts) (c : NodeId) (x : Totals) → Going m root by place id rest front → Into m by id rest front i e inside next → e ≡ Down c x → level_of m id ≡ suc (level_of m c.index)
  lower id rest front i e inside next c x g n to = (down m root t id i e c x g.is n.lt n.here to).level

  in_leaf : (id rest : ℕ) (front : Counts) (i : ℕ) (e : Entry) (inside : ℕ) (next : Counts) (r : Run) → Going m root by place id rest front → Into m by id rest front i e inside next → e ≡ Here r → level_of m id ≡ 0
  in_leaf id rest front i e inside next r g n to = low m id (level_of m id) r (subst (λ (y : Entry). Fits m id (level_of m id) y) to (fits-at m root t id i e g.is n.lt n.here))

  pub front_is : (id rest : ℕ) (front : Counts) (i : ℕ) (e : Entry) (inside : ℕ) (next : Counts) (r : Run) → Going m root by place id rest front → Into m by id rest front i e inside next → e ≡ Here r → next ≡ counts_of (runs_before m root id i)
  front_is id rest front i e inside next r g n to =
      let at = in_leaf id rest front i e inside next r g n to in
      let es = take i (entries m id) in
      let top : level_of m root - 0 ≡ level_of m root = omega arith in
      n.before
      ∙ ap (λ y. plus y (sum_of es)) g.before
      ∙ ap (plus (counts_of (ahead m (level_of m root - level_of m id) id))) (sum-front m root t id i g.is)
      ∙ sym (counts-append (ahead m (level_of m root - level_of m id) id) (all_below m (level_of m id) es))
      ∙ ap (λ k. counts_of (ahead m (level_of m root - k) id ++ all_below m k es)) at
      ∙ ap (λ d. counts_of (ahead m d id ++ all_below m 0 es)) top

  pub ends : (id rest : ℕ) (front : Counts) (i : ℕ) (e : Entry) (inside : ℕ) (next : Counts) (r : Run) → Going m root by place id rest front → Into m by id rest front i e inside next → e ≡ Here r → IsSpot m root by place id i inside r
  ends id rest front i e inside next r g n to =
      let v = ap (amount by) n.before ∙ amount-plus by front (sum_of (take i (entries m id))) in
      let w = ap (amount by) (front_is id rest front i e inside next r g n to) in
      record {
        is = g.is;
        low = in_leaf id rest front i e inside next r g n to;
        here = get-at (entries m id) i e n.lt n.here ∙ ap (λ y. Some y) to;
        at = omega (arith, v, w, n.at, g.at);
        inside = subst (λ (y : Entry). inside < amount by (entry_counts y)) to n.inside_it;
      }
