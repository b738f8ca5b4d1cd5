-- A walk from a leaf up to the root.
use Rattle.std.proofs.Common.{◌≡◌, ℕ, zero, suc, ◌-◌, ◌<◌, ◌≤◌, Bool, true, false, inl, inr, List, [], ◌∷◌, ◌++◌, length, take, drop, get_or, sym, ap, ◌∙◌, arith, subst}
use Rattle.std.proofs.lemmas.Bool.{cases_eq, eq-eqb, ne_eqb, true≢false}
use Rattle.std.proofs.lemmas.List.{take-append-drop}
use Rattle.std.proofs.lemmas.List.Concat.{flat_map-append}
use Rattle.std.specs.List.{AllByRecursion}
use Rattle.rt_nodes.specs.Nodes.{entries}
use Rattle.rt_nodes.specs.declared.memory.NodeId.{NodeId}
use Rattle.rt_tree.specs.declared.node.Totals.{Totals}
use Rattle.rt_tree.specs.declared.node.Counts.{Counts}
use Rattle.rt_tree.specs.declared.node.Entry.{Entry}
use Rattle.rt_tree.specs.declared.node.Entry.TheVariants.{Down, Here}
use Rattle.rt_tree.specs.Shape.{Memory, IsExact, IsTree, ahead, all_below, around, behind, below, child_count, entry_counts, is_of, left_of, level_of, parent_of, runs_before, sum_of, tree_runs}
use Rattle.rt_tree.specs.Sums.{AreFew, counts_of, plus}
use Rattle.rt_tree.proofs.Around.{cut_at, cut_around, test_other, test_same}
use Rattle.rt_tree.proofs.Down.{sum-front}
use Rattle.rt_tree.proofs.Amounts.{Le, counts-append, none-plus, plus_assoc, plus_comm, sum-exact}

-- what the runs before an entry of a leaf count is what stands before a node above it, and so much more
pub record Rising (m : Memory) (root leaf entry id : ℕ) (before : Counts) : Type 0 where
  pub is : id < length m.heads
  pub low : level_of m id ≤ level_of m root
  pub at : plus (counts_of (ahead m (level_of m root - level_of m id) id)) before ≡ counts_of (runs_before m root leaf entry)

clash : {X : Type 0} (b : Bool) → b ≡ true → b ≡ false → X
clash b p q = absurd (true≢false (sym p ∙ q))

left_here : (id : ℕ) (c : NodeId) (t : Totals) (es : List Entry) → c.index ≡ id → left_of id (Down c t ∷ es) ≡ []
left_here id c t es e = test_same c.index id [] (Down c t ∷ left_of id es) e

left_later : (id : ℕ) (c : NodeId) (t : Totals) (es : List Entry) → (c.index ≡ id → ⊥) → left_of id (Down c t ∷ es) ≡ Down c t ∷ left_of id es
left_later id c t es ne = test_other c.index id [] (Down c t ∷ left_of id es) ne

-- the entries before a node's end where it stands
pub hit : (id : ℕ) (es : List Entry) (i : ℕ) (e : Entry) → i ≤ length (left_of id es) → i < length es → e ≡ get_or es i e → is_of id e ≡ true → i ≡ length (left_of id es)
hit id [] i e low lt is to = absurd (omega arith)
hit id (Here r ∷ es) zero e low lt is to = clash (is_of id e) to (ap (is_of id) is)
hit id (Here r ∷ es) (suc i) e low lt is to = ap suc (hit id es i e (omega (arith, low)) (omega (arith, lt)) is to)
hit id (Down c t ∷ es) zero e low lt is to = elim (cases_eq c.index id) [
  | inl same ↦ ap (λ l. length l) (sym (left_here id c t es same))
  | inr ne ↦ clash (is_of id e) to (ap (is_of id) is ∙ ne_eqb c.index id ne)
]
hit id (Down c t ∷ es) (suc i) e low lt is to = elim (cases_eq c.index id) [
  | inl same ↦ let z = subst (λ l. suc i ≤ length l) (left_here id c t es same) low in absurd (omega (arith, z))
  | inr ne ↦ let z = subst (λ l. suc i ≤ length l) (left_later id c t es ne) low in ap suc (hit id es i e (omega (arith, z)) (omega (arith, lt)) is to) ∙ ap (λ l. length l) (sym (left_later id c t es ne))
]

abbrev Within : List Entry → ℕ → Entry → Type 0
Within ls i e = (i < length ls) × (e ≡ get_or ls i e)

-- an entry that isn't a node's stands before it
pub miss : (id : ℕ) (es : List Entry) (i : ℕ) (e : Entry) → i ≤ length (left_of id es) → i < length es → e ≡ get_or es i e → is_of id e ≡ false → Within (left_of id es) i e
miss id [] i e low lt is to = absurd (omega arith)
miss id (Here r ∷ es) zero e low lt is to = (omega arith, is)
miss id (Here r ∷ es) (suc i) e low lt is to = let more = miss id es i e (omega (arith, low)) (omega (arith, lt)) is to in (omega (arith, more.0), more.1)
miss id (Down c t ∷ es) zero e low lt is to = elim (cases_eq c.index id) [
  | inl same ↦ clash (is_of id e) (ap (is_of id) is ∙ eq-eqb c.index id same) to
  | inr ne ↦ subst (λ ls. Within ls 0 e) (sym (left_later id c t es ne)) (omega arith, is)
]
miss id (Down c t ∷ es) (suc i) e low lt is to = elim (cases_eq c.index id) [
  | inl same ↦ let z = subst (λ l. suc i ≤ length l) (left_here id c t es same) low in absurd (omega (arith, z))
  | inr ne ↦
      let z = subst (λ l. suc i ≤ length l) (left_later id c t es ne) low in
      let more = miss id es i e (omega (arith, z)) (omega (arith, lt)) is to in
      subst (λ ls. Within ls (suc i) e) (sym (left_later id c t es ne)) (omega (arith, more.0), more.1)
]

pub shorter : (id : ℕ) (es : List Entry) → 0 < child_count id es → length (left_of id es) < length es
shorter id [] some = absurd (omega arith)
shorter id (Here r ∷ es) some = let less = shorter id es some in omega (arith, less)
shorter id (Down c t ∷ es) some = elim (cases_eq c.index id) [
  | inl same ↦ subst (λ l. length l < suc (length es)) (sym (left_here id c t es same)) (omega arith)
  | inr ne ↦
      let other = test_other {X = ℕ} c.index id 1 0 ne in
      let less = shorter id es (omega (arith, some, other)) in
      subst (λ l. length l < suc (length es)) (sym (left_later id c t es ne)) (omega (arith, less))
]

le-first : (es : List Entry) (i n : ℕ) (e : Entry) → i < n → i < length es → e ≡ get_or es i e → Le (plus (sum_of (take i es)) (entry_counts e)) (sum_of (take n es))
le-first [] i n e low lt is = absurd (omega arith)
le-first (x ∷ es) i zero e low lt is = absurd (omega arith)
le-first (x ∷ es) zero (suc n) e low lt is =
    let cells = ap (λ (y : Entry). (entry_counts y).cells) is in
    let visible = ap (λ (y : Entry). (entry_counts y).visible) is in
    let newlines = ap (λ (y : Entry). (entry_counts y).newlines) is in
    record { cells = omega (arith, cells); visible = omega (arith, visible); newlines = omega (arith, newlines) }
le-first (x ∷ es) (suc i) (suc n) e low lt is =
    let le = le-first es i n e (omega (arith, low)) (omega (arith, lt)) is in
    record { cells = omega (arith, le.cells); visible = omega (arith, le.visible); newlines = omega (arith, le.newlines) }

-- the first entries and the next are few where more of the first ones are
pub few-first : (es : List Entry) (i n : ℕ) (e : Entry) → i < n → i < length es → e ≡ get_or es i e → AreFew (sum_of (take n es)) → AreFew (plus (sum_of (take i es)) (entry_counts e))
few-first es i n e low lt is few = let le = le-first es i n e low lt is in record { cells = omega (arith, le.cells, few.cells); visible = omega (arith, le.visible, few.visible); newlines = omega (arith, le.newlines, few.newlines) }

-- parts of few are few
pub few-right : (a b : Counts) → AreFew (plus a b) → AreFew b
few-right a b few = record { cells = omega (arith, few.cells); visible = omega (arith, few.visible); newlines = omega (arith, few.newlines) }

module _ {X : Type 0} (P : X → Type 0) where
  each-front : (xs ys : List X) → AllByRecursion P (xs ++ ys) → AllByRecursion P xs
  each-front [] ys all = tt
  each-front (x ∷ xs) ys all = (all.0, each-front xs ys all.1)

module _ (m : Memory) (root : ℕ) (t : IsTree m root) where
  -- the runs before a place of a leaf are few where all are
  pub few-before : (leaf i : ℕ) → leaf < length m.heads → level_of m leaf ≡ 0 → AreFew (counts_of (tree_runs m root)) → AreFew (counts_of (runs_before m root leaf i))
  few-before leaf i is low few =
      let top = level_of m root in
      let es = entries m leaf in
      let front = all_below m 0 (take i es) in
      let back = all_below m 0 (drop i es) in
      let all = ap (all_below m 0) (sym (take-append-drop i es)) ∙ flat_map-append (below m 0) (take i es) (drop i es) in
      let cut = cut_at m (level_of m root) root t.shape top 0 leaf is low (omega arith) ∙ ap (λ l. ahead m top leaf ++ (l ++ behind m top leaf)) all in
      let a = counts_of (ahead m top leaf) in
      let sum = ap counts_of cut ∙ counts-append (ahead m top leaf) ((front ++ back) ++ behind m top leaf) ∙ ap (plus a) (counts-append (front ++ back) (behind m top leaf) ∙ ap (λ c. plus c (counts_of (behind m top leaf))) (counts-append front back)) in
      let f = subst AreFew sum few in
      subst AreFew (sym (counts-append (ahead m top leaf) front)) (record { cells = omega (arith, f.cells); visible = omega (arith, f.visible); newlines = omega (arith, f.newlines) })

  pub few-own : (leaf i : ℕ) → leaf < length m.heads → level_of m leaf ≡ 0 → AreFew (counts_of (tree_runs m root)) → AreFew (sum_of (take i (entries m leaf)))
  few-own leaf i is low few =
      let es = take i (entries m leaf) in
      let f = few-right _ _ (subst AreFew (counts-append (ahead m (level_of m root) leaf) (all_below m 0 es)) (few-before leaf i is low few)) in
      subst AreFew (sym (sum-front m root t leaf i is ∙ ap (λ k. counts_of (all_below m k es)) low)) f

  -- the first entries of a leaf
  pub sets_out : (leaf i : ℕ) → leaf < length m.heads → level_of m leaf ≡ 0 → (before : Counts) → before ≡ sum_of (take i (entries m leaf)) → Rising m root leaf i leaf before
  sets_out leaf i is low before own =
      let top = level_of m root in
      let es = take i (entries m leaf) in
      let sum = own ∙ sum-front m root t leaf i is ∙ ap (λ k. counts_of (all_below m k es)) low in
      let depth : top - level_of m leaf ≡ top = omega (arith, low) in
      record {
        is = is;
        low = omega (arith, low);
        at = ap (λ d. plus (counts_of (ahead m d leaf)) before) depth ∙ ap (plus (counts_of (ahead m top leaf))) sum ∙ sym (counts-append (ahead m top leaf) (all_below m 0 es));
      }

  -- the entries before a node in its parent add up to their runs
  sum-left : (id : ℕ) → id < length m.heads → (id ≡ root → ⊥) → sum_of (left_of id (around m id)) ≡ counts_of (all_below m (level_of m (parent_of m id)) (left_of id (around m id)))
  sum-left id is other =
      let kn = t.shape.known id is other in
      let k = level_of m (parent_of m id) in
      let cut = cut_around id (around m id) (omega (arith, kn.once)) in
      sum-exact m k (left_of id (around m id)) (each-front (IsExact m k) (left_of id (around m id)) _ (subst (AllByRecursion (IsExact m k)) cut.is (t.totals (parent_of m id) kn.is)))

  -- one level up
  above-sum : (leaf i id : ℕ) (before : Counts) → Rising m root leaf i id before → (id ≡ root → ⊥)
      → plus (counts_of (ahead m (level_of m root - level_of m (parent_of m id)) (parent_of m id))) (plus before (sum_of (left_of id (around m id)))) ≡ counts_of (runs_before m root leaf i)
  above-sum leaf i id before r other =
      let kn = t.shape.known id r.is other in
      let p = parent_of m id in
      let d = level_of m root - level_of m p in
      let most = t.shape.low p kn.is in
      let deep : level_of m root - level_of m id ≡ suc d = omega (arith, kn.up, most) in
      let left = left_of id (around m id) in
      let a = counts_of (ahead m d p) in
      let l = sum_of left in
      let split = ap (λ n. counts_of (ahead m n id)) deep ∙ counts-append (ahead m d p) (all_below m (level_of m p) left) ∙ ap (plus a) (sym (sum-left id r.is other)) in
      ap (plus a) (plus_comm before l) ∙ sym (plus_assoc a l before) ∙ ap (λ c. plus c before) (sym split) ∙ r.at

  pub goes_up : (leaf i id : ℕ) (before next : Counts) → Rising m root leaf i id before → (id ≡ root → ⊥) → next ≡ plus before (sum_of (left_of id (around m id))) → Rising m root leaf i (parent_of m id) next
  goes_up leaf i id before next r other is =
      let kn = t.shape.known id r.is other in
      record {
        is = kn.is;
        low = t.shape.low (parent_of m id) kn.is;
        at = ap (plus (counts_of (ahead m (level_of m root - level_of m (parent_of m id)) (parent_of m id)))) is ∙ above-sum leaf i id before r other;
      }

  pub few-above : (leaf i id : ℕ) (before : Counts) → Rising m root leaf i id before → (id ≡ root → ⊥) → AreFew (counts_of (runs_before m root leaf i)) → AreFew (plus before (sum_of (left_of id (around m id))))
  few-above leaf i id before r other few = few-right _ _ (subst AreFew (sym (above-sum leaf i id before r other)) few)

  -- at the root nothing stands before it
  pub arrives : (leaf i id : ℕ) (before : Counts) → Rising m root leaf i id before → id ≡ root → before ≡ counts_of (runs_before m root leaf i)
  arrives leaf i id before r at =
      let none : level_of m root - level_of m id ≡ 0 = let h = ap (level_of m) at in omega (arith, h) in
      sym (none-plus before) ∙ ap (λ d. plus (counts_of (ahead m d id)) before) (sym none) ∙ r.at
