-- The entries of a node, as a character is reached in their runs.
use Rattle.std.proofs.Common.{◌≡◌, ℕ, suc, ◌+◌, ◌-◌, ◌<◌, ◌≤◌, Bool, false, List, [], ◌∷◌, ◌++◌, length, take, drop, get_or, sym, ap, ◌∙◌, arith, subst}
use Rattle.std.specs.Prelude.{IfSome}
use Rattle.std.specs.List.{AllByRecursion}
use Rattle.std.proofs.lemmas.List.{append-nil, take_more}
use Rattle.std.proofs.lemmas.List.Concat.{flat_map-append}
use Rattle.rt_nodes.specs.Nodes.{entries}
use Rattle.rt_nodes.specs.declared.memory.NodeId.{NodeId}
use Rattle.rt_tags.specs.States.{IsState, TagStates}
use Rattle.rt_tree.specs.declared.node.Counts.{Counts}
use Rattle.rt_tree.specs.declared.node.Entry.{Entry}
use Rattle.rt_tree.specs.declared.node.Entry.TheVariants.{Down, Here}
use Rattle.rt_tree.specs.declared.node.Run.{Run}
use Rattle.rt_tree.specs.declared.node.Totals.{Totals}
use Rattle.rt_tree.specs.declared.summary.Summary.{Summary}
use Rattle.rt_tree.specs.Reaches.{reached}
use Rattle.rt_tree.specs.Shape.{Memory, Fits, IsExact, IsTree, all_below, below, entry_counts, level_of, runs, sum_of}
use Rattle.rt_tree.specs.Summaries.{AreSummed, IsSummary, shown_states, summary_of}
use Rattle.rt_tree.specs.Sums.{AreFew, counts_of, plus}
use Rattle.rt_tree.proofs.Down.{down, each-at, fits-at, low, sum-front}
use Rattle.rt_tree.proofs.Amounts.{counts-append, counts-exact, sum-more}
use Rattle.rt_tree.proofs.Passes.{each-append, parts-at}
use Rattle.rt_tree.proofs.Reaching.{first_given, reached-append, reached-front, reached-le, shown-append, shown_here, visible}

module _ (m : Memory) (root : ℕ) (t : IsTree m root) (id : ℕ) (known : id < length m.heads) (i : ℕ) (e : Entry) (lt : i < length (entries m id)) (here : e ≡ get_or (entries m id) i e) where
  abbrev k : ℕ
  k = level_of m id

  abbrev es : List Entry
  es = entries m id

  abbrev front : List Run
  front = all_below m k (take i es)

  abbrev back : List Run
  back = all_below m k (drop (suc i) es)

  cut : runs m k id ≡ front ++ (below m k e ++ back)
  cut = ap (all_below m k) (parts-at es i e lt here) ∙ flat_map-append (below m k) (take i es) (e ∷ drop (suc i) es)

  pub visible-entry : (entry_counts e).visible ≡ visible (below m k e)
  visible-entry = ap (λ (c : Counts). c.visible) (counts-exact m k e (each-at (IsExact m k) es i e (t.totals id known) lt here))

  pub visible-front : (sum_of (take i es)).visible ≡ visible front
  visible-front = ap (λ (c : Counts). c.visible) (sum-front m root t id i known)

  pub fits-entry : visible front + (visible (below m k e) + visible back) ≡ visible (runs m k id)
  fits-entry = ap (λ (c : Counts). c.visible) (sym (ap counts_of cut ∙ counts-append front (below m k e ++ back) ∙ ap (plus (counts_of front)) (counts-append (below m k e) back)))

  -- a run is an entry of a leaf
  pub leaf-entry : (r : Run) → e ≡ Here r → level_of m id ≡ 0
  leaf-entry r to = low m id k r (subst (λ (y : Entry). Fits m id k y) to (fits-at m root t id i e known lt here))

  -- its runs count no more than all of the node's
  pub few-entry : AreFew (counts_of (runs m k id)) → AreFew (counts_of (below m k e))
  few-entry few =
      let sum = ap counts_of cut ∙ counts-append front (below m k e ++ back) ∙ ap (plus (counts_of front)) (counts-append (below m k e) back) in
      part (counts_of front) (counts_of (below m k e)) (counts_of back) (subst AreFew sum few)
    where
      part : (a b c : Counts) → AreFew (plus a (plus b c)) → AreFew b
      part a b c f = record { cells = omega (arith, f.cells); visible = omega (arith, f.visible); newlines = omega (arith, f.newlines) }

  module _ (table : TagStates) (given : AllByRecursion (IsState table) (shown_states (runs m k id))) where
    pub given-entry : AllByRecursion (IsState table) (shown_states (below m k e))
    given-entry =
        let parts : shown_states (runs m k id) ≡ shown_states front ++ (shown_states (below m k e) ++ shown_states back) =
        ap shown_states cut ∙ shown-append front (below m k e ++ back) ∙ ap (λ l. shown_states front ++ l) (shown-append (below m k e) back) in
        let rest = (each-append (IsState table) (shown_states front) (shown_states (below m k e) ++ shown_states back) (subst (AllByRecursion (IsState table)) parts given)).1 in
        (each-append (IsState table) (shown_states (below m k e)) (shown_states back) rest).0

    -- a run that is visible has a state that was given out
    pub given-run : (r : Run) → e ≡ Here r → r.gone ≡ false → IsState table r.state
    given-run r to visible_is =
        let own : shown_states (below m k e) ≡ r.state ∷ [] = ap (λ x. shown_states (below m k x)) to ∙ shown_here r [] visible_is in
        (subst (AllByRecursion (IsState table)) own given-entry).0

    -- what a node that an entry names has
    pub record Near (sums : List Summary) (c : NodeId) : Type 0 where
      pub is : c.index < length m.heads
      pub level : level_of m id ≡ suc (level_of m c.index)
      pub same : below m k e ≡ runs m (level_of m c.index) c.index
      pub states : AllByRecursion (IsState table) (shown_states (runs m (level_of m c.index) c.index))
      pub few : visible (runs m (level_of m c.index) c.index) ≤ visible (runs m k id)
      pub summed : IsSummary table (shown_states (below m k e)) (summary_of sums c.index)
      pub first : IfSome (summary_of sums c.index).first (IsState table)

    pub near : (sums : List Summary) → AreSummed table m sums → (c : NodeId) (x : Totals) → e ≡ Down c x → Near sums c
    near sums all c x to =
        let d = down m root t id i e c x known lt here to in
        let same = ap (below m k) to ∙ ap (λ n. below m n (Down c x)) d.level in
        let few = ap visible same in
        let summed = subst (λ rs. IsSummary table (shown_states rs) (summary_of sums c.index)) (sym same) (all c.index d.is) in
        record {
          is = d.is;
          level = d.level;
          same = same;
          states = subst (λ rs. AllByRecursion (IsState table) (shown_states rs)) same given-entry;
          few = omega (arith, few, fits-entry);
          summed = summed;
          first = first_given table (shown_states (below m k e)) (summary_of sums c.index) given-entry summed;
        }

  -- the kept number of visible characters is right
  pub counted : (c : NodeId) (x : Totals) → e ≡ Down c x → x.counts.visible ≡ visible (below m k e)
  counted c x to = ap (λ y. (entry_counts y).visible) (sym to) ∙ visible-entry

  module _ (test : ℕ → Bool) (from done inside number : ℕ) (counted_front : done ≡ (sum_of (take i es)).visible) (so_far : reached test from front ≡ done) (own : inside ≡ reached test (from - done) (below m k e)) (n : number ≡ (entry_counts e).visible) where
    more : (rest : List Run) → reached test from (front ++ rest) ≡ done + reached test (from - done) rest
    more rest =
        let c : done ≡ visible front = counted_front ∙ visible-front in
        reached-append test from front rest (so_far ∙ c) ∙ ap (λ x. x + reached test (from - x) rest) (sym c)

    pub stops_here : inside < number → done + inside ≡ reached test from (runs m k id)
    stops_here less =
        let f = reached-front test (from - done) (below m k e) back (omega (arith, less, own, n, visible-entry)) in
        let a = more (below m k e ++ back) in
        let c = ap (reached test from) cut in
        omega (arith, own, f, a, c)

    pub fits_more : done + inside ≤ visible (runs m k id)
    fits_more = let l = reached-le test (from - done) (below m k e) in omega (arith, own, l, counted_front, visible-front, fits-entry)

    pub goes_further : number ≤ inside → (done + inside ≡ (sum_of (take (i + 1) es)).visible) × (reached test from (all_below m k (take (i + 1) es)) ≡ done + inside)
    goes_further less =
        let l = reached-le test (from - done) (below m k e) in
        let s = ap (λ (c : Counts). c.visible) (sum-more es i e lt here) in
        let a = more (below m k e) in
        let f : reached test from (all_below m k (take (i + 1) es)) ≡ reached test from (front ++ below m k e) = ap (reached test from) all_more in
        (omega (arith, own, l, less, n, visible-entry, s, counted_front), f ∙ a ∙ ap (λ x. done + x) (sym own))
      where
        all_more : all_below m k (take (i + 1) es) ≡ all_below m k (take i es) ++ below m k e
        all_more =
            ap (all_below m k) (take_more es i e lt) ∙ flat_map-append (below m k) (take i es) (get_or es i e ∷ [])
            ∙ ap (λ x. all_below m k (take i es) ++ (below m k x ++ [])) (sym here)
            ∙ ap (λ rs. all_below m k (take i es) ++ rs) (append-nil (below m k e))
