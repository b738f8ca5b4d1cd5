-- The entries of a node, as a search sees them.
use Rattle.std.proofs.Common.{◌≡◌, ℕ, suc, ◌+◌, ◌-◌, ◌<◌, ◌≤◌, ◌==◌, Bool, true, false, List, length, take, get_or, Option, Some, refl, sym, ap, ◌∙◌, arith, subst}
use Rattle.std.specs.Prelude.{IfSome, nat_lt}
use Rattle.std.specs.List.{AllByRecursion}
use Rattle.std.proofs.lemmas.Bool.{lt-ltb, ltb-true, true≢false}
use Rattle.std.proofs.lemmas.Bool.Decides.{nat_tests}
use Rattle.std.proofs.Math.Seq.{take-length}
use Rattle.rt_nodes.specs.Nodes.{entries}
use Rattle.rt_nodes.specs.declared.memory.NodeId.{NodeId}
use Rattle.rt_store.proofs.Distinct.{split}
use Rattle.rt_tags.specs.States.{IsState, TagStates}
use Rattle.rt_tree.specs.declared.node.Counts.{Counts}
use Rattle.rt_tree.specs.declared.node.Entry.{Entry}
use Rattle.rt_tree.specs.declared.node.Entry.TheVariants.{Down}
use Rattle.rt_tree.specs.declared.node.Run.{Run}
use Rattle.rt_tree.specs.declared.node.Totals.{Totals}
use Rattle.rt_tree.specs.declared.reach.Reach.{Reach}
use Rattle.rt_tree.specs.declared.summary.Summary.{Summary}
use Rattle.rt_tree.specs.Reaches.{reached}
use Rattle.rt_tree.specs.Seeks.{IsReached, Tells, entry_at, runs_at}
use Rattle.rt_tree.specs.Shape.{IsTree, Memory, all_below, entry_counts, level_of, runs, sum_of}
use Rattle.rt_tree.specs.Sights.{borders_in, first_in}
use Rattle.rt_tree.specs.Skips.{HasCells}
use Rattle.rt_tree.specs.Summaries.{AreSummed, IsSummary, shown_states, summary_of}
use Rattle.rt_tree.proofs.Down.{sum-node}
use Rattle.rt_tree.proofs.Amounts.{sum-more}
use Rattle.rt_tree.proofs.Nearing.{counted, fits-entry, goes_further, near, stops_here, visible-entry, visible-front}
use Rattle.rt_tree.proofs.Passes.{get-any, some-entry}
use Rattle.rt_tree.proofs.Reaching.{visible}
use Rattle.rt_tree.proofs.Seeking.{reaches_none, runs_are}

pub zero_is : (n : ℕ) → (n == 0) ≡ true → n ≡ 0
zero_is n e = grind (arith, nat_tests)

-- what an entry that is a node has, and a look at it told
pub record Below (m : Memory) (id i : ℕ) (table : TagStates) (sums : List Summary) (tag number : ℕ) (state : Option ℕ) (c : NodeId) (x : Totals) : Type 0 where
  pub is : c.index < length m.heads
  pub level : level_of m id ≡ suc (level_of m c.index)
  pub same : runs_at m id i ≡ runs m (level_of m c.index) c.index
  pub states : AllByRecursion (IsState table) (shown_states (runs m (level_of m c.index) c.index))
  pub few : visible (runs m (level_of m c.index) c.index) ≤ visible (runs m (level_of m id) id)
  pub first : IfSome state (IsState table)
  pub tells : Tells tag number state (summary_of sums c.index)
  pub summed : IsSummary table (shown_states (runs_at m id i)) (summary_of sums c.index)
  pub counted : x.counts.visible ≡ visible (runs_at m id i)

pub sees : (m : Memory) (root : ℕ) (t : IsTree m root) (id : ℕ) (known : id < length m.heads) (i : ℕ) (e : Entry) (lt : i < length (entries m id)) (here : e ≡ get_or (entries m id) i e)
    (table : TagStates) (given : AllByRecursion (IsState table) (shown_states (runs m (level_of m id) id))) (sums : List Summary) (all : AreSummed table m sums) (tag number : ℕ) (state : Option ℕ)
    → number ≡ borders_in sums (Some tag) e → state ≡ first_in sums (Some tag) e → (c : NodeId) (x : Totals) → e ≡ Down c x → Below m id i table sums tag number state c x
sees m root t id known i e lt here table given sums all tag number state b f c x to =
    let d = near m root t id known i e lt here table given sums all c x to in
    let are = runs_are m id i e lt here in
    let start : state ≡ (summary_of sums c.index).first = f ∙ ap (first_in sums (Some tag)) to in
    record {
      is = d.is;
      level = d.level;
      same = are ∙ d.same;
      states = d.states;
      few = d.few;
      first = subst (λ o. IfSome o (IsState table)) (sym start) d.first;
      tells = record { borders = b ∙ ap (borders_in sums (Some tag)) to; first = start };
      summed = subst (λ rs. IsSummary table (shown_states rs) (summary_of sums c.index)) (sym are) d.summed;
      counted = counted m root t id known i e lt here c x to ∙ ap visible (sym are);
    }

-- where nothing was found below, and none is there at the first character
pub not_at_start : (from : ℕ) (found : Bool) (test : ℕ → Bool) (rs : List Run) → found ≡ nat_lt (reached test from rs) (visible rs) → found ≡ false → (from ≡ 0 → reached test from rs < visible rs)
    → (from == 0) ≡ nat_lt (reached test from rs) (visible rs)
not_at_start from found test rs is off there = split (from == 0)
    (λ z. absurd (true≢false (sym (lt-ltb (reached test from rs) (visible rs) (there (zero_is from z))) ∙ sym is ∙ off)))
    (λ z. z ∙ sym off ∙ is)

module _ (m : Memory) (root : ℕ) (t : IsTree m root) (id : ℕ) (known : id < length m.heads) where
  abbrev k : ℕ
  k = level_of m id

  abbrev es : List Entry
  es = entries m id

  pub some-at : (i : ℕ) → i < length es → AllByRecursion HasCells (runs m k id) → AllByRecursion HasCells (runs_at m id i)
  some-at i lt some = some-entry m root t id known some i (entry_at m id i) lt (get-any es i _ _ lt)

  -- characters in front of an entry and below it are some of the node's
  pub fits-at : (i done more : ℕ) → i < length es → done ≡ (sum_of (take i es)).visible → more ≤ visible (runs_at m id i) → done + more ≤ visible (runs m k id)
  fits-at i done more lt front le =
      let here : entry_at m id i ≡ get_or es i (entry_at m id i) = get-any es i _ _ lt in
      let f = fits-entry m root t id known i (entry_at m id i) lt here in
      let v = visible-front m root t id known i (entry_at m id i) lt here in
      omega (arith, front, le, f, v)

  pub more-at : (i done more : ℕ) → i < length es → done ≡ (sum_of (take i es)).visible → more ≡ visible (runs_at m id i) → done + more ≡ (sum_of (take (i + 1) es)).visible
  more-at i done more lt front is =
      let here : entry_at m id i ≡ get_or es i (entry_at m id i) = get-any es i _ _ lt in
      let s = ap (λ (c : Counts). c.visible) (sum-more es i (entry_at m id i) lt here) in
      let v = visible-entry m root t id known i (entry_at m id i) lt here in
      omega (arith, front, is, s, v)

  -- all of them, once all entries were gone through
  pub all-at : (i done : ℕ) → i ≡ length es → done ≡ (sum_of (take i es)).visible → done ≡ visible (runs m k id)
  all-at i done end front =
      front ∙ ap (λ n. (sum_of (take n es)).visible) end ∙ ap (λ l. (sum_of l).visible) (take-length es) ∙ ap (λ (c : Counts). c.visible) (sum-node m root t id known)

  module _ (test : ℕ → Bool) (from : ℕ) where
    -- it is in an entry
    pub found-at : (i done inside : ℕ) (r : Reach) → i < length es → done ≡ (sum_of (take i es)).visible → reached test from (all_below m k (take i es)) ≡ done
        → IsReached test (from - done) (runs_at m id i) r → r.found ≡ true → inside ≡ done + r.place
        → (inside ≡ reached test from (runs m k id)) × (true ≡ nat_lt (reached test from (runs m k id)) (visible (runs m k id)))
    found-at i done inside r lt front so_far is yes_it in_is =
        let here : entry_at m id i ≡ get_or es i (entry_at m id i) = get-any es i _ _ lt in
        let v = visible-entry m root t id known i (entry_at m id i) lt here in
        let l = ltb-true (reached test (from - done) (runs_at m id i)) (visible (runs_at m id i)) (sym is.found ∙ yes_it) in
        let less : r.place < (entry_counts (entry_at m id i)).visible = omega (arith, is.place, l, v) in
        let at = stops_here m root t id known i (entry_at m id i) lt here test from done r.place (entry_counts (entry_at m id i)).visible front so_far is.place refl less in
        let f = fits-at i done (r.place + 1) lt front (omega (arith, less, v)) in
        let low : reached test from (runs m k id) < visible (runs m k id) = omega (arith, at, f) in
        (in_is ∙ at, sym (lt-ltb (reached test from (runs m k id)) (visible (runs m k id)) low))

    -- or behind it
    pub further-at : (i done more : ℕ) (r : Reach) → i < length es → done ≡ (sum_of (take i es)).visible → reached test from (all_below m k (take i es)) ≡ done
        → IsReached test (from - done) (runs_at m id i) r → more ≡ r.place → more ≡ visible (runs_at m id i) → reached test from (all_below m k (take (i + 1) es)) ≡ done + more
    further-at i done more r lt front so_far is place all =
        let here : entry_at m id i ≡ get_or es i (entry_at m id i) = get-any es i _ _ lt in
        let v = visible-entry m root t id known i (entry_at m id i) lt here in
        (goes_further m root t id known i (entry_at m id i) lt here test from done more (entry_counts (entry_at m id i)).visible front so_far (place ∙ is.place) refl (omega (arith, all, v))).1

    -- or in none
    pub nowhere-at : (i done : ℕ) (r : Reach) → i ≡ length es → done ≡ (sum_of (take i es)).visible → reached test from (all_below m k (take i es)) ≡ done → r.place ≡ done → r.found ≡ false
        → IsReached test from (runs m k id) r
    nowhere-at i done r end front so_far place off =
        let all = all-at i done end front in
        let last : all_below m k (take i es) ≡ runs m k id = ap (λ n. all_below m k (take n es)) end ∙ ap (all_below m k) (take-length es) in
        reaches_none test from (runs m k id) r (ap (reached test from) (sym last) ∙ so_far ∙ all) (place ∙ all) off
