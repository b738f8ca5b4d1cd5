-- Summaries once a new root stands above the old one.
use Rattle.std.proofs.Common.{◌≡◌, ◌≢◌, ℕ, suc, ◌<◌, List, length, refl, sym, ap, ◌∙◌, arith, subst, inl, inr}
use Rattle.std.specs.List.{AllByRecursion}
use Rattle.std.proofs.lemmas.Bool.{cases_eq}
use Rattle.rt_nodes.specs.Nodes.{entries}
use Rattle.rt_tags.specs.States.{TagStates}
use Rattle.rt_tree.specs.declared.summary.Summary.{Summary}
use Rattle.rt_tree.specs.Changes.{AreExact, IsGrown, bare}
use Rattle.rt_tree.specs.Shape.{IsShape, Memory, level_of, runs}
use Rattle.rt_tree.specs.Summaries.{AreSummed, HasSummary, IsSummary, shown_states, summary_of}
use Rattle.rt_tree.proofs.Grows.{grown_runs, same-runs}
use Rattle.rt_tree.proofs.Wholes.{runs-bare}

module _ (m m' : Memory) (height root q : ℕ) (t : IsShape (bare m) height root) (exact : AreExact m) (g : IsGrown m m' height root q) where
  -- other nodes have the runs that they had
  old_runs : (id : ℕ) → id < q → runs m' (level_of m' id) id ≡ runs m (level_of m id) id
  old_runs id lt =
      sym (runs-bare m' (level_of m' id) id) ∙ ap (λ k. runs (bare m') k id) (g.levels id lt)
      ∙ same-runs m m' height root q t exact g (level_of m id) id lt refl ∙ runs-bare m (level_of m id) id

  root_low : root < q
  root_low = omega (arith, t.root_is, g.new)

  root_runs : runs m' height root ≡ runs m (level_of m root) root
  root_runs = ap (λ k. runs m' k root) (sym (g.levels root root_low ∙ t.top)) ∙ old_runs root root_low

  -- the new root has all runs
  pub new_runs : runs m' (level_of m' q) q ≡ runs (bare m) height root
  new_runs = sym (runs-bare m' (level_of m' q) q) ∙ ap (λ k. runs (bare m') k q) g.level ∙ grown_runs m m' height root q t exact g

  module _ (table : TagStates) (sums : List Summary) (are : AreSummed table m sums) where
    pub one_kid : q < length sums → AllByRecursion (HasSummary table m' (level_of m' q) sums) (entries m' q)
    one_kid many =
        let own = subst (λ rs. IsSummary table (shown_states rs) (summary_of sums root)) (sym root_runs) (are root t.root_is) in
        subst (λ k. AllByRecursion (HasSummary table m' k sums) (entries m' q)) (sym g.level)
        (subst (AllByRecursion (HasSummary table m' (suc height) sums)) (sym g.at_q) ((omega (arith, root_low, many), own), tt))

    pub root_summed : (now : List Summary) → IsSummary table (shown_states (runs m' (level_of m' q) q)) (summary_of now q) → ((id : ℕ) → id ≢ q → summary_of now id ≡ summary_of sums id) → AreSummed table m' now
    root_summed now own others id is = elim (cases_eq id q) [
      | inl e ↦ subst (λ d. IsSummary table (shown_states (runs m' (level_of m' d) d)) (summary_of now d)) (sym e) own
      | inr ne ↦
          let lt : id < q = omega (arith, is, g.longer, ne) in
          subst (IsSummary table (shown_states (runs m' (level_of m' id) id))) (sym (others id ne))
          (subst (λ rs. IsSummary table (shown_states rs) (summary_of sums id)) (sym (old_runs id lt)) (are id (omega (arith, lt, g.new))))
    ]
