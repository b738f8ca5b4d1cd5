-- Summaries once a node is cut in two.
use Rattle.std.proofs.Common.{◌≡◌, ◌≢◌, ℕ, zero, suc, ◌-◌, ◌<◌, ◌≤◌, List, ◌++◌, length, length-append, refl, sym, ap, ◌∙◌, arith, subst, inl, inr}
use Rattle.std.specs.List.{AllByRecursion}
use Rattle.std.proofs.lemmas.Bool.{cases_eq}
use Rattle.rt_nodes.specs.Nodes.{entries}
use Rattle.rt_tags.specs.States.{IsState, TagStates}
use Rattle.rt_tree.specs.declared.node.Entry.{Entry}
use Rattle.rt_tree.specs.declared.node.Entry.TheVariants.{Down, Here}
use Rattle.rt_tree.specs.declared.summary.Summary.{Summary}
use Rattle.rt_tree.specs.Changes.{AreHalves, bare}
use Rattle.rt_tree.specs.Shape.{Fits, IsShape, Memory, ahead, behind, level_of, runs}
use Rattle.rt_tree.specs.Summaries.{AreSummed, HasSummary, IsSummary, shown_states, summary_of}
use Rattle.rt_tree.proofs.Around.{cut_at}
use Rattle.rt_tree.proofs.Exact.{each-all}
use Rattle.rt_tree.proofs.Passes.{each-append}
use Rattle.rt_tree.proofs.Reaching.{shown-append}
use Rattle.rt_tree.proofs.Wholes.{runs-bare, shape-bare}

module _ (m : Memory) (height root : ℕ) (t : IsShape m height root) (id : ℕ) (is : id < length m.heads) where
  abbrev depth : ℕ
  depth = height - level_of m id

  abbrev own : List ℕ
  own = shown_states (runs m (level_of m id) id)

  own_part : shown_states (runs m height root) ≡ shown_states (ahead m depth id) ++ (own ++ shown_states (behind m depth id))
  own_part =
      let low = t.low id is in
      ap shown_states (cut_at m height root t depth (level_of m id) id is refl (omega (arith, low)))
      ∙ shown-append (ahead m depth id) (runs m (level_of m id) id ++ behind m depth id)
      ∙ ap (λ l. shown_states (ahead m depth id) ++ l) (shown-append (runs m (level_of m id) id) (behind m depth id))

  -- the states that show below a node are some of all
  pub node_all : (P : ℕ → Type 0) → AllByRecursion P (shown_states (runs m height root)) → AllByRecursion P own
  node_all P all =
      let rest = (each-append P (shown_states (ahead m depth id)) (own ++ shown_states (behind m depth id)) (subst (AllByRecursion P) own_part all)).1 in
      (each-append P own (shown_states (behind m depth id)) rest).0

  pub node_given : (table : TagStates) → AllByRecursion (IsState table) (shown_states (runs m height root)) → AllByRecursion (IsState table) own
  node_given table all = node_all (IsState table) all

  pub node_short : length own ≤ length (shown_states (runs m height root))
  node_short =
      let a = ap length own_part ∙ length-append (shown_states (ahead m depth id)) (own ++ shown_states (behind m depth id)) in
      let b = length-append own (shown_states (behind m depth id)) in
      omega (arith, a, b)

  -- where summaries are right below a node, its entries have theirs
  pub kids_of : (table : TagStates) (sums : List Summary) → length m.heads ≤ length sums
      → ((c : ℕ) → c < length m.heads → level_of m c < level_of m id → IsSummary table (shown_states (runs m (level_of m c) c)) (summary_of sums c))
      → AllByRecursion (HasSummary table m (level_of m id) sums) (entries m id)
  kids_of table sums many right = each-all (Fits m id (level_of m id)) (HasSummary table m (level_of m id) sums) (λ e f. one (level_of m id) refl e f) (entries m id) (t.fits id is)
    where
      one : (n : ℕ) → n ≡ level_of m id → (e : Entry) → Fits m id n e → HasSummary table m n sums e
      one zero same (Here r) f = tt
      one zero same (Down c ts) f = absurd f
      one (suc j) same (Here r) f = absurd f
      one (suc j) same (Down c ts) f =
          let low : level_of m c.index < level_of m id = omega (arith, f.level, same) in
          (omega (arith, f.is, many), subst (λ n. IsSummary table (shown_states (runs m n c.index)) (summary_of sums c.index)) f.level (right c.index f.is low))

abbrev pub OthersAreAsBefore : Memory → Memory → ℕ → Type 0
OthersAreAsBefore m m' n = (id : ℕ) → id < length m.heads → id ≢ n → runs (bare m') (level_of (bare m) id) id ≡ runs (bare m) (level_of (bare m) id) id

module _ (m m' : Memory) (height root n q : ℕ) (t : IsShape (bare m') height root) (h : AreHalves m m' n q) (nis : n < length m.heads) (level : level_of (bare m') q ≡ level_of (bare m) n) (same : OthersAreAsBefore m m' n) where
  old_runs : (id : ℕ) → id < length m.heads → id ≢ n → runs m' (level_of m' id) id ≡ runs m (level_of m id) id
  old_runs id is ne =
      sym (runs-bare m' (level_of m' id) id) ∙ ap (λ k. runs (bare m') k id) (h.levels id (omega (arith, is, h.new)))
      ∙ same id is ne ∙ runs-bare m (level_of m id) id

  shape : IsShape m' height root
  shape = shape-bare m' height root t

  pub n_is : n < length m'.heads
  n_is = omega (arith, nis, h.new, h.longer)

  pub q_is : q < length m'.heads
  q_is = omega (arith, h.longer)

  n_level : level_of m' n ≡ level_of m n
  n_level = h.levels n (omega (arith, nis, h.new))

  q_level : level_of m' q ≡ level_of m n
  q_level = level

  module _ (table : TagStates) (sums : List Summary) (are : AreSummed table m sums) (many : length m'.heads ≤ length sums) where
    right : (c : ℕ) → c < length m'.heads → c ≢ n → c ≢ q → IsSummary table (shown_states (runs m' (level_of m' c) c)) (summary_of sums c)
    right c is nn nq =
        let low : c < length m.heads = omega (arith, is, h.longer, h.new, nq) in
        subst (λ rs. IsSummary table (shown_states rs) (summary_of sums c)) (sym (old_runs c low nn)) (are c low)

    not_n : (c : ℕ) → level_of m' c < level_of m n → c ≢ n
    not_n c low e = absurd (let l = ap (level_of m') e in omega (arith, l, low, n_level))

    not_q : (c : ℕ) → level_of m' c < level_of m n → c ≢ q
    not_q c low e = absurd (let l = ap (level_of m') e in omega (arith, l, low, q_level))

    pub kids_front : AllByRecursion (HasSummary table m' (level_of m' n) sums) (entries m' n)
    kids_front = kids_of m' height root shape n n_is table sums many (λ c is low.
        let l : level_of m' c < level_of m n = omega (arith, low, n_level) in right c is (not_n c l) (not_q c l))

    module _ (one : List Summary) (as_long : length one ≡ length sums) (own : IsSummary table (shown_states (runs m' (level_of m' n) n)) (summary_of one n)) (others : (id : ℕ) → id ≢ n → summary_of one id ≡ summary_of sums id) where
      pub kids_back : AllByRecursion (HasSummary table m' (level_of m' q) one) (entries m' q)
      kids_back = kids_of m' height root shape q q_is table one (omega (arith, many, as_long)) (λ c is low.
          let l : level_of m' c < level_of m n = omega (arith, low, q_level) in
          subst (IsSummary table (shown_states (runs m' (level_of m' c) c))) (sym (others c (not_n c l))) (right c is (not_n c l) (not_q c l)))

      pub both_summed : (two : List Summary) → IsSummary table (shown_states (runs m' (level_of m' q) q)) (summary_of two q) → ((id : ℕ) → id ≢ q → summary_of two id ≡ summary_of one id) → AreSummed table m' two
      both_summed two second rest id is = elim (cases_eq id q) [
        | inl e ↦ subst (λ d. IsSummary table (shown_states (runs m' (level_of m' d) d)) (summary_of two d)) (sym e) second
        | inr nq ↦ subst (IsSummary table (shown_states (runs m' (level_of m' id) id))) (sym (rest id nq)) (elim (cases_eq id n) [
          | inl e ↦ subst (λ d. IsSummary table (shown_states (runs m' (level_of m' d) d)) (summary_of one d)) (sym e) own
          | inr nn ↦ subst (IsSummary table (shown_states (runs m' (level_of m' id) id))) (sym (others id nn)) (right id is nn nq)
        ])
      ]
