-- A cut, and what changes need to know of runs.
use Rattle.std.proofs.Common.{◌≡◌, ℕ, zero, suc, ◌+◌, ◌-◌, ◌^◌, ◌<◌, ◌≤◌, List, [], ◌∷◌, ◌++◌, length, refl, sym, ap, ◌∙◌, arith, subst, append_assoc, length-append}
use Rattle.std.specs.List.{AllByRecursion}
use Rattle.std.proofs.Math.Nat.{pow-succ'}
use Rattle.rt_stamps.specs.declared.limits.TheConstants.{MOST_CELLS}
use Rattle.rt_tree.specs.declared.node.Counts.{Counts}
use Rattle.rt_tree.specs.declared.node.CountedBy.TheVariants.{Cells}
use Rattle.rt_tree.specs.declared.node.Run.{Run}
use Rattle.rt_tree.specs.Runs.{IsRun}
use Rattle.rt_tree.specs.Shape.{IsTree, Memory, level_of, tree_runs}
use Rattle.rt_tree.specs.Sharing.{AreParts, IsRecut}
use Rattle.rt_tree.specs.Stretches.{AreRunsOfText, IsEdge, back_of, front_of, lengths}
use Rattle.rt_tree.specs.Sums.{AreFew, counts_of, counts_of_run, plus}
use Rattle.rt_tree.specs.Walks.{IsPutAt, IsReplacedAt, StandsAt}
use Rattle.rt_tree.proofs.Edges.{counts_mid, edge_mid, edge_there, one_spot, IsSameSpot}
use Rattle.rt_tree.proofs.Filled.{full_tree}
use Rattle.rt_tree.proofs.Kept.{below_cells, one_below}
use Rattle.rt_tree.proofs.Pieces.{back_run, kept_set, recut}

pub few_all : (rs : List Run) → AreRunsOfText rs → (counts_of rs).cells ≤ MOST_CELLS → AreFew (counts_of rs)
few_all rs kept few =
    let b = below_cells kept.text rs kept.runs in
    record { cells = omega (arith, few); visible = omega (arith, few, b.visible); newlines = omega (arith, few, b.newlines) }

-- with one run more
pub few_with : (r : Run) (rs : List Run) → 0 < r.len → r.len ≤ MOST_CELLS → AreRunsOfText rs → (counts_of rs).cells ≤ MOST_CELLS → AreFew (plus (counts_of_run r) (counts_of rs))
few_with r rs some low kept few =
    let b = below_cells kept.text rs kept.runs in
    let one = one_below r.len r.gone r.newline some in
    record { cells = omega (arith, few, low); visible = omega (arith, few, low, b.visible, one.0); newlines = omega (arith, few, low, b.newlines, one.1) }

-- each run has a cell
pub runs_few : (text : List ℕ) (rs : List Run) → AllByRecursion (IsRun text) rs → length rs ≤ (counts_of rs).cells
runs_few text [] all = omega arith
runs_few text (r ∷ rs) all = let h = runs_few text rs all.1 in omega (arith, h, all.0.some)

wide : (n : ℕ) → n < 8 ^ n
wide zero = omega arith
wide (suc n) = let h = wide n in let p = pow-succ' 8 n in omega (arith, h, p)

-- a tree isn't high
pub low_tree : (m : Memory) (root : ℕ) → IsTree m root → AreRunsOfText (tree_runs m root) → (counts_of (tree_runs m root)).cells ≤ MOST_CELLS → level_of m root + 1 < 2 ^ 32
low_tree m root t kept few = of_level (level_of m root) refl where
  of_level : (n : ℕ) → level_of m root ≡ n → level_of m root + 1 < 2 ^ 32
  of_level zero e = omega (arith, e)
  of_level (suc k) e =
      let f = full_tree m root t k e in
      let w = wide (suc k) in
      let r = runs_few kept.text (tree_runs m root) kept.runs in
      omega (arith, e, f, w, r, few)

module _ (old mid : List Run) (run : Run) (front : Counts) (offset at : ℕ) (st : StandsAt Cells old run front offset at) (some : 0 < offset) (rep : IsReplacedAt old mid at (back_of offset run)) where
  left_cells : (counts_of st.left).cells + offset ≡ at
  left_cells = let f = ap (λ (c : Counts). c.cells) st.before in omega (arith, f, st.at)

  same : IsSameSpot st.left run st.right rep.was.left rep.before rep.was.right
  same =
      let f = ap (λ (c : Counts). c.cells) rep.was.before in
      one_spot st.left run st.right offset rep.was.left rep.before rep.was.right rep.offset (sym st.here ∙ rep.was.here) (omega (arith, left_cells, f, rep.was.at)) st.inside rep.was.inside

  pub mid_is : mid ≡ st.left ++ back_of offset run ∷ st.right
  mid_is = rep.is ∙ ap (λ l. l ++ back_of offset run ∷ rep.was.right) (sym same.left) ∙ ap (λ l. st.left ++ back_of offset run ∷ l) (sym same.right)

  pub mid_kept : AreRunsOfText old → AreRunsOfText mid
  mid_kept kept =
      record { text = kept.text; short = kept.short; runs = subst (AllByRecursion (IsRun kept.text)) (sym mid_is) (kept_set kept.text st.left run (back_of offset run) st.right (λ is. back_run kept.text run offset is some st.inside) (subst (AllByRecursion (IsRun kept.text)) st.here kept.runs)) }

  pub mid_cells : (counts_of mid).cells + offset ≡ (counts_of old).cells
  mid_cells =
      let a = ap (λ l. (counts_of l).cells) mid_is ∙ counts_mid st.left (back_of offset run) st.right in
      let b = ap (λ l. (counts_of l).cells) st.here ∙ counts_mid st.left run st.right in
      omega (arith, a, b, st.inside)

  pub mid_within : at - offset < (counts_of mid).cells
  mid_within =
      let a = ap (λ l. (counts_of l).cells) mid_is ∙ counts_mid st.left (back_of offset run) st.right in
      omega (arith, a, left_cells, st.inside)

  pub mid_edge : IsEdge (lengths mid) (at - offset)
  mid_edge = subst (λ l. IsEdge (lengths l) (at - offset)) (sym mid_is) (edge_there st.left (back_of offset run ∷ st.right) (at - offset) (omega (arith, left_cells)))

  module _ (new : List Run) (put : IsPutAt mid new (at - offset) (front_of offset run)) where
    again : IsSameSpot st.left (back_of offset run) st.right put.was.left put.next put.was.right
    again =
        let f = ap (λ (c : Counts). c.cells) put.was.before in
        one_spot st.left (back_of offset run) st.right 0 put.was.left put.next put.was.right put.offset (sym mid_is ∙ put.was.here) (omega (arith, left_cells, f, put.was.at)) (omega (arith, st.inside)) put.was.inside

    pub new_is : new ≡ st.left ++ front_of offset run ∷ back_of offset run ∷ st.right
    new_is =
        put.is
        ∙ ap (λ l. l ++ front_of offset run ∷ put.next ∷ put.was.right) (sym again.left)
        ∙ ap (λ (r : Run). st.left ++ front_of offset run ∷ r ∷ put.was.right) (sym again.run)
        ∙ ap (λ l. st.left ++ front_of offset run ∷ back_of offset run ∷ l) (sym again.right)

    pub new_recut : IsRecut old new
    new_recut = subst (λ l. IsRecut l new) (sym st.here) (subst (IsRecut (st.left ++ run ∷ st.right)) (sym new_is) (recut run offset st.right some st.inside st.left))

    pub new_edge : IsEdge (lengths new) at
    new_edge =
        let front_runs = st.left ++ front_of offset run ∷ [] in
        let at_front = counts_mid st.left (front_of offset run) [] in
        subst (λ l. IsEdge (lengths l) at) (append_assoc st.left (front_of offset run ∷ []) (back_of offset run ∷ st.right) ∙ sym new_is)
        (edge_there front_runs (back_of offset run ∷ st.right) at (omega (arith, at_front, left_cells)))

    pub new_length : length new ≡ length old + 1
    new_length =
        let a = ap length new_is ∙ length-append st.left (front_of offset run ∷ back_of offset run ∷ st.right) in
        let b = ap length st.here ∙ length-append st.left (run ∷ st.right) in
        omega (arith, a, b)

    -- wherever it is said to stand
    pub new_parts : AreParts old new at
    new_parts left right r k here place more less =
        let s = one_spot left r right k st.left run st.right offset (sym here ∙ st.here) (omega (arith, place, left_cells)) less st.inside in
        let e = ap (λ l. (counts_of l).cells) s.left in
        let n : offset ≡ k = omega (arith, place, left_cells, e) in
        new_is
        ∙ ap (λ l. l ++ front_of offset run ∷ back_of offset run ∷ st.right) (sym s.left)
        ∙ ap (λ (x : Run). left ++ front_of offset x ∷ back_of offset x ∷ st.right) (sym s.run)
        ∙ ap (λ l. left ++ front_of offset r ∷ back_of offset r ∷ l) (sym s.right)
        ∙ ap (λ i. left ++ front_of i r ∷ back_of i r ∷ right) n

-- where a run begins or ends none is cut
pub no_parts : (old new : List Run) (at : ℕ) → IsEdge (lengths old) at → AreParts old new at
no_parts old new at edge left right r k here place more less =
    absurd (let z = edge_mid left r right k at place less (subst (λ (l : List Run). IsEdge (lengths l) at) here edge) in omega (arith, z, more))
