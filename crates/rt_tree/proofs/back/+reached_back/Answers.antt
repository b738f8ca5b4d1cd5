use Rattle.std.proofs.Common.{◌≡◌, ℕ, ◌+◌, ◌-◌, ◌<◌, ◌++◌, arith, get_or, length, sym, take, ap, ◌∙◌, subst}
use Rattle.std.specs.Prelude.{IfSome}
use Rattle.rt_nodes.specs.Nodes.{entries}
use Rattle.rt_tags.specs.States.{IsState}
use Rattle.rt_tree.specs.declared.node.Counts.{Counts}
use Rattle.rt_tree.specs.declared.summary.Summary.{Summary}
use Rattle.rt_tree.specs.Reaches.{reached_back}
use Rattle.rt_tree.specs.Shape.{all_below, below, level_of, sum_of}
use Rattle.rt_tree.specs.Summaries.{IsSummary, no_summary, shown_states, summary_of, tagged_as}
use Rattle.rt_tree.specs.Sums.{AreFew, counts_of}
use Rattle.rt_tree.proofs.Down.{sum-node}
use Rattle.rt_tree.proofs.Nearing.{few-entry, given-run, near, visible-entry, visible-front}
use Rattle.rt_tree.proofs.Amounts.{sum-more}
use Rattle.rt_tree.proofs.Passes.{get-any}
use Rattle.rt_tree.proofs.Reaching.{visible}
use Rattle.rt_tree.proofs.Returning.{back-le, found_behind, more_below, none_behind}
use Rattle.rt_tree.proofs.back.+reached_back.Goals as goal

pub entry_back-run_back-requires-clause-state : goal.entry_back-run_back-requires-clause-state
entry_back-run_back-requires-clause-state t c shown =
    let a = c.args in
    given-run a.mem.now a.root.index c.requires.tree a.node.index c.requires.node.0 a.i c.read_entry.result c.requires.within c.read_entry.ensures a.search.now.states.now c.requires.given c.in-Here.run' c.in-Here.is shown

pub entry_back-is_before-requires-clause-state : goal.entry_back-is_before-requires-clause-state
entry_back-is_before-requires-clause-state t c =
    let a = c.args in
    let child = c.in-Down.child in
    let d = near a.mem.now a.root.index c.requires.tree a.node.index c.requires.node.0 a.i c.read_entry.result c.requires.within c.read_entry.ensures a.search.now.states.now c.requires.given a.search.now.sums.now c.requires.sums child c.in-Down.field-1 c.in-Down.is in
    let kept : get_or a.search.now.sums.now child.index c.index-search-child.result ≡ summary_of a.search.now.sums.now child.index = get-any a.search.now.sums.now child.index c.index-search-child.result no_summary (omega (arith, d.is, c.requires.many)) in
    subst (λ (s : Summary). IfSome s.first (IsState a.search.now.states.now)) (sym kept) d.first

pub entry_back-reached_back-requires : goal.entry_back-reached_back-requires
entry_back-reached_back-requires t c =
    let a = c.args in
    let child = c.in-Down.child in
    let m = a.mem.now in
    let d = near m a.root.index c.requires.tree a.node.index c.requires.node.0 a.i c.read_entry.result c.requires.within c.read_entry.ensures a.search.now.states.now c.requires.given a.search.now.sums.now c.requires.sums child c.in-Down.field-1 c.in-Down.is in
    let few = subst (λ rs. AreFew (counts_of rs)) d.same (few-entry m a.root.index c.requires.tree a.node.index c.requires.node.0 a.i c.read_entry.result c.requires.within c.read_entry.ensures c.requires.few) in
    (omega (arith, d.level, c.decreases), (c.requires.tree, (c.requires.sums, (c.requires.many, (c.requires.tag, ((d.is, subst (λ n. child.index < n) c.requires.tree.shape.same d.is), (d.states, few)))))))

pub entry_back-returns-then-is_before : goal.entry_back-returns-then-is_before
entry_back-returns-then-is_before t c e here =
    let a = c.args in
    let m = a.mem.now in
    let own = c.read_entry.result in
    let child = c.in-Down.child in
    let k = level_of m a.node.index in
    let test = tagged_as a.search.now.states.now a.search.now.wanted.tag a.search.now.wanted.on in
    let d = near m a.root.index c.requires.tree a.node.index c.requires.node.0 a.i own c.requires.within c.read_entry.ensures a.search.now.states.now c.requires.given a.search.now.sums.now c.requires.sums child c.in-Down.field-1 c.in-Down.is in
    let kept : get_or a.search.now.sums.now child.index c.index-search-child.result ≡ summary_of a.search.now.sums.now child.index = get-any a.search.now.sums.now child.index c.index-search-child.result no_summary (omega (arith, d.is, c.requires.many)) in
    let to : e ≡ own = here ∙ get-any (entries m a.node.index) a.i e own c.requires.within ∙ sym c.read_entry.ensures in
    let told = c.is_before.ensures (below m k own) (subst (IsSummary a.search.now.states.now (shown_states (below m k own))) (sym kept) d.summed) c.if-is_before.true in
    sym (ap (λ x. reached_back test a.upto (below m k x)) to ∙ told)

pub reached_back-sum_of-left-requires-clause-few : goal.reached_back-sum_of-left-requires-clause-few
reached_back-sum_of-left-requires-clause-few t c =
    subst AreFew (sym (sum-node c.args.mem.now c.args.root.index c.requires.tree c.args.node.index c.requires.node.0)) c.requires.few

pub reached_back-overflow_sub-left : goal.reached_back-overflow_sub-left
reached_back-overflow_sub-left t c =
    let a = c.args in
    let m = a.mem.now in
    let k = level_of m a.node.index in
    let es = entries m a.node.index in
    let test = tagged_as a.search.now.states.now a.search.now.wanted.tag a.search.now.wanted.on in
    let at : ℕ = c.loop-i.i - 1 in
    let e = c.entry.result.now in
    let lt : at < length es = omega (arith, c.loop-i-test.true, c.loop-i.invariant.within) in
    let up : at + 1 ≡ c.loop-i.i = omega (arith, c.loop-i-test.true) in
    let s = ap (λ (x : Counts). x.visible) (sum-more es at e lt c.entry.ensures) in
    let u = ap (λ n. (sum_of (take n es)).visible) up in
    let ce = ap (λ (x : Counts). x.visible) c.entry_counts.ensures in
    let w = c.loop-i.invariant.left in
    omega (arith, s, u, ce, w)

pub reached_back-overflow_add-result : goal.reached_back-overflow_add-result
reached_back-overflow_add-result t c =
    let a = c.args in
    let m = a.mem.now in
    let k = level_of m a.node.index in
    let es = entries m a.node.index in
    let test = tagged_as a.search.now.states.now a.search.now.wanted.tag a.search.now.wanted.on in
    let at : ℕ = c.loop-i.i - 1 in
    let e = c.entry.result.now in
    let lt : at < length es = omega (arith, c.loop-i-test.true, c.loop-i.invariant.within) in
    let up : at + 1 ≡ c.loop-i.i = omega (arith, c.loop-i-test.true) in
    let s = ap (λ (x : Counts). x.visible) (sum-more es at e lt c.entry.ensures) in
    let u = ap (λ n. (sum_of (take n es)).visible) up in
    let ce = ap (λ (x : Counts). x.visible) c.entry_counts.ensures in
    let w = c.loop-i.invariant.left in
    let v = visible-front m a.root.index c.requires.tree a.node.index c.requires.node.0 at e lt c.entry.ensures in
    let front = all_below m k (take at es) in
    let own = below m k e in
    let left : ℕ = c.loop-i.left - c.entry_counts.result.visible in
    let front_is : left ≡ visible front = omega (arith, s, u, ce, w, v) in
    let inside = c.entry_back-inside.ensures e c.entry.ensures ∙ ap (λ n. reached_back test n own) (c.saturating_sub-before.ensures ∙ ap (λ n. a.upto - n) front_is) in
    let parts : all_below m k (take c.loop-i.i es) ≡ front ++ own = ap (λ n. all_below m k (take n es)) (sym up) ∙ more_below m k es at e lt c.entry.ensures in
    let le = back-le test (a.upto - visible front) own in
    let ve = visible-entry m a.root.index c.requires.tree a.node.index c.requires.node.0 at e lt c.entry.ensures in
    omega (arith, s, u, ce, w, inside, le, ve, c.loop-i.auto.left-fits)

pub reached_back-returns-then-inside-gt0 : goal.reached_back-returns-then-inside-gt0
reached_back-returns-then-inside-gt0 t c =
    let a = c.args in
    let m = a.mem.now in
    let k = level_of m a.node.index in
    let es = entries m a.node.index in
    let test = tagged_as a.search.now.states.now a.search.now.wanted.tag a.search.now.wanted.on in
    let at : ℕ = c.loop-i.i - 1 in
    let e = c.entry.result.now in
    let lt : at < length es = omega (arith, c.loop-i-test.true, c.loop-i.invariant.within) in
    let up : at + 1 ≡ c.loop-i.i = omega (arith, c.loop-i-test.true) in
    let s = ap (λ (x : Counts). x.visible) (sum-more es at e lt c.entry.ensures) in
    let u = ap (λ n. (sum_of (take n es)).visible) up in
    let ce = ap (λ (x : Counts). x.visible) c.entry_counts.ensures in
    let w = c.loop-i.invariant.left in
    let v = visible-front m a.root.index c.requires.tree a.node.index c.requires.node.0 at e lt c.entry.ensures in
    let front = all_below m k (take at es) in
    let own = below m k e in
    let left : ℕ = c.loop-i.left - c.entry_counts.result.visible in
    let front_is : left ≡ visible front = omega (arith, s, u, ce, w, v) in
    let inside = c.entry_back-inside.ensures e c.entry.ensures ∙ ap (λ n. reached_back test n own) (c.saturating_sub-before.ensures ∙ ap (λ n. a.upto - n) front_is) in
    let parts : all_below m k (take c.loop-i.i es) ≡ front ++ own = ap (λ n. all_below m k (take n es)) (sym up) ∙ more_below m k es at e lt c.entry.ensures in
    ap (λ n. n + c.entry_back-inside.result) front_is
    ∙ sym (c.loop-i.invariant.back ∙ ap (reached_back test a.upto) parts ∙ found_behind test a.upto front own c.entry_back-inside.result inside c.if-inside-gt0.true)

pub reached_back-loop-i-preserved : goal.reached_back-loop-i-preserved
reached_back-loop-i-preserved t c =
    let a = c.args in
    let m = a.mem.now in
    let k = level_of m a.node.index in
    let es = entries m a.node.index in
    let test = tagged_as a.search.now.states.now a.search.now.wanted.tag a.search.now.wanted.on in
    let at : ℕ = c.loop-i.i - 1 in
    let e = c.entry.result.now in
    let lt : at < length es = omega (arith, c.loop-i-test.true, c.loop-i.invariant.within) in
    let up : at + 1 ≡ c.loop-i.i = omega (arith, c.loop-i-test.true) in
    let s = ap (λ (x : Counts). x.visible) (sum-more es at e lt c.entry.ensures) in
    let u = ap (λ n. (sum_of (take n es)).visible) up in
    let ce = ap (λ (x : Counts). x.visible) c.entry_counts.ensures in
    let w = c.loop-i.invariant.left in
    let v = visible-front m a.root.index c.requires.tree a.node.index c.requires.node.0 at e lt c.entry.ensures in
    let front = all_below m k (take at es) in
    let own = below m k e in
    let left : ℕ = c.loop-i.left - c.entry_counts.result.visible in
    let front_is : left ≡ visible front = omega (arith, s, u, ce, w, v) in
    let inside = c.entry_back-inside.ensures e c.entry.ensures ∙ ap (λ n. reached_back test n own) (c.saturating_sub-before.ensures ∙ ap (λ n. a.upto - n) front_is) in
    let parts : all_below m k (take c.loop-i.i es) ≡ front ++ own = ap (λ n. all_below m k (take n es)) (sym up) ∙ more_below m k es at e lt c.entry.ensures in
    record {
      within = omega (arith, lt);
      left = (let z : left ≡ (sum_of (take at es)).visible = omega (arith, s, u, ce, w) in z);
      back = c.loop-i.invariant.back ∙ ap (reached_back test a.upto) parts ∙ none_behind test a.upto front own c.entry_back-inside.result inside (omega (arith, c.if-inside-gt0.false));
    }
