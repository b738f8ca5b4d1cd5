use Rattle.std.proofs.Common.{◌≡◌, ℕ, ◌+◌, ◌-◌, ◌<◌, ◌∙◌, ap, arith, get_or, length, sym, take}
use Rattle.rt_nodes.specs.Nodes.{entries}
use Rattle.rt_tags.specs.Borders.{last}
use Rattle.rt_tree.specs.Changes.{kid}
use Rattle.rt_tree.specs.Shape.{all_below, level_of}
use Rattle.rt_tree.specs.Summaries.{shown_states}
use Rattle.rt_tree.proofs.Ending.{last_before, last_here}
use Rattle.rt_tree.proofs.Passes.{get-any}
use Rattle.rt_tree.proofs.summaries.before_in.Goals as goal

pub returns-then-is_some : goal.returns-then-is_some
returns-then-is_some c =
    let m = c.args.mem.now in
    let k = level_of m c.args.node.index in
    let es = entries m c.args.node.index in
    let at : ℕ = c.loop-at.at - 1 in
    let lt : at < length es = omega (arith, c.loop-at-test.true, c.loop-at.invariant.within) in
    let up : at + 1 ≡ c.loop-at.at = omega (arith, c.loop-at-test.true) in
    let e = get_or es at (kid 0) in
    let here = get-any es at (kid 0) e lt in
    last_here m k es at e lt here c.last_of-last.result (c.last_of-last.ensures e here) (sym c.is_some.ensures ∙ c.if-is_some.true)
    ∙ ap (λ n. last (shown_states (all_below m k (take n es)))) up ∙ sym c.loop-at.invariant.last

pub loop-at-preserved : goal.loop-at-preserved
loop-at-preserved c =
    let m = c.args.mem.now in
    let k = level_of m c.args.node.index in
    let es = entries m c.args.node.index in
    let at : ℕ = c.loop-at.at - 1 in
    let lt : at < length es = omega (arith, c.loop-at-test.true, c.loop-at.invariant.within) in
    let up : at + 1 ≡ c.loop-at.at = omega (arith, c.loop-at-test.true) in
    let e = get_or es at (kid 0) in
    let here = get-any es at (kid 0) e lt in
    record {
      within = omega (arith, lt);
      last = c.loop-at.invariant.last ∙ ap (λ n. last (shown_states (all_below m k (take n es)))) (sym up)
          ∙ last_before m k es at e lt here c.last_of-last.result (c.last_of-last.ensures e here) (sym c.is_some.ensures ∙ c.if-is_some.false);
    }
