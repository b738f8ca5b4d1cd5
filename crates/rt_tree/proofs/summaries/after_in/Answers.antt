use Rattle.std.proofs.Common.{ℕ, ◌<◌, ◌∙◌, arith, get_or, length, sym}
use Rattle.rt_nodes.specs.Nodes.{entries}
use Rattle.rt_tree.specs.Changes.{kid}
use Rattle.rt_tree.specs.Shape.{level_of}
use Rattle.rt_tree.proofs.Ending.{first_behind, first_here}
use Rattle.rt_tree.proofs.Passes.{get-any}
use Rattle.rt_tree.proofs.summaries.after_in.Goals as goal

pub returns-then-is_some : goal.returns-then-is_some
returns-then-is_some c =
    let m = c.args.mem.now in
    let k = level_of m c.args.node.index in
    let es = entries m c.args.node.index in
    let at : ℕ = c.loop-at.at in
    let lt : at < length es = omega (arith, c.loop-at-test.true, c.len-at-end.ensures.value) in
    let e = get_or es at (kid 0) in
    let here = get-any es at (kid 0) e lt in
    first_here m k es at e lt here c.first_of-first.result (c.first_of-first.ensures e here) (sym c.is_some.ensures ∙ c.if-is_some.true) ∙ sym c.loop-at.invariant

pub loop-at-preserved : goal.loop-at-preserved
loop-at-preserved c =
    let m = c.args.mem.now in
    let k = level_of m c.args.node.index in
    let es = entries m c.args.node.index in
    let at : ℕ = c.loop-at.at in
    let lt : at < length es = omega (arith, c.loop-at-test.true, c.len-at-end.ensures.value) in
    let e = get_or es at (kid 0) in
    let here = get-any es at (kid 0) e lt in
    c.loop-at.invariant ∙ first_behind m k es at e lt here c.first_of-first.result (c.first_of-first.ensures e here) (sym c.is_some.ensures ∙ c.if-is_some.false)
