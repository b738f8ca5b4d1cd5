use Rattle.std.proofs.Common.{◌<◌, ◌∙◌, arith, get_or, refl, subst, sym, inl}
use Rattle.rt_nodes.specs.Nodes.{entries}
use Rattle.rt_tree.specs.Changes.{kid}
use Rattle.rt_tree.specs.Shape.{level_of}
use Rattle.rt_tree.proofs.Noting.{ends_of, last_first}
use Rattle.rt_tree.proofs.Passes.{get-any}
use Rattle.rt_tree.proofs.Twice.{summed_beside}
use Rattle.rt_tree.proofs.note.note.Goals as goal

pub returns-then-is_behind-clause-summed : goal.returns-then-is_behind-clause-summed
returns-then-is_behind-clause-summed c =
    let m = c.args.mem.now in
    let x = c.args.restated.place.leaf.index in
    let i = c.args.restated.place.entry in
    let e = sym (last_first m c.args.top.height c.args.top.root.index c.requires.tree x c.requires.leaf.0 c.requires.leaf.1 i (level_of m x) c.requires.leaf.1) ∙ c.is_behind.ensures.before c.if-is_behind.true in
    let own = get_or (entries m x) i (kid 0) in
    let here = get-any (entries m x) i (kid 0) own c.requires.within in
    summed_beside c.args.states.now m c.args.each.now c.args.top.height c.args.top.root.index x i c.requires.tree c.requires.leaf.0 c.requires.leaf.1 own c.args.restated.change.from c.args.restated.change.to c.requires.within here (c.requires.shows own here)
    (c.is_behind.ensures.none c.if-is_behind.true) (inl e) c.requires.but

pub is_behind-requires-clause-node : goal.is_behind-requires-clause-node
is_behind-requires-clause-node c = (c.requires.leaf.0, subst (λ n. c.args.restated.place.leaf.index < n) c.requires.tree.same c.requires.leaf.0)

pub is_behind-requires-clause-ends : goal.is_behind-requires-clause-ends
is_behind-requires-clause-ends c =
    let m = c.args.mem.now in
    let x = c.args.restated.place.leaf.index in
    ends_of m c.args.top.height c.args.top.root.index c.requires.tree c.args.states.now c.args.each.now (level_of m x) x c.requires.many c.requires.leaf.0 refl (λ d is lower. absurd (omega (arith, lower, c.requires.leaf.1)))
