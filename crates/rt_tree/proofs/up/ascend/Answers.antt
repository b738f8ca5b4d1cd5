use Rattle.std.proofs.Common.{ap, arith, length}
use Rattle.std.proofs.lemmas.Option.{slice_get_within}
use Rattle.rt_nodes.specs.Nodes.{entries}
use Rattle.rt_tree.specs.declared.node.Entry.TheVariants.{Here}
use Rattle.rt_tree.specs.Shape.{Memory}
use Rattle.rt_tree.proofs.Rising.{few-own}
use Rattle.rt_tree.proofs.up.ascend.Goals as goal

pub stood_with-requires-clause-few : goal.stood_with-requires-clause-few
stood_with-requires-clause-few g c count =
    few-own (g.L.Looks.nodes c.args.looks.now) c.args.root.index c.requires.tree c.args.leaf.index count c.requires.leaf.0.0 c.requires.leaf.1 c.requires.few

pub rise-before-requires-clause-within : goal.rise-before-requires-clause-within
rise-before-requires-clause-within g c =
    let leaf = c.args.leaf.index in
    let within = slice_get_within (entries (g.L.Looks.nodes c.args.looks.now) leaf) c.in_ok-first.field-0.first.entry (Here c.in_ok-first.field-0.run) c.in_ok-first.ensures.some.0 in
    let same = ap (λ (m : Memory). length (entries m leaf)) c.stood_with.ensures.same in
    omega (arith, within, same)
