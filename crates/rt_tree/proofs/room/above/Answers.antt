use Rattle.std.proofs.Common.{◌≡◌, ◌+◌, ◌<◌, suc, length, arith, sym, ap, ◌∙◌, subst}
use Rattle.rt_tree.specs.Changes.{bare, above}
use Rattle.rt_tree.specs.Shape.{parent_of}
use Rattle.rt_tree.proofs.Above.{above-is}
use Rattle.rt_tree.proofs.Raise.{length-rows}
use Rattle.rt_tree.proofs.room.above.Goals as goal

pub parent_of-at-requires : goal.parent_of-at-requires
parent_of-at-requires c =
    let m = c.args.mem.now in
    let h = above-is (bare m) c.args.height c.args.root.index c.requires.tree c.loop-i.i c.args.node.index c.requires.node (omega (arith, c.requires.levels)) in
    let is : c.loop-i.at.index < length m.heads = subst (λ x. x < length m.heads) (sym c.loop-i.invariant) h.0 in
    (is, omega (arith, is, c.requires.tree.same, length-rows m))

pub loop-i-preserved : goal.loop-i-preserved
loop-i-preserved c =
    let next : suc c.loop-i.i ≡ c.loop-i.i + 1 = omega arith in
    c.parent_of-at.ensures ∙ ap (parent_of (bare c.args.mem.now)) c.loop-i.invariant ∙ ap (λ j. above (bare c.args.mem.now) j c.args.node.index) next
