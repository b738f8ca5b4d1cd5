use Rattle.std.proofs.Common.{◌≡◌, ℕ, refl, arith, sym, ap, ◌∙◌, subst, ◌<◌, length}
use Rattle.rt_nodes.specs.Nodes.{entries}
use Rattle.rt_tree.specs.Shape.{Memory, left_of, level_of, parent_of, sum_of, child_count}
use Rattle.rt_tree.specs.Sums.{AreFew, plus}
use Rattle.rt_tree.proofs.Rising.{Rising, arrives, few-above, few-before, goes_up, sets_out}
use Rattle.rt_tree.proofs.Stands.{parted}
use Rattle.rt_tree.proofs.up.rise.Goals as goal

pub loop-node-init : goal.loop-node-init
loop-node-init g c = record {
  rising = sets_out (g.L.Looks.nodes c.args.looks.now) c.args.root.index c.requires.tree c.args.leaf.index c.args.first.entry c.requires.leaf.0.0 c.requires.leaf.1 c.args.first.counts c.requires.first;
  cost = omega arith;
  counted = omega (arith, c.requires.leaf.1);
  same = refl;
  kept = refl;
  lent = refl;
}

pub counts_with_left-before-requires-clause-few : goal.counts_with_left-before-requires-clause-few
counts_with_left-before-requires-clause-few g c =
    let root = c.args.root.index in
    let leaf = c.args.leaf.index in
    let entry = c.args.first.entry in
    let old = c.loop-node.invariant in
    let m = g.L.Looks.nodes c.args.looks.now in
    let id = c.loop-node.node.index in
    let few = few-before m root c.requires.tree leaf entry c.requires.leaf.0.0 c.requires.leaf.1 c.requires.few in
    let above = few-above m root c.requires.tree leaf entry id c.loop-node.before old.rising c.loop-node-test.true few in
    let P : Memory → Type 0 = λ n. AreFew (plus c.loop-node.before (sum_of (left_of id (entries n (parent_of n id))))) in
    let Q : ℕ → Type 0 = λ p. AreFew (plus c.loop-node.before (sum_of (left_of id (entries (g.L.Looks.nodes c.loop-node.looks) p)))) in
    subst Q (sym c.parent-parent.ensures) (subst P (sym old.same) above)

pub counts_with_left-before-requires-clause-room : goal.counts_with_left-before-requires-clause-room
counts_with_left-before-requires-clause-room g c =
    let old = c.loop-node.invariant in
    let m = g.L.Looks.nodes c.args.looks.now in
    let known = c.requires.tree.shape.known c.loop-node.node.index old.rising.is c.loop-node-test.true in
    let most = c.requires.tree.shape.low (parent_of m c.loop-node.node.index) known.is in
    omega (arith, known.up, most, old.cost, c.requires.room)

pub loop-node-preserved : goal.loop-node-preserved
loop-node-preserved g c =
    let root = c.args.root.index in
    let leaf = c.args.leaf.index in
    let old = c.loop-node.invariant in
    let m = g.L.Looks.nodes c.args.looks.now in
    let id = c.loop-node.node.index in
    let known = c.requires.tree.shape.known id old.rising.is c.loop-node-test.true in
    let next = c.counts_with_left-before in
    let parent : c.parent-parent.result.index ≡ parent_of m id = c.parent-parent.ensures ∙ ap (λ n. parent_of n id) old.same in
    let left : next.result ≡ plus c.loop-node.before (sum_of (left_of id (entries m (parent_of m id)))) =
    next.ensures.value ∙ ap (λ n. plus c.loop-node.before (sum_of (left_of id (entries n c.parent-parent.result.index)))) old.same ∙ ap (λ p. plus c.loop-node.before (sum_of (left_of id (entries m p)))) parent in
    let up = ap (level_of m) parent in
    record {
      rising = subst (λ p. Rising m root leaf c.args.first.entry p next.result) (sym parent) (goes_up m root c.requires.tree leaf c.args.first.entry id c.loop-node.before next.result old.rising c.loop-node-test.true left);
      cost = omega (arith, next.ensures.cost, old.cost, up, known.up);
      counted = omega (arith, next.ensures.counted, old.counted, up, known.up);
      same = next.ensures.same ∙ old.same;
      kept = next.ensures.kept ∙ old.kept;
      lent = next.ensures.lent ∙ old.lent;
    }

pub returns-clause-cost : goal.returns-clause-cost
returns-clause-cost g c = let old = c.loop-node.invariant in omega (arith, old.rising.low, old.cost)

pub returns-clause-counted : goal.returns-clause-counted
returns-clause-counted g c = let top = ap (level_of (g.L.Looks.nodes c.args.looks.now)) c.loop-node-test.false in omega (arith, top, c.loop-node.invariant.counted)

pub returns-clause-stands : goal.returns-clause-stands
returns-clause-stands g c run here =
    let m = g.L.Looks.nodes c.args.looks.now in
    let root = c.args.root.index in
    let leaf = c.args.leaf.index in
    let end = arrives m root c.requires.tree leaf c.args.first.entry c.loop-node.node.index c.loop-node.before c.loop-node.invariant.rising c.loop-node-test.false in
    parted m root c.requires.tree leaf c.args.first.entry run c.loop-node.before c.requires.leaf.0.0 c.requires.leaf.1 here end

pub counts_with_left-before-requires-clause-child : goal.counts_with_left-before-requires-clause-child
counts_with_left-before-requires-clause-child g c =
    let old = c.loop-node.invariant in
    let m = g.L.Looks.nodes c.args.looks.now in
    let id = c.loop-node.node.index in
    let known = c.requires.tree.shape.known id old.rising.is c.loop-node-test.true in
    let parent : c.parent-parent.result.index ≡ parent_of m id = c.parent-parent.ensures ∙ ap (λ n. parent_of n id) old.same in
    let once : 0 < child_count id (entries m (parent_of m id)) = omega (arith, known.once) in
    let P : ℕ → Type 0 = λ p. 0 < child_count id (entries m p) in
    let Q : Memory → Type 0 = λ n. 0 < child_count id (entries n c.parent-parent.result.index) in
    subst Q (sym old.same) (subst P (sym parent) once)

pub counts_with_left-before-requires-clause-parent : goal.counts_with_left-before-requires-clause-parent
counts_with_left-before-requires-clause-parent g c =
    let old = c.loop-node.invariant in
    let m = g.L.Looks.nodes c.args.looks.now in
    let id = c.loop-node.node.index in
    let tree = c.requires.tree in
    let known = tree.shape.known id old.rising.is c.loop-node-test.true in
    let parent : c.parent-parent.result.index ≡ parent_of m id = c.parent-parent.ensures ∙ ap (λ n. parent_of n id) old.same in
    let is : c.parent-parent.result.index < length m.heads = subst (λ p. p < length m.heads) (sym parent) known.is in
    let Q : Memory → Type 0 = λ n. (c.parent-parent.result.index < length n.heads) × (c.parent-parent.result.index < length n.rows) in
    subst Q (sym old.same) (is, omega (arith, is, tree.shape.same))

pub loop-node-smaller : goal.loop-node-smaller
loop-node-smaller g c =
    let old = c.loop-node.invariant in
    let m = g.L.Looks.nodes c.args.looks.now in
    let id = c.loop-node.node.index in
    let known = c.requires.tree.shape.known id old.rising.is c.loop-node-test.true in
    let parent : c.parent-parent.result.index ≡ parent_of m id = c.parent-parent.ensures ∙ ap (λ n. parent_of n id) old.same in
    let most = c.requires.tree.shape.low (parent_of m id) known.is in
    omega (arith, ap (level_of m) parent, known.up, most)

pub returns-clause-before : goal.returns-clause-before
returns-clause-before g c = arrives (g.L.Looks.nodes c.args.looks.now) c.args.root.index c.requires.tree c.args.leaf.index c.args.first.entry c.loop-node.node.index c.loop-node.before c.loop-node.invariant.rising c.loop-node-test.false
