use Rattle.std.proofs.Common.{arith, refl, ◌∙◌}
use Rattle.rt_tree.specs.Shape.{tree_runs}
use Rattle.rt_tree.proofs.Cutting.{few_all}
use Rattle.rt_tree.proofs.Meeting.{at_first, at_last, counts_to, home_to, kept_to, rest_on}
use Rattle.rt_tree.proofs.Housed.{stamps_same, stamps_then}
use Rattle.rt_tree.proofs.update.update_by_homes.Goals as goal

pub cells_of-requires-clause-few : goal.cells_of-requires-clause-few
cells_of-requires-clause-few c = few_all (tree_runs c.args.mem.now c.args.root.index) c.requires.kept c.requires.few

pub loop-count-init : goal.loop-count-init
loop-count-init c = record {
  low = omega arith;
  tree = c.requires.tree;
  updates = at_first c.args.span c.args.update.now (tree_runs c.args.mem.now c.args.root.index);
  room = refl;
  told = c.requires.told;
  tags = refl;
  stay = stamps_same c.args.mem.now;
}

pub update_at-requires-clause-kept : goal.update_at-requires-clause-kept
update_at-requires-clause-kept c = kept_to c.args.span c.args.update.now c.loop-count.count (tree_runs c.args.mem.now c.args.root.index) (tree_runs c.loop-count.mem c.args.root.index) c.loop-count.invariant.updates c.requires.kept

pub update_at-requires-clause-few : goal.update_at-requires-clause-few
update_at-requires-clause-few c =
    let e = counts_to c.args.span c.args.update.now c.loop-count.count (tree_runs c.args.mem.now c.args.root.index) (tree_runs c.loop-count.mem c.args.root.index) c.loop-count.invariant.updates in
    let f = c.requires.few in omega (arith, e, f)

pub update_at-requires-clause-home : goal.update_at-requires-clause-home
update_at-requires-clause-home c = λ sure. home_to c.args.span c.args.update.now c.loop-count.count c.args.homes.now.leaves (tree_runs c.args.mem.now c.args.root.index) (tree_runs c.loop-count.mem c.args.root.index) c.loop-count.invariant.updates (c.requires.home sure)

pub loop-count-preserved : goal.loop-count-preserved
loop-count-preserved c =
    let i = c.loop-count.invariant in
    let m = rest_on c.args.span c.args.update.now c.loop-count.count c.in-Some.next (tree_runs c.loop-count.mem c.args.root.index) (tree_runs c.update_at.new.mem c.args.root.index) i.low c.in-Some.ensures.some in
    record {
      low = (let l = m.later in let w = i.low in omega (arith, l, w));
      tree = c.update_at.ensures.tree;
      updates = m.updates (tree_runs c.args.mem.now c.args.root.index) i.updates;
      room = c.update_at.ensures.room ∙ i.room;
      told = c.update_at.ensures.told;
      tags = c.update_at.ensures.tags ∙ i.tags;
      stay = stamps_then c.args.mem.now c.loop-count.mem c.update_at.new.mem i.stay c.update_at.ensures.stay;
    }

pub loop-count-smaller : goal.loop-count-smaller
loop-count-smaller c = let l = c.in-Some.ensures.some.later in let t = c.loop-count-test.true in omega (arith, l, t)

pub returns-then-saturating_sub-cells_of-clause-part : goal.returns-then-saturating_sub-cells_of-clause-part
returns-then-saturating_sub-cells_of-clause-part c = (c.args.span.first, at_first c.args.span c.args.update.now (tree_runs c.args.mem.now c.args.root.index))

pub returns-in-None-clause-part : goal.returns-in-None-clause-part
returns-in-None-clause-part c = (c.loop-count.count, c.update_at.ensures.none c.in-None.is ∙ c.loop-count.invariant.updates)

pub returns-clause-part : goal.returns-clause-part
returns-clause-part c = (c.loop-count.count, c.loop-count.invariant.updates)

pub returns-clause-all : goal.returns-clause-all
returns-clause-all c =
    λ _. c.loop-count.invariant.updates ∙ at_last c.args.span c.args.update.now c.loop-count.count (tree_runs c.args.mem.now c.args.root.index) (let t = c.loop-count-test.false in omega (arith, t))

pub update_at-requires-clause-told : goal.update_at-requires-clause-told
update_at-requires-clause-told c = c.loop-count.invariant.told

pub returns-in-None-clause-tags : goal.returns-in-None-clause-tags
returns-in-None-clause-tags c = c.update_at.ensures.tags ∙ c.loop-count.invariant.tags

pub returns-clause-told : goal.returns-clause-told
returns-clause-told c = c.loop-count.invariant.told

pub returns-clause-tags : goal.returns-clause-tags
returns-clause-tags c = c.loop-count.invariant.tags

pub returns-in-None-clause-stay : goal.returns-in-None-clause-stay
returns-in-None-clause-stay c = stamps_then c.args.mem.now c.loop-count.mem c.update_at.new.mem c.loop-count.invariant.stay c.update_at.ensures.stay

pub returns-clause-stay : goal.returns-clause-stay
returns-clause-stay c = c.loop-count.invariant.stay
