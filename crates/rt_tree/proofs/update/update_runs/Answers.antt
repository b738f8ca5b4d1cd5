use Rattle.std.proofs.Common.{refl, arith, ◌∙◌}
use Rattle.rt_tree.specs.Shape.{tree_runs}
use Rattle.rt_tree.proofs.Cutting.{few_all}
use Rattle.rt_tree.proofs.Updating.{all_updated, more_updated, more_some, more_within, none_updated, now_count, now_few, now_kept}
use Rattle.rt_tree.proofs.Housed.{stamps_same, stamps_then}
use Rattle.rt_tree.proofs.update.update_runs.Goals as goal

pub cells_of-all-requires-clause-few : goal.cells_of-all-requires-clause-few
cells_of-all-requires-clause-few c = few_all (tree_runs c.args.mem.now c.args.root.index) c.requires.kept c.requires.few

pub loop-at-init : goal.loop-at-init
loop-at-init c = record { tree = c.requires.tree; updated = none_updated c.args.span c.args.update.now (tree_runs c.args.mem.now c.args.root.index); room = refl; told = c.requires.told; tags = refl; stay = stamps_same c.args.mem.now }

pub update_run-len-requires-clause-tree : goal.update_run-len-requires-clause-tree
update_run-len-requires-clause-tree c = c.loop-at.invariant.tree

pub update_run-len-requires-clause-kept : goal.update_run-len-requires-clause-kept
update_run-len-requires-clause-kept c =
    let old = tree_runs c.args.mem.now c.args.root.index in let now = tree_runs c.loop-at.mem c.args.root.index in
    now_kept c.args.span c.args.update.now old now c.loop-at.at c.requires.kept c.requires.few c.loop-at.invariant.updated

pub update_run-len-requires-clause-few : goal.update_run-len-requires-clause-few
update_run-len-requires-clause-few c =
    let old = tree_runs c.args.mem.now c.args.root.index in let now = tree_runs c.loop-at.mem c.args.root.index in
    now_few c.args.span c.args.update.now old now c.loop-at.at c.requires.kept c.requires.few c.loop-at.invariant.updated

pub update_run-len-requires-clause-within : goal.update_run-len-requires-clause-within
update_run-len-requires-clause-within c =
    let old = tree_runs c.args.mem.now c.args.root.index in let now = tree_runs c.loop-at.mem c.args.root.index in
    let n = now_count c.args.span c.args.update.now old now c.loop-at.at c.requires.kept c.requires.few c.loop-at.invariant.updated in
    let e = c.cells_of-all.ensures in let t = c.loop-at-test.true in
    omega (arith, n, e, t)

pub overflow_add-at : goal.overflow_add-at
overflow_add-at c =
    let old = tree_runs c.args.mem.now c.args.root.index in let now = tree_runs c.loop-at.mem c.args.root.index in
    let w = more_within c.args.span c.args.update.now old now c.loop-at.at c.requires.kept c.requires.few c.loop-at.invariant.updated (tree_runs c.update_run-len.new.mem c.args.root.index) c.update_run-len.result c.update_run-len.ensures.run in
    let f = c.requires.few in
    omega (arith, w, f)

pub loop-at-preserved : goal.loop-at-preserved
loop-at-preserved c =
    let old = tree_runs c.args.mem.now c.args.root.index in let now = tree_runs c.loop-at.mem c.args.root.index in
    record {
      tree = c.update_run-len.ensures.tree;
      updated = more_updated c.args.span c.args.update.now old now c.loop-at.at c.requires.kept c.requires.few c.loop-at.invariant.updated (tree_runs c.update_run-len.new.mem c.args.root.index) c.update_run-len.result c.update_run-len.ensures.run;
      room = c.update_run-len.ensures.room ∙ c.loop-at.invariant.room;
      told = c.update_run-len.ensures.told;
      tags = c.update_run-len.ensures.tags ∙ c.loop-at.invariant.tags;
      stay = stamps_then c.args.mem.now c.loop-at.mem c.update_run-len.new.mem c.loop-at.invariant.stay c.update_run-len.ensures.stay;
    }

pub loop-at-smaller : goal.loop-at-smaller
loop-at-smaller c =
    let old = tree_runs c.args.mem.now c.args.root.index in let now = tree_runs c.loop-at.mem c.args.root.index in
    let s = more_some c.args.span c.args.update.now old now c.loop-at.at c.requires.kept c.requires.few c.loop-at.invariant.updated (tree_runs c.update_run-len.new.mem c.args.root.index) c.update_run-len.result c.update_run-len.ensures.run in
    let t = c.loop-at-test.true in
    omega (arith, s, t)

pub returns-clause-tree : goal.returns-clause-tree
returns-clause-tree c = c.loop-at.invariant.tree

pub returns-clause-runs : goal.returns-clause-runs
returns-clause-runs c =
    let old = tree_runs c.args.mem.now c.args.root.index in let now = tree_runs c.loop-at.mem c.args.root.index in
    let e = c.cells_of-all.ensures in let t = c.loop-at-test.false in
    all_updated c.args.span c.args.update.now old now c.loop-at.at c.requires.kept c.requires.few c.loop-at.invariant.updated (omega (arith, e, t))

pub returns-clause-room : goal.returns-clause-room
returns-clause-room c = c.loop-at.invariant.room

pub update_run-len-requires-clause-told : goal.update_run-len-requires-clause-told
update_run-len-requires-clause-told c = c.loop-at.invariant.told

pub returns-clause-told : goal.returns-clause-told
returns-clause-told c = c.loop-at.invariant.told

pub returns-clause-tags : goal.returns-clause-tags
returns-clause-tags c = c.loop-at.invariant.tags

pub returns-clause-stay : goal.returns-clause-stay
returns-clause-stay c = c.loop-at.invariant.stay
