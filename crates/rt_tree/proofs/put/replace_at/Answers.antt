use Rattle.std.proofs.Common.{ℕ, length, ◌++◌, List, set, arith, sym, ap, ◌∙◌, subst}
use Rattle.std.specs.List.{AllByRecursion}
use Rattle.rt_nodes.specs.Nodes.{entries}
use Rattle.rt_tags.specs.States.{IsState}
use Rattle.rt_tree.specs.declared.node.Entry.TheVariants.{Here}
use Rattle.rt_tree.specs.declared.node.Run.{Run}
use Rattle.rt_tree.specs.Changes.{bare, links}
use Rattle.rt_tree.specs.Shape.{IsShape, Memory, ahead, all_below, behind, level_of, runs, tree_runs}
use Rattle.rt_tree.specs.Summaries.{shown_states}
use Rattle.rt_tree.specs.Sums.{AreFew, counts_of}
use Rattle.rt_tree.proofs.Holding.{held_set}
use Rattle.rt_tree.proofs.Told.{given_replaced, shown_few, shown_given, told_next}
use Rattle.rt_tree.proofs.Puts.{few_set, replaced, replaced_length, set_at, spot_within}
use Rattle.rt_tree.proofs.Standing.{stay_set}
use Rattle.rt_tree.proofs.Wholes.{runs-bare, tree-exact, tree-shape, whole, whole_runs}
use Rattle.rt_tree.proofs.put.replace_at.Goals as goal

pub replace_run-requires-clause-tree : goal.replace_run-requires-clause-tree
replace_run-requires-clause-tree c = subst (λ h. IsShape (bare c.args.mem.now) h c.args.root.index) (sym c.level_of-height.ensures) (tree-shape c.args.mem.now c.args.root.index c.requires.tree)

pub replace_run-requires-clause-exact : goal.replace_run-requires-clause-exact
replace_run-requires-clause-exact c = tree-exact c.args.mem.now c.args.root.index c.requires.tree

pub replace_run-requires-clause-leaf : goal.replace_run-requires-clause-leaf
replace_run-requires-clause-leaf c = let s = c.requires.spot.2 in (s.is, s.low)

pub replace_run-requires-clause-within : goal.replace_run-requires-clause-within
replace_run-requires-clause-within c =
    let spot = c.args.spot in
    spot_within c.args.mem.now c.args.root.index c.requires.spot.0 spot.leaf.index spot.entry spot.offset c.requires.spot.1 c.requires.spot.2

pub replace_run-requires-clause-few : goal.replace_run-requires-clause-few
replace_run-requires-clause-few c =
    let m = c.args.mem.now in let x = c.args.spot.leaf.index in
    let P : ℕ → Type 0 = λ h. AreFew (counts_of (ahead (bare m) h x ++ (all_below (bare m) 0 (links (set (entries m x) c.args.spot.entry (Here c.args.run))) ++ behind (bare m) h x))) in
    subst P (sym c.level_of-height.ensures) (subst (λ (l : List Run). AreFew (counts_of l)) (sym (set_at c.args.mem.now c.args.root.index c.requires.tree c.args.spot.leaf.index c.args.spot.entry c.args.spot.offset c.requires.spot.0 c.requires.spot.1 c.args.run c.requires.spot.2)) (few_set c.args.mem.now c.args.root.index c.requires.tree c.args.spot.leaf.index c.args.spot.entry c.args.spot.offset c.requires.spot.0 c.requires.spot.1 c.args.run c.requires.spot.2 c.requires.few))

pub returns-clause-tree : goal.returns-clause-tree
returns-clause-tree c = let e = c.replace_run.ensures in whole c.replace_run.new.mem c.level_of-height.result c.args.root.index e.tree e.exact e.filled

pub returns-clause-runs : goal.returns-clause-runs
returns-clause-runs c =
    λ at before is.
    let e = c.replace_run.ensures in
    let m = c.args.mem.now in let x = c.args.spot.leaf.index in
    let N : ℕ → List Run = λ h. ahead (bare m) h x ++ (all_below (bare m) 0 (links (set (entries m x) c.args.spot.entry (Here c.args.run))) ++ behind (bare m) h x) in
    replaced c.args.mem.now c.args.root.index c.requires.tree c.args.spot.leaf.index c.args.spot.entry c.args.spot.offset at before c.args.run is (tree_runs c.replace_run.new.mem c.args.root.index)
    (whole_runs c.replace_run.new.mem c.level_of-height.result c.args.root.index e.tree e.exact e.filled ∙ e.runs ∙ ap N c.level_of-height.ensures ∙ set_at c.args.mem.now c.args.root.index c.requires.tree c.args.spot.leaf.index c.args.spot.entry c.args.spot.offset at before c.args.run is)

pub returns-clause-room : goal.returns-clause-room
returns-clause-room c = (ap (λ (b : Memory). b.room) c.replace_run.ensures.bare, ap (λ (b : Memory). length b.heads) c.replace_run.ensures.bare)

pub replace_run-requires-clause-summed : goal.replace_run-requires-clause-summed
replace_run-requires-clause-summed c = c.requires.told.each

pub replace_run-requires-clause-many : goal.replace_run-requires-clause-many
replace_run-requires-clause-many c = let a = c.requires.told.many in omega (arith, a)

pub replace_run-requires-clause-memory : goal.replace_run-requires-clause-memory
replace_run-requires-clause-memory c = c.requires.told.memory

pub replace_run-requires-clause-tags : goal.replace_run-requires-clause-tags
replace_run-requires-clause-tags c = c.requires.told.tags

pub replace_run-requires-clause-had : goal.replace_run-requires-clause-had
replace_run-requires-clause-had c =
    let m = c.args.mem.now in let r = c.args.root.index in
    let same = ap (λ k. runs (bare m) k r) c.level_of-height.ensures ∙ runs-bare m (level_of m r) r in
    subst (λ rs. AllByRecursion (IsState c.args.states.now) (shown_states rs)) (sym same) (shown_given c.args.states.now (tree_runs m r) c.requires.told.given)

pub replace_run-requires-clause-given : goal.replace_run-requires-clause-given
replace_run-requires-clause-given c =
    let m = c.args.mem.now in let r = c.args.root.index in let s = c.args.spot in let x = s.leaf.index in
    let N : ℕ → List Run = λ h. ahead (bare m) h x ++ (all_below (bare m) 0 (links (set (entries m x) s.entry (Here c.args.run))) ++ behind (bare m) h x) in
    let is = ap N c.level_of-height.ensures ∙ set_at m r c.requires.tree x s.entry s.offset c.requires.spot.0 c.requires.spot.1 c.args.run c.requires.spot.2 in
    let rep = replaced m r c.requires.tree x s.entry s.offset c.requires.spot.0 c.requires.spot.1 c.args.run c.requires.spot.2 (N c.level_of-height.result) is in
    shown_given c.args.states.now (N c.level_of-height.result) (given_replaced c.args.states.now (tree_runs m r) (N c.level_of-height.result) c.requires.spot.0 c.args.run c.requires.state rep c.requires.told.given)

pub replace_run-requires-clause-short : goal.replace_run-requires-clause-short
replace_run-requires-clause-short c =
    let m = c.args.mem.now in let r = c.args.root.index in let s = c.args.spot in let x = s.leaf.index in
    let N : ℕ → List Run = λ h. ahead (bare m) h x ++ (all_below (bare m) 0 (links (set (entries m x) s.entry (Here c.args.run))) ++ behind (bare m) h x) in
    let is = ap N c.level_of-height.ensures ∙ set_at m r c.requires.tree x s.entry s.offset c.requires.spot.0 c.requires.spot.1 c.args.run c.requires.spot.2 in
    let rep = replaced m r c.requires.tree x s.entry s.offset c.requires.spot.0 c.requires.spot.1 c.args.run c.requires.spot.2 (N c.level_of-height.result) is in
    let few = shown_few (N c.level_of-height.result) in
    let same = replaced_length (tree_runs m r) (N c.level_of-height.result) c.requires.spot.0 c.args.run rep in
    omega (arith, few, same, c.requires.short)

pub returns-clause-told : goal.returns-clause-told
returns-clause-told c =
    let e = c.replace_run.ensures in let m = c.args.mem.now in let r = c.args.root.index in
    let room = returns-clause-room c in
    let given = given_replaced c.args.states.now (tree_runs m r) (tree_runs c.replace_run.new.mem r) c.requires.spot.0 c.args.run c.requires.state (returns-clause-runs c c.requires.spot.0 c.requires.spot.1 c.requires.spot.2) c.requires.told.given in
    told_next m c.replace_run.new.mem c.args.states.now c.args.sums.now c.replace_run.new.sums (tree_runs m r) (tree_runs c.replace_run.new.mem r) given c.requires.told e.summed e.many e.memory e.tags (omega (arith, room.0, room.1))

pub returns-clause-held : goal.returns-clause-held
returns-clause-held c before front held =
    held_set c.args.mem.now c.replace_run.new.mem c.args.root.index c.level_of-height.result c.args.spot.leaf.index c.args.spot.entry c.args.run before front c.requires.tree c.level_of-height.ensures c.replace_run.ensures.bare held

pub returns-clause-stay : goal.returns-clause-stay
returns-clause-stay c =
    let m = c.args.mem.now in let s = c.args.spot in let r = c.args.root.index in
    stay_set m c.replace_run.new.mem (level_of m r) r s.leaf.index s.entry c.args.run (tree-shape m r c.requires.tree) c.requires.spot.2.is c.replace_run.ensures.bare
