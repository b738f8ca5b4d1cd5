use Rattle.std.proofs.Common.{arith, length, ap, subst, sym, ◌∙◌}
use Rattle.rt_store.specs.Cells.{visible_of}
use Rattle.rt_store.specs.Tagged.{has_tag, previous_place}
use Rattle.rt_tree.specs.Shape.{tree_runs}
use Rattle.rt_tree.specs.Summaries.{AreSummed}
use Rattle.rt_tree.specs.Trees.{TreeValue}
use Rattle.rt_tree.proofs.Kept.{few_runs}
use Rattle.rt_tree.proofs.Showing.{kept_given, kept_summed}
use Rattle.rt_tree.proofs.Told.{shown_given}
use Rattle.rt_tree.proofs.tree.Tree.previous_tagged.Goals as goal

pub previous_place-requires-clause-tree : goal.previous_place-requires-clause-tree
previous_place-requires-clause-tree c = c.self.invariant.kept.tree

pub previous_place-requires-clause-sums : goal.previous_place-requires-clause-sums
previous_place-requires-clause-sums c =
    let s = c.self.inside in
    subst (AreSummed c.args.states.now s.mem) (sym c.deref.ensures.value)
    (kept_summed s.mem s.root.index s.text.items s.sums.each.items c.args.states.now _ c.args.self.now c.self.view_is c.requires.agrees)

pub previous_place-requires-clause-many : goal.previous_place-requires-clause-many
previous_place-requires-clause-many c = let h = c.self.invariant.sums.many in let same = ap length c.deref.ensures.value in omega (arith, h, same)

pub previous_place-requires-clause-given : goal.previous_place-requires-clause-given
previous_place-requires-clause-given c =
    let s = c.self.inside in
    shown_given c.args.states.now (tree_runs s.mem s.root.index)
    (kept_given s.mem s.root.index s.text.items s.runs c.self.invariant.kept s.sums.each.items c.args.states.now _ c.args.self.now c.self.view_is c.requires.agrees)

pub previous_place-requires-clause-few : goal.previous_place-requires-clause-few
previous_place-requires-clause-few c = let s = c.self.inside in few_runs s.mem s.root.index s.text.items s.runs c.self.invariant.kept

pub returns : goal.returns
returns c =
    let s = c.self.inside in
    c.previous_place.ensures s.text.items c.self.invariant.kept.kept
    ∙ ap (λ (v : TreeValue). previous_place (has_tag c.args.states.now c.args.tag) (visible_of v.cells) c.args.place) c.self.view_is
