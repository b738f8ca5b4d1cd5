use Rattle.std.proofs.Common.{◌+◌, ◌≤◌, arith, ap, subst, sym, ◌∙◌}
use Rattle.std.specs.Prelude.{IfSome}
use Rattle.rt_store.specs.Tagged.{next_tagged}
use Rattle.rt_tree.specs.Shape.{tree_runs}
use Rattle.rt_tree.specs.Summaries.{AreSummed}
use Rattle.rt_tree.specs.Trees.{TreeValue}
use Rattle.rt_tree.proofs.Kept.{few_runs}
use Rattle.rt_tree.proofs.Showing.{kept_given, kept_summed}
use Rattle.rt_tree.proofs.Told.{shown_given}
use Rattle.rt_tree.proofs.tree.Tree.find_tagged.Goals as goal

pub find_tagged-requires-clause-tree : goal.find_tagged-requires-clause-tree
find_tagged-requires-clause-tree c = c.self.invariant.kept.tree

pub find_tagged-requires-clause-sums : goal.find_tagged-requires-clause-sums
find_tagged-requires-clause-sums c =
    let s = c.self.inside in
    subst (AreSummed c.args.states.now s.mem) (sym c.deref.ensures.value)
    (kept_summed s.mem s.root.index s.text.items s.sums.each.items c.args.states.now _ c.args.self.now c.self.view_is c.requires.agrees)

pub find_tagged-requires-clause-given : goal.find_tagged-requires-clause-given
find_tagged-requires-clause-given c =
    let s = c.self.inside in
    shown_given c.args.states.now (tree_runs s.mem s.root.index)
    (kept_given s.mem s.root.index s.text.items s.runs c.self.invariant.kept s.sums.each.items c.args.states.now _ c.args.self.now c.self.view_is c.requires.agrees)

pub find_tagged-requires-clause-few : goal.find_tagged-requires-clause-few
find_tagged-requires-clause-few c = let s = c.self.inside in few_runs s.mem s.root.index s.text.items s.runs c.self.invariant.kept

pub find_tagged-requires-clause-room : goal.find_tagged-requires-clause-room
find_tagged-requires-clause-room c = let h = ap (λ (v : TreeValue). v.height) c.self.view_is in omega (arith, h, c.requires.room)

pub returns-clause-place : goal.returns-clause-place
returns-clause-place c =
    let s = c.self.inside in
    c.find_tagged.ensures.place s.text.items c.self.invariant.kept.kept ∙ ap (λ (v : TreeValue). next_tagged c.args.states.now c.args.tag v.cells c.args.place) c.self.view_is

pub returns-clause-cost : goal.returns-clause-cost
returns-clause-cost c = let h = ap (λ (v : TreeValue). v.height) c.self.view_is in let n = c.find_tagged.ensures.cost in omega (arith, h, n)

pub returns-clause-looked : goal.returns-clause-looked
returns-clause-looked c =
    let s = c.self.inside in
    subst (λ n. IfSome c.find_tagged.result (λ _. c.args.looks.now + n ≤ c.find_tagged.new.steps)) (ap (λ (v : TreeValue). v.height) c.self.view_is)
    (c.find_tagged.ensures.looked s.text.items c.self.invariant.kept.kept)
