use Rattle.std.proofs.Common.{ℕ, Option, subst, sym, ◌∙◌}
use Rattle.std.specs.Prelude.{MatchOption}
use Rattle.std.specs.List.{AllByRecursion}
use Rattle.rt_tree.specs.Sharing.{BeginsAt, IsInside}
use Rattle.rt_tree.specs.Shape.{tree_runs}
use Rattle.rt_tree.proofs.Cutting.{few_all}
use Rattle.rt_tree.proofs.Housing.{home_inside, nowhere_begins}
use Rattle.rt_tree.proofs.cut.inside.Goals as goal

pub returns-then-is_nowhere : goal.returns-then-is_nowhere
returns-then-is_nowhere c =
    let none = c.is_nowhere.ensures c.if-is_nowhere.true in
    nowhere_begins c.args.homes.now.leaves c.args.stamp (tree_runs c.args.mem.now c.args.root.index) (c.requires.home none.0) (sym c.leaf_of-leaf.ensures ∙ none.1)

pub locate-requires-clause-few : goal.locate-requires-clause-few
locate-requires-clause-few c = few_all (tree_runs c.args.mem.now c.args.root.index) c.requires.kept c.requires.few

pub returns-in-Some : goal.returns-in-Some
returns-in-Some c =
    let all = tree_runs c.args.mem.now c.args.root.index in let h = c.in-Some.home in let e = c.in-Some.ensures in
    subst (λ (o : Option ℕ). MatchOption o (AllByRecursion (BeginsAt c.args.stamp) all) (λ at. IsInside all c.args.stamp at)) (sym c.inside.ensures)
    (home_inside all h.run h.before c.args.stamp (c.requires.home e.sure).once e.home e.has)
