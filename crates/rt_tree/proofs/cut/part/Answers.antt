use Rattle.rt_tree.specs.Shape.{tree_runs}
use Rattle.rt_tree.proofs.Apart.{inside_begins}
use Rattle.rt_tree.proofs.Walking.{inside_low}
use Rattle.rt_tree.proofs.cut.part.Goals as goal

pub cut_home-requires-clause-within : goal.cut_home-requires-clause-within
cut_home-requires-clause-within c = inside_low (tree_runs c.args.mem.now c.args.root.index) c.args.stamp c.in-Some.at c.in-Some.ensures

pub returns-in-Some-clause-begins : goal.returns-in-Some-clause-begins
returns-in-Some-clause-begins c =
    let old = tree_runs c.args.mem.now c.args.root.index in let new = tree_runs c.cut_home.new.mem c.cut_home.result.change.root.index in
    inside_begins c.requires.kept.text old new c.args.stamp c.in-Some.at c.requires.kept.runs c.requires.apart c.in-Some.ensures c.cut_home.ensures.parts
