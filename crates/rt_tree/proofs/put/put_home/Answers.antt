use Rattle.std.proofs.Common.{◌<◌, ◌^◌, ◌∷◌, arith, inr, length, subst, sym, ◌∙◌}
use Rattle.rt_tree.specs.Homes.{AreOnceEach}
use Rattle.rt_tree.specs.Shape.{tree_runs}
use Rattle.rt_tree.specs.Standing.{HaveLeavesBelow}
use Rattle.rt_tree.proofs.Housing.{home_more, keeps_more, others_more, placed_more, put_holders, unknown_new}
use Rattle.rt_tree.proofs.Housed.{put_bordered, put_leaves, put_many, put_some, told_some}
use Rattle.rt_tree.proofs.Skipping.{have_cells}
use Rattle.rt_tree.proofs.Sure.{entered_others}
use Rattle.rt_tree.proofs.put.put_home.Goals as goal

pub note_new-requires : goal.note_new-requires
note_new-requires c = c.put-placed.ensures.tree.shape.same

pub returns-clause-home : goal.returns-clause-home
returns-clause-home c =
    let old = tree_runs c.args.mem.now c.args.root.index in let new = tree_runs c.put-placed.new.mem c.put-placed.result.root.index in
    let leaves = c.args.homes.now.leaves in let then = c.enter.new.self.leaves in let after = c.note_new.new.self.leaves in
    let run = c.args.new.run in
    let e = c.enter.ensures in let n = c.note_new.ensures in let i = c.is_new-is_new.ensures in
    λ sure.
    let then_sure = sym n.sure ∙ sure in
    let is_new = e.sure then_sure in
    let home = c.requires.home (i.sure is_new) in
    home_more leaves after run old new (put_holders old new c.args.new.at run c.put-placed.ensures.runs) home
    (unknown_new leaves c.args.new.newest run old c.requires.known home (i.unknown is_new))
    (placed_more then after run (e.placed then_sure) n.keeps)
    (keeps_more leaves then after e.keeps n.keeps)
    (others_more leaves then after new (entered_others leaves then run c.put-placed.result.leaf (e.entered then_sure) new c.put-placed.ensures.runs.was.left (c.put-placed.ensures.runs.next ∷ c.put-placed.ensures.runs.was.right) c.put-placed.ensures.runs.is) (n.others c.put-placed.result.root.index c.put-placed.ensures.tree))

pub returns-clause-housed : goal.returns-clause-housed
returns-clause-housed c sure =
    let m = c.args.mem.now in let n = c.put-placed.new.mem in
    let root = c.args.root.index in let next = c.put-placed.result.root.index in
    let run = c.args.new.run in let old = tree_runs m root in
    let leaves = c.args.homes.now.leaves in let then = c.enter.new.self.leaves in
    let e = c.enter.ensures in let i = c.is_new-is_new.ensures in
    let then_sure = sym c.note_new.ensures.sure ∙ sure in
    let is_new = e.sure then_sure in
    let home = c.requires.home (i.sure is_new) in
    let fresh = unknown_new leaves c.args.new.newest run old c.requires.known home (i.unknown is_new) in
    let housed = c.requires.housed (i.sure is_new) in
    let told = e.entered then_sure in
    let put = c.put-placed.ensures.runs in
    let once : AreOnceEach (tree_runs n next) = (home_more leaves then run old (tree_runs n next) (put_holders old (tree_runs n next) c.args.new.at run put) home fresh (e.placed then_sure) e.keeps (entered_others leaves then run c.put-placed.result.leaf (e.entered then_sure) (tree_runs n next) c.put-placed.ensures.runs.was.left (c.put-placed.ensures.runs.next ∷ c.put-placed.ensures.runs.was.right) c.put-placed.ensures.runs.is)).once in
    let some = have_cells c.requires.known.text old c.requires.known.kept in
    let long = put_many old (tree_runs n next) c.args.new.at run put in
    let long_enough : length (tree_runs n next) < 2 ^ 32 = omega (arith, long, c.requires.short) in
    let nodes = c.nodes-nodes.ensures in
    c.note_new.ensures.housed next then_sure c.put-placed.ensures.tree long_enough once
    (put_some old (tree_runs n next) c.args.new.at run put (told_some leaves then run c.put-placed.result.leaf told) some)
    (put_bordered leaves then run c.put-placed.result.leaf told m n root next c.args.new.at c.requires.tree fresh housed some put)
    (subst (λ k. HaveLeavesBelow k n then) (sym nodes) (put_leaves leaves then run c.put-placed.result.leaf told m n root next c.args.new.at c.requires.tree fresh housed c.put-placed.ensures.stay))

-- a run whose stamps no run has is known to be new
pub returns-clause-sure : goal.returns-clause-sure
returns-clause-sure c = λ was fresh some bound.
    let i = c.is_new-is_new.ensures in
    let home = c.requires.home was in
    let is_new = i.old was (inr (λ stamp there. home.runs stamp (fresh stamp there))) in
    c.note_new.ensures.sure ∙ c.enter.ensures.stays is_new some bound
