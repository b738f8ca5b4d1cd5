use Rattle.std.proofs.Common.{◌∷◌, arith, subst, sym, ◌∙◌}
use Rattle.std.specs.Prelude.{IfSome}
use Rattle.rt_tree.specs.declared.cut.Front.{Front}
use Rattle.rt_tree.specs.Shape.{tree_runs}
use Rattle.rt_tree.proofs.Cutting.{no_parts}
use Rattle.rt_tree.proofs.Housing.{home_keeps, keeps_more, others_more, recut_home}
use Rattle.rt_tree.specs.Standing.{HaveLeavesBelow, IsParted}
use Rattle.rt_tree.specs.Stretches.{back_of}
use Rattle.rt_tree.proofs.Housed.{parted_bordered, parted_leaves}
use Rattle.rt_tree.proofs.Skipping.{have_cells}
use Rattle.rt_tree.proofs.Sure.{entered_others, front_bound}
use Rattle.rt_tree.proofs.Told.{short_kept}
use Rattle.rt_tree.proofs.cut.cut_home.Goals as goal

pub returns-in-Some-clause-home : goal.returns-in-Some-clause-home
returns-in-Some-clause-home c sure =
    let m = c.args.mem.now in let n = c.cut-front.new.mem in
    let root = c.args.root.index in let next = c.cut-front.result.change.root.index in
    let old = tree_runs m root in let new = tree_runs n next in
    let leaves = c.args.homes.now.leaves in let then = c.place.new.self.leaves in let after = c.note_new.new.self.leaves in
    let was_sure = sym c.place.ensures.sure ∙ sym c.note_new.ensures.sure ∙ sure in
    let home = c.requires.home was_sure in
    let front = c.in-Some.front in
    let cut : IsParted m n root next front.run front.leaf.index = subst (λ o. IfSome o (λ (f : Front). IsParted m n root next f.run f.leaf.index)) c.in-Some.is c.cut-front.ensures.parted in
    let bound = front_bound leaves m n root next front.run front.leaf.index cut (c.requires.housed was_sure) in
    let told = c.place.ensures.entered (c.place.ensures.done bound.0 bound.1) in
    let others = entered_others leaves then front.run front.leaf told new cut.left (back_of cut.count cut.run ∷ cut.right) cut.is in
    home_keeps leaves after new (keeps_more leaves then after c.place.ensures.keeps c.note_new.ensures.keeps)
    (others_more leaves then after new others (c.note_new.ensures.others next c.cut-front.ensures.tree))
    (recut_home leaves old new c.requires.kept c.cut-front.ensures.recut home)

pub returns-in-Some-clause-housed : goal.returns-in-Some-clause-housed
returns-in-Some-clause-housed c sure =
    let m = c.args.mem.now in let n = c.cut-front.new.mem in
    let root = c.args.root.index in let next = c.cut-front.result.change.root.index in
    let old = tree_runs m root in let new = tree_runs n next in
    let leaves = c.args.homes.now.leaves in let then = c.place.new.self.leaves in
    let then_sure = sym c.note_new.ensures.sure ∙ sure in
    let was_sure = sym c.place.ensures.sure ∙ then_sure in
    let front = c.in-Some.front in
    let e = c.cut-front.ensures in
    let cut : IsParted m n root next front.run front.leaf.index = subst (λ o. IfSome o (λ (f : Front). IsParted m n root next f.run f.leaf.index)) c.in-Some.is e.parted in
    let housed = c.requires.housed was_sure in
    let bound = front_bound leaves m n root next front.run front.leaf.index cut housed in
    let told = c.place.ensures.entered (c.place.ensures.done bound.0 bound.1) in
    let once = (recut_home leaves old new c.requires.kept e.recut (c.requires.home was_sure)).once in
    let few = short_kept old c.requires.kept c.requires.few in
    c.note_new.ensures.housed next then_sure e.tree (omega (arith, few, e.runs, e.more)) once
    (have_cells c.requires.kept.text new (e.recut.kept c.requires.kept.text c.requires.kept.runs))
    (parted_bordered leaves then m n root next front.run front.leaf told cut e.tree once housed (have_cells c.requires.kept.text old c.requires.kept.runs))
    (subst (λ k. HaveLeavesBelow k n then) (sym c.nodes-nodes.ensures) (parted_leaves leaves then m n root next front.run front.leaf told cut e.tree once housed))

pub returns-then-gap-clause-edge : goal.returns-then-gap-clause-edge
returns-then-gap-clause-edge c = c.requires.edge c.if-gap.true

pub returns-then-gap-clause-parts : goal.returns-then-gap-clause-parts
returns-then-gap-clause-parts c = let old = tree_runs c.args.mem.now c.args.root.index in no_parts old old c.args.gap.now.at (returns-then-gap-clause-edge c)
