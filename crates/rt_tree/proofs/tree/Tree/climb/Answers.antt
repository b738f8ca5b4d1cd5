use Rattle.std.proofs.Common.{rules, ◌+◌, ◌≤◌, ap, subst, sym, ◌∙◌}
use Rattle.std.specs.Prelude.{IfSome, option_map}
use Rattle.std.proofs.lemmas.Bool.{true≢false}
use Rattle.rt_store.specs.Cells.{position_of, visible_before}
use Rattle.rt_tree.specs.Runs.{cells_of_runs}
use Rattle.rt_tree.specs.Shape.{tree_runs}
use Rattle.rt_tree.specs.Trees.{TreeValue}
use Rattle.rt_tree.proofs.Climbing.{climbed, not_there, nothing_climbed}
use Rattle.rt_tree.proofs.Housing.{is_nowhere}
use Rattle.rt_tree.proofs.Kept.{few_runs}
use Rattle.rt_tree.proofs.tree.Tree.climb.Goals as goal

pub returns-in_err-leaf-clause-place : goal.returns-in_err-leaf-clause-place
returns-in_err-leaf-clause-place c =
    let s = c.self.inside in
    let runs = tree_runs s.mem s.root.index in
    let all = cells_of_runs s.text.items runs in
    c.from_residual.ensures
    ∙ ap (option_map (visible_before all)) (is_nowhere s.text.items runs s.homes.leaves c.args.stamp c.self.invariant.kept.kept (c.self.invariant.home c.if-not-self.false) (sym c.in_err-leaf.ensures))
    ∙ ap (λ (x : TreeValue). option_map (visible_before x.cells) (position_of x.cells c.args.stamp)) c.self.view_is

pub returns-then-not-is_leaf-clause-place : goal.returns-then-not-is_leaf-clause-place
returns-then-not-is_leaf-clause-place c =
    let s = c.self.inside in let i = c.self.invariant in
    nothing_climbed s.mem s.root.index c.in_ok-leaf.leaf.index i.kept.tree s.text.items s.homes.leaves c.args.stamp i.kept.kept (i.home c.if-not-self.false)
    (not_there s.mem s.root.index i.kept.tree s.homes.leaves (i.housed c.if-not-self.false) c.args.stamp c.in_ok-leaf.leaf (sym c.in_ok-leaf.ensures)
    (λ k run is low here. absurd (c.is_leaf.ensures.no c.if-not-is_leaf.true is low)))
    ∙ ap (λ (x : TreeValue). option_map (visible_before x.cells) (position_of x.cells c.args.stamp)) c.self.view_is

pub ascend-requires-clause-few : goal.ascend-requires-clause-few
ascend-requires-clause-few c = let s = c.self.inside in few_runs s.mem s.root.index s.text.items s.runs c.self.invariant.kept

pub returns-clause-place : goal.returns-clause-place
returns-clause-place c =
    let s = c.self.inside in let i = c.self.invariant in
    let leaf = c.is_leaf.ensures.yes c.if-not-is_leaf.false in
    climbed s.mem s.root.index c.in_ok-leaf.leaf.index i.kept.tree s.text.items s.homes.leaves c.args.stamp i.kept.kept (i.home c.if-not-self.false) leaf.0.0 leaf.1 c.ascend.result c.ascend.ensures.place
    (λ none. not_there s.mem s.root.index i.kept.tree s.homes.leaves (i.housed c.if-not-self.false) c.args.stamp c.in_ok-leaf.leaf (sym c.in_ok-leaf.ensures)
    (λ k run is low here. c.ascend.ensures.none none k run here))
    ∙ ap (λ (x : TreeValue). option_map (visible_before x.cells) (position_of x.cells c.args.stamp)) c.self.view_is

pub returns-clause-looked : goal.returns-clause-looked
returns-clause-looked c sure =
    let looked = subst (λ n. IfSome c.ascend.result (λ _. c.args.looks.now + n ≤ c.ascend.new.looks.looks.now)) (ap (λ (x : TreeValue). x.height) c.self.view_is) c.ascend.ensures.looked in
    subst (λ n. IfSome c.ascend.result (λ _. c.args.looks.now + c.args.self.now.height ≤ n)) (search rules) looked

pub returns-then-not-self-clause-looked : goal.returns-then-not-self-clause-looked
returns-then-not-self-clause-looked c sure = absurd (true≢false (sym sure ∙ sym (ap (λ (x : TreeValue). x.sure) c.self.view_is) ∙ c.if-not-self.true))

pub returns-in_err-leaf-clause-unsure : goal.returns-in_err-leaf-clause-unsure
returns-in_err-leaf-clause-unsure c off = absurd (true≢false (sym c.if-not-self.false ∙ ap (λ (x : TreeValue). x.sure) c.self.view_is ∙ off))

pub returns-then-not-is_leaf-clause-unsure : goal.returns-then-not-is_leaf-clause-unsure
returns-then-not-is_leaf-clause-unsure c off = absurd (true≢false (sym c.if-not-self.false ∙ ap (λ (x : TreeValue). x.sure) c.self.view_is ∙ off))

pub returns-clause-unsure : goal.returns-clause-unsure
returns-clause-unsure c off = absurd (true≢false (sym c.if-not-self.false ∙ ap (λ (x : TreeValue). x.sure) c.self.view_is ∙ off))
