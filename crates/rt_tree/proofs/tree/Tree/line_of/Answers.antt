use Rattle.std.proofs.Common.{◌+◌, ℕ, take, arith, sym, ap, ◌∙◌, subst}
use Rattle.rt_stamps.specs.Places.{newlines}
use Rattle.std.proofs.lemmas.List.{length-map, take_all}
use Rattle.rt_store.specs.Cells.{text_of, visible_of}
use Rattle.rt_store.specs.declared.cell.Cell.{Cell}
use Rattle.rt_tree.specs.Shape.{tree_runs}
use Rattle.rt_tree.specs.Tallies.{IsCountOf}
use Rattle.rt_tree.specs.Trees.{TreeValue}
use Rattle.rt_tree.proofs.Kept.{few_runs, shows}
use Rattle.rt_tree.proofs.Lines.{newlines_found}
use Rattle.rt_tree.proofs.tree.Tree.line_of.Goals as goal

pub run_near-found-requires-clause-few : goal.run_near-found-requires-clause-few
run_near-found-requires-clause-few c = let s = c.self.inside in few_runs s.mem s.root.index s.text.items s.runs c.self.invariant.kept

pub run_near-found-requires-clause-within : goal.run_near-found-requires-clause-within
run_near-found-requires-clause-within c =
    let s = c.self.inside in
    let h = shows s.mem s.root.index s.text.items s.runs c.self.invariant.kept s.sums.each.items c.args.self.now c.self.view_is in
    let k = subst (λ (x : TreeValue). IsCountOf s.counts x.cells) c.self.view_is c.self.invariant.counts in
    omega (arith, h.visible, c.requires, k.visible, c.if-place-all.false)

pub returns : goal.returns
returns c =
    let s = c.self.inside in
    let f = c.run_near-found.result in
    let found = newlines_found s.text.items (tree_runs s.mem s.root.index) f.run f.before f.spot.offset c.args.place c.self.invariant.kept.kept c.run_near-found.ensures in
    ap (λ (n : ℕ). n + 1) (sym found ∙ ap (λ (x : TreeValue). newlines (take c.args.place (text_of x.cells))) c.self.view_is)

pub returns-then-place-all : goal.returns-then-place-all
returns-then-place-all c =
    let s = c.self.inside in
    let k = subst (λ (x : TreeValue). IsCountOf s.counts x.cells) c.self.view_is c.self.invariant.counts in
    let text = text_of c.args.self.now.cells in
    let long = length-map (visible_of c.args.self.now.cells) (λ (x : Cell ℕ). x.ch) in
    let whole = ap newlines (take_all c.args.place text (omega (arith, long, k.visible, c.if-place-all.true))) in
    omega (arith, whole, k.newlines)

pub run_near-found-requires-clause-held : goal.run_near-found-requires-clause-held
run_near-found-requires-clause-held c = c.self.invariant.last
