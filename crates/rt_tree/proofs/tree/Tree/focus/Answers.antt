use Rattle.std.proofs.Common.{arith, subst}
use Rattle.rt_tree.specs.Tallies.{IsCountOf}
use Rattle.rt_tree.specs.Trees.{TreeValue}
use Rattle.rt_tree.proofs.Kept.{few_runs, shows}
use Rattle.rt_tree.proofs.tree.Tree.focus.Goals as goal

pub found_near-found-requires-clause-few : goal.found_near-found-requires-clause-few
found_near-found-requires-clause-few c = let s = c.self.inside in few_runs s.mem s.root.index s.text.items s.runs c.self.invariant.kept

pub found_near-found-requires-clause-within : goal.found_near-found-requires-clause-within
found_near-found-requires-clause-within c =
    let s = c.self.inside in
    let h = shows s.mem s.root.index s.text.items s.runs c.self.invariant.kept s.sums.each.items c.args.self.now c.self.view_is in
    let counted = subst (λ (x : TreeValue). IsCountOf s.counts x.cells) c.self.view_is c.self.invariant.counts in
    omega (arith, h.visible, counted.visible)

pub found_near-found-requires-clause-held : goal.found_near-found-requires-clause-held
found_near-found-requires-clause-held c = c.self.invariant.last
