use Rattle.std.proofs.Common.{◌≡◌, suc, ◌-◌, ◌*◌, ◌^◌, ◌≤◌, length, ap, arith, subst}
use Rattle.rt_tree.specs.Shape.{level_of, tree_runs}
use Rattle.rt_tree.proofs.Filled.{full_tree}
use Rattle.rt_tree.proofs.tree.Tree.height.Goals as goal

pub returns-clause-full : goal.returns-clause-full
returns-clause-full c high =
    let s = c.self.inside in
    let h = c.height.result in
    let value = c.height.ensures.value in
    let at : level_of s.mem s.root.index ≡ suc (h - 2) = omega (arith, value, high) in
    let below : suc (h - 2) ≡ h - 1 = omega (arith, high) in
    let count : length (tree_runs s.mem s.root.index) ≡ c.args.self.now.runs = ap (λ v. v.runs) c.self.view_is in
    subst (λ n. 2 * 8 ^ (h - 1) ≤ n) count (subst (λ n. 2 * 8 ^ n ≤ length (tree_runs s.mem s.root.index)) below (full_tree s.mem s.root.index c.self.invariant.kept.tree (h - 2) at))
