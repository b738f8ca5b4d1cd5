use Rattle.std.proofs.Common.{ap, arith, length, subst, sym}
use Rattle.std.specs.List.{AllByRecursion}
use Rattle.rt_tags.specs.States.{IsState}
use Rattle.rt_tree.specs.Summaries.{shown_states}
use Rattle.rt_tree.proofs.Regrowing.{new_runs, one_kid, root_summed}
use Rattle.rt_tree.proofs.Standing.{stay_grown}
use Rattle.rt_tree.proofs.regrow.add_root.Goals as goal

pub gather_at-requires-clause-node : goal.gather_at-requires-clause-node
gather_at-requires-clause-node c = let g = c.grow-new.ensures.grown in (omega (arith, g.longer), omega (arith, g.longer, g.same))

pub gather_at-requires-clause-within : goal.gather_at-requires-clause-within
gather_at-requires-clause-within c = let g = c.grow-new.ensures.grown in omega (arith, g.new, c.requires.room, c.requires.many)

pub gather_at-requires-clause-kids : goal.gather_at-requires-clause-kids
gather_at-requires-clause-kids c =
    let g = c.grow-new.ensures.grown in
    one_kid c.args.mem.now c.grow-new.new.mem c.args.height c.args.root.index c.grow-new.result.index c.requires.tree c.requires.exact g c.args.states.now c.args.sums.now.each.items c.requires.summed
    (omega (arith, g.new, c.requires.room, c.requires.many))

pub gather_at-requires-clause-given : goal.gather_at-requires-clause-given
gather_at-requires-clause-given c =
    let all = new_runs c.args.mem.now c.grow-new.new.mem c.args.height c.args.root.index c.grow-new.result.index c.requires.tree c.requires.exact c.grow-new.ensures.grown in
    subst (λ rs. AllByRecursion (IsState c.args.states.now) (shown_states rs)) (sym all) c.requires.given

pub gather_at-requires-clause-few : goal.gather_at-requires-clause-few
gather_at-requires-clause-few c =
    let all = new_runs c.args.mem.now c.grow-new.new.mem c.args.height c.args.root.index c.grow-new.result.index c.requires.tree c.requires.exact c.grow-new.ensures.grown in
    let long = ap (λ rs. length (shown_states rs)) all in
    omega (arith, long, c.requires.short)

pub returns-clause-summed : goal.returns-clause-summed
returns-clause-summed c =
    root_summed c.args.mem.now c.grow-new.new.mem c.args.height c.args.root.index c.grow-new.result.index c.requires.tree c.requires.exact c.grow-new.ensures.grown c.args.states.now c.args.sums.now.each.items c.requires.summed
    c.gather_at.new.sums.each.items c.gather_at.ensures.gathered c.gather_at.ensures.others

pub returns-clause-stay : goal.returns-clause-stay
returns-clause-stay c = stay_grown c.args.mem.now c.grow-new.new.mem c.args.height c.args.root.index c.grow-new.result.index c.grow-new.ensures.grown
