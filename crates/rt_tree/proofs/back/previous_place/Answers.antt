use Rattle.std.proofs.Common.{◌∙◌, ap, arith, sym}
use Rattle.rt_tree.specs.Shape.{tree_runs}
use Rattle.rt_tree.specs.Summaries.{tagged_as}
use Rattle.rt_tree.proofs.Preceding.{back_is, less_one, no_less, one_less}
use Rattle.rt_tree.proofs.back.previous_place.Goals as goal

pub returns-then-found-gt0 : goal.returns-then-found-gt0
returns-then-found-gt0 c text kept =
    let test = tagged_as c.args.states.now c.args.wanted.now.tag c.args.wanted.now.on in
    let rs = tree_runs c.args.mem.now c.args.root.index in
    sym (back_is text test rs c.args.place kept ∙ ap one_less (sym c.reached_back-found.ensures) ∙ less_one c.reached_back-found.result c.if-found-gt0.true)

pub returns-else-found-gt0 : goal.returns-else-found-gt0
returns-else-found-gt0 c text kept =
    let test = tagged_as c.args.states.now c.args.wanted.now.tag c.args.wanted.now.on in
    let rs = tree_runs c.args.mem.now c.args.root.index in
    sym (back_is text test rs c.args.place kept ∙ ap one_less (sym c.reached_back-found.ensures) ∙ no_less c.reached_back-found.result (omega (arith, c.if-found-gt0.false)))
