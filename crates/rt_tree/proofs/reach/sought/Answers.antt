use Rattle.std.proofs.Common.{◌∙◌, Some, ap, sym}
use Rattle.std.proofs.lemmas.Bool.{ltb-false, ltb-true}
use Rattle.rt_tree.specs.Reaches.{reached}
use Rattle.rt_tree.specs.Shape.{tree_runs}
use Rattle.rt_tree.specs.Summaries.{tagged_as}
use Rattle.rt_tree.proofs.Arriving.{is_not, is_within, next_is}
use Rattle.rt_tree.proofs.Reaching.{visible}
use Rattle.rt_tree.proofs.Skipping.{have_cells}
use Rattle.rt_tree.proofs.reach.sought.Goals as goal

pub returns-then-found-clause-place : goal.returns-then-found-clause-place
returns-then-found-clause-place g c text kept =
    let a = c.args in
    let test = tagged_as a.states.now a.wanted.now.tag a.wanted.now.on in
    let rs = tree_runs (g.L.Looks.nodes a.looks.now) a.root.index in
    let is = c.reached-found.ensures.place (have_cells text rs kept) in
    let l = ltb-true (reached test a.place rs) (visible rs) (sym is.found ∙ c.if-found.true) in
    sym (next_is text test rs a.place kept ∙ is_within (reached test a.place rs) (visible rs) l ∙ ap Some (sym is.place))

pub returns-else-found-clause-place : goal.returns-else-found-clause-place
returns-else-found-clause-place g c text kept =
    let a = c.args in
    let test = tagged_as a.states.now a.wanted.now.tag a.wanted.now.on in
    let rs = tree_runs (g.L.Looks.nodes a.looks.now) a.root.index in
    let is = c.reached-found.ensures.place (have_cells text rs kept) in
    let l = ltb-false (reached test a.place rs) (visible rs) (sym is.found ∙ c.if-found.false) in
    sym (next_is text test rs a.place kept ∙ is_not (reached test a.place rs) (visible rs) l)

pub returns-then-found-clause-looked : goal.returns-then-found-clause-looked
returns-then-found-clause-looked g c text kept =
    let rs = tree_runs (g.L.Looks.nodes c.args.looks.now) c.args.root.index in
    c.reached-found.ensures.looked (have_cells text rs kept) c.if-found.true
