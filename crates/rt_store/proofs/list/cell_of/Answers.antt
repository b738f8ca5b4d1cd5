use Rattle.std.proofs.Common.{◌∙◌, ap, sym, Some}
use Rattle.rt_store.proofs.Finding.{found_at, found_nowhere}
use Rattle.rt_store.proofs.list.cell_of.Goals as goal

pub returns : goal.returns
returns c =
    ap Some c.index-cells-position.is
    ∙ found_at c.args.cells.now c.args.stamp c.in_ok-position.position c.index-cells-position.result (sym c.position_of.ensures ∙ c.in_ok-position.was)

pub returns-in_err-position : goal.returns-in_err-position
returns-in_err-position c = c.from_residual.ensures ∙ found_nowhere c.args.cells.now c.args.stamp (sym c.position_of.ensures ∙ c.in_err-position.was)
