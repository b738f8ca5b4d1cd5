use Rattle.std.proofs.Common.{ℕ, List, ap, sym, ◌∙◌}
use Rattle.rt_store.specs.declared.cell.Cell.{Cell}
use Rattle.rt_store.specs.Cells.{cell_of}
use Rattle.rt_store.proofs.Positions.{run_of_one}
use Rattle.rt_store.proofs.list.ListStoreTextStore.run_from.Goals as goal

pub returns-clause-run : goal.returns-clause-run
returns-clause-run c =
    run_of_one c.args.self.now.cells.items c.args.stamp c.in_ok-cell.cell
    (ap (λ (cells : List (Cell ℕ)). cell_of cells c.args.stamp) (sym c.deref.ensures.value) ∙ sym c.cell_of.ensures ∙ c.in_ok-cell.was)
