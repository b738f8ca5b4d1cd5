use Rattle.std.proofs.Common.{◌∙◌, sym}
use Rattle.rt_store.proofs.Positions.{run_of_one}
use Rattle.rt_tree.proofs.tree.Tree.walked_run.Goals as goal

pub returns-clause-run : goal.returns-clause-run
returns-clause-run c = run_of_one c.args.self.now.cells c.args.stamp c.in_ok-cell.cell (sym c.walked_cell.ensures ∙ c.in_ok-cell.was)
