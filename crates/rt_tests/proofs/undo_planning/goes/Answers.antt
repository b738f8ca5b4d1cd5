use Rattle.std.proofs.Common.{ℕ, List, subst, sym}
use Rattle.rt_store.specs.Cells.{AreDistinct}
use Rattle.rt_store.specs.declared.cell.Cell.{Cell}
use Rattle.rt_tests.proofs.Texts.{distinct}
use Rattle.rt_tests.proofs.undo_planning.goes.Goals as goal

pub planned_losses-requires-clause-distinct : goal.planned_losses-requires-clause-distinct
planned_losses-requires-clause-distinct g c = subst (λ (cells : List (Cell ℕ)). AreDistinct cells) (sym c.in_ok-store.ensures) (distinct c.args.gone)
