use Rattle.std.proofs.Common.{ℕ, List, subst, sym}
use Rattle.rt_store.specs.Cells.{AreDistinct}
use Rattle.rt_store.specs.declared.cell.Cell.{Cell}
use Rattle.rt_tests.proofs.Texts.{distinct}
use Rattle.rt_tests.proofs.undo_planning.planned.Goals as goal

pub planned_reversion-requires-clause-distinct : goal.planned_reversion-requires-clause-distinct
planned_reversion-requires-clause-distinct c = subst (λ (cells : List (Cell ℕ)). AreDistinct cells) (sym c.in_ok-store.ensures) (distinct c.args.gone)
