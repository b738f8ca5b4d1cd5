use Rattle.std.proofs.Common.{ℕ, List, subst, sym}
use Rattle.rt_store.specs.Cells.{AreDistinct}
use Rattle.rt_store.specs.Shown.{TaggedCell}
use Rattle.rt_store.specs.Written.{AreWritten}
use Rattle.rt_rga.proofs.Corollaries.{cells_distinct, cells_written}
use Rattle.rt_text.proofs.doc.Doc.order.Goals as goal

pub returns-clause-stamps : goal.returns-clause-stamps
returns-clause-stamps g c = subst (λ (cells : List TaggedCell). AreDistinct cells) (sym c.log.ensures.cells) (cells_distinct c.args.self.now.log c.log.ensures.history)

pub returns-clause-writes : goal.returns-clause-writes
returns-clause-writes g c =
    subst (λ (p : ℕ × List TaggedCell). AreWritten p.0 p.1) (λ i. (sym c.log.ensures.count i, sym c.log.ensures.cells i)) (cells_written c.args.self.now.log c.log.ensures.history)
