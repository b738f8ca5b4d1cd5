use Rattle.std.proofs.Common.{◌≡◌, ◌↔◌, ◌∙◌, ap, List, sym}
use Rattle.rt_ops.specs.Operations.{Operation}
use Rattle.rt_oplog.specs.Logs.{AreOf}
use Rattle.rt_store.specs.Shown.{TaggedCell}
use Rattle.rt_rga.specs.Cells.{cells_of}
use Rattle.rt_rga.specs.Histories.{IsHistory}
use Rattle.rt_rga.specs.Texts.{tagged_text}
use Rattle.rt_rga.proofs.Accepting.{one_list}
use Rattle.rt_rga.proofs.laws.replicas_agree.Goals as goal

-- of two histories
same_cells : (one other : List Operation) (kept more : List TaggedCell) → IsHistory one → IsHistory other → kept ≡ cells_of one → more ≡ cells_of other → AreOf one other
    → kept ≡ more
same_cells one other kept more h k a b same = a ∙ ap cells_of (one_list one other h k same) ∙ sym b

pub returns-clause-cells : goal.returns-clause-cells
returns-clause-cells g c = same_cells _ _ _ _ c.log.ensures.history c.log-2.ensures.history c.store.ensures.cells c.store-2.ensures.cells

pub returns-clause-text : goal.returns-clause-text
returns-clause-text g c = λ same.
    ap tagged_text (same_cells _ _ _ _ c.log.ensures.history c.log-2.ensures.history c.store.ensures.cells c.store-2.ensures.cells same)
