use Rattle.std.proofs.Common.{◌∙◌, ap, sym}
use Rattle.rt_rga.proofs.Accepting.{one_list}
use Rattle.rt_rga.specs.Cells.{cells_of}
use Rattle.rt_rga.specs.Texts.{tagged_text}
use Rattle.rt_replica.proofs.laws.agreement.Goals as goal

pub returns-clause-cells : goal.returns-clause-cells
returns-clause-cells g c = λ same. c.log.ensures.cells ∙ ap cells_of (one_list _ _ c.log.ensures.history c.log-2.ensures.history same) ∙ sym c.log-2.ensures.cells

pub returns-clause-text : goal.returns-clause-text
returns-clause-text g c = λ same.
    ap tagged_text (c.log.ensures.cells ∙ ap cells_of (one_list _ _ c.log.ensures.history c.log-2.ensures.history same) ∙ sym c.log-2.ensures.cells)
