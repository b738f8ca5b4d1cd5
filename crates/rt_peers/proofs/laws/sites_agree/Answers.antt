-- Logs with the same operations are one list, and so are their cells.
use Rattle.std.proofs.Common.{◌∙◌, ap, sym}
use Rattle.rt_rga.proofs.Accepting.{one_list}
use Rattle.rt_rga.specs.Cells.{cells_of}
use Rattle.rt_rga.specs.Texts.{tagged_text}
use Rattle.rt_peers.proofs.laws.sites_agree.Goals as goal

pub returns : goal.returns
returns c = record {
  cells = λ same. c.log.ensures.cells ∙ ap cells_of (one_list _ _ c.log.ensures.history c.log-2.ensures.history same) ∙ sym c.log-2.ensures.cells;
  text = λ same. ap tagged_text (c.log.ensures.cells ∙ ap cells_of (one_list _ _ c.log.ensures.history c.log-2.ensures.history same) ∙ sym c.log-2.ensures.cells);
}
