use Rattle.std.proofs.Common.{sym, subst}
use Rattle.rt_rga.proofs.Corollaries.{cells_distinct}
use Rattle.rt_store.specs.Cells.{AreDistinct}
use Rattle.rt_peers.proofs.Cursors.{cursor_found}
use Rattle.rt_peers.proofs.laws.cursors.Goals as goal

pub returns : goal.returns
returns c path place stamp h =
    cursor_found path place stamp c.args.site.now (subst AreDistinct (sym c.log.ensures.cells) (cells_distinct c.args.site.now.text.view.doc.log c.log.ensures.history)) h
