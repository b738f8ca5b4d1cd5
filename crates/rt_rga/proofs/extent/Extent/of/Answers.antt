use Rattle.std.proofs.Common.{sym}
use Rattle.rt_rga.proofs.Extents.{got_extent}
use Rattle.rt_rga.proofs.extent.Extent.of.Goals as goal

pub returns : goal.returns
returns c =
    got_extent c.args.spans.now c.in_ok-first.first.now c.in_ok-last.last.now (sym c.in_ok-first.ensures.value) (sym c.in_ok-last.ensures.value)
