-- The cells of a site are those of its log.
use Rattle.std.proofs.Common.{◌∙◌, ap, sym}
use Rattle.rt_rga.specs.Texts.{tagged_text}
use Rattle.rt_peers.proofs.Lived.{agree_in_any_order}
use Rattle.rt_peers.proofs.laws.sites_agree_in_any_order.Goals as goal

pub returns-clause-cells : goal.returns-clause-cells
returns-clause-cells c = λ site number limit most came more lives lived same free rest still.
    c.log.ensures.cells ∙ agree_in_any_order site number limit most c.args.one.now c.args.other.now came more lives lived same free rest still ∙ sym c.log-2.ensures.cells

pub returns-clause-text : goal.returns-clause-text
returns-clause-text c = λ site number limit most came more lives lived same free rest still.
    ap tagged_text (c.log.ensures.cells ∙ agree_in_any_order site number limit most c.args.one.now c.args.other.now came more lives lived same free rest still ∙ sym c.log-2.ensures.cells)
