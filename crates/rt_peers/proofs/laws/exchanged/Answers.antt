-- The cells of a site are those of its log.
use Rattle.std.proofs.Common.{◌∙◌, ap, sym}
use Rattle.rt_rga.specs.Cells.{cells_of}
use Rattle.rt_rga.specs.Texts.{tagged_text}
use Rattle.rt_peers.proofs.Exchanging.{one_log_exchanged}
use Rattle.rt_peers.proofs.Sent.{one_log_caught_up}
use Rattle.rt_peers.proofs.laws.exchanged.Goals as goal

pub returns-clause-logs : goal.returns-clause-logs
returns-clause-logs c = one_log_exchanged c.args.one.now c.args.other.now c.args.left_one.now c.args.left_other.now c.log.ensures.history c.log-2.ensures.history

pub returns-clause-cells : goal.returns-clause-cells
returns-clause-cells c = λ file more back forth h k.
    c.log-3.ensures.cells
    ∙ ap cells_of (one_log_exchanged c.args.one.now c.args.other.now c.args.left_one.now c.args.left_other.now c.log.ensures.history c.log-2.ensures.history file more back forth h k)
    ∙ sym c.log-4.ensures.cells

pub returns-clause-text : goal.returns-clause-text
returns-clause-text c = λ file more back forth h k. ap tagged_text (
    c.log-3.ensures.cells
    ∙ ap cells_of (one_log_exchanged c.args.one.now c.args.other.now c.args.left_one.now c.args.left_other.now c.log.ensures.history c.log-2.ensures.history file more back forth h k)
    ∙ sym c.log-4.ensures.cells)

pub returns-clause-lacking_logs : goal.returns-clause-lacking_logs
returns-clause-lacking_logs c = one_log_caught_up c.args.one.now c.args.other.now c.args.left_one.now c.args.left_other.now c.log.ensures.history c.log-2.ensures.history

pub returns-clause-lacking_cells : goal.returns-clause-lacking_cells
returns-clause-lacking_cells c = λ known have file more up over apart back forth h k.
    c.log-3.ensures.cells
    ∙ ap cells_of (one_log_caught_up c.args.one.now c.args.other.now c.args.left_one.now c.args.left_other.now c.log.ensures.history c.log-2.ensures.history known have file more up over apart back forth h k)
    ∙ sym c.log-4.ensures.cells

pub returns-clause-lacking_text : goal.returns-clause-lacking_text
returns-clause-lacking_text c = λ known have file more up over apart back forth h k. ap tagged_text (
    c.log-3.ensures.cells
    ∙ ap cells_of (one_log_caught_up c.args.one.now c.args.other.now c.args.left_one.now c.args.left_other.now c.log.ensures.history c.log-2.ensures.history known have file more up over apart back forth h k)
    ∙ sym c.log-4.ensures.cells)
