use Rattle.std.proofs.Common.{sym, ◌∙◌}
use Rattle.rt_text.specs.Widgets.{shows_tag, cells_shown}
use Rattle.rt_tagcmd.proofs.RangeWalks.{is_next_range, no_next_range, past_next_range}
use Rattle.rt_tagcmd.proofs.tag_range.next_range.Goals as goal

pub returns-in_err-range : goal.returns-in_err-range
returns-in_err-range g c = c.from_residual.ensures ∙ sym (no_next_range (shows_tag c.args.view.now.own c.args.name.now) (cells_shown c.args.view.now) c.args.from c.args.to (sym c.in_err-range.ensures))

pub returns-then-range-to : goal.returns-then-range-to
returns-then-range-to g c = sym (is_next_range (shows_tag c.args.view.now.own c.args.name.now) (cells_shown c.args.view.now) c.args.from c.args.to c.in_ok-range.range (sym c.in_ok-range.ensures) c.if-range-to.true)

pub returns-else-range-to : goal.returns-else-range-to
returns-else-range-to g c = sym (past_next_range (shows_tag c.args.view.now.own c.args.name.now) (cells_shown c.args.view.now) c.args.from c.args.to c.in_ok-range.range (sym c.in_ok-range.ensures) c.if-range-to.false)
