use Rattle.std.proofs.Common.{sym, ◌∙◌}
use Rattle.rt_text.specs.Widgets.{shows_tag, cells_shown}
use Rattle.rt_tagcmd.proofs.FirstRange.{range_found, no_range}
use Rattle.rt_tagcmd.proofs.tag_range.first_range.Goals as goal

pub returns-in_err-from : goal.returns-in_err-from
returns-in_err-from g c = c.from_residual.ensures ∙ sym (no_range (shows_tag c.args.view.now.own c.args.name.now) (cells_shown c.args.view.now) c.args.place c.clear_from-clear.result c.clear_from-clear.ensures (sym c.in_err-from.ensures))

pub returns : goal.returns
returns g c = sym (range_found (shows_tag c.args.view.now.own c.args.name.now) (cells_shown c.args.view.now) c.args.place c.clear_from-clear.result c.in_ok-from.from c.tagged_up_to-to.result c.clear_from-clear.ensures (sym c.in_ok-from.ensures) c.tagged_up_to-to.ensures)
