use Rattle.std.proofs.Common.{◌≡◌, take}
use Rattle.rt_rga.specs.Taken.{is_in_runs}
use Rattle.rt_text.specs.Owned.{widget_value}
use Rattle.rt_text.specs.Widgets.{widget_inserted, widget_without}
use Rattle.rt_text.proofs.widget.Widget.follow.Given as goal

abbrev pub invariant-loop-run : goal.invariant-loop-run
invariant-loop-run l = widget_value l.self ≡ widget_without (is_in_runs (take l.run-index l.run-items)) (widget_inserted l.change.place l.change.inserted (widget_value l.fn.self))
