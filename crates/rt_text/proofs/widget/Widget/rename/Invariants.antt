use Rattle.std.proofs.Common.{◌≡◌, drop}
use Rattle.rt_text.specs.Changes.{widget_renamed}
use Rattle.rt_text.specs.Owned.{widget_value}
use Rattle.rt_text.proofs.widget.Widget.rename.Given as goal

abbrev pub invariant-loop-r : goal.invariant-loop-r
invariant-loop-r l = record {
  own : widget_renamed (drop l.r-index l.returns) (widget_value l.self) ≡ widget_renamed l.returns (widget_value l.fn.self);
}
