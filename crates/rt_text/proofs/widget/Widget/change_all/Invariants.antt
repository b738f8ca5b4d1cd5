use Rattle.std.proofs.Common.{◌≡◌, ◌≤◌, ◌+◌, ◌^◌, ◌-◌, length, drop}
use Rattle.rt_text.specs.Changes.{widget_after}
use Rattle.rt_text.specs.Owned.{widget_value}
use Rattle.rt_text.proofs.widget.Widget.change_all.Given as goal

abbrev pub invariant-loop-change : goal.invariant-loop-change
invariant-loop-change l = record {
  own : widget_after (drop l.change-index l.changes) (widget_value l.self) ≡ widget_after l.changes (widget_value l.fn.self);
  insert : l.self.insert.place + length (drop l.change-index l.changes) ≤ 2 ^ 64 - 1;
  current : l.self.current.place + length (drop l.change-index l.changes) ≤ 2 ^ 64 - 1;
}
