use Rattle.std.proofs.Common.{◌-◌, ◌≤◌}
use Rattle.rt_tagcmd.specs.TagRanges.{BeginFrom, PassThrough}
use Rattle.rt_text.specs.Widgets.{shows_tag, cells_shown}
use Rattle.rt_tagcmd.proofs.tag_range.range_begin.Given as goal

abbrev pub invariant-loop-low : goal.invariant-loop-low
invariant-loop-low g l = record {
  order : l.low ≤ l.high;
  within : l.high ≤ l.place;
  passes : PassThrough (shows_tag l.view.own l.name) (cells_shown l.view) l.high l.place;
  least : BeginFrom (shows_tag l.view.own l.name) (cells_shown l.view) l.place l.low;
}

abbrev pub decreases-loop-low : goal.decreases-loop-low
decreases-loop-low g l = l.high - l.low
