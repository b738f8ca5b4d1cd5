use Rattle.std.proofs.Common.{◌≡◌, ◌++◌, ◌-◌, length}
use Rattle.rt_tagcmd.specs.TagRanges.{passing_ranges}
use Rattle.rt_tagcmd.proofs.RangeWalks.{ranges_at}
use Rattle.rt_text.specs.Widgets.{shows_tag, cells_shown}
use Rattle.rt_tagcmd.proofs.tag_range.ranges.Given as goal

abbrev pub invariant-loop-range : goal.invariant-loop-range
invariant-loop-range g l =
    let all = passing_ranges (shows_tag l.view.own l.name) (cells_shown l.view) in
    all ≡ l.ranges.items ++ ranges_at l.place all

abbrev pub decreases-loop-range : goal.decreases-loop-range
decreases-loop-range g l = length (cells_shown l.view) - l.place
