use Rattle.std.proofs.Common.{◌≡◌, ◌++◌, ◌-◌}
use Rattle.rt_text.specs.Widgets.{shows_tag, cells_shown}
use Rattle.rt_tagcmd.specs.declared.element.Key.TheVariants.{TagOff, TagOn}
use Rattle.rt_tagcmd.specs.Dumping.{tagoffs_of, tagons_of}
use Rattle.rt_tagcmd.specs.Stretches.{within}
use Rattle.rt_tagcmd.proofs.TagBorders.{left}
use Rattle.rt_tagcmd.proofs.Turns.{begun, ended}
use Rattle.rt_tagcmd.proofs.borders.push_tag.Given as goal

abbrev pub invariant-loop-begin : goal.invariant-loop-begin
invariant-loop-begin g l = record {
  ends : l.fn.ends.items ++ within l.stretch (tagoffs_of l.view l.name) ≡ l.ends.items ++ left TagOff l.name ended (shows_tag l.view.own l.name) l.stretch (cells_shown l.view) l.place;
  starts : l.fn.starts.items ++ within l.stretch (tagons_of l.view l.name) ≡ l.starts.items ++ left TagOn l.name begun (shows_tag l.view.own l.name) l.stretch (cells_shown l.view) l.place;
}

abbrev pub decreases-loop-begin : goal.decreases-loop-begin
decreases-loop-begin g l = l.stretch.behind - l.place
