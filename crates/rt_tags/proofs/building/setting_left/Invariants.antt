use Rattle.std.proofs.Common.{◌≡◌, None, drop}
use Rattle.rt_tags.specs.ManyWrites.{setting_after}
use Rattle.rt_tags.proofs.building.setting_left.Given as goal

abbrev pub invariant-loop-entry : goal.invariant-loop-entry
invariant-loop-entry l = setting_after (drop l.entry-index l.writes) l.tag l.left ≡ setting_after l.writes l.tag None
