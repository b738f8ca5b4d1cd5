use Rattle.std.proofs.Common.{◌≡◌, take}
use Rattle.rt_tags.specs.Kept.{all_on}
use Rattle.rt_tags.proofs.writes.listed.Given as goal

abbrev pub invariant-loop-tag : goal.invariant-loop-tag
invariant-loop-tag l = l.writes.items ≡ all_on l.writer (take l.tag-index l.tags)
