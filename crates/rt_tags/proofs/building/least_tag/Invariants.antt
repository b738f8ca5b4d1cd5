use Rattle.std.proofs.Common.{◌≡◌, ◌≤◌, None, is_some, take, true}
use Rattle.std.specs.List.{AllByRecursion}
use Rattle.rt_tags.specs.ManyWrites.{setting_after}
use Rattle.rt_tags.proofs.building.least_tag.Given as goal

abbrev pub invariant-loop-entry : goal.invariant-loop-entry
invariant-loop-entry l = record {
  least : AllByRecursion (λ e. l.least ≤ e.tag) (take l.entry-index l.writes);
  there : is_some (setting_after l.writes l.least None) ≡ true;
}
