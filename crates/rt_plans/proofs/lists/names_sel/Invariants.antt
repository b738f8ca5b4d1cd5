use Rattle.std.proofs.Common.{◌≡◌, false, take}
use Rattle.rt_stamps.specs.Words.{as_words}
use Rattle.rt_tags.specs.Tags.{is_listed, sel}
use Rattle.rt_plans.proofs.lists.names_sel.Given as goal

abbrev pub invariant-loop-name : goal.invariant-loop-name
invariant-loop-name l = is_listed sel (as_words (take l.name-index l.names)) ≡ false
