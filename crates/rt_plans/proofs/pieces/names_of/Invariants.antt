use Rattle.std.proofs.Common.{◌≡◌, map, take}
use Rattle.rt_stamps.specs.Words.{as_words}
use Rattle.rt_tags.specs.States.{name_at}
use Rattle.rt_plans.proofs.pieces.names_of.Given as goal

abbrev pub invariant-loop-tag : goal.invariant-loop-tag
invariant-loop-tag l = as_words l.names.items ≡ map (name_at l.states) (take l.tag-index l.tags)
