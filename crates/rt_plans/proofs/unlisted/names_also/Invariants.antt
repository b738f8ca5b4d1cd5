use Rattle.std.proofs.Common.{◌≡◌, filter, take}
use Rattle.rt_stamps.specs.Words.{as_words}
use Rattle.rt_tags.specs.States.{is_on, state_at}
use Rattle.rt_plans.proofs.unlisted.names_also.Given as goal

abbrev pub invariant-loop-name : goal.invariant-loop-name
invariant-loop-name l = as_words l.both.items ≡ filter (λ name. is_on name (state_at l.states l.state)) (as_words (take l.name-index l.names))
