use Rattle.std.proofs.Common.{◌∙◌}
use Rattle.rt_tests.proofs.undo.spans_of_a_long_action.Goals as goal

pub replaced-requires-clause-first_time : goal.replaced-requires-clause-first_time
replaced-requires-clause-first_time g c = c.reserve.ensures.moves (record { count = 500; site = 1 }) ∙ c.record.ensures.moves (record { count = 500; site = 1 })

pub replaced-requires-clause-fresh : goal.replaced-requires-clause-fresh
replaced-requires-clause-fresh g c = c.reserve.ensures.moves (record { count = 1002; site = 1 }) ∙ c.record.ensures.moves (record { count = 1002; site = 1 })
