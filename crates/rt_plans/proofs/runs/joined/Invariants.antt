use Rattle.std.proofs.Common.{drop}
use Rattle.rt_plans.proofs.JoinedSpans.{Joins, joined_from}
use Rattle.rt_plans.proofs.runs.joined.Given as goal

abbrev pub invariant-loop-next : goal.invariant-loop-next
invariant-loop-next l = Joins (joined_from l.initial.span l.others) l.joined.items l.span (drop l.next-index l.others)
