use Rattle.std.proofs.Common.{◌≡◌, subst, true}
use Rattle.rt_ops.specs.Operations.{Operation}
use Rattle.rt_oplog.specs.Logs.{same_operation}
use Rattle.rt_oplog.proofs.Sets.{has_held, held_from, operation_refl, operation_true}
use Rattle.rt_oplog.proofs.laws.membership.Goals as goal

pub returns-clause-same : goal.returns-clause-same
returns-clause-same c a b = (operation_true a b, λ e. subst (λ (x : Operation). same_operation a x ≡ true) e (operation_refl a))

pub returns-clause-holds : goal.returns-clause-holds
returns-clause-holds c set op = (has_held set op, held_from set op)
