use Rattle.rt_tags.proofs.Listing.{keeps_both}
use Rattle.rt_rga.proofs.Replicas.{replica_distinct, replica_later}
use Rattle.rt_rga.proofs.Within.{final_spared, placed_by}
use Rattle.rt_rga.proofs.noting.change_one.Goals as goal

pub describe-requires-clause-placed : goal.describe-requires-clause-placed
describe-requires-clause-placed g c = placed_by c.args.log.now.operations c.args.states.now (g.S.TextStore.list c.args.store.now) c.args.op.now c.requires.replica c.requires.continues

pub describe-requires-clause-distinct : goal.describe-requires-clause-distinct
describe-requires-clause-distinct g c = replica_distinct c.args.log.now.operations c.args.states.now (g.S.TextStore.list c.args.store.now) c.requires.replica

pub describe-requires-clause-stays : goal.describe-requires-clause-stays
describe-requires-clause-stays g c = final_spared c.args.log.now.operations c.args.states.now (g.S.TextStore.list c.args.store.now) c.args.op.now c.requires.replica c.requires.continues

pub change-requires-clause-replica : goal.change-requires-clause-replica
change-requires-clause-replica g c = replica_later c.args.log.now.operations c.args.states.now c.describe.new.states (g.S.TextStore.list c.args.store.now) c.requires.replica c.describe.ensures.ids

pub returns-in_err-change-clause-ids : goal.returns-in_err-change-clause-ids
returns-in_err-change-clause-ids g c = keeps_both c.args.states.now c.describe.new.states c.change.new.states c.describe.ensures.ids c.change.ensures.ids

pub returns-clause-ids : goal.returns-clause-ids
returns-clause-ids g c = keeps_both c.args.states.now c.describe.new.states c.change.new.states c.describe.ensures.ids c.change.ensures.ids
