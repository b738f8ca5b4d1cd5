use Rattle.rt_store.proofs.GivenStates.{gone_states}
use Rattle.rt_store.proofs.list.ListStoreTextStore.set_gone.Goals as goal

pub returns-clause-states : goal.returns-clause-states
returns-clause-states c = rw c.mark_gone.ensures.items (gone_states c.args._states.now c.args.span c.args.self.now.cells.items c.requires.states)
