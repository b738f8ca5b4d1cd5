use Rattle.rt_store.proofs.GivenStates.{put_states}
use Rattle.rt_store.proofs.list.ListStoreTextStore.set_state.Goals as goal

pub returns-clause-states : goal.returns-clause-states
returns-clause-states c = rw c.mark_state.ensures.items (put_states c.args._states.now c.args.span c.args.state c.args.self.now.cells.items c.requires.state c.requires.states)
