use Rattle.rt_rga.proofs.Batching.{batch_placed}
use Rattle.rt_rga.proofs.noting.put_and_note.Goals as goal

pub put_all-requires-clause-put : goal.put_all-requires-clause-put
put_all-requires-clause-put g c =
    let states = c.args.states.now in
    batch_placed c.args.log.now.operations c.args.ops.now states states (g.S.TextStore.list c.args.store.now) c.args.new.now c.requires.replica c.requires.continues c.requires.fresh
