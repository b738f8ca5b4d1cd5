use Rattle.std.proofs.Common.{◌∙◌, ap, sym}
use Rattle.rt_oplog.proofs.Merges.{seen_reversed, ops_at}
use Rattle.rt_oplog.proofs.log.OpLog.blocks.Goals as goal

pub returns-clause-operations : goal.returns-clause-operations
returns-clause-operations c =
    let ops = c.self.inside.ops.rows in
    rw (← c.self.view_is) ((ap (ops_at ops) c.blocks-2.ensures ∙ sym (seen_reversed ops c.self.inside.order.items)))
