use Rattle.std.proofs.Common.{◌∙◌, sym}
use Rattle.rt_oplog.proofs.Places.{length_seen}
use Rattle.rt_oplog.proofs.log.OpLog.len.Goals as goal

pub returns : goal.returns
returns c = rw (← c.self.view_is) (c.len.ensures ∙ sym (length_seen c.self.inside.ops.rows c.self.inside.order.items))
