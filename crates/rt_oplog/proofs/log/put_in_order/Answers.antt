use Rattle.std.proofs.Common.{sym, subst}
use Rattle.rt_oplog.specs.Logs.{IsFalling}
use Rattle.rt_oplog.proofs.Places.{seen_kept}
use Rattle.rt_oplog.proofs.log.put_in_order.Goals as goal

pub insert-requires-clause-falling : goal.insert-requires-clause-falling
insert-requires-clause-falling c =
    subst IsFalling (sym (seen_kept c.args.ops.now.rows c.push-place.new.self.rows c.args.order.now.items c.push-place.ensures.kept c.requires.within)) c.requires.falling
