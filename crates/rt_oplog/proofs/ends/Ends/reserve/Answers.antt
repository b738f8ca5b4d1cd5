use Rattle.rt_oplog.proofs.SameEnds.{end_stays}
use Rattle.rt_oplog.proofs.AtHand.{at_hand_stays}
use Rattle.rt_oplog.proofs.ends.Ends.reserve.Goals as goal

pub returns-in-Ok-clause-same : goal.returns-in-Ok-clause-same
returns-in-Ok-clause-same c = at_hand_stays c.args.self.now.recent c.args.self.now.others c.reserve.new.self (end_stays c.args.self.now.others c.reserve.new.self c.reserve.ensures.values)
