use Rattle.std.proofs.Common.{◌∙◌, arith}
use Rattle.rt_oplog.proofs.AtHand.{at_hand_none}
use Rattle.rt_oplog.proofs.ends.Ends.get.Goals as goal

pub returns-else-at-lt-RECENT : goal.returns-else-at-lt-RECENT
returns-else-at-lt-RECENT c =
    let ends = c.args.self.now in
    c.kept.ensures ∙ at_hand_none ends.recent ends.others c.args.site (omega (arith, c.place_of-at.ensures.place, c.place_of-at.ensures.within, c.if-at-lt-RECENT.false))
