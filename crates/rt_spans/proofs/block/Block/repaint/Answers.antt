use Rattle.std.proofs.Common.{arith}
use Rattle.rt_spans.proofs.Near.{has_next, painted_there}
use Rattle.rt_spans.proofs.Ranks.{same_when}
use Rattle.rt_spans.proofs.block.Block.repaint.Goals as goal

pub returns-clause-painted : goal.returns-clause-painted
returns-clause-painted g c =
    let self = c.args.self.now in
    λ _. painted_there _ _ c.args.value self.head self.rest.items _ c.place_until-place.result c.entry_before.result c.index.result.now c.requires.rising (omega (arith, c.if-place-len.false)) c.entry_before.ensures (same_when _ _ _ c.is_at-2.ensures c.if-not-is_at-2.false) c.index.ensures (same_when _ _ _ c.is_at.ensures c.if-not-is_at.false) c.hold.ensures.items

pub returns-clause-ends : goal.returns-clause-ends
returns-clause-ends g c =
    let self = c.args.self.now in
    λ _. has_next _ self.head self.rest.items c.place_until-place.result c.index.result.now (omega (arith, c.if-place-len.false)) c.index.ensures (same_when _ _ _ c.is_at.ensures c.if-not-is_at.false)
