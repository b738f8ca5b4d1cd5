use Rattle.std.proofs.Common.{arith}
use Rattle.rt_spans.specs.Spans.{entry_key}
use Rattle.rt_spans.proofs.Cutting.{there}
use Rattle.rt_spans.proofs.Ranks.{same_when}
use Rattle.rt_spans.proofs.Rising.{lower, parts_to}
use Rattle.rt_spans.proofs.block.Block.place_until.Goals as goal

pub returns-then-is_at : goal.returns-then-is_at
returns-then-is_at g c =
    let self = c.args.self.now in
    let e = c.entry_before.result in
    parts_to entry_key _ self.head self.rest.items _ e c.requires.rising (omega (arith, c.if-steps-len.true)) (there _ _ e c.entry_before.ensures) (same_when _ _ _ c.is_at.ensures c.if-is_at.true)

pub entries_until-requires : goal.entries_until-requires
entries_until-requires g c =
    rw c.as_slice.ensures.value (lower entry_key 0 _ c.args.self.now.rest.items (omega arith) c.requires.rising.1)
