use Rattle.std.proofs.Common.{arith, add-one}
use Rattle.rt_spans.specs.Spans.{entry_key}
use Rattle.rt_spans.proofs.Near.{near_found}
use Rattle.rt_spans.proofs.Ranks.{more_when}
use Rattle.rt_spans.proofs.Rising.{lower}
use Rattle.rt_spans.proofs.block.Block.near.Goals as goal

pub entries_until-place-requires : goal.entries_until-place-requires
entries_until-place-requires g c =
    rw c.as_slice.ensures.value (lower entry_key 0 _ c.args.self.now.rest.items (omega arith) c.requires.rising.1)

pub returns-clause-near : goal.returns-clause-near
returns-clause-near g c =
    let self = c.args.self.now in
    let parts = rw c.as_slice.ensures.value at c.entries_until-place.ensures in
    let later = rw add-one at (c.has_until.ensures.later c.if-has_until.false) in
    near_found _ _ self.head self.rest.items _ c.entry_before-entry.result c.requires.rising parts c.requires.reached c.entry_before-entry.ensures (more_when _ _ _ c.is_before.ensures c.if-is_before.false) (λ d l. later d (omega (arith, l)))
