use Rattle.std.proofs.Common.{arith}
use Rattle.rt_spans.specs.Spans.{entry_key}
use Rattle.rt_spans.specs.Ranks.{rank}
use Rattle.rt_spans.proofs.Ranks.{less_when, more_when}
use Rattle.rt_spans.proofs.Rising.{lower}
use Rattle.rt_spans.proofs.Borders.{has_when, is_false, is_true, none_here}
use Rattle.rt_spans.proofs.block.Block.begins_at.Goals as goal

pub entries_until-place-requires : goal.entries_until-place-requires
entries_until-place-requires g c =
    rw c.as_slice.ensures.value (lower entry_key 0 _ c.args.self.now.rest.items (omega arith) c.requires.rising.1)

pub returns : goal.returns
returns g c =
    let self = c.args.self.now in
    let k = rank c.args.stamp.site c.args.stamp.count in
    let parts = rw c.as_slice.ensures.value at c.entries_until-place.ensures in (
      λ yes. has_when k self.head self.rest.items _ c.entry_before-entry.result parts c.requires.reached c.entry_before-entry.ensures (more_when _ _ _ c.is_before.ensures (is_false _ yes)),
      λ has. is_true _ (λ less. none_here k self.head self.rest.items _ c.entry_before-entry.result c.requires.rising parts c.entry_before-entry.ensures (less_when _ _ _ c.is_before.ensures less) has),
    )
