use Rattle.std.proofs.Common.{arith, ◌-◌}
use Rattle.rt_spans.specs.Ranks.{rank}
use Rattle.rt_spans.proofs.Borders.{has_among, none_among}
use Rattle.rt_spans.proofs.Painting.{has_in_block}
use Rattle.rt_spans.proofs.Parts.{block_rising, heads_rising, next_of, reached}
use Rattle.rt_spans.proofs.blocks.begins_at.Goals as goal

pub blocks_until-place-requires : goal.blocks_until-place-requires
blocks_until-place-requires g c = heads_rising 0 c.args.blocks.now c.requires

pub begins_at-requires-clause-rising : goal.begins_at-requires-clause-rising
begins_at-requires-clause-rising g c =
    block_rising c.args.blocks.now _ c.index-blocks-place.result (omega (arith, c.blocks_until-place.ensures.within)) c.index-blocks-place.is c.requires

pub returns-then-place-eq0 : goal.returns-then-place-eq0
returns-then-place-eq0 g c =
    (λ no. absurd cc, λ has. absurd (none_among (rank c.args.stamp.site c.args.stamp.count) c.args.blocks.now c.blocks_until-place.result c.requires c.blocks_until-place.ensures c.if-place-eq0.true has))

pub returns-else-place-eq0 : goal.returns-else-place-eq0
returns-else-place-eq0 g c =
    let k = rank c.args.stamp.site c.args.stamp.count in
    let bs = c.args.blocks.now in
    let i = c.blocks_until-place.result - 1 in
    let b = c.index-blocks-place.result in
    let parts = c.blocks_until-place.ensures in
    let is = c.index-blocks-place.is in (
      λ yes. has_among k bs i b (omega (arith, parts.within)) is (c.begins_at.ensures.0 yes),
      λ has. c.begins_at.ensures.1 (has_in_block k bs i b (omega (arith, parts.within)) is c.requires (next_of k bs _ (omega arith) parts) (reached k bs _ b parts (omega arith) is) has),
    )
