use Rattle.std.proofs.Common.{arith}
use Rattle.rt_spans.proofs.Near.{near_in}
use Rattle.rt_spans.proofs.Parts.{block_rising, heads_rising, reached}
use Rattle.rt_spans.proofs.blocks.near.Goals as goal

pub blocks_until-place-requires : goal.blocks_until-place-requires
blocks_until-place-requires g c = heads_rising 0 c.args.blocks.now c.requires

pub near-requires-clause-rising : goal.near-requires-clause-rising
near-requires-clause-rising g c =
    block_rising c.args.blocks.now _ c.index-blocks-place.result (omega (arith, c.blocks_until-place.ensures.within)) c.index-blocks-place.is c.requires

pub near-requires-clause-reached : goal.near-requires-clause-reached
near-requires-clause-reached g c =
    reached _ c.args.blocks.now _ c.index-blocks-place.result c.blocks_until-place.ensures (omega arith) c.index-blocks-place.is

pub returns : goal.returns
returns g c =
    let found = c.in_ok-entry.ensures in
    near_in _ _ c.args.blocks.now c.blocks_until-place.result c.in_ok-entry.entry c.index-blocks-place.result c.requires (omega arith) c.blocks_until-place.ensures.within c.index-blocks-place.is (c.has_until.ensures c.if-has_until.false) (omega arith) found.within found.near
