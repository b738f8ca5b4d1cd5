use Rattle.std.proofs.Common.{arith}
use Rattle.rt_spans.proofs.Debts.{debt_more}
use Rattle.rt_spans.proofs.Near.{set_blocks}
use Rattle.rt_spans.proofs.Parts.{block_rising, room_at, room_written}
use Rattle.rt_spans.proofs.blocks.stretch.Goals as goal

pub index_mut-block-requires : goal.index_mut-block-requires
index_mut-block-requires g c = omega (arith, c.requires.near.within)

pub stretch-requires-clause-rising : goal.stretch-requires-clause-rising
stretch-requires-clause-rising g c =
    block_rising c.args.blocks.now.items _ c.index_mut-block.result.now c.requires.near.within c.index_mut-block.ensures.value c.requires.rising

pub stretch-requires-clause-within : goal.stretch-requires-clause-within
stretch-requires-clause-within g c = c.requires.near.place c.index_mut-block.result.now c.index_mut-block.ensures.value

pub stretch-requires-clause-room : goal.stretch-requires-clause-room
stretch-requires-clause-room g c =
    let had = room_at c.args.blocks.now.items c.args.spot.block c.index_mut-block.result.now c.requires.room c.requires.near.within c.index_mut-block.ensures.value in
    omega (arith, had.0, had.1)

pub returns-clause-set : goal.returns-clause-set
returns-clause-set g c =
    let b = c.index_mut-block.result.now in
    let is = c.index_mut-block.ensures.value in
    set_blocks _ _ c.args.value c.args.blocks.now.items c.args.spot.block b c.stretch.new.self c.requires.near.within is c.requires.rising c.requires.near.later (c.stretch.ensures.painted _ c.requires.later (c.requires.near.near b is))

pub returns-clause-room : goal.returns-clause-room
returns-clause-room g c =
    let b = c.index_mut-block.result.now in
    let is = c.index_mut-block.ensures.value in
    let had = room_at c.args.blocks.now.items c.args.spot.block b c.requires.room c.requires.near.within is in
    let few = c.requires.near.few b is in
    room_written c.args.blocks.now.items c.args.spot.block c.stretch.new.self c.requires.room c.requires.near.within (omega (arith, few, c.stretch.ensures.len), omega (arith, had.1, c.stretch.ensures.capacity))

pub returns-clause-debt : goal.returns-clause-debt
returns-clause-debt g c =
    debt_more c.args.blocks.now.items c.args.spot.block c.index_mut-block.result.now c.stretch.new.self 1 c.requires.near.within c.index_mut-block.ensures.value c.stretch.ensures.len
