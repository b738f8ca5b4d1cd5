use Rattle.std.proofs.Common.{arith, ◌-◌}
use Rattle.rt_spans.proofs.Borders.{has_among}
use Rattle.rt_spans.proofs.Debts.{debt_more}
use Rattle.rt_spans.proofs.Near.{has_begin, painted_block}
use Rattle.rt_spans.proofs.Parts.{block_rising, heads_rising}
use Rattle.rt_spans.proofs.blocks.repaint_entry.Goals as goal

pub blocks_until-place-requires : goal.blocks_until-place-requires
blocks_until-place-requires g c =
    rw c.as_slice.ensures.value (heads_rising 0 c.args.blocks.now.items c.requires.rising)

pub repaint-requires : goal.repaint-requires
repaint-requires g c =
    let within = (rw c.as_slice.ensures.value at c.blocks_until-place.ensures).within in
    record { rising = block_rising c.args.blocks.now.items _ c.index_mut-block.result.now (omega (arith, within)) c.index_mut-block.ensures.value c.requires.rising }

pub returns-clause-borders : goal.returns-clause-borders
returns-clause-borders g c =
    let bs = c.args.blocks.now.items in
    let b = c.index_mut-block.result.now in
    let i = c.blocks_until-place.result - 1 in
    let is = c.index_mut-block.ensures.value in
    let within = (rw c.as_slice.ensures.value at c.blocks_until-place.ensures).within in
    λ yes. (
      has_among _ bs i b (omega (arith, within)) is (has_begin _ _ _ _ _ (c.repaint.ensures.painted yes)),
      has_among _ bs i b (omega (arith, within)) is (c.repaint.ensures.ends yes),
    )

pub returns-clause-painted : goal.returns-clause-painted
returns-clause-painted g c =
    let within = (rw c.as_slice.ensures.value at c.blocks_until-place.ensures).within in
    λ yes. painted_block _ _ c.args.value c.args.blocks.now.items _ c.index_mut-block.result.now c.repaint.new.self (omega (arith, within)) c.index_mut-block.ensures.value c.requires.rising (c.repaint.ensures.ends yes) (c.repaint.ensures.painted yes)

pub returns-clause-debt : goal.returns-clause-debt
returns-clause-debt g c =
    let within = (rw c.as_slice.ensures.value at c.blocks_until-place.ensures).within in
    let less = debt_more c.args.blocks.now.items _ c.index_mut-block.result.now c.repaint.new.self 0 (omega (arith, within)) c.index_mut-block.ensures.value (omega (arith, c.repaint.ensures.len)) in
    omega (arith, less)
