use Rattle.std.proofs.Common.{arith, inr}
use Rattle.rt_spans.proofs.Parts.{heads_rising}
use Rattle.rt_spans.proofs.Thinning.{debt_less, thins_blocks}
use Rattle.rt_spans.proofs.blocks.thin_out.Goals as goal

pub blocks_until-from-requires : goal.blocks_until-from-requires
blocks_until-from-requires g c =
    rw c.as_slice.ensures.value (heads_rising 0 c.args.blocks.now.items c.requires.rising)

pub blocks_before-requires : goal.blocks_before-requires
blocks_before-requires g c =
    rw c.as_slice-2.ensures.value (heads_rising 0 c.args.blocks.now.items c.requires.rising)

pub returns-then-from-last-clause-thinned : goal.returns-then-from-last-clause-thinned
returns-then-from-last-clause-thinned g c =
    let p = rw c.as_slice.ensures.value at c.blocks_until-from.ensures in
    let q = rw c.as_slice-2.ensures.value at c.blocks_before.ensures in
    rw c.remove_range.ensures.items (inr (thins_blocks _ _ _ _ _ c.args.blocks.now.items c.requires.rising p q c.saturating_sub-last.ensures c.if-from-last.true))

pub returns-then-from-last-clause-debt : goal.returns-then-from-last-clause-debt
returns-then-from-last-clause-debt g c =
    let q = rw c.as_slice-2.ensures.value at c.blocks_before.ensures in
    rw c.remove_range.ensures.items (debt_less c.args.blocks.now.items _ _ (omega (arith, c.if-from-last.true)) (omega (arith, q.within, c.saturating_sub-last.ensures, c.if-from-last.true)))
