use Rattle.std.proofs.Common.{◌≡◌, ◌∙◌, ◌+◌, ◌-◌, ◌<◌, ap, sym, arith, get_or, length}
use Rattle.std.specs.Prelude.{slice_get}
use Rattle.std.proofs.lemmas.Option.{get_or_from_slice_get}
use Rattle.rt_oplog.specs.declared.block.Block.{Block}
use Rattle.rt_oplog.specs.Runs.{places_in}
use Rattle.rt_oplog.specs.Blocks.{places_in_blocks, places_before}
use Rattle.rt_oplog.proofs.InBlocks.{any_default, place_at, places_up_to}
use Rattle.rt_oplog.proofs.blocks.get.Goals as goal

pub returns-then-before-at : goal.returns-then-before-at
returns-then-before-at c =
    let bs = c.args.blocks.now in
    let i = c.loop-block.block - 1 in
    let first = c.index-blocks-block.result in
    let b = c.index-blocks-block-then-before-at.result in
    let there = get_or bs i first in
    let start = c.loop-block.before - there.many in
    let one : i + 1 ≡ c.loop-block.block = omega (arith, c.loop-block-test.true) in
    let l : i < length bs = omega (arith, one, c.loop-block.invariant.blocks) in
    let up = places_up_to bs i first l c.index-blocks-block.is in
    let all : places_before bs (i + 1) ≡ c.loop-block.before = ap (places_before bs) one ∙ sym c.loop-block.invariant.before in
    let size = ap (λ (x : Block). length (places_in x.runs.items)) c.index-blocks-block.is in
    let from : start ≡ places_before bs i = omega (arith, up, all, size, there.counted) in
    let read = sym (get_or_from_slice_get (places_in b.runs.items) (c.args.at - start) c.get.result c.get.result c.get.ensures) in
    let here : places_before bs i + (c.args.at - start) ≡ c.args.at = omega (arith, from, c.if-before-at.true) in
    let same = ap (λ (x : Block). length (places_in x.runs.items)) (any_default bs i first b l ∙ sym c.index-blocks-block-then-before-at.is) in
    let within : c.args.at - start < length (places_in b.runs.items) = omega (arith, from, up, all, size, same, c.loop-block.invariant.within, c.if-before-at.true) in
    ap (slice_get (places_in_blocks bs)) (sym here) ∙ place_at bs i (c.args.at - start) c.get.result b l c.index-blocks-block-then-before-at.is within read
