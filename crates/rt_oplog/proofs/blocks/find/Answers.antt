use Rattle.std.proofs.Common.{◌≡◌, ◌<◌, ◌∙◌, sym, ap, length, arith}
use Rattle.std.specs.Prelude.{slice_get}
use Rattle.std.proofs.lemmas.Option.{get_or_from_slice_get, slice_get_past}
use Rattle.rt_oplog.specs.Kept.{leading, is_earlier}
use Rattle.rt_oplog.specs.Runs.{places_in}
use Rattle.rt_oplog.specs.Blocks.{places_in_blocks}
use Rattle.rt_oplog.proofs.InBlocks.{all_earlier, falling_block, leading_at, leading_within, not_all_earlier, place_at}
use Rattle.rt_oplog.proofs.blocks.find.Goals as goal

pub returns-then-are_earlier : goal.returns-then-are_earlier
returns-then-are_earlier c =
    let bs = c.args.blocks.now in
    let all = all_earlier c.args.ops.now.rows c.args.stamp bs (sym c.are_earlier.ensures ∙ c.if-are_earlier.true) in
    sym (ap (slice_get (places_in_blocks bs)) all ∙ slice_get_past (places_in_blocks bs) (length (places_in_blocks bs)) (omega arith))

pub bounds-blocks-before : goal.bounds-blocks-before
bounds-blocks-before c = not_all_earlier c.args.ops.now.rows c.args.stamp c.args.blocks.now c.blocks_before-before.result (sym c.are_earlier.ensures ∙ c.if-are_earlier.false) c.blocks_before-before.ensures.blocks

pub ops_before-requires : goal.ops_before-requires
ops_before-requires c =
    falling_block c.args.ops.now.rows c.args.blocks.now c.blocks_before-before.result c.index-blocks-before.result (not_all_earlier c.args.ops.now.rows c.args.stamp c.args.blocks.now c.blocks_before-before.result (sym c.are_earlier.ensures ∙ c.if-are_earlier.false) c.blocks_before-before.ensures.blocks) c.index-blocks-before.is c.requires

pub get-requires : goal.get-requires
get-requires c =
    let bs = c.args.blocks.now in
    let i = c.blocks_before-before.result in
    let p = is_earlier c.args.ops.now.rows c.args.stamp in
    let l : i < length bs = not_all_earlier c.args.ops.now.rows c.args.stamp bs i (sym c.are_earlier.ensures ∙ c.if-are_earlier.false) c.blocks_before-before.ensures.blocks in
    omega (arith, c.ops_before.ensures.place, leading_within p bs i c.index-blocks-before.result c.blocks_before-before.ensures.blocks l c.index-blocks-before.is)

pub returns : goal.returns
returns c =
    let bs = c.args.blocks.now in
    let i = c.blocks_before-before.result in
    let b = c.index-blocks-before.result in
    let p = is_earlier c.args.ops.now.rows c.args.stamp in
    let l : i < length bs = not_all_earlier c.args.ops.now.rows c.args.stamp bs i (sym c.are_earlier.ensures ∙ c.if-are_earlier.false) c.blocks_before-before.ensures.blocks in
    let at : c.ops_before.result ≡ leading p (places_in b.runs.items) = c.ops_before.ensures.place in
    let within : c.ops_before.result < length (places_in b.runs.items) = omega (arith, at, leading_within p bs i b c.blocks_before-before.ensures.blocks l c.index-blocks-before.is) in
    let read = sym (get_or_from_slice_get (places_in b.runs.items) c.ops_before.result c.get.result c.get.result c.get.ensures) in
    sym (ap (slice_get (places_in_blocks bs)) (leading_at p bs i b c.blocks_before-before.ensures.blocks l c.index-blocks-before.is ∙ omega (arith, at))
    ∙ place_at bs i c.ops_before.result c.get.result b l c.index-blocks-before.is within read)
