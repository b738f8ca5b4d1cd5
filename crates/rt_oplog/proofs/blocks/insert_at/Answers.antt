use Rattle.std.proofs.Common.{◌<◌, ◌+◌, ap, arith, length, sym, ◌∙◌}
use Rattle.std.specs.List.{insert}
use Rattle.rt_oplog.specs.Kept.{is_earlier}
use Rattle.rt_oplog.specs.Blocks.{places_in_blocks, places_before}
use Rattle.rt_oplog.proofs.InBlocks.{falling_block, leading_at}
use Rattle.rt_oplog.proofs.blocks.insert_at.Goals as goal

pub ops_before-at-requires : goal.ops_before-at-requires
ops_before-at-requires c =
    falling_block c.args.ops.now.rows c.args.blocks.now.items c.args.block c.index.result.now (omega (arith, c.requires.within, c.args.blocks.now.ok.0)) c.index.ensures c.requires.falling

pub returns-clause-items : goal.returns-clause-items
returns-clause-items c =
    let bs = c.args.blocks.now.items in
    let b = c.index.result.now in
    let p = is_earlier c.args.ops.now.rows c.args.stamp in
    let l : c.args.block < length bs = omega (arith, c.requires.within, c.args.blocks.now.ok.0) in
    let whole = leading_at p bs c.args.block b c.requires.block l c.index.ensures in
    c.put_at.ensures.items ∙ ap (λ n. insert (places_in_blocks bs) n c.args.place) (ap (λ n. places_before bs c.args.block + n) c.ops_before-at.ensures.place ∙ sym whole)
