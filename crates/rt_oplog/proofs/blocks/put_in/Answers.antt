use Rattle.std.proofs.Common.{◌<◌, ◌≤◌, length, arith}
use Rattle.rt_oplog.specs.declared.block.Block.{Block}
use Rattle.rt_oplog.specs.Blocks.{places_of_block}
use Rattle.rt_oplog.proofs.InBlocks.{of_block}
use Rattle.rt_oplog.proofs.Filling.{half_put, put_blocks, runs_put}
use Rattle.rt_oplog.proofs.blocks.put_in.Goals as goal

pub returns-clause-items : goal.returns-clause-items
returns-clause-items c =
    let bs = c.args.blocks.now.items in
    let b = c.index_mut.result.now in
    let l : c.args.block < length bs = omega (arith, c.requires.block, c.args.blocks.now.ok.0) in
    let within = of_block (λ (x : Block). c.args.at ≤ length (places_of_block x)) bs c.args.block b c.index_mut.ensures.value c.requires.within in
    put_blocks bs c.args.block b c.put.new.self c.args.at c.args.place l c.index_mut.ensures.value within c.put.ensures.items

pub returns-clause-half : goal.returns-clause-half
returns-clause-half c =
    half_put c.args.blocks.now.items c.args.block c.index_mut.result.now c.put.new.self c.requires.half c.index_mut.ensures.value c.put.ensures.longer

pub returns-clause-runs : goal.returns-clause-runs
returns-clause-runs c =
    let bs = c.args.blocks.now.items in
    let l : c.args.block < length bs = omega (arith, c.requires.block, c.args.blocks.now.ok.0) in
    runs_put bs c.args.block c.index_mut.result.now c.put.new.self l c.index_mut.ensures.value c.put.ensures.len
