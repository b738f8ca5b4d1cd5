use Rattle.std.proofs.Common.{◌≡◌, suc, ◌<◌, ◌+◌, get_or, length, vec_len, ap, ◌∙◌, arith, add-one, length-append}
use Rattle.rt_oplog.specs.Runs.{places_in}
use Rattle.rt_oplog.specs.Blocks.{places_in_blocks, runs_of}
use Rattle.rt_oplog.specs.declared.block.Block.{Block}
use Rattle.rt_oplog.specs.declared.runs.TheConstants.{MOST}
use Rattle.rt_oplog.proofs.InBlocks.{any_default, of_block}
use Rattle.rt_oplog.proofs.Filling.{half_split, runs_split, split_blocks, split_one, split_other}
use Rattle.rt_oplog.proofs.blocks.split.Goals as goal

pub returns-clause-items : goal.returns-clause-items
returns-clause-items c =
    let items = rw add-one at c.insert_block.ensures.items in
    let l : c.args.block < length c.args.blocks.now.items = omega (arith, c.requires.block, c.args.blocks.now.ok.0) in
    ap places_in_blocks items ∙ split_blocks c.args.blocks.now.items c.args.block c.index_mut.result.now c.split_off-later.new.self c.split_off-later.result l c.index_mut.ensures.value c.split_off-later.ensures.items

pub returns-clause-runs : goal.returns-clause-runs
returns-clause-runs c =
    let items = rw add-one at c.insert_block.ensures.items in
    let l : c.args.block < length c.args.blocks.now.items = omega (arith, c.requires.block, c.args.blocks.now.ok.0) in
    ap runs_of items ∙ runs_split c.args.blocks.now.items c.args.block c.index_mut.result.now c.split_off-later.new.self c.split_off-later.result l c.index_mut.ensures.value c.split_off-later.ensures.both

pub returns-clause-half : goal.returns-clause-half
returns-clause-half c =
    let items = rw add-one at c.insert_block.ensures.items in
    let block = c.index_mut.result.now in
    let full = of_block (λ (x : Block). MOST < vec_len x.runs + 2) c.args.blocks.now.items c.args.block block c.index_mut.ensures.value c.requires.full in
    rw items (half_split c.args.blocks.now.items c.args.block c.split_off-later.new.self c.split_off-later.result c.requires.half (omega (arith, c.requires.block, c.args.blocks.now.ok.0)) (omega (arith, c.split_off-later.ensures.front))
    (omega (arith, c.split_off-later.ensures.front, c.split_off-later.ensures.both, full)))

pub returns-clause-both : goal.returns-clause-both
returns-clause-both c = λ d.
    let bs = c.args.blocks.now.items in
    let i = c.args.block in
    let front = c.split_off-later.new.self in
    let back = c.split_off-later.result in
    let items = rw add-one at c.insert_block.ensures.items in
    let l : i < length bs = omega (arith, c.requires.block, c.args.blocks.now.ok.0) in
    let size = λ (x : Block). length (places_in x.runs.items) in
    let next : i + 1 ≡ suc i = omega arith in
    let one = ap (λ xs. size (get_or xs i d)) items ∙ ap size (split_one bs i front back d l) in
    let other = ap (λ n. size (get_or c.insert_block.new.blocks.items n d)) next ∙ ap (λ xs. size (get_or xs (suc i) d)) items ∙ ap size (split_other bs i front back d l) in
    let was = ap size (c.index_mut.ensures.value ∙ any_default bs i c.index_mut.result.now d l) in
    let all = ap length c.split_off-later.ensures.items ∙ length-append (places_in front.runs.items) (places_in back.runs.items) in
    omega (arith, one, other, was, all)
