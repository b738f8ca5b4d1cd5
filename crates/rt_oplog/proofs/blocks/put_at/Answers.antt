use Rattle.std.proofs.Common.{◌≡◌, ◌<◌, ◌+◌, ◌-◌, ap, arith, length, ◌∙◌}
use Rattle.std.specs.List.{insert}
use Rattle.rt_oplog.specs.declared.block.Block.{Block}
use Rattle.rt_oplog.specs.Runs.{places_in}
use Rattle.rt_oplog.specs.Blocks.{places_in_blocks, places_before}
use Rattle.rt_oplog.proofs.InBlocks.{any_default, places_up_to}
use Rattle.rt_oplog.proofs.Filling.{runs_of_full, some_spare}
use Rattle.rt_oplog.proofs.blocks.put_at.Goals as goal

pub take_spare-later-requires-clause-left : goal.take_spare-later-requires-clause-left
take_spare-later-requires-clause-left c =
    let bs = c.args.blocks.now.items in
    let l : c.args.block < length bs = omega (arith, c.requires.block, c.args.blocks.now.ok.0) in
    let all = runs_of_full bs c.args.block c.index.result.now c.requires.half l c.index.ensures c.if-not-is_full.ensures.full in
    some_spare _ _ _ _ c.requires.room (omega (arith, all, c.args.blocks.now.ok.0))

pub put_in-requires-else-at-front-clause-within : goal.put_in-requires-else-at-front-clause-within
put_in-requires-else-at-front-clause-within c = λ d.
    let now = c.split.new.blocks.items in
    let i = c.args.block in
    let b = c.index-2.result.now in
    let l : i < length now = omega (arith, c.requires.block, c.split.ensures.len, c.split.new.blocks.ok.0) in
    let front = ap (λ (x : Block). length (places_in x.runs.items)) (c.index-2.ensures ∙ any_default now i b d l) in
    omega (arith, c.split.ensures.both d, c.requires.within d, front, b.counted)

pub returns-else-at-front-clause-items : goal.returns-else-at-front-clause-items
returns-else-at-front-clause-items c =
    let was = c.args.blocks.now.items in
    let now = c.split.new.blocks.items in
    let i = c.args.block in
    let b = c.index-2.result.now in
    let l : i < length now = omega (arith, c.requires.block, c.split.ensures.len, c.split.new.blocks.ok.0) in
    let next = places_up_to now i b l c.index-2.ensures in
    let front : places_before now i ≡ places_before was i = ap (λ bs. length (places_in_blocks bs)) c.split.ensures.front in
    let same : places_before now (i + 1) + (c.args.at - b.many) ≡ places_before was i + c.args.at = omega (arith, next, front, b.counted, c.if-at-front.false) in
    c.put_in-else-at-front.ensures.items ∙ ap (λ n. insert (places_in_blocks now) n c.args.place) same ∙ ap (λ xs. insert xs (places_before was i + c.args.at) c.args.place) c.split.ensures.items
