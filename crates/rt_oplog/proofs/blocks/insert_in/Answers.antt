use Rattle.std.proofs.Common.{◌∙◌, ap, sym, arith}
use Rattle.std.specs.List.{insert}
use Rattle.std.proofs.lemmas.List.Edits.{insert_end}
use Rattle.rt_oplog.specs.Blocks.{places_in_blocks}
use Rattle.rt_oplog.proofs.InBlocks.{all_earlier, not_all_earlier}
use Rattle.rt_oplog.proofs.blocks.insert_in.Goals as goal

pub returns-then-are_earlier-clause-items : goal.returns-then-are_earlier-clause-items
returns-then-are_earlier-clause-items c =
    let bs = c.args.blocks.now.items in
    let is = rw c.deref.ensures.value at c.are_earlier.ensures in
    let all = all_earlier c.args.ops.now.rows c.args.stamp bs (sym is ∙ c.if-are_earlier.true) in
    c.append.ensures.items ∙ sym (ap (λ n. insert (places_in_blocks bs) n c.args.place) all ∙ insert_end (places_in_blocks bs) c.args.place)

pub insert_at-requires-clause-within : goal.insert_at-requires-clause-within
insert_at-requires-clause-within c =
    let bs = c.args.blocks.now.items in
    let is = rw c.deref.ensures.value at c.are_earlier.ensures in
    let before = rw c.deref-else-are_earlier.ensures.value at c.blocks_before-block.ensures.blocks in
    omega (arith, not_all_earlier c.args.ops.now.rows c.args.stamp bs c.blocks_before-block.result (sym is ∙ c.if-are_earlier.false) before, c.args.blocks.now.ok.0)
