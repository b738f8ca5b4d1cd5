use Rattle.std.proofs.Common.{◌≡◌, ◌∙◌, ◌-◌, length, sym}
use Rattle.std.specs.Prelude.{slice_get, Some}
use Rattle.rt_oplog.proofs.InBlocks.{last_of_all}
use Rattle.rt_oplog.proofs.blocks.are_earlier.Goals as goal

pub returns-in-Some : goal.returns-in-Some
returns-in-Some c =
    let bs = c.args.blocks.now in
    let b = c.in-Some.block.now in
    let told : slice_get bs (length bs - 1) ≡ Some b = sym (rw c.in-Some.is at c.last.ensures.value) in
    c.is_before.ensures ∙ last_of_all c.args.ops.now.rows c.args.stamp bs b c.requires told
