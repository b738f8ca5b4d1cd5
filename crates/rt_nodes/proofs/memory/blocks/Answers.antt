use Rattle.std.proofs.Common.{[], ◌∷◌, rules}
use Rattle.rt_nodes.proofs.Rows.{AreEmpty-append}
use Rattle.rt_nodes.proofs.memory.blocks.Goals as goal

pub loop-alloc-preserved : goal.loop-alloc-preserved
loop-alloc-preserved g c =
    let i = c.loop-alloc.invariant in
    (rw c.push_reserved.ensures.items (AreEmpty-append c.args.capacity c.loop-alloc.blocks.items (c.in_ok-new.field-0 ∷ []) i.0 (c.in_ok-new.ensures, tt)), search rules, search rules)
