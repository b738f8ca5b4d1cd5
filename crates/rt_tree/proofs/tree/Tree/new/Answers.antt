use Rattle.std.proofs.Common.{◌≡◌, insert, length, max, ◌-◌, ap, ◌∙◌}
use Rattle.rt_nodes.specs.Nodes.{entries, no_nodes, with_entries, with_node, with_room}
use Rattle.rt_tree.specs.declared.node.Entry.TheVariants.{Here}
use Rattle.rt_tree.specs.declared.node.Head.{Head}
use Rattle.rt_tree.specs.declared.node.Run.{Run}
use Rattle.rt_tree.specs.Shape.{Memory}
use Rattle.rt_tree.specs.Trees.{final_run}
use Rattle.rt_tree.proofs.Showing.{first_right}
use Rattle.rt_tree.proofs.tree.Tree.new.Goals as goal

pub returns-clause-right : goal.returns-clause-right
returns-clause-right c table =
    let k = max c.new-mem.result.room 1 in
    let head : Head = record { parent = record { index = 0 }; level = 0 } in
    let had : c.reserve.new.self ≡ with_room no_nodes k = c.in_ok-reserve.ensures.room ∙ ap (λ (x : Memory). with_room x k) c.new-mem.ensures in
    let made : c.make-root.new.self ≡ with_node (with_room no_nodes k) head = c.make-root.ensures.node ∙ ap (λ (x : Memory). with_node x head) had in
    let root : c.make-root.result.index ≡ 0 = c.make-root.ensures.id.0 ∙ ap (λ (x : Memory). length x.heads) had in
    let put = ap (λ (r : Run). with_entries c.make-root.new.self c.make-root.result.index (insert (entries c.make-root.new.self c.make-root.result.index) 0 (Here r))) c.final_run.ensures in
    first_right table c.insert_entry.new.mem (record { index = 0 }) (k - 1) c.in_ok-sums.sums.each.items
    (c.insert_entry.ensures ∙ put ∙ (λ i. with_entries (made i) (root i) (insert (entries (made i) (root i)) 0 (Here final_run))))
    (c.in_ok-sums.ensures.is table)
