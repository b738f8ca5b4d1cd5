use Rattle.std.proofs.Common.{rules, of_calls, ◌≡◌, ◌≤◌, length, true, false, not, subst}
use Rattle.std.specs.List.Sorted.{IsPartitionedBy, IsPartitionPoint}
use Rattle.std.proofs.lemmas.Fn.{always_returns_same}
use Rattle.rt_marks.specs.Marks.{comes_before}
use Rattle.rt_marks.specs.Seen.{spotted}
use Rattle.rt_marks.specs.Tables.{slots_of}
use Rattle.rt_marks.proofs.Searching.{of_slot, parts_from, until_down}
use Rattle.rt_marks.proofs.table.Table.count_until.Goals as goal

pub returns : goal.returns
returns c =
    let p = of_slot (λ m. not (comes_before (spotted c.args.here.now) m)) (slots_of c.args.self.now) in
    let i = c.partition_point.result in
    let parted = c.partition_point.ensures.partitioned p (always_returns_same _ _ _ (λ a r f k. search (rules, of_calls))) in
    parts_from (λ m. not (comes_before (spotted c.args.here.now) m)) (slots_of c.args.self.now) c.args.self.now.in_order.items i c.requires (until_down (spotted c.args.here.now))
    (subst (λ v. i ≤ length v) c.as_slice.ensures.value c.partition_point.ensures.bound)
    (subst (λ v. IsPartitionedBy p v → IsPartitionPoint (λ y. p y ≡ true) (λ y. p y ≡ false) v i) c.as_slice.ensures.value parted)
