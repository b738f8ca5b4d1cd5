use Rattle.std.proofs.Common.{rules, of_calls, ◌≡◌, ◌≤◌, length, true, false, subst}
use Rattle.std.specs.List.Sorted.{IsPartitionedBy, IsPartitionPoint}
use Rattle.std.proofs.lemmas.Fn.{always_returns_same}
use Rattle.rt_marks.specs.Marks.{comes_before}
use Rattle.rt_marks.specs.Seen.{spotted}
use Rattle.rt_marks.specs.Tables.{slots_of}
use Rattle.rt_marks.proofs.Searching.{before_down, of_slot, parts_from}
use Rattle.rt_marks.proofs.table.Table.count_before_spot.Goals as goal

pub returns : goal.returns
returns c =
    let p = of_slot (λ m. comes_before m (spotted c.args.here.now)) (slots_of c.args.self.now) in
    let i = c.partition_point.result in
    let parted = c.partition_point.ensures.partitioned p (always_returns_same _ _ _ (λ a r f k. search (rules, of_calls))) in
    parts_from (λ m. comes_before m (spotted c.args.here.now)) (slots_of c.args.self.now) c.args.self.now.in_order.items i c.requires (before_down (spotted c.args.here.now))
    (subst (λ v. i ≤ length v) c.as_slice.ensures.value c.partition_point.ensures.bound)
    (subst (λ v. IsPartitionedBy p v → IsPartitionPoint (λ y. p y ≡ true) (λ y. p y ≡ false) v i) c.as_slice.ensures.value parted)
