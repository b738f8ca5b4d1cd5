use Rattle.std.proofs.Common.{rules, of_calls, ◌≡◌, ◌≤◌, length, true, false, nat_lt, subst}
use Rattle.std.specs.List.Sorted.{IsPartitionedBy, IsPartitionPoint}
use Rattle.std.proofs.lemmas.Fn.{always_returns_same}
use Rattle.rt_marks.specs.Tables.{slots_of}
use Rattle.rt_marks.proofs.Searching.{below_down, of_slot, parts_from}
use Rattle.rt_marks.proofs.table.Table.count_below.Goals as goal

pub returns : goal.returns
returns c =
    let p = of_slot (λ m. nat_lt m.place c.args.place) (slots_of c.args.self.now) in
    let i = c.partition_point.result in
    let parted = c.partition_point.ensures.partitioned p (always_returns_same _ _ _ (λ a r f k. search (rules, of_calls))) in
    parts_from (λ m. nat_lt m.place c.args.place) (slots_of c.args.self.now) c.args.self.now.in_order.items i c.requires (below_down c.args.place)
    (subst (λ v. i ≤ length v) c.as_slice.ensures.value c.partition_point.ensures.bound)
    (subst (λ v. IsPartitionedBy p v → IsPartitionPoint (λ y. p y ≡ true) (λ y. p y ≡ false) v i) c.as_slice.ensures.value parted)
