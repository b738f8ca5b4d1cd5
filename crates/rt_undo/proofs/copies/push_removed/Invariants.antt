use Rattle.std.proofs.Common.{◌≡◌, ◌+◌, ◌≤◌, ◌++◌, drop, length, map}
use Rattle.std.specs.Prelude.{vec_capacity, vec_len}
use Rattle.rt_ops.specs.Operations.{stamps_in}
use Rattle.rt_undo.specs.Actions.{removed_in, removed_with}
use Rattle.rt_undo.proofs.copies.push_removed.Given as goal

abbrev pub invariant-loop-span : goal.invariant-loop-span
invariant-loop-span l = record {
  items : removed_in l.removed.items ++ map (removed_with l.state) (stamps_in (drop l.span-index l.spans))
      ≡ removed_in l.fn.removed.items ++ map (removed_with l.state) (stamps_in l.spans);
  room : vec_len l.removed + length l.spans ≤ vec_capacity l.removed + l.span-index;
}
