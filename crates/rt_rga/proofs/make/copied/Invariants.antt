use Rattle.std.proofs.Common.{◌≡◌, ◌+◌, ◌≤◌, length, take}
use Rattle.std.specs.Prelude.{vec_capacity, vec_len}
use Rattle.rt_rga.proofs.make.copied.Given as goal

abbrev pub invariant-loop-op : goal.invariant-loop-op
invariant-loop-op l = record {
  copies : l.copies.items ≡ take l.op-index l.ops;
  room : vec_len l.copies + length l.ops ≤ vec_capacity l.copies + l.op-index;
}
