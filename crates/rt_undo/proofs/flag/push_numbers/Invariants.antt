use Rattle.std.proofs.Common.{◌≡◌, ◌+◌, ◌≤◌, ◌++◌, length, take}
use Rattle.std.specs.Prelude.{vec_capacity, vec_len}
use Rattle.rt_undo.specs.Groups.{numbers_of}
use Rattle.rt_undo.proofs.flag.push_numbers.Given as goal

abbrev pub invariant-loop-action : goal.invariant-loop-action
invariant-loop-action l = record {
  items : l.numbers.items ≡ l.fn.numbers.items ++ numbers_of (take l.action-index l.actions);
  room : vec_len l.numbers + length l.actions ≤ vec_capacity l.numbers + l.action-index;
}
