use Rattle.std.proofs.Common.{◌≡◌, ◌+◌, ◌≤◌, drop, take}
use Rattle.std.specs.VecDeque.{deque_len, deque_capacity}
use Rattle.rt_undo.specs.Flag.{IsTold}
use Rattle.rt_undo.specs.Groups.{numbers_of_groups}
use Rattle.rt_undo.proofs.Dropping.{forced_after, kept_after}
use Rattle.rt_undo.proofs.groups.drop_oldest.Given as goal

abbrev pub invariant-loop : goal.invariant-loop
invariant-loop l = record {
  within : l.counter ≤ l.n;
  closed : l.closed.items ≡ drop l.counter l.fn.closed.items;
  len : deque_len l.closed + l.counter ≡ deque_len l.fn.closed;
  capacity : deque_capacity l.closed ≡ deque_capacity l.fn.closed;
  kept : l.flag.kept ≡ kept_after (numbers_of_groups (take l.counter l.fn.closed.items)) l.fn.flag.kept;
  forced : l.flag.forced ≡ forced_after (numbers_of_groups (take l.counter l.fn.closed.items)) l.fn.flag.kept l.fn.flag.forced;
  told : IsTold l.flag l.closed.items l.current;
}
