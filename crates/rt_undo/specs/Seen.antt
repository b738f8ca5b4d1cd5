-- What contracts see of undo stacks.
use Rattle.std.specs.Prelude.{◌≡◌, ℕ, ◌+◌, ◌<◌, ◌≤◌, Bool, true, [], vec_len, vec_capacity}
use Rattle.std.specs.VecDeque.{deque_len, deque_capacity}
use Rattle.rt_undo.specs.declared.renames.Move.{Move}
use Rattle.rt_undo.specs.declared.stacks.Stacks.TheInside.{Inside}
use Rattle.rt_undo.specs.Actions.{group_of}
use Rattle.rt_undo.specs.Flag.{IsTold}
use Rattle.rt_undo.specs.Groups.{groups_of}
use Rattle.rt_undo.specs.Renames.{SpanMapValue, now_of}
use Rattle.rt_undo.specs.Undo.{UndoHistory, renamed_by}

-- The groups and the flag; which characters came back; and whether there is room for one more action or group.
pub record UndoStacks : Type 0 where
  pub history : UndoHistory ℕ
  pub moves : SpanMapValue Move
  pub ready : Bool

abbrev pub history_kept : Inside → UndoHistory ℕ
history_kept s = record {
  closed = groups_of s.closed.items;
  current = group_of s.current.items;
  undone = groups_of s.undone.items;
  kept = s.flag.kept;
  forced = s.flag.forced;
  most = s.most;
}

-- stamps stand as they were recorded, and are seen as they are now
abbrev pub stacks_value : Inside → UndoStacks
stacks_value s = record { history = renamed_by (now_of s.renames) (history_kept s); moves = s.renames; ready = s.ready }

-- room for an action, for a group that is closed before it, and for one that was reverted
pub record HasRoomForAction (s : Inside) : Type 0 where
  pub closed : deque_len s.closed + 2 ≤ deque_capacity s.closed
  pub current : vec_len s.current < vec_capacity s.current
  pub spare : 0 < vec_capacity s.spare
  pub undone : deque_len s.undone < deque_capacity s.undone

pub record AreStacks (s : Inside) : Type 0 where
  pub spare : s.spare.items ≡ []
  pub closing : 0 < vec_len s.current → deque_len s.closed < deque_capacity s.closed
  pub ready : s.ready ≡ true → HasRoomForAction s
  pub told : IsTold s.flag s.closed.items s.current.items
