-- By what the modified flag is told.
use Rattle.std.specs.Prelude.{◌≡◌, ◌⊎◌, ℕ, suc, ◌<◌, ◌≤◌, ◌++◌, Bool, true, List, [], drop, length, take, None, Some}
use Rattle.std.specs.declared.vec.Vec.{Vec}
use Rattle.std.specs.declared.alloc.Global.{Global}
use Rattle.rt_undo.specs.declared.action.Action.{Action as KeptAction}
use Rattle.rt_undo.specs.declared.flag.Flag.TheInside.{Inside}
use Rattle.rt_undo.specs.Groups.{numbers_of, numbers_of_groups}
use Rattle.rt_undo.specs.Undo.{rest_after}

-- The numbers of the actions that could be undone when the text was last said to be unmodified, without those of groups that
-- were dropped since; and whether the flag was forced. These numbers begin with those of so many of the closed groups that can
-- be undone now and of so many actions behind them, and the rest of them is what follows.
pub record ModifiedFlag : Type 0 where
  pub kept : List ℕ
  pub forced : Bool
  pub groups : ℕ
  pub actions : ℕ
  pub rest : List ℕ

-- the numbers of dropped groups stay where they are kept, and aren't seen
abbrev pub flag_shown : Inside → ModifiedFlag
flag_shown f = record {
  kept = drop f.passed f.numbers.items;
  forced = f.forced;
  groups = f.groups;
  actions = f.actions;
  rest = drop f.place f.numbers.items;
}

pub record PassedIsWithin (f : Inside) : Type 0 where
  pub passed : f.passed ≤ length f.numbers.items
  pub place : f.place ≤ length f.numbers.items

-- dropped groups weren't among those that are kept: nothing is kept then, and the flag is forced
abbrev pub IsLost : ModifiedFlag → Type 0
IsLost flag = (flag.forced ≡ true) × (flag.kept ≡ [])

-- The flag was told which groups and actions can be undone: of the groups, and behind all of them of the actions, as many are
-- those that the kept numbers begin with as can be.
pub record IsTold (flag : ModifiedFlag) (closed : List (Vec KeptAction Global)) (current : List KeptAction) : Type 0 where
  pub groups : flag.groups ≤ length closed
  pub actions : flag.actions ≤ length current
  pub rest : rest_after (numbers_of_groups (take flag.groups closed) ++ numbers_of (take flag.actions current)) flag.kept ≡ Some flag.rest
  pub behind : flag.groups < length closed → flag.actions ≡ 0
  pub no_group : flag.groups < length closed → IsLost flag ⊎ (rest_after (numbers_of_groups (take (suc flag.groups) closed)) flag.kept ≡ None)
  pub no_action : flag.groups ≡ length closed → flag.actions < length current
      → IsLost flag ⊎ (rest_after (numbers_of_groups closed ++ numbers_of (take (suc flag.actions) current)) flag.kept ≡ None)
