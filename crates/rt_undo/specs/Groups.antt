-- Groups as they are kept, and the stamps that they name.
use Rattle.std.specs.Prelude.{◌≡◌, ℕ, false, List, map}
use Rattle.std.specs.List.{AllByRecursion, flat_map}
use Rattle.std.specs.declared.vec.Vec.{Vec}
use Rattle.std.specs.declared.alloc.Global.{Global}
use Rattle.rt_undo.specs.declared.action.Action.{Action as KeptAction}
use Rattle.rt_undo.specs.declared.renames.Move.{Move}
use Rattle.rt_undo.specs.Actions.{Action, group_of}
use Rattle.rt_undo.specs.Renames.{SpanMapValue, is_moved}

-- the action names no character that came back under another stamp
pub record IsStill (moves : SpanMapValue Move) (action : Action ℕ) : Type 0 where
  pub inserted : AllByRecursion (λ s. is_moved moves s ≡ false) action.inserted
  pub removed : AllByRecursion (λ r. is_moved moves r.stamp ≡ false) action.removed

-- no action of a group does
abbrev pub NoneMoves : SpanMapValue Move → List (Action ℕ) → Type 0
NoneMoves moves group = AllByRecursion (IsStill moves) group

-- groups as they are kept
abbrev pub groups_of : List (Vec KeptAction Global) → List (List (Action ℕ))
groups_of groups = map (λ group. group_of group.items) groups

-- the numbers of actions, and those of the actions of groups
abbrev pub numbers_of : List KeptAction → List ℕ
numbers_of actions = map (λ a. a.number) actions

abbrev pub numbers_of_groups : List (Vec KeptAction Global) → List ℕ
numbers_of_groups groups = flat_map (λ group. numbers_of group.items) groups
