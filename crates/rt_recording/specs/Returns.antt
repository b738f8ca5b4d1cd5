-- Characters that come back under other stamps while a group is undone or redone.
use Rattle.std.specs.Prelude.{◌≡◌, ℕ, ◌+◌, ◌<◌, ◌≤◌, ◌||◌, Bool, false, List, [], ◌∷◌, length}
use Rattle.rt_stamps.specs.declared.limits.TheConstants.{GREATEST_COUNT}
use Rattle.rt_stamps.specs.declared.stamp.Stamp.{Stamp}
use Rattle.rt_stamps.specs.Stamps.{is_same}
use Rattle.rt_undo.specs.Actions.{Action}
pub use Rattle.rt_revert.specs.declared.plan.Return.{Return}
pub use Rattle.rt_revert.specs.Progress.{IsOther}
pub use Rattle.rt_revert.specs.Reverting.{stamp_after}

-- which characters came back, after one more did
abbrev pub back_with : Return → (Stamp → Bool) → Stamp → Bool
back_with r back stamp = is_same stamp r.former || back stamp

-- and after more, one after the other
abbrev pub back_after : List Return → (Stamp → Bool) → Stamp → Bool
back_after [] back stamp = back stamp
back_after (r ∷ returns) back stamp = back_after returns (back_with r back) stamp

-- a character comes back for the first time under the stamp that it has, and under a later one that no character had before
pub record IsReturn (back : Stamp → Bool) (r : Return) : Type 0 where
  pub later : r.former.count < r.newer.count
  pub bounded : r.newer.count ≤ GREATEST_COUNT
  pub first_time : back r.former ≡ false
  pub fresh : back r.newer ≡ false

abbrev pub AreReturns : (Stamp → Bool) → List Return → Type 0
AreReturns back [] = Unit {0}
AreReturns back (r ∷ returns) = IsReturn back r × AreReturns (back_with r back) returns

-- how many characters the actions of a group took away: at most so many come back
abbrev pub removed_count : {T : Type 0} → List (Action T) → ℕ
removed_count [] = 0
removed_count (action ∷ group) = length action.removed + removed_count group
