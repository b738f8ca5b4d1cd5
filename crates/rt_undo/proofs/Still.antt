-- Groups by the stamps that characters have now name no stamp that is moved.
use Rattle.std.proofs.Common.{◌≡◌, ℕ, false, List, [], ◌∷◌, map}
use Rattle.std.specs.List.{AllByRecursion}
use Rattle.rt_stamps.specs.declared.stamp.Stamp.{Stamp}
use Rattle.rt_undo.specs.declared.renames.Move.{Move}
use Rattle.rt_undo.specs.Actions.{Action, Removed, restamped_one}
use Rattle.rt_undo.specs.Groups.{NoneMoves}
use Rattle.rt_undo.specs.Renames.{SpanMapValue, is_moved, now_of}
use Rattle.rt_undo.specs.Undo.{with_stamps_in}

stamps_still : (moves : SpanMapValue Move) → ((s : Stamp) → is_moved moves (now_of moves s) ≡ false) → (stamps : List Stamp)
    → AllByRecursion (λ s. is_moved moves s ≡ false) (map (now_of moves) stamps)
stamps_still moves ends [] = tt
stamps_still moves ends (s ∷ stamps) = (ends s, stamps_still moves ends stamps)

removed_still : (moves : SpanMapValue Move) → ((s : Stamp) → is_moved moves (now_of moves s) ≡ false) → (removed : List (Removed ℕ))
    → AllByRecursion (λ (r : Removed ℕ). is_moved moves r.stamp ≡ false) (map (restamped_one {T = ℕ} (now_of moves)) removed)
removed_still moves ends [] = tt
removed_still moves ends (r ∷ removed) = (ends r.stamp, removed_still moves ends removed)

pub group_still : (moves : SpanMapValue Move) → ((s : Stamp) → is_moved moves (now_of moves s) ≡ false) → (group : List (Action ℕ))
    → NoneMoves moves (with_stamps_in (now_of moves) group)
group_still moves ends [] = tt
group_still moves ends (a ∷ group) =
    (record { inserted = stamps_still moves ends a.inserted; removed = removed_still moves ends a.removed }, group_still moves ends group)
