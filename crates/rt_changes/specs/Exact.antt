-- What the changes of an operation do to characters, which are known by their stamps.
use Rattle.std.specs.Prelude.{◌≡◌, ℕ, ◌+◌, ◌<◌, ◌≤◌, Bool, false, not, List, length, Some, option_map, slice_get}
use Rattle.rt_stamps.specs.declared.stamp.Stamp.{Stamp}
use Rattle.rt_ops.specs.Operations.{Name}
use Rattle.rt_store.specs.Cells.{stamps_of, visible_of}
use Rattle.rt_store.specs.Shown.{TaggedCell}
use Rattle.rt_store.specs.Spans.{is_among}
use Rattle.rt_tags.specs.Tags.{is_listed}
use Rattle.rt_rga.specs.Texts.{tagged_text}
use Rattle.rt_changes.specs.Replays.{Deleted, Inserted, VisibleChange, Tagged}

-- the character at a place was visible, and no visible one has its stamp any more
pub record IsTakenAt (old new : List TaggedCell) (place : ℕ) : Type 0 where
  pub stamp : Stamp
  pub before : slice_get (stamps_of (visible_of old)) place ≡ Some stamp
  pub after : is_among (stamps_of (visible_of new)) stamp ≡ false

-- the character that is visible at a place now was not there before, visible or gone
pub record IsInsertedAt (old new : List TaggedCell) (place : ℕ) : Type 0 where
  pub stamp : Stamp
  pub before : is_among (stamps_of old) stamp ≡ false
  pub after : slice_get (stamps_of (visible_of new)) place ≡ Some stamp

-- the character at a place is the same, and a tag is on it now or off, which it wasn't before
pub record IsRetaggedAt (on : Bool) (name : Name) (old new : List TaggedCell) (place : ℕ) : Type 0 where
  pub stamp : Stamp
  pub seen_before : slice_get (stamps_of (visible_of old)) place ≡ Some stamp
  pub seen_after : slice_get (stamps_of (visible_of new)) place ≡ Some stamp
  pub before : option_map (λ c. is_listed name c.tags) (slice_get (tagged_text old) place) ≡ Some (not on)
  pub after : option_map (λ c. is_listed name c.tags) (slice_get (tagged_text new) place) ≡ Some on

-- Each place that a change names is one that changes. Places of what is deleted or tagged are those before the operation, as its
-- runs come the last in the text first; places of what is inserted are those after it.
abbrev pub EachChanges : List TaggedCell → List TaggedCell → VisibleChange → Type 0
EachChanges old new (Deleted from to) = (place : ℕ) → from ≤ place → place < to → IsTakenAt old new place
EachChanges old new (Inserted at text tags) = (place : ℕ) → at ≤ place → place < at + length text → IsInsertedAt old new place
EachChanges old new (Tagged on name from to) = (place : ℕ) → from ≤ place → place < to → IsRetaggedAt on name old new place
