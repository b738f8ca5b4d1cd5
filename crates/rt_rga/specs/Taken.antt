-- What taking an operation tells.
use Rattle.std.specs.Prelude.{◌≡◌, ℕ, ◌+◌, ◌<◌, ◌&&◌, nat_le, nat_lt, List, [], ◌∷◌, length, Bool, false, not, ⊤, if◌then◌else◌, slice_get, option_map, unwrap_or}
use Rattle.std.specs.List.{list_any}
use Rattle.rt_stamps.specs.declared.stamp.Stamp.{Stamp}
use Rattle.rt_stamps.specs.Words.{as_words}
use Rattle.rt_ops.specs.Operations.{Operation, Body, Insert, Delete, Tag, Name, stamp_of}
use Rattle.rt_store.specs.declared.cell.Cell.{Cell}
use Rattle.rt_store.specs.Cells.{skip_from, visible_before, visible_of}
use Rattle.rt_store.specs.Shown.{TaggedCell}
use Rattle.rt_store.specs.Spans.{is_in_spans}
use Rattle.rt_tags.specs.States.{is_on, is_settled}
use Rattle.rt_rga.specs.declared.taken.Change.{Change}
use Rattle.rt_rga.specs.declared.taken.PlaceRun.{PlaceRun}
use Rattle.rt_rga.specs.Cells.{deletes}
use Rattle.rt_rga.specs.Histories.{inserted}

-- the tags that an operation lists: an Insert its own, a Tag that puts one on its name
abbrev pub lists_of : Body → List Name
lists_of (Insert after tags text) = tags
lists_of (Delete spans) = []
lists_of (Tag on name spans) = if on then name ∷ [] else []

-- how many visible characters stand before those that an operation inserts, 0 if it inserts none
abbrev pub place_by : {T : Type 0} → Stamp → Body → List (Cell T) → ℕ
place_by stamp (Insert after tags text) cells = visible_before cells (skip_from cells after stamp)
place_by stamp (Delete spans) cells = 0
place_by stamp (Tag on name spans) cells = 0

abbrev pub place_in : {T : Type 0} → Operation → List (Cell T) → ℕ
place_in op cells = place_by (stamp_of op) op.body cells

-- an operation takes the character at a place away: it deletes the visible cell there
abbrev pub takes_away : {T : Type 0} → Body → List (Cell T) → ℕ → Bool
takes_away body cells place = unwrap_or (option_map (λ cell. deletes body cell.stamp) (slice_get (visible_of cells) place)) false

-- of two answers one is yes
abbrev pub differ : Bool → Bool → Bool
differ a b = if a then not b else b

-- A Tag changes a cell that it names: no write of its tag there is as new, and the tag is not yet as the Tag says.
abbrev pub changes_tag : Stamp → Body → TaggedCell → Bool
changes_tag stamp (Insert after tags text) cell = false
changes_tag stamp (Delete spans) cell = false
changes_tag stamp (Tag on name spans) cell =
    is_in_spans spans cell.stamp
    && (not (is_settled (record { name = name; writer = stamp; on = on }) cell.state) && differ on (is_on name cell.state))

-- it changes the visible cell at a place
abbrev pub retags : Stamp → Body → List TaggedCell → ℕ → Bool
retags stamp body cells place = unwrap_or (option_map (changes_tag stamp body) (slice_get (visible_of cells) place)) false

-- a place is in a run: from its beginning on, and below its end
abbrev pub is_in_run : PlaceRun → ℕ → Bool
is_in_run run place = nat_le run.from place && nat_lt place run.to

abbrev pub is_in_runs : List PlaceRun → ℕ → Bool
is_in_runs runs place = list_any (λ run. is_in_run run place) runs

-- Runs below a place, the last in the text first: none is empty, and a place lies between one and the next, as between the
-- first and the given place.
abbrev pub AreFallingRuns : ℕ → List PlaceRun → Type 0
AreFallingRuns end [] = ⊤
AreFallingRuns end (run ∷ runs) = (run.from < run.to) × (run.to < end) × AreFallingRuns run.from runs

-- What an operation does to the visible text of cells, and the tags that it lists. Places of what it takes away or tags are
-- those before the operation; the last place, which is the final newline's, is none of what it takes away.
pub record IsChange (op : Operation) (cells : List TaggedCell) (change : Change) : Type 0 where
  pub first : change.place ≡ place_in op cells
  pub more : change.inserted ≡ length (inserted op)
  pub removed : (place : ℕ) → is_in_runs change.removed.items place ≡ takes_away op.body cells place
  pub runs : AreFallingRuns (length (visible_of cells)) change.removed.items
  pub retagged : (place : ℕ) → is_in_runs change.retagged.items place ≡ retags (stamp_of op) op.body cells place
  pub tagged_runs : AreFallingRuns (length (visible_of cells) + 1) change.retagged.items
  pub lists : as_words change.lists.items ≡ lists_of op.body
