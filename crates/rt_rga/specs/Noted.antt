-- What a replica notes of its own operations.
use Rattle.std.specs.Prelude.{◌≡◌, ◌&&◌, All, Bool, false, true, ℕ, List, [], ◌∷◌, ◌++◌, length, option_map, reverse, slice_get, unwrap_or, ⊤}
use Rattle.std.specs.List.{AllByRecursion}
use Rattle.std.specs.Str.{bytes_eq}
use Rattle.rt_stamps.specs.declared.stamp.Stamp.{Stamp}
use Rattle.rt_ops.specs.Operations.{Operation, Body, Insert, Delete, Tag, stamp_of}
use Rattle.rt_store.specs.Cells.{visible_of}
use Rattle.rt_store.specs.Shown.{TaggedCell}
use Rattle.rt_store.specs.Spans.{is_in_spans}
use Rattle.rt_tags.specs.States.{is_on}
use Rattle.rt_rga.specs.Cells.{cells_of}
use Rattle.rt_rga.specs.Taken.{IsChange, changes_tag, differ}
use Rattle.rt_rga.specs.declared.notes.Notes.{Notes}
use Rattle.rt_rga.specs.declared.notes.Notes.TheVariants as notes
use Rattle.rt_rga.specs.declared.taken.Change.{Change}

-- Changes, the last one first, tell what the newest operations of a log did, each to the cells of those before it. The log has its
-- newest operation first.
abbrev pub AreOfNewest : List Change → List Operation → Type 0
AreOfNewest [] log = ⊤
AreOfNewest (change ∷ changes) [] = ⊥
AreOfNewest (change ∷ changes) (op ∷ log) = IsChange op (cells_of log) change × AreOfNewest changes log

-- some changes, in order, are those of operations that are newer than a log, one of each
pub record AreNotedOf (log ops : List Operation) (changes : List Change) : Type 0 where
  pub many : length changes ≡ length ops
  pub each : AreOfNewest (reverse changes) (reverse ops ++ log)

-- what is noted is right, while a log is as it is
abbrev pub AreNotes : Notes → List Operation → Type 0
AreNotes notes.Off log = ⊤
AreNotes (notes.Kept changes) log = AreOfNewest (reverse changes.items) log
AreNotes notes.Lost log = ⊤

-- changes are to be noted, and none is lost
abbrev pub are_kept : Notes → Bool
are_kept notes.Off = false
are_kept (notes.Kept changes) = true
are_kept notes.Lost = false

-- two operations are Tags of one tag, and both name a stamp
abbrev pub name_both : Body → Body → Stamp → Bool
name_both (Tag on name spans) (Tag also_on other others) stamp = bytes_eq other name && (is_in_spans spans stamp && is_in_spans others stamp)
name_both (Tag on name spans) (Insert after tags text) stamp = false
name_both (Tag on name spans) (Delete gone) stamp = false
name_both (Insert after tags text) later stamp = false
name_both (Delete gone) later stamp = false

-- two operations aren't Tags of one tag that name one stamp, whether they put it on or take it off
abbrev pub AreDisjointTwo : Body → Body → Type 0
AreDisjointTwo body later = (stamp : Stamp) → name_both body later stamp ≡ false

-- each two of some operations are so
abbrev pub AreDisjoint : List Operation → Type 0
AreDisjoint [] = ⊤
AreDisjoint (op ∷ ops) = AllByRecursion (λ later. AreDisjointTwo op.body later.body) ops × AreDisjoint ops

-- An operation switches the tag of a cell, if no write of it there is as new: it is a Tag that names it, and the tag isn't as it says.
abbrev pub switches : Body → TaggedCell → Bool
switches (Insert after tags text) cell = false
switches (Delete spans) cell = false
switches (Tag on name spans) cell = is_in_spans spans cell.stamp && differ on (is_on name cell.state)

-- it switches that of the visible cell at a place
abbrev pub switches_at : Body → List TaggedCell → ℕ → Bool
switches_at body cells place = unwrap_or (option_map (switches body) (slice_get (visible_of cells) place)) false

-- Cells of which others are known: each has the stamp of the other and is gone as it is, and the operation changes its tag just where
-- it switches that of the other.
pub record IsFoundAlike (op : Operation) (true_of : TaggedCell → TaggedCell) (known : List TaggedCell) : Type 0 where
  pub stamps : (cell : TaggedCell) → (true_of cell).stamp ≡ cell.stamp
  pub gone : (cell : TaggedCell) → (true_of cell).gone ≡ cell.gone
  pub tags : All (λ cell. changes_tag (stamp_of op) op.body (true_of cell) ≡ switches op.body cell) known
