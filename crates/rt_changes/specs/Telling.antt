-- What an editor is told, as changes of the visible text.
use Rattle.std.specs.Prelude.{◌≡◌, List, [], ◌∷◌, map, string_bytes}
use Rattle.std.specs.List.{All, flat_map}
use Rattle.rt_stamps.specs.Words.{as_words}
use Rattle.rt_ops.specs.Operations.{Body, Operation}
use Rattle.rt_oplog.specs.Logs.{with_operation}
use Rattle.rt_rga.specs.Cells.{cells_of}
use Rattle.rt_rga.specs.Drafts.{ContinueInTurn, with_operations}
use Rattle.rt_rga.specs.Taken.{lists_of}
use Rattle.rt_rga.specs.declared.taken.Change.{Change}
use Rattle.rt_changes.specs.declared.change.ToldChange.{ToldChange}
use Rattle.rt_changes.specs.declared.change.ToldChange.TheVariants as told
use Rattle.rt_changes.specs.declared.change.ToTell.{ToTell}
use Rattle.rt_changes.specs.declared.change.ToTell.TheVariants as to_tell
use Rattle.rt_changes.specs.Exact.{EachChanges}
use Rattle.rt_changes.specs.Replays.{Deleted, Inserted, Tagged, VisibleChange, changes_in_turn, changes_of, told_by}

-- what is told of one operation, run by run
abbrev pub changes_in : ToldChange → List VisibleChange
changes_in (told.Inserted at text tags) = Inserted at text (as_words tags.items) ∷ []
changes_in (told.Deleted runs) = map (λ run. Deleted run.from run.to) runs.items
changes_in (told.Tagged on name runs) = map (λ run. Tagged on (string_bytes name) run.from run.to) runs.items

-- what is told of several, one after the other
abbrev pub all_changes_in : List ToldChange → List VisibleChange
all_changes_in changes = flat_map changes_in changes

-- what will be told, with the places and the tags of a change
abbrev pub placed : ToTell → Change → List VisibleChange
placed (to_tell.Insertion text) change = Inserted change.place text (as_words change.lists.items) ∷ []
placed to_tell.Deletion change = map (λ run. Deleted run.from run.to) change.removed.items
placed (to_tell.Tagging on name) change = map (λ run. Tagged on (string_bytes name) run.from run.to) change.retagged.items

-- It is what is to be told of an operation: with a change that lists the operation's tags, just its changes.
abbrev pub IsToTell : Body → ToTell → Type 0
IsToTell body t = (change : Change) → as_words change.lists.items ≡ lists_of body → placed t change ≡ told_by body change

-- OPERATIONS THAT ARE TAKEN IN TURN

-- each place that a change of one of them names is one that changes, by this operation
abbrev pub AreExactInTurn : List Operation → List Operation → Type 0
AreExactInTurn [] log = Unit {0}
AreExactInTurn (op ∷ ops) log =
    All (EachChanges (cells_of log) (cells_of (with_operation op log))) (changes_of op (cells_of log)) × AreExactInTurn ops (with_operation op log)

-- One log became another by operations each of which continued it in turn; these are their changes, in this order, and each is exact.
pub record AreChangesBetween (old new : List Operation) (changes : List VisibleChange) : Type 0 where
  pub ops : List Operation
  pub turn : ContinueInTurn old ops
  pub taken : new ≡ with_operations ops old
  pub told : changes ≡ changes_in_turn ops old
  pub exact : AreExactInTurn ops old
