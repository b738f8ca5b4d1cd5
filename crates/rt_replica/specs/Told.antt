-- What operations that are taken change, as it is told.
use Rattle.std.specs.Prelude.{ℕ, List, [], ◌∷◌, ◌++◌, length}
use Rattle.rt_stamps.specs.Words.{as_words}
use Rattle.rt_ops.specs.Operations.{Name, Operation, stamp_of}
use Rattle.rt_oplog.specs.Logs.{with_operation}
use Rattle.rt_store.specs.Cells.{visible_of}
use Rattle.rt_store.specs.Shown.{TaggedCell}
use Rattle.rt_rga.specs.Cells.{cells_of}
use Rattle.rt_rga.specs.Histories.{inserted}
use Rattle.rt_rga.specs.Taken.{lists_of, place_in, retags, takes_away}
use Rattle.rt_rga.specs.declared.taken.Change.{Change}
use Rattle.rt_rga.specs.declared.taken.PlaceRun.{PlaceRun}
use Rattle.rt_changes.specs.Replays.{VisibleChange, runs_of, told_by}

-- what the code tells, a `Change` with its runs and names as lists
pub record ChangeValue : Type 0 where
  pub place : ℕ
  pub inserted : ℕ
  pub removed : List PlaceRun
  pub retagged : List PlaceRun
  pub lists : List Name

abbrev pub as_told : Change → ChangeValue
as_told change = record {
  place = change.place;
  inserted = change.inserted;
  removed = change.removed.items;
  retagged = change.retagged.items;
  lists = as_words change.lists.items;
}

-- What is to be told of an operation that changes cells: the place and the number of the characters that it inserts; the longest runs
-- of the places that it takes away, and of those whose tag it changes, the last in the text first; the tags that it lists.
abbrev pub told_of : Operation → List TaggedCell → ChangeValue
told_of op cells = record {
  place = place_in op cells;
  inserted = length (inserted op);
  removed = runs_of (takes_away op.body cells) (length (visible_of cells));
  retagged = runs_of (retags (stamp_of op) op.body cells) (length (visible_of cells));
  lists = lists_of op.body;
}

-- of operations that are taken one after the other, each on the cells that those before it left
abbrev pub told_in_turn : List Operation → List Operation → List ChangeValue
told_in_turn [] log = []
told_in_turn (op ∷ ops) log = told_of op (cells_of log) ∷ told_in_turn ops (with_operation op log)

-- the changes of the visible text that are told, each with its operation
abbrev pub visible_changes : List Operation → List Change → List VisibleChange
visible_changes [] changes = []
visible_changes (op ∷ ops) [] = []
visible_changes (op ∷ ops) (change ∷ changes) = told_by op.body change ++ visible_changes ops changes

-- A REPLICA THAT TELLS

-- a replica's log, cells, site and limit, and what it hasn't told yet
pub record TellingValue : Type 0 where
  pub log : List Operation
  pub cells : List TaggedCell
  pub site : ℕ
  pub limit : ℕ
  pub changes : List ChangeValue

-- an operation is taken, and is to be told
abbrev pub after_taken : Operation → TellingValue → TellingValue
after_taken op t = record {
  log = with_operation op t.log;
  cells = cells_of (with_operation op t.log);
  site = t.site;
  limit = t.limit;
  changes = t.changes ++ (told_of op (cells_of t.log) ∷ []);
}
