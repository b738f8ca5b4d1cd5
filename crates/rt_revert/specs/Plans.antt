-- What the plans of reverted groups stand for.
use Rattle.std.specs.Prelude.{◌≡◌, ℕ, ◌+◌, ◌≤◌, List, [], ◌∷◌, false, map, All}
use Rattle.std.specs.List.{AllByRecursion}
use Rattle.rt_stamps.specs.declared.limits.TheConstants.{GREATEST_COUNT, MOST_CELLS}
use Rattle.rt_stamps.specs.declared.stamp.Stamp.{Stamp}
use Rattle.rt_stamps.specs.declared.stamp.TheConstants.{FINAL}
use Rattle.rt_stamps.specs.Stamps.{is_same}
use Rattle.rt_stamps.specs.Words.{Word}
use Rattle.rt_marks.specs.Marks.{Mark, marks_inserted, marks_left}
use Rattle.rt_store.specs.declared.cell.Cell.{Cell}
use Rattle.rt_store.specs.Shown.{shown}
use Rattle.rt_tags.specs.States.{IsState, TagStates, names_on, state_at}
use Rattle.rt_plans.specs.DocValue.{DocValue}
use Rattle.rt_plans.specs.Removals.{RangesFollow, is_covered}
use Rattle.rt_undo.specs.Actions.{Action, Removed}
use Rattle.rt_revert.specs.declared.plan.TextChange.{TextChange}
use Rattle.rt_revert.specs.declared.plan.TextChange.TheVariants.{Inserted, Removed as Gone}

-- ACTIONS

-- a removed character with the names of its tags in the place of the state that has them
abbrev pub named_removed : TagStates → Removed ℕ → Removed (List Word)
named_removed table removed = record { stamp = removed.stamp; tags = names_on (state_at table removed.tags) }

-- an action with such characters, and a group of them
abbrev pub named_action : TagStates → Action ℕ → Action (List Word)
named_action table action = record {
  number = action.number;
  kind = action.kind;
  inserted = action.inserted;
  removed = map (named_removed table) action.removed;
}

abbrev pub named_group : TagStates → List (Action ℕ) → List (Action (List Word))
named_group table group = map (named_action table) group

-- the tags of removed characters are states that a table gave out
abbrev pub RemovedAreGiven : TagStates → List (Removed ℕ) → Type 0
RemovedAreGiven table removed = AllByRecursion (λ r. IsState table r.tags) removed

abbrev pub AreGiven : TagStates → List (Action ℕ) → Type 0
AreGiven table group = AllByRecursion (λ action. RemovedAreGiven table action.removed) group

-- THE DOCUMENT

-- each cell but the final newline's has a count up to a given one
abbrev pub IsUpTo : ℕ → Stamp → Type 0
IsUpTo count stamp = is_same stamp FINAL ≡ false → stamp.count ≤ count

abbrev pub AreUpTo : {T : Type 0} → ℕ → List (Cell T) → Type 0
AreUpTo count cells = All (λ cell. IsUpTo count cell.stamp) cells

-- a document of a site with the cells of a store, whose states a table gave out, and with a greatest count
pub record IsOf (table : TagStates) (store : List (Cell ℕ)) (number greatest : ℕ) (doc : DocValue) : Type 0 where
  pub cells : doc.cells ≡ map (shown table) store
  pub site : doc.site ≡ number
  pub count : doc.count ≡ greatest

-- CHANGES OF THE TEXT

-- marks after a change, and after changes, one after the other
abbrev pub marks_changed : TextChange → List Mark → List Mark
marks_changed (Gone ranges) marks = marks_left (is_covered ranges.items) marks
marks_changed (Inserted place) marks = marks_inserted place 1 marks

abbrev pub marks_after : List TextChange → List Mark → List Mark
marks_after [] marks = marks
marks_after (change ∷ changes) marks = marks_after changes (marks_changed change marks)

-- a text has at most so many places while a group is reverted, before its limit is asked: each character that comes back takes a count
abbrev pub most_places : ℕ
most_places = MOST_CELLS + GREATEST_COUNT

-- a change of a text: removed ranges stand in order, and no place is past these
abbrev pub IsTextChange : TextChange → Type 0
IsTextChange (Gone ranges) = RangesFollow 0 ranges.items × All (λ range. range.to ≤ most_places) ranges.items
IsTextChange (Inserted place) = place ≤ most_places
