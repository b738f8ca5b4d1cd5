-- The undo stacks of a text, in the words of the Tk text manual ("The undo mechanism"), with stamps for positions.
use Rattle.std.specs.Prelude.{ℕ, ◌-◌, ◌++◌, ◌||◌, ◌&&◌, ◌==◌, not, Bool, true, false, List, [], ◌∷◌, length, map, take, drop, slice_get, is_some, unwrap_or, Option, Some, None, if◌then◌else◌}
use Rattle.std.specs.List.{flat_map}
use Rattle.rt_stamps.specs.declared.stamp.Stamp.{Stamp}
use Rattle.rt_stamps.specs.declared.stamp.Span.{Span}
use Rattle.rt_undo.specs.declared.action.Kind.{Kind}
use Rattle.rt_undo.specs.Actions.{Action, restamped, same_kind, is_replace}
use Rattle.rt_undo.specs.Renames.{renamed, replaced}

-- The actions between two separators are undone and redone as one: a group, oldest action first. A separator closes the group that
-- takes the next action. The undo stack is the closed groups, oldest first, and behind them the group of the actions since the
-- last separator, if there are any; the redo stack is the groups that were undone, the last of which is redone first. Kept are
-- the numbers of the actions on the undo stack when the text was last said to be unmodified, without those of groups that were
-- dropped since. The most groups that may be on the undo stack are a number of 1 or more, or 0 where any number may be (-maxundo).
pub record UndoHistory (T : Type 0) : Type 0 where
  pub closed : List (List (Action T))
  pub current : List (Action T)
  pub undone : List (List (Action T))
  pub kept : List ℕ
  pub forced : Bool
  pub most : ℕ

-- nothing was done
abbrev pub no_history : {T : Type 0} → UndoHistory T
no_history = record { closed = []; current = []; undone = []; kept = []; forced = false; most = 0 }

-- a list as a group, if it has an action
abbrev pub as_group : {X : Type 0} → List X → List (List X)
as_group [] = []
as_group (x ∷ xs) = (x ∷ xs) ∷ []

-- of a list that has its oldest first the newest, and the others
abbrev pub newest : {X : Type 0} → List X → Option X
newest xs = slice_get xs (length xs - 1)

abbrev pub but_newest : {X : Type 0} → List X → List X
but_newest xs = take (length xs - 1) xs

-- the undo stack
abbrev pub to_undo : {T : Type 0} → UndoHistory T → List (List (Action T))
to_undo h = h.closed ++ as_group h.current

-- the numbers of the actions of groups
abbrev pub numbers_in : {T : Type 0} → List (List (Action T)) → List ℕ
numbers_in {T} groups = flat_map {X = List (Action T)} {A = ℕ} (λ group. map (λ action. action.number) group) groups

-- what stands behind numbers in a list that begins with them
abbrev pub rest_after : List ℕ → List ℕ → Option (List ℕ)
rest_after [] kept = Some kept
rest_after (m ∷ ms) [] = None
rest_after (m ∷ ms) (k ∷ kept) = if m == k then rest_after ms kept else None

-- THE MOST GROUPS

-- how many groups the undo stack has too many
abbrev pub too_many : {T : Type 0} → UndoHistory T → ℕ
too_many h = if h.most == 0 then 0 else length (to_undo h) - h.most

-- The numbers of dropped actions leave what is kept, where that begins with them. Where it doesn't, what could be undone when the
-- text was last said to be unmodified can't be undone again, and it stays modified until that is said once more.
abbrev pub without_numbers : {T : Type 0} → List ℕ → UndoHistory T → UndoHistory T
without_numbers dropped h = record h { kept = unwrap_or (rest_after dropped h.kept) []; forced = h.forced || not (is_some (rest_after dropped h.kept)) }

-- the oldest groups are dropped
abbrev pub dropped : {T : Type 0} → ℕ → UndoHistory T → UndoHistory T
dropped n h = record (without_numbers (numbers_in (take n h.closed)) h) { closed = drop n h.closed }

-- as many of them as the undo stack has too many
abbrev pub limited : {T : Type 0} → UndoHistory T → UndoHistory T
limited h = dropped (too_many h) h

-- another number of groups is the most
abbrev pub with_most : {T : Type 0} → ℕ → UndoHistory T → UndoHistory T
with_most n h = limited (record h { most = n })

-- SEPARATORS AND ACTIONS

-- a separator: the next action begins a group
abbrev pub separated : {T : Type 0} → UndoHistory T → UndoHistory T
separated h = record h { closed = to_undo h; current = [] }

abbrev pub differs_from : {T : Type 0} → Kind → Option (Action T) → Bool
differs_from kind None = false
differs_from kind (Some action) = not (same_kind kind action.kind)

-- With automatic separators one stands before each replacement, and where the kind differs from that of the last action since
-- the last separator.
abbrev pub asks_separator : {T : Type 0} → Kind → UndoHistory T → Bool
asks_separator kind h = is_replace kind || differs_from kind (newest h.current)

-- an action is recorded; what was undone can't be redone any more
abbrev pub recorded : {T : Type 0} → Action T → UndoHistory T → UndoHistory T
recorded action h = record h { current = h.current ++ action ∷ []; undone = [] }

-- an action is recorded, with automatic separators or without, and with at most as many groups as may be
abbrev pub with_action : {T : Type 0} → Bool → Action T → UndoHistory T → UndoHistory T
with_action auto action h = limited (recorded action (if auto && asks_separator action.kind h then separated h else h))

-- UNDO AND REDO

-- the group that is undone next, and the one that is redone next
abbrev pub next_undo : {T : Type 0} → UndoHistory T → Option (List (Action T))
next_undo h = newest (to_undo h)

abbrev pub next_redo : {T : Type 0} → UndoHistory T → Option (List (Action T))
next_redo h = newest h.undone

-- The last group was reverted: it leaves the undo stack, and its reverted actions can be redone. The next action begins a group.
abbrev pub undo_done : {T : Type 0} → List (Action T) → UndoHistory T → UndoHistory T
undo_done reverted h = record h { closed = but_newest (to_undo h); current = []; undone = h.undone ++ reverted ∷ [] }

-- The group that was undone last was reverted: it leaves the redo stack, and its reverted actions can be undone. They are a
-- closed group, and the next action begins another. There may be too many groups then, where fewer may be than when it was undone.
abbrev pub redo_done : {T : Type 0} → List (Action T) → UndoHistory T → UndoHistory T
redo_done reverted h = limited (record h { closed = to_undo h ++ reverted ∷ []; current = []; undone = but_newest h.undone })

-- THE MODIFIED FLAG

-- the numbers of the actions that can be undone
abbrev pub numbers : {T : Type 0} → UndoHistory T → List ℕ
numbers h = numbers_in (to_undo h)

abbrev pub same_numbers : List ℕ → List ℕ → Bool
same_numbers [] [] = true
same_numbers (m ∷ ms) (n ∷ ns) = (m == n) && same_numbers ms ns
same_numbers _ _ = false

-- the flag was forced, or other actions can be undone than when the text was last said to be unmodified
abbrev pub is_modified : {T : Type 0} → UndoHistory T → Bool
is_modified h = h.forced || not (same_numbers (numbers h) h.kept)

abbrev pub forced_on : {T : Type 0} → UndoHistory T → UndoHistory T
forced_on h = record h { forced = true }

abbrev pub unmodified : {T : Type 0} → UndoHistory T → UndoHistory T
unmodified h = record h { kept = numbers h; forced = false }

-- both stacks are emptied; the flag stays as it is
abbrev pub emptied : {T : Type 0} → UndoHistory T → UndoHistory T
emptied h = record h { closed = []; current = []; undone = []; kept = []; forced = is_modified h }

-- CHARACTERS THAT COME BACK

-- other stamps in the place of those of every action
abbrev pub with_stamps_in : {T : Type 0} → (Stamp → Stamp) → List (Action T) → List (Action T)
with_stamps_in f group = map (restamped f) group

abbrev pub renamed_by : {T : Type 0} → (Stamp → Stamp) → UndoHistory T → UndoHistory T
renamed_by f h = record h {
  closed = map (with_stamps_in f) h.closed;
  current = with_stamps_in f h.current;
  undone = map (with_stamps_in f) h.undone;
}

-- a character came back under another stamp: this replaces the former one in every group
abbrev pub replaced_in : {T : Type 0} → Stamp → Stamp → UndoHistory T → UndoHistory T
replaced_in old new h = renamed_by (replaced old new) h

-- the characters of a span came back under stamps of consecutive counts, which replace the former ones in every group
abbrev pub renamed_span : {T : Type 0} → Span → Stamp → UndoHistory T → UndoHistory T
renamed_span former newer h = renamed_by (renamed former newer) h
