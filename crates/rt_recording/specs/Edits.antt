-- What edits leave behind for undo (Tk text manual, "The undo mechanism").
use Rattle.std.specs.Prelude.{ℕ, ◌+◌, ◌||◌, nat_lt, Bool, List, [], ◌∷◌, length, map, Result, Ok, Err, if◌then◌else◌}
use Rattle.rt_stamps.specs.declared.fault.Fault.{Fault}
use Rattle.rt_stamps.specs.declared.stamp.Span.{Span}
use Rattle.rt_stamps.specs.Words.{Word}
use Rattle.rt_ops.specs.Operations.{Operation}
use Rattle.rt_store.specs.Cells.{text_of}
use Rattle.rt_store.specs.Shown.{TaggedCell}
use Rattle.rt_plans.specs.declared.range.Range.{Range}
use Rattle.rt_plans.specs.DocValue.{DocValue}
use Rattle.rt_plans.specs.Insertions.{Piece}
use Rattle.rt_undo.specs.declared.action.Kind.{Kind}
use Rattle.rt_undo.specs.declared.action.Kind.TheVariants.{Insert, Delete, Replace}
use Rattle.rt_undo.specs.Actions.{Action}
use Rattle.rt_undo.specs.Undo.{UndoHistory, forced_on, with_action}
use Rattle.rt_revert.specs.Reverting.{as_removed}
use Rattle.rt_recording.specs.Recordings.{span_action}
use Rattle.rt_text.specs.Accepted.{view_with_new}
use Rattle.rt_text.specs.Commands.{view_deleted, view_inserted, lost_in, view_replaced}
use Rattle.rt_text.specs.Index.{place_at_index}
use Rattle.rt_text.specs.Ranges.{ranges_of}
use Rattle.rt_text.specs.Widgets.{ViewValue, widget_of}
use Rattle.rt_recording.specs.EditedValue.{EditedValue}

-- A document's text was changed: characters were put in, so that it has more cells than it had, or some were taken away, so that
-- fewer are visible. Tags alone change no text.
abbrev pub has_changed : ℕ → ℕ → DocValue → Bool
has_changed cells visible new = nat_lt cells (length new.cells) || nat_lt (length (text_of new.cells)) visible

abbrev pub text_changed : DocValue → DocValue → Bool
text_changed old new = has_changed (length old.cells) (length (text_of old.cells)) new

-- the counts that a site's operations took, from one greatest count to another
abbrev pub counts_between : ℕ → ℕ → ℕ → Span
counts_between site before after = record { site = site; first = before + 1; last = after }

-- The action of an edit: its number is the count of its first operation; it put in the characters that have its counts, some of
-- which are those of operations alone; and it took some away.
abbrev pub edit_action : Kind → DocValue → DocValue → List TaggedCell → Action (List Word)
edit_action kind old new lost = span_action kind (counts_between old.site old.count new.count) (map as_removed lost)

-- An edit that changed the text is recorded where edits are, with automatic separators or without, and takes away what could be
-- redone; else it forces the modified flag. One that changed no text leaves the history as it is.
abbrev pub noted_by : Bool → Bool → Bool → Action (List Word) → UndoHistory (List Word) → UndoHistory (List Word)
noted_by changed undo auto action history = if changed then (if undo then with_action auto action history else forced_on history) else history

abbrev pub noted : Kind → List TaggedCell → EditedValue → DocValue → UndoHistory (List Word)
noted kind lost text new = noted_by (text_changed text.view.doc new) text.undo text.auto (edit_action kind text.view.doc new lost) text.history

-- an edit of the view, which takes some characters away, with what is recorded of it
abbrev pub recorded_edit : Kind → List TaggedCell → EditedValue → Result ViewValue Fault → Result EditedValue Fault
recorded_edit kind lost text (Ok view) = Ok (record text { view = view; history = noted kind lost text view.doc })
recorded_edit kind lost text (Err fault) = Err fault

-- the characters that a deletion takes, and those that a replacement takes
abbrev pub lost_between : ViewValue → List Word → List TaggedCell
lost_between view indices = lost_in view (ranges_of (map (place_at_index (widget_of view)) indices))

abbrev pub lost_from : ViewValue → Word → Word → List TaggedCell
lost_from view from to =
    let range : Range = record { from = place_at_index (widget_of view) from; to = place_at_index (widget_of view) to } in lost_in view (range ∷ [])

-- COMMANDS

-- insert INDEX ?CHARS TAGLIST ...? ?CHARS?
abbrev pub text_inserted : EditedValue → Word → List Piece → Word → Result EditedValue Fault
text_inserted text index pieces rest = recorded_edit Insert [] text (view_inserted text.view index pieces rest)

-- delete INDEX ?INDEX ...?
abbrev pub text_deleted : EditedValue → List Word → Result EditedValue Fault
text_deleted text indices = recorded_edit Delete (lost_between text.view indices) text (view_deleted text.view indices)

-- replace INDEX INDEX ?CHARS TAGLIST ...? ?CHARS?: one action
abbrev pub text_replaced : EditedValue → Word → Word → List Piece → Word → Result EditedValue Fault
text_replaced text from to pieces rest = recorded_edit Replace (lost_from text.view from to) text (view_replaced text.view from to pieces rest)

-- OPERATIONS OF OTHER SITES

-- what is taken is never recorded, but forces the modified flag where it changes the visible text
abbrev pub text_with_new : Operation → EditedValue → EditedValue
text_with_new op text =
    let view = view_with_new op text.view in
    record text { view = view; history = if text_changed text.view.doc view.doc then forced_on text.history else text.history }
