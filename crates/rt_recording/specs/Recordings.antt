-- What a site records of its own edits for undo.
use Rattle.std.specs.Prelude.{◌≡◌, Bool, false, List, Option}
use Rattle.std.specs.List.{AllByRecursion}
use Rattle.rt_stamps.specs.declared.stamp.Span.{Span}
use Rattle.rt_stamps.specs.declared.stamp.Stamp.{Stamp}
use Rattle.rt_stamps.specs.Words.{Word}
use Rattle.rt_ops.specs.Operations.{stamps_of_span}
use Rattle.rt_tags.specs.States.{TagStates}
use Rattle.rt_undo.specs.declared.action.Kind.{Kind}
use Rattle.rt_undo.specs.declared.renames.Move.{Move}
use Rattle.rt_undo.specs.Actions.{Action, Removed}
use Rattle.rt_undo.specs.Renames.{SpanMapValue, is_moved}
use Rattle.rt_undo.specs.Undo.{UndoHistory}

-- What a site has recorded: the actions by groups, with the names of tags, and how many groups may be undone (-maxundo); the
-- widget's options -undo and -autoseparators; the characters that the next action takes away, if that is prepared; which characters
-- came back under other stamps, with the room for more; whether there is room for a group that is undone or redone; and the states
-- that the tags of planned actions stand for.
pub record Recording : Type 0 where
  pub history : UndoHistory (List Word)
  pub undo : Bool
  pub auto : Bool
  pub pending : Option (List (Removed (List Word)))
  pub moves : SpanMapValue Move
  pub ready : Bool
  pub table : TagStates

-- the character of a stamp came back under another one
abbrev pub came_back : Recording → Stamp → Bool
came_back recording stamp = is_moved recording.moves stamp

-- an action that put in the characters of a span, the first of which has the count of its first operation
abbrev pub span_action : Kind → Span → List (Removed (List Word)) → Action (List Word)
span_action kind span removed = record { number = span.first; kind = kind; inserted = stamps_of_span span; removed = removed }

-- no character of an action came back under another stamp
pub record HasStayed (back : Stamp → Bool) (action : Action (List Word)) : Type 0 where
  pub inserted : AllByRecursion (λ stamp. back stamp ≡ false) action.inserted
  pub removed : AllByRecursion (λ r. back r.stamp ≡ false) action.removed

abbrev pub HaveStayed : (Stamp → Bool) → List (Action (List Word)) → Type 0
HaveStayed back group = AllByRecursion (HasStayed back) group
