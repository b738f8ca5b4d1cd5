-- What a command did to a text, by stamps.
use Rattle.std.specs.Prelude.{ℕ, Bool, true, false, List, map}
use Rattle.std.specs.List.{flat_map}
use Rattle.rt_stamps.specs.declared.stamp.Stamp.{Stamp}
use Rattle.rt_ops.specs.Operations.{stamps_in, stamps_of_span}
use Rattle.rt_undo.specs.declared.action.Action.{Action as KeptAction}
use Rattle.rt_undo.specs.declared.action.Kind.{Kind}
use Rattle.rt_undo.specs.declared.action.Kind.TheVariants.{Insert, Delete, Replace}
use Rattle.rt_undo.specs.declared.action.RemovedSpan.{RemovedSpan}

-- a removed character, with the tags that it had then
pub record Removed (T : Type 0) : Type 0 where
  pub stamp : Stamp
  pub tags : T

-- What one command did: the count of its first operation, its kind, the characters that it put in, and those that it
-- took away, in the order of the text.
pub record Action (T : Type 0) : Type 0 where
  pub number : ℕ
  pub kind : Kind
  pub inserted : List Stamp
  pub removed : List (Removed T)

abbrev pub same_kind : Kind → Kind → Bool
same_kind Insert Insert = true
same_kind Delete Delete = true
same_kind Replace Replace = true
same_kind _ _ = false

abbrev pub is_replace : Kind → Bool
is_replace Replace = true
is_replace _ = false

-- a removed character with another stamp in the place of its own
abbrev pub restamped_one : {T : Type 0} → (Stamp → Stamp) → Removed T → Removed T
restamped_one f r = record r { stamp = f r.stamp }

-- an action with other stamps in the place of its own
abbrev pub restamped : {T : Type 0} → (Stamp → Stamp) → Action T → Action T
restamped {T} f action = record action {
  inserted = map f action.inserted;
  removed = map {A = Removed T} {B = Removed T} (restamped_one f) action.removed;
}

-- removed characters with the same tags
abbrev pub removed_with : {T : Type 0} → T → Stamp → Removed T
removed_with tags s = record { stamp = s; tags = tags }

-- the removed characters of a span
abbrev pub removed_of : RemovedSpan → List (Removed ℕ)
removed_of r = map (removed_with r.state) (stamps_of_span r.span)

abbrev pub removed_in : List RemovedSpan → List (Removed ℕ)
removed_in spans = flat_map removed_of spans

-- an action as it is kept, by spans
abbrev pub action_of : KeptAction → Action ℕ
action_of action = record {
  number = action.number;
  kind = action.kind;
  inserted = stamps_in action.inserted.items;
  removed = removed_in action.removed.items;
}

abbrev pub group_of : List KeptAction → List (Action ℕ)
group_of actions = map action_of actions
