-- Operations, seen where they are kept, and those that lie in rows.
use Rattle.std.specs.Prelude.{◌≡◌, ◌≤◌, ℕ, true, List, [], ◌∷◌, Option, None}
use Rattle.rt_stamps.specs.declared.limits.TheConstants.{GREATEST_COUNT}
use Rattle.rt_ops.specs.Operations.{Name, Operation, Insert, Delete}
use Rattle.rt_ops.specs.Rules.{keeps_rules}
pub use Rattle.rt_ops.specs.Views.{operation_in}
use Rattle.rt_rows.specs.declared.single.DeleteOp.{DeleteOp}
use Rattle.rt_rows.specs.declared.single.RowOp.{RowOp}
use Rattle.rt_rows.specs.declared.single.RowOp.TheVariants.{Typed, Deleted}
use Rattle.rt_rows.specs.declared.single.TypedOp.{TypedOp}
use Rattle.rt_rows.specs.Listed.{names_at}

-- the Insert of one character without tags
abbrev pub operation_typed : TypedOp → Operation
operation_typed typed =
    record { count = typed.stamp.count; site = typed.stamp.site; prev = typed.prev; body = Insert typed.after [] (typed.character ∷ []) }

-- the same under tags
abbrev pub operation_under : List Name → TypedOp → Operation
operation_under tags typed =
    record { count = typed.stamp.count; site = typed.stamp.site; prev = typed.prev; body = Insert typed.after tags (typed.character ∷ []) }

-- the Delete of one span
abbrev pub operation_deleting : DeleteOp → Operation
operation_deleting deleted =
    record { count = deleted.stamp.count; site = deleted.stamp.site; prev = deleted.prev; body = Delete (deleted.span ∷ []) }

-- one of these, where the lists of tags are these
abbrev pub operation_of : List (List Name) → RowOp → Operation
operation_of lists (Typed typed list) = operation_under (names_at lists list) typed
operation_of lists (Deleted deleted) = operation_deleting deleted

-- the place of its list of tags, where it has one
abbrev pub list_of : RowOp → Option ℕ
list_of (Typed typed list) = list
list_of (Deleted deleted) = None

-- its count is one that there may be, and it keeps the rules
pub record MayStand (op : Operation) : Type 0 where
  pub count : op.count ≤ GREATEST_COUNT
  pub rules : keeps_rules op.body ≡ true
