-- Sets of operations, logs, and the join of two logs.
-- A set of operations is the list of them by falling stamp, the newest first.
use Rattle.std.specs.Prelude.{◌≡◌, ◌↔◌, ℕ, Bool, true, false, not, ◌&&◌, ◌||◌, ◌==◌, nat_lt, nat_le, max, ◌⊎◌, List, [], ◌∷◌, Result, Ok, Err, if◌then◌else◌}
use Rattle.std.specs.List.{AllByRecursion, list_any}
use Rattle.std.specs.Str.{bytes_eq}
use Rattle.std.specs.Cmp.Lexicographic.{pointwise}
use Rattle.rt_stamps.specs.declared.stamp.Span.{Span}
use Rattle.rt_stamps.specs.declared.stamp.Stamp.{Stamp}
use Rattle.rt_stamps.specs.declared.fault.Fault.{Fault}
use Rattle.rt_stamps.specs.declared.fault.Fault.TheVariants.{BadStamp, Conflict}
use Rattle.rt_stamps.specs.Stamps.{is_before, is_same}
use Rattle.rt_ops.specs.Operations.{Body, Insert, Delete, Tag, Operation, stamp_of, last_count, has_bad_stamp}

-- the set has the operation
abbrev pub HasOp : List Operation → Operation → Type 0
HasOp [] op = ⊥
HasOp (q ∷ older) op = (q ≡ op) ⊎ HasOp older op

-- two lists have the same operations, in whatever order and with whatever repeats
abbrev pub AreOf : List Operation → List Operation → Type 0
AreOf ops set = (op : Operation) → HasOp ops op ↔ HasOp set op

-- Tests of equality.

abbrev pub same_bool : Bool → Bool → Bool
same_bool true b = b
same_bool false b = not b

abbrev pub same_span : Span → Span → Bool
same_span a b = (a.site == b.site) && ((a.first == b.first) && (a.last == b.last))

abbrev pub same_body : Body → Body → Bool
same_body (Insert after tags text) (Insert other others more) = is_same after other && (pointwise bytes_eq tags others && bytes_eq text more)
same_body (Delete spans) (Delete others) = pointwise same_span spans others
same_body (Tag on name spans) (Tag other others more) = same_bool on other && (bytes_eq name others && pointwise same_span spans more)
same_body _ _ = false

abbrev pub same_operation : Operation → Operation → Bool
same_operation a b = is_same (stamp_of a) (stamp_of b) && ((a.prev == b.prev) && same_body a.body b.body)

-- whether the set has the operation
abbrev pub holds : List Operation → Operation → Bool
holds set op = list_any (λ q. same_operation q op) set

-- an operation, and one of the same site and no lesser count that goes on from below the first one's last count
abbrev pub reaches_into : Operation → Operation → Bool
reaches_into p q = (p.site == q.site) && (nat_le p.count q.count && nat_lt q.prev (last_count p))

-- two different operations clash if the one reaches into the other, or the other into it
abbrev pub clash : Operation → Operation → Bool
clash p q = not (same_operation p q) && (reaches_into p q || reaches_into q p)

-- each operation is before those that stand in front of it
abbrev pub IsFalling : List Operation → Type 0
IsFalling [] = Unit {0}
IsFalling (op ∷ older) = AllByRecursion (λ q. is_before (stamp_of q) (stamp_of op) ≡ true) older × IsFalling older

-- a set of sound operations, no two of which clash
pub record IsLog (set : List Operation) : Type 0 where
  pub falling : IsFalling set
  pub sound : (op : Operation) → HasOp set op → has_bad_stamp op ≡ false
  pub free : (p q : Operation) → HasOp set p → HasOp set q → clash p q ≡ false

-- the set with one more operation
abbrev pub with_operation : Operation → List Operation → List Operation
with_operation op [] = op ∷ []
with_operation op (q ∷ older) = if is_before (stamp_of q) (stamp_of op) then op ∷ (q ∷ older) else q ∷ with_operation op older

-- the greatest last count of a site's operations, 0 if it has none
abbrev pub known_end : List Operation → ℕ → ℕ
known_end [] site = 0
known_end (op ∷ older) site = if op.site == site then max (last_count op) (known_end older site) else known_end older site

-- the operation of a stamp that goes on from its site's known end
abbrev pub going_on : List Operation → Stamp → Body → Operation
going_on set stamp body = record { count = stamp.count; site = stamp.site; prev = known_end set stamp.site; body = body }

-- what a push makes of a log: nothing new where the log has the operation
abbrev pub pushed : Operation → List Operation → Result (List Operation) Fault
pushed op log =
    if has_bad_stamp op then Err BadStamp
    else if holds log op then Ok log
    else if list_any (clash op) log then Err Conflict
    else Ok (with_operation op log)

-- the set with an operation that it may have already
abbrev pub added : Operation → List Operation → List Operation
added op set = if holds set op then set else with_operation op set

abbrev pub union : List Operation → List Operation → List Operation
union [] other = other
union (op ∷ set) other = added op (union set other)

-- two operations of the set clash
abbrev pub has_clash : List Operation → Bool
has_clash [] = false
has_clash (op ∷ older) = list_any (clash op) older || has_clash older

-- a log that has just the operations of both sets
pub record IsUnion (one other set : List Operation) : Type 0 where
  pub log : IsLog set
  pub members : (x : Operation) → HasOp set x ↔ (HasOp one x ⊎ HasOp other x)

-- two operations of the two sets clash
abbrev pub HasClashOf : List Operation → List Operation → Type 0
HasClashOf one other = (p : Operation) × (q : Operation) × (HasOp one p ⊎ HasOp other p) × (HasOp one q ⊎ HasOp other q) × (clash p q ≡ true)

-- the join of two logs: their union, if that is a log
abbrev pub joined : List Operation → List Operation → Result (List Operation) Fault
joined one other = if has_clash (union one other) then Err Conflict else Ok (union one other)

-- the join of two joins
abbrev pub joins : Result (List Operation) Fault → Result (List Operation) Fault → Result (List Operation) Fault
joins (Ok one) (Ok other) = joined one other
joins (Ok one) (Err fault) = Err fault
joins (Err fault) other = Err fault
