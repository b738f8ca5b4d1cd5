-- Two logs, merged.
use Rattle.std.specs.Prelude.{◌≡◌, ◌↔◌, ◌⊎◌, ◌++◌, List, map, Result, MatchResult}
use Rattle.std.specs.List.{AllByRecursion}
use Rattle.std.specs.declared.vec.Vec.{Vec}
use Rattle.std.specs.declared.alloc.Global.{Global}
use Rattle.rt_stamps.specs.declared.fault.Fault.{Fault}
use Rattle.rt_stamps.specs.declared.fault.Fault.TheVariants.{Conflict, NoMemory}
use Rattle.rt_rows.specs.declared.rows.RowPlace.{RowPlace}
use Rattle.rt_rows.specs.Places.{HasPlace, op_at}
use Rattle.rt_ops.specs.Operations.{Operation}
use Rattle.rt_oplog.specs.Logs.{HasClashOf, HasOp, IsFalling}
use Rattle.rt_oplog.specs.Kept.{newest_first}

-- the places of the operations of both, by rising stamp
pub record IsMerged (rows : List (List Operation)) (one other : List Operation) (order : List RowPlace) : Type 0 where
  pub within : AllByRecursion (HasPlace rows) order
  pub falling : IsFalling (newest_first rows order)
  pub members : (x : Operation) → HasOp (newest_first rows order) x ↔ (HasOp one x ⊎ HasOp other x)

-- The operations of some places of other rows stand in these rows too, at places that are named behind those before.
pub record IsTakenOver (more rows : List (List Operation)) (places old new : List RowPlace) : Type 0 where
  pub behind : List RowPlace
  pub named : new ≡ old ++ behind
  pub within : AllByRecursion (HasPlace rows) behind
  pub same : map (op_at rows) behind ≡ map (op_at more) places

-- what a merge answers: the places of both, or Conflict where two operations clash; or want of memory
abbrev pub Merges : List Operation → List Operation → Result (Vec RowPlace Global) Fault → List (List Operation) → Type 0
Merges one other result rows = MatchResult result
    (λ order. IsMerged rows one other order.items)
    (λ fault. (fault ≡ NoMemory) ⊎ ((fault ≡ Conflict) × HasClashOf one other))
