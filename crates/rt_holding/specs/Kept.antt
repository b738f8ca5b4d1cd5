-- How held operations are kept, in a map by their stamps and by when they came; and how the code tries them. Public clauses
-- cite these by `AreTriedAt` alone.
use Rattle.std.specs.Prelude.{◌≡◌, ◌<◌, ◌≤◌, ℕ, Bool, true, false, List, [], ◌∷◌, ◌++◌, length, Option, Some, None, IsSomeAnd, if◌then◌else◌}
use Rattle.std.specs.List.{AllByRecursion}
use Rattle.std.specs.Ordering.{nat_cmp, ordering_then}
use Rattle.std.specs.declared.cmp.Ordering.{Ordering}
use Rattle.std.specs.declared.cmp.Ordering.TheVariants.{Greater}
use Rattle.rt_stamps.specs.declared.stamp.Stamp.{Stamp}
use Rattle.rt_ops.specs.Operations.{Operation, has_bad_stamp, stamp_of}
use Rattle.rt_ops.specs.Rules.{keeps_rules}
use Rattle.rt_oplog.specs.Logs.{HasOp}
use Rattle.rt_rga.specs.Answers.{Answer, New, answer_within}
use Rattle.rt_holding.specs.declared.trying.AfterTry.{AfterTry}
use Rattle.rt_holding.specs.declared.trying.AfterTry.TheVariants.{Taken, Waits, Stays, Dropped}
use Rattle.rt_holding.specs.declared.held.TheConstants.{MOST_HELD}
use Rattle.rt_holding.specs.Holding.{is_new, stays}
use Rattle.rt_holding.specs.Runs.{NoneFalls, NoneTwice}

-- where a held operation stands: by its stamp, and of equal stamps by when it came
abbrev pub Standing : Type 0
Standing = Stamp × ℕ

abbrev pub by_stamp_and_arrival : Standing → Standing → Ordering
by_stamp_and_arrival a b = ordering_then (ordering_then (nat_cmp a.0.count b.0.count) (nat_cmp a.0.site b.0.site)) (nat_cmp a.1 b.1)

-- at a place an operation; or none, while it is being tried
abbrev pub HeldEntry : Type 0
HeldEntry = Standing × Option Operation

abbrev pub put_in_front : Option Operation → List Operation → List Operation
put_in_front None ops = ops
put_in_front (Some op) ops = op ∷ ops

abbrev pub ops_in : List HeldEntry → List Operation
ops_in [] = []
ops_in (e ∷ entries) = put_in_front e.1 (ops_in entries)

-- an operation at the place of its stamp, and of an arrival below a number
pub record IsInPlace (arrivals : ℕ) (e : HeldEntry) : Type 0 where
  pub op : IsSomeAnd e.1 (λ op. e.0.0 ≡ stamp_of op)
  pub came : e.0.1 < arrivals

-- what a map of held operations keeps to
pub record AreHeld (arrivals : ℕ) (entries : List HeldEntry) : Type 0 where
  pub places : AllByRecursion (IsInPlace arrivals) entries
  pub few : length entries ≤ MOST_HELD
  pub once : NoneTwice (ops_in entries)
  pub order : NoneFalls (ops_in entries)
  pub rules : (op : Operation) → HasOp (ops_in entries) op → keeps_rules op.body ≡ true
  pub sound : (op : Operation) → HasOp (ops_in entries) op → has_bad_stamp op ≡ false

-- an operation stands at a place, behind those of lesser places
pub record IsHeldAt (place : Standing) (op : Operation) (entries : List HeldEntry) : Type 0 where
  pub front : List HeldEntry
  pub behind : List HeldEntry
  pub is : entries ≡ front ++ (place, Some op) ∷ behind
  pub before : AllByRecursion (λ e. by_stamp_and_arrival place e.0 ≡ Greater) front

-- what becomes of a held operation that is tried: by whether memory was wanting before, and by what is answered
abbrev pub after_try_of : Bool → Answer → AfterTry
after_try_of lacks answer =
    if is_new answer then if lacks then Waits else Taken
    else if stays answer then Stays
    else Dropped

-- at a place stands one that is new
pub record IsNewAt (limit : ℕ) (log : List Operation) (entries : List HeldEntry) (place : Standing) : Type 0 where
  pub op : Operation
  pub there : IsHeldAt place op entries
  pub new : answer_within limit op log ≡ New
