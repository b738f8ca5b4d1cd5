-- What becomes of held operations that wait when a log has grown. Public clauses cite none of this.
use Rattle.std.specs.Prelude.{◌≡◌, ◌<◌, ◌≤◌, ◌⊎◌, ◌==◌, ◌||◌, ℕ, true, false, min, List, [], ◌∷◌, Option, Some}
use Rattle.std.specs.BTreeMap.{BTreeMap, get}
use Rattle.std.specs.BTreeSet.{BTreeSet, contains}
use Rattle.std.specs.Ordering.{nat_cmp}
use Rattle.std.specs.declared.cmp.Reverse.{Reverse}
use Rattle.std.specs.declared.collections.BinaryHeap.{BinaryHeap}
use Rattle.std.specs.List.{list_any}
use Rattle.rt_stamps.specs.declared.stamp.Span.{Span}
use Rattle.rt_stamps.specs.declared.stamp.Stamp.{Stamp}
use Rattle.rt_stamps.specs.Spans.{is_in_span}
use Rattle.rt_ops.specs.Operations.{Operation}
use Rattle.rt_ops.specs.Rules.{keeps_rules}
use Rattle.rt_oplog.specs.Logs.{known_end}
use Rattle.rt_rga.specs.Answers.{has_gap}
use Rattle.rt_store.specs.Spans.{first_in_span}
use Rattle.rt_holding.specs.declared.waits.Key.{Key}
use Rattle.rt_holding.specs.declared.waits.Keys.{Keys}
use Rattle.rt_holding.specs.declared.waits.Waits.{Waits}
use Rattle.rt_holding.specs.declared.waking.Passed.{Passed}
use Rattle.rt_holding.specs.declared.waking.Passed.TheVariants.{Due, GoesOn, Sleeps}
use Rattle.rt_holding.specs.Grown.{HasGrownBy}
use Rattle.rt_holding.specs.Kept.{Standing, by_stamp_and_arrival}
use Rattle.rt_rga.specs.Kept.{goes_past}
use Rattle.rt_holding.specs.Waiting.{came_behind, targets}
use Rattle.rt_holding.specs.Waits.{IfIsThere, LeavesNone, by_key, has_key, is_due, is_place_in, is_noted, sleeps}

-- a span is one of others
abbrev pub IsSpanAmong : List Span → Span → Type 0
IsSpanAmong [] span = ⊥
IsSpanAmong (x ∷ spans) span = (x ≡ span) ⊎ IsSpanAmong spans span

abbrev pub stamp_of_key : Key → Stamp
stamp_of_key key = record { count = key.count; site = key.site }

-- What became known of a span from a key on has no gap.
pub record HasComeIn (log : List Operation) (key : Key) (spans : List Span) (span : Span) : Type 0 where
  pub site : (key.site == 0) ≡ false
  pub among : IsSpanAmong spans span
  pub has : is_in_span span (stamp_of_key key) ≡ true
  pub whole : has_gap log (record { site = key.site; first = key.count; last = min span.last (known_end log key.site) }) ≡ false

-- A later span, whose key is passed too, is still to be seen to.
pub record IsToCome (known : ℕ) (keys : BTreeSet Key) (key : Key) (spans : List Span) : Type 0 where
  pub later : Span
  pub among : IsSpanAmong spans later
  pub site : later.site ≡ key.site
  pub is : later.first ≤ later.last
  pub behind : key.count ≤ later.first
  pub passed : later.first ≤ known
  pub kept : has_key keys key.place (first_in_span later) ≡ true

-- some span goes past its site's known end, or a later one is still to be seen to
abbrev pub IsStillWaiting : List Operation → BTreeSet Key → Key → List Span → Type 0
IsStillWaiting log keys key spans = (list_any (goes_past log) spans ≡ true) ⊎ IsToCome (known_end log key.site) keys key spans

-- Without a look at the whole operation that names them: a span has begun, and goes on to a last stamp; or some other span is waited
-- for.
abbrev pub IsPassedOn : List Operation → BTreeSet Key → Key → List Span → Passed → Type 0
IsPassedOn log keys key spans Due = Unit {0}
IsPassedOn log keys key spans (GoesOn last) =
    (span : Span) × HasComeIn log key spans span × (known_end log key.site < span.last) × (last ≡ span.last)
IsPassedOn log keys key spans Sleeps =
    (span : Span) × HasComeIn log key spans span × (span.last ≤ known_end log key.site) × IsStillWaiting log keys key spans

-- what the operation at a key's place waits for after that
pub record IsSeenTo (log : List Operation) (keys : Keys) (key : Key) (op : Operation) : Type 0 where
  pub other : (key.site == op.site) ≡ false
  pub span : Span
  pub came : HasComeIn log key (targets op.body) span
  pub next : known_end log key.site < span.last → (has_key keys.begun key.place (record { count = span.last; site = key.site }) ≡ true)
      × (is_noted keys.ends key.site (known_end log key.site) ≡ true)
  pub waits : IsStillWaiting log keys.alone key (targets op.body)

-- all are due of which a span of a site has begun
abbrev pub AreAllDue : {Z : Type 0} → ℕ → BTreeSet Key → BinaryHeap (Reverse Standing) Z → Type 0
AreAllDue site begun due = (key : Key) → key.site ≡ site → contains by_key begun key ≡ true → is_due key.place due ≡ true

-- What came of a site since it was looked through has a gap, and all are due of which a span of it has begun.
pub record HasGapSince {Z : Type 0} (site : ℕ) (log : List Operation) (old : Keys) (due : BinaryHeap (Reverse Standing) Z) : Type 0 where
  pub end : ℕ
  pub noted : get nat_cmp old.ends site ≡ Some end
  pub gap : has_gap log (came_behind site log end) ≡ true
  pub all : AreAllDue site old.begun due

-- What came of a site since it was looked through has no gap, and that is noted. No key is moved, and none comes due.
pub record HasNoGapSince (site : ℕ) (log : List Operation) (old new : Waits) : Type 0 where
  pub begun : new.keys.begun ≡ old.keys.begun
  pub due : new.due ≡ old.due
  pub noted : (end : ℕ) → get nat_cmp old.keys.ends site ≡ Some end → end ≤ known_end log site
      → (has_gap log (came_behind site log end) ≡ false) × (is_noted new.keys.ends site (known_end log site) ≡ true)

-- What came of a site is looked through, once for all of which a span of it has begun. With a gap, all of them are due.
pub record IsLookedThrough (by : ℕ) (log : List Operation) (old new : Waits) : Type 0 where
  pub due : (place : Standing) → is_due place old.due ≡ true → is_due place new.due ≡ true
  pub alone : new.keys.alone ≡ old.keys.alone
  pub others : (key : Key) → (by == key.site) ≡ false → contains by_key new.keys.begun key ≡ contains by_key old.keys.begun key
  pub noted : (site count : ℕ) → (by == site) ≡ false → is_noted old.keys.ends site count ≡ true → is_noted new.keys.ends site count ≡ true
  pub here : HasGapSince by log old.keys new.due ⊎ HasNoGapSince by log old new

-- a span of an operation at a key's place has come to its end, and the operation waits for others
pub record IsAtEnd (by : ℕ) (log : List Operation) (ops : BTreeMap Standing (Option Operation)) (alone : BTreeSet Key) (key : Key) : Type 0 where
  pub site : key.site ≡ by
  pub passed : key.count ≤ known_end log by
  pub waits : IfIsThere (λ op. IsStillWaiting log alone key (targets op.body)) (get by_stamp_and_arrival ops key.place)

-- those are seen to of which a span that had begun has come to its end
pub record AreEndsPassed (by : ℕ) (log : List Operation) (ops : BTreeMap Standing (Option Operation)) (old new : Waits) : Type 0 where
  pub due : (place : Standing) → is_due place old.due ≡ true → is_due place new.due ≡ true
  pub alone : new.keys.alone ≡ old.keys.alone
  pub ends : new.keys.ends ≡ old.keys.ends
  pub left : LeavesNone new.keys.begun by (known_end log by)
  pub each : (key : Key) → contains by_key old.keys.begun key ≡ true
      → (contains by_key new.keys.begun key ≡ true) ⊎ (is_due key.place new.due ≡ true) ⊎ IsAtEnd by log ops old.keys.alone key

-- Since the log has grown: those that were due stay so, and those are due that were looked at again; of those that slept each is due,
-- or sleeps on.
pub record IsWoken (made_by : ℕ) (log : List Operation) (ops : BTreeMap Standing (Option Operation)) (old new : Waits) : Type 0 where
  pub due : (place : Standing) → is_due place old.due ≡ true → is_due place new.due ≡ true
  pub again : (place : Standing) → is_place_in place old.again.items ≡ true → is_due place new.due ≡ true
  pub asleep : (limit : ℕ) (older : List Operation) → HasGrownBy made_by older log → (place : Standing) (op : Operation)
      → get by_stamp_and_arrival ops place ≡ Some (Some op) → keeps_rules op.body ≡ true → sleeps limit old.keys older place op ≡ true
      → (is_due place new.due || sleeps limit new.keys log place op) ≡ true
