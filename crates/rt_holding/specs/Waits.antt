-- What held operations wait for, as the code keeps it. Public clauses cite these by `AreTriedAt` alone.
use Rattle.std.specs.Prelude.{◌≡◌, ◌+◌, ◌≤◌, ℕ, Bool, true, false, cond, not, ◌&&◌, ◌||◌, nat_le, nat_lt, List, length, Option, Some, None, vec_len, vec_capacity}
use Rattle.std.specs.Prelude.{if◌then◌else◌}
use Rattle.std.specs.declared.cmp.Reverse.{Reverse}
use Rattle.std.specs.declared.cmp.Ordering.{Ordering}
use Rattle.std.specs.Ordering.{is_lt, nat_cmp, ordering_then}
use Rattle.std.specs.declared.collections.BinaryHeap.{BinaryHeap}
use Rattle.std.specs.BinaryHeap.{IsHeap, heap_capacity, heap_items, heap_len}
use Rattle.std.specs.BTreeMap.{BTreeMap, get, is_at}
use Rattle.std.specs.BTreeSet.{BTreeSet, contains}
use Rattle.std.specs.List.{list_all, list_any}
use Rattle.rt_stamps.specs.declared.stamp.Span.{Span}
use Rattle.rt_stamps.specs.declared.stamp.Stamp.{Stamp}
use Rattle.rt_ops.specs.Operations.{Operation}
use Rattle.rt_oplog.specs.Logs.{known_end}
use Rattle.rt_rga.specs.Answers.{answer_within}
use Rattle.rt_rga.specs.Kept.{goes_past}
use Rattle.rt_store.specs.Spans.{first_in_span, last_stamp}
use Rattle.rt_holding.specs.declared.waits.Key.{Key}
use Rattle.rt_holding.specs.declared.waits.Keys.{Keys}
use Rattle.rt_holding.specs.declared.waits.Waits.{Waits}
use Rattle.rt_holding.specs.declared.trying.AfterTry.{AfterTry}
use Rattle.rt_holding.specs.declared.trying.AfterTry.TheVariants.{Absent}
use Rattle.rt_holding.specs.Holding.{stays}
use Rattle.rt_holding.specs.Kept.{HeldEntry, Standing, by_stamp_and_arrival, after_try_of}
use Rattle.rt_holding.specs.Waiting.{targets}

-- keys in order: by site, then by count, then by where the operations stand
abbrev pub by_key : Key → Key → Ordering
by_key a b = ordering_then (nat_cmp a.site b.site) (ordering_then (nat_cmp a.count b.count) (by_stamp_and_arrival a.place b.place))

-- the least of a site
abbrev pub least_key : ℕ → Key
least_key site = record { site = site; count = 0; place = (record { count = 0; site = 0 }, 0) }

abbrev pub key_at : Stamp → Standing → Key
key_at stamp place = record { site = stamp.site; count = stamp.count; place = place }

abbrev pub has_key : BTreeSet Key → Standing → Stamp → Bool
has_key keys place stamp = contains by_key keys (key_at stamp place)

-- Of a site it is noted up to where it was looked through: no further than up to a count. What comes behind that is still to be
-- looked through.
abbrev pub is_noted : BTreeMap ℕ ℕ → ℕ → ℕ → Bool
is_noted ends site count = elim (get nat_cmp ends site) [ None ↦ false | Some end ↦ nat_le end count ]

-- a span has begun whose first stamp isn't past its site's known end
abbrev pub has_begun : List Operation → Span → Bool
has_begun log span = nat_le span.first (known_end log span.site)

-- the key of a span is kept: of one that has begun at its last stamp, of another at its first
abbrev pub is_keyed : Keys → List Operation → Standing → Span → Bool
is_keyed keys log place span =
    if has_begun log span then has_key keys.begun place (last_stamp span) else has_key keys.alone place (first_in_span span)

-- A span that goes past its site's known end is waited for. Once it has begun, a gap in what comes is looked for.
abbrev pub is_waited_for : Keys → List Operation → Standing → Span → Bool
is_waited_for keys log place span =
    not (goes_past log span) || (is_keyed keys log place span && (not (has_begun log span) || is_noted keys.ends span.site (known_end log span.site)))

-- All keys of an operation at a place are kept: where the operation before it isn't there, that of it alone; else that of the next
-- in its own place, and those of what it names.
abbrev pub are_all_kept : Keys → List Operation → Standing → Operation → Bool
are_all_kept keys log place op =
    if nat_lt (known_end log op.site) op.prev then has_key keys.alone place (record { count = op.prev; site = op.site })
    else has_key keys.alone place (record { count = op.prev + 1; site = op.site }) && list_all (is_waited_for keys log place) (targets op.body)

-- some key of an operation at a place is kept
abbrev pub is_any_kept : Keys → List Operation → Standing → Operation → Bool
is_any_kept keys log place op =
    if nat_lt (known_end log op.site) op.prev then has_key keys.alone place (record { count = op.prev; site = op.site })
    else has_key keys.alone place (record { count = op.prev + 1; site = op.site })
    || list_any (λ span. goes_past log span && is_keyed keys log place span) (targets op.body)

-- the first place is the greatest
abbrev pub by_later : Reverse Standing → Reverse Standing → Ordering
by_later a b = by_stamp_and_arrival b.0 a.0

abbrev pub is_due : {Z : Type 0} → Standing → BinaryHeap (Reverse Standing) Z → Bool
is_due place due = list_any (λ r. is_at (by_stamp_and_arrival place) r.0) (heap_items due)

abbrev pub is_place_in : Standing → List Standing → Bool
is_place_in place places = list_any (is_at (by_stamp_and_arrival place)) places

abbrev pub key_count : Keys → ℕ
key_count keys = length keys.alone.keys + length keys.begun.keys

-- how many places and keys are kept
abbrev pub place_and_key_count : Waits → ℕ
place_and_key_count waits = heap_len waits.due + vec_len waits.again + key_count waits.keys

-- There is room for all among those that are due, and among those that are looked at again, and for some more.
pub record IsReady (more : ℕ) (waits : Waits) : Type 0 where
  pub heap : IsHeap by_later (heap_items waits.due)
  pub due : place_and_key_count waits + more ≤ heap_capacity waits.due
  pub again : place_and_key_count waits + more ≤ vec_capacity waits.again

-- no place that is due goes before this one
abbrev pub NoneIsBefore : {Z : Type 0} → Standing → BinaryHeap (Reverse Standing) Z → Type 0
NoneIsBefore place due = (p : Standing) → is_due p due ≡ true → is_lt (by_stamp_and_arrival p place) ≡ false

-- a place was due before all others, and is taken out
pub record IsFirstDue {Z : Type 0} (place : Standing) (old new : BinaryHeap (Reverse Standing) Z) : Type 0 where
  pub was : is_due place old ≡ true
  pub first : NoneIsBefore place old
  pub gone : is_due place new ≡ false
  pub others : (p : Standing) → is_due p old ≡ true → (is_due p new || is_at (by_stamp_and_arrival p) place) ≡ true

-- a key of a site to which its known end has come
pub record IsPassedIn (keys : BTreeSet Key) (site known : ℕ) (key : Key) : Type 0 where
  pub there : contains by_key keys key ≡ true
  pub of_site : key.site ≡ site
  pub passed : key.count ≤ known

-- the first key of a site
pub record IsFirstOf (keys : BTreeSet Key) (site : ℕ) (key : Key) : Type 0 where
  pub there : contains by_key keys key ≡ true
  pub of_site : key.site ≡ site
  pub first : (other : Key) → other.site ≡ site → contains by_key keys other ≡ true → key.count ≤ other.count

-- there is none
abbrev pub HasNoneOf : BTreeSet Key → ℕ → Type 0
HasNoneOf keys site = (key : Key) → key.site ≡ site → contains by_key keys key ≡ false

-- there is none to which it has come
abbrev pub LeavesNone : BTreeSet Key → ℕ → ℕ → Type 0
LeavesNone keys site known = (key : Key) → key.site ≡ site → key.count ≤ known → contains by_key keys key ≡ false

-- keys of other places stay
abbrev pub KeepOthers : Standing → BTreeSet Key → BTreeSet Key → Type 0
KeepOthers place old new = (key : Key) → is_at (by_stamp_and_arrival place) key.place ≡ false → contains by_key new key ≡ contains by_key old key

-- keys may have been put in
abbrev pub IsMore : BTreeSet Key → BTreeSet Key → Type 0
IsMore old new = (key : Key) → contains by_key old key ≡ true → contains by_key new key ≡ true

-- keys may have been taken out
abbrev pub IsLess : BTreeSet Key → BTreeSet Key → Type 0
IsLess old new = IsMore new old

-- sites may have been noted, or a lesser count of one
abbrev pub IsNotedMore : BTreeMap ℕ ℕ → BTreeMap ℕ ℕ → Type 0
IsNotedMore old new = (site count : ℕ) → is_noted old site count ≡ true → is_noted new site count ≡ true

-- what is kept for other places stays
pub record KeepsOtherPlaces (place : Standing) (old new : Keys) : Type 0 where
  pub alone : KeepOthers place old.alone new.alone
  pub begun : KeepOthers place old.begun new.begun
  pub ends : IsNotedMore old.ends new.ends

-- more may be kept
pub record HasMore (old new : Keys) : Type 0 where
  pub alone : IsMore old.alone new.alone
  pub begun : IsMore old.begun new.begun
  pub ends : IsNotedMore old.ends new.ends

-- keys may have been taken out, and nothing else changed
pub record HasLess (old new : Keys) : Type 0 where
  pub alone : IsLess old.alone new.alone
  pub begun : IsLess old.begun new.begun
  pub ends : new.ends ≡ old.ends

-- keys of a place may have been put in, and nothing else changed
pub record IsKeyedMore (place : Standing) (old new : Waits) : Type 0 where
  pub keys : KeepsOtherPlaces place old.keys new.keys
  pub more : HasMore old.keys new.keys
  pub due : heap_items new.due ≡ heap_items old.due
  pub again : new.again.items ≡ old.again.items

-- at a place stands what is said, and at all others what stood there
abbrev pub IsSetAt : Standing → Option (Option Operation) → BTreeMap Standing (Option Operation) → BTreeMap Standing (Option Operation) → Type 0
IsSetAt place kept old new =
    (at : Standing) → get by_stamp_and_arrival new at ≡ cond (is_at (by_stamp_and_arrival place) at) kept (get by_stamp_and_arrival old at)

-- what becomes of the operation at a place; nothing does where there is none
abbrev pub after_try_there : Bool → ℕ → List Operation → Option (Option Operation) → AfterTry
after_try_there lacks limit log None = Absent
after_try_there lacks limit log (Some None) = Absent
after_try_there lacks limit log (Some (Some op)) = after_try_of lacks (answer_within limit op log)

-- what is said of the operation at a place, if there is one
abbrev pub IfIsThere : (Operation → Type 0) → Option (Option Operation) → Type 0
IfIsThere P None = Unit {0}
IfIsThere P (Some None) = Unit {0}
IfIsThere P (Some (Some op)) = P op

-- an operation would stay, and all its keys are kept
abbrev pub sleeps : ℕ → Keys → List Operation → Standing → Operation → Bool
sleeps limit keys log place op = stays (answer_within limit op log) && are_all_kept keys log place op

-- it sleeps, or is looked at again
abbrev pub is_tried_at : ℕ → List Operation → Keys → List Standing → HeldEntry → Bool
is_tried_at limit log keys again (place, None) = true
is_tried_at limit log keys again (place, Some op) = is_place_in place again || sleeps limit keys log place op

-- all were last tried at a log, within a limit
abbrev pub are_tried_at : ℕ → List Operation → Keys → List Standing → List HeldEntry → Bool
are_tried_at limit log keys again entries = list_all (is_tried_at limit log keys again) entries
