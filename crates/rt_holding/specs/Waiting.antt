-- What a held operation awaits: stamps past the known ends of their sites, at which its answer may change.
use Rattle.std.specs.Prelude.{◌≡◌, ◌+◌, ◌≤◌, ◌==◌, ℕ, Bool, true, false, not, ◌&&◌, ◌||◌, nat_le, nat_lt, max, min, List, [], ◌∷◌, length, if◌then◌else◌}
use Rattle.std.specs.List.{flat_map, list_any}
use Rattle.rt_stamps.specs.declared.fault.Fault.TheVariants.{BadTarget, NotYet}
use Rattle.rt_stamps.specs.declared.stamp.Span.{Span}
use Rattle.rt_stamps.specs.declared.stamp.Stamp.{Stamp}
use Rattle.rt_ops.specs.Operations.{Body, Insert, Delete, Tag, Operation}
use Rattle.rt_oplog.specs.Logs.{known_end}
use Rattle.rt_rga.specs.Answers.{Answer, New, Refused, answer_to, has_gap}
use Rattle.rt_rga.specs.Cells.{cells_of}
use Rattle.rt_rga.specs.Histories.{IsHistory}
use Rattle.rt_rga.specs.Kept.{goes_past}
use Rattle.rt_rga.specs.Orders.{AreIn}
use Rattle.rt_holding.specs.Holding.{is_early, is_left, is_new}

-- the spans of what an operation names
abbrev pub targets : Body → List Span
targets (Insert after tags text) = record { site = after.site; first = after.count; last = after.count } ∷ []
targets (Delete spans) = spans
targets (Tag on name spans) = spans

-- the first stamp of a span past its site's known end, if there is one
abbrev pub awaited_in : List Operation → Span → List Stamp
awaited_in log span = if goes_past log span then record { count = max span.first (known_end log span.site + 1); site = span.site } ∷ [] else []

-- One whose previous operation isn't there waits for that alone. Another waits for what it names, and for one that is taken in
-- its own place.
abbrev pub awaited_by : List Operation → Operation → List Stamp
awaited_by log op =
    if nat_lt (known_end log op.site) op.prev then record { count = op.prev; site = op.site } ∷ []
    else record { count = op.prev + 1; site = op.site } ∷ flat_map (awaited_in log) (targets op.body)

-- the known end of a stamp's site has come to its count
abbrev pub is_passed : List Operation → Stamp → Bool
is_passed log stamp = nat_le stamp.count (known_end log stamp.site)

-- none that an operation awaited at an older log is passed
abbrev pub NoneIsPassed : List Operation → List Operation → Operation → Type 0
NoneIsPassed older log op = list_any (is_passed log) (awaited_by older op) ≡ false

-- it comes too early, or could be taken if there is room
abbrev pub WaitsAt : List Operation → Operation → Type 0
WaitsAt log op = (is_early (answer_to op log) || is_new (answer_to op log)) ≡ true

-- Until one that it awaits is passed, what is answered stays, and it awaits the same.
abbrev pub UnpassedStay : Type 0
UnpassedStay =
    (older log : List Operation) (op : Operation) → IsHistory older → IsHistory log → AreIn older log → WaitsAt older op → NoneIsPassed older log op
    → (answer_to op log ≡ answer_to op older) × (awaited_by log op ≡ awaited_by older op)

-- One that isn't tried, as it would stay or found no memory, needn't be tried until then.
abbrev pub LeftOnesStay : Type 0
LeftOnesStay =
    (limit : ℕ) (wanting older log : List Operation) (op : Operation) → IsHistory older → IsHistory log → AreIn older log
    → length (cells_of older) ≤ length (cells_of log)
    → is_left limit wanting older op ≡ true → NoneIsPassed older log op → is_left limit wanting log op ≡ true

-- what became known of a span
abbrev pub came_in : List Operation → List Operation → Span → Span
came_in older log span = record { site = span.site; first = max span.first (known_end older span.site + 1); last = min span.last (known_end log span.site) }

abbrev pub has_new_gap : List Operation → List Operation → Span → Bool
has_new_gap older log span = not (span.site == 0) && has_gap log (came_in older log span)

-- what is answered to one that waited for what it names, by what became known alone
abbrev pub looked_again : List Operation → List Operation → Operation → Answer
looked_again older log op =
    if list_any (has_new_gap older log) (targets op.body) then Refused BadTarget
    else if list_any (goes_past log) (targets op.body) then Refused NotYet
    else New

-- While its own place is free, one that waits for what it names needs no look at what was known before.
abbrev pub LooksAreEnough : Type 0
LooksAreEnough =
    (older log : List Operation) (op : Operation) → IsHistory older → IsHistory log → AreIn older log → WaitsAt older op
    → op.prev ≡ known_end older op.site → op.prev ≡ known_end log op.site
    → answer_to op log ≡ looked_again older log op

-- what came of a site behind a count
abbrev pub came_behind : ℕ → List Operation → ℕ → Span
came_behind site log end = record { site = site; first = end + 1; last = known_end log site }
