-- Which version has room for an operation, and what has a record in it.
use Rattle.std.proofs.Common.{◌≡◌, ℕ, zero, suc, get_or, ◌^◌, ◌<◌, ◌≤◌, Bool, true, false, ◌&&◌, List, [], ◌∷◌, length, refl, arith}
use Rattle.std.specs.Prelude.{nat_lt, nat_le, OnOk, Result, Ok, Err}
use Rattle.rt_stamps.specs.declared.fault.Fault.{Fault}
use Rattle.std.specs.List.{list_all, AllByRecursion}
use Rattle.std.proofs.lemmas.Bool.Decides.{nat_tests}
use Rattle.rt_stamps.specs.declared.stamp.Span.{Span}
use Rattle.rt_stamps.specs.declared.stamp.Stamp.{Stamp}
use Rattle.rt_ops.specs.declared.version.Version.{Version}
use Rattle.rt_ops.specs.declared.version.Version.TheVariants.{One, Two}
use Rattle.rt_ops.specs.Operations.{Name, Body, Insert, Delete, Tag, Operation, stamp_of}
use Rattle.rt_ops.specs.Rules.{keeps_rules}
use Rattle.rt_ops.specs.Versions.{layout, sites}
use Rattle.rt_ops.specs.File.{HasRecord, AreInFile, counts_in_spans, have_room, has_room, fits, version_of}
use Rattle.rt_ops.specs.Decoding.{StampFits, SpanFits, BodyFits}

pub and_parts : (a b : Bool) → (a && b) ≡ true → (a ≡ true) × (b ≡ true)
and_parts true b h = (refl, h)
and_parts false b h = absurd cc

-- ---- the fields of a body, and of what has a record

spans_in : (ver : Version) (spans : List Span) → have_room ver spans ≡ true → AllByRecursion (λ count. count < 2 ^ 64) (counts_in_spans spans) → AllByRecursion (SpanFits ver) spans
spans_in ver [] room counts = tt
spans_in ver (span ∷ spans) room counts =
    let parts = and_parts (nat_lt span.site (sites ver)) (have_room ver spans) room in
    (record { site = grind (arith, nat_tests, parts.0); first = counts.0; last = counts.1.0 }, spans_in ver spans parts.1 counts.1.1)

spans_room : (ver : Version) (spans : List Span) → AllByRecursion (SpanFits ver) spans → have_room ver spans ≡ true
spans_room ver [] h = refl
spans_room ver (span ∷ spans) h =
    let site : nat_lt span.site (sites ver) ≡ true = grind (arith, nat_tests, h.0.site) in
    rw (site, spans_room ver spans h.1) refl

spans_counts : (ver : Version) (spans : List Span) → AllByRecursion (SpanFits ver) spans → AllByRecursion (λ count. count < 2 ^ 64) (counts_in_spans spans)
spans_counts ver [] h = tt
spans_counts ver (span ∷ spans) h = (h.0.first, (h.0.last, spans_counts ver spans h.1))

pub insert_fits : (ver : Version) (after : Stamp) (tags : List Name) (text : List ℕ) → StampFits ver after → length tags ≤ (layout ver).most_tags → BodyFits ver (Insert after tags text)
insert_fits ver after tags text h few =
    let site : nat_lt after.site (sites ver) ≡ true = grind (arith, nat_tests, h.site) in
    let tags_few : nat_le (length tags) (layout ver).most_tags ≡ true = grind (arith, nat_tests, few) in
    record { room = rw (site, tags_few) refl; counts = (h.count, tt) }

pub delete_fits : (ver : Version) (spans : List Span) → AllByRecursion (SpanFits ver) spans → BodyFits ver (Delete spans)
delete_fits ver spans h = record { room = spans_room ver spans h; counts = spans_counts ver spans h }

pub tag_fits : (ver : Version) (on : Bool) (name : Name) (spans : List Span) → AllByRecursion (SpanFits ver) spans → BodyFits ver (Tag on name spans)
tag_fits ver on name spans h = record { room = spans_room ver spans h; counts = spans_counts ver spans h }

pub after_fits : (ver : Version) (after : Stamp) (tags : List Name) (text : List ℕ) → BodyFits ver (Insert after tags text) → StampFits ver after × (length tags ≤ (layout ver).most_tags)
after_fits ver after tags text h =
    let parts = and_parts (nat_lt after.site (sites ver)) (nat_le (length tags) (layout ver).most_tags) h.room in
    (record { count = h.counts.0; site = grind (arith, nat_tests, parts.0) }, grind (arith, nat_tests, parts.1))

pub deleted_fit : (ver : Version) (spans : List Span) → BodyFits ver (Delete spans) → AllByRecursion (SpanFits ver) spans
deleted_fit ver spans h = spans_in ver spans h.room h.counts

pub tagged_fit : (ver : Version) (on : Bool) (name : Name) (spans : List Span) → BodyFits ver (Tag on name spans) → AllByRecursion (SpanFits ver) spans
tagged_fit ver on name spans h = spans_in ver spans h.room h.counts

-- what was written fits, where its spans do
pub deletion_fits : (ver : Version) (spans : List Span) (result : Result (Unit {0}) Fault) → OnOk result (AllByRecursion (SpanFits ver) spans) → OnOk result (BodyFits ver (Delete spans))
deletion_fits ver spans (Ok done) h = delete_fits ver spans h
deletion_fits ver spans (Err fault) h = tt

pub tagging_fits : (ver : Version) (on : Bool) (name : Name) (spans : List Span) (result : Result (Unit {0}) Fault) → OnOk result (AllByRecursion (SpanFits ver) spans)
    → OnOk result (BodyFits ver (Tag on name spans))
tagging_fits ver on name spans (Ok done) h = tag_fits ver on name spans h
tagging_fits ver on name spans (Err fault) h = tt

pub has_record : {ver : Version} (op : Operation) → StampFits ver (stamp_of op) → op.prev < 2 ^ 64 → BodyFits ver op.body → keeps_rules op.body ≡ true → HasRecord ver op
has_record {ver} op stamp prev body rules =
    let site : nat_lt op.site (sites ver) ≡ true = grind (arith, nat_tests, stamp.site) in
    record { room = rw (site, body.room) refl; counts = (stamp.count, (prev, body.counts)); rules = rules }

pub stamp_fits : {ver : Version} (op : Operation) → HasRecord ver op → StampFits ver (stamp_of op)
stamp_fits {ver} op h = record { count = h.counts.0; site = grind (arith, nat_tests, (and_parts (nat_lt op.site (sites ver)) (has_room ver op.body) h.room).0) }

pub body_fits : {ver : Version} (op : Operation) → HasRecord ver op → BodyFits ver op.body
body_fits {ver} op h = record { room = (and_parts (nat_lt op.site (sites ver)) (has_room ver op.body) h.room).1; counts = h.counts.1.1 }

-- ---- what the first version has room for, the second has

spans_more : (spans : List Span) → have_room One spans ≡ true → have_room Two spans ≡ true
spans_more [] h = refl
spans_more (span ∷ spans) h =
    let parts = and_parts (nat_lt span.site (sites One)) (have_room One spans) h in
    let site : nat_lt span.site (sites Two) ≡ true = grind (arith, nat_tests, parts.0) in
    rw (site, spans_more spans parts.1) refl

body_more : (body : Body) → has_room One body ≡ true → has_room Two body ≡ true
body_more (Insert after tags text) h =
    let parts = and_parts (nat_lt after.site (sites One)) (nat_le (length tags) (layout One).most_tags) h in
    let site : nat_lt after.site (sites Two) ≡ true = grind (arith, nat_tests, parts.0) in
    let few : nat_le (length tags) (layout Two).most_tags ≡ true = grind (arith, nat_tests, parts.1) in
    rw (site, few) refl
body_more (Delete spans) h = spans_more spans h
body_more (Tag on name spans) h = spans_more spans h

pub record_more : (op : Operation) → HasRecord One op → HasRecord Two op
record_more op h =
    let parts = and_parts (nat_lt op.site (sites One)) (has_room One op.body) h.room in
    let site : nat_lt op.site (sites Two) ≡ true = grind (arith, nat_tests, parts.0) in
    record { room = rw (site, body_more op.body parts.1) refl; counts = h.counts; rules = h.rules }

pub record_first : (op : Operation) → HasRecord Two op → fits One op ≡ true → HasRecord One op
record_first op h room = record { room = room; counts = h.counts; rules = h.rules }

-- ---- the version that is chosen

all_first : (ops : List Operation) → AllByRecursion (HasRecord Two) ops → list_all (fits One) ops ≡ true → AllByRecursion (HasRecord One) ops
all_first [] h room = tt
all_first (op ∷ ops) h room =
    let parts = and_parts (fits One op) (list_all (fits One) ops) room in
    (record_first op h.0 parts.0, all_first ops h.1 parts.1)

pub chosen : (ops : List Operation) → AreInFile Two ops → AreInFile (version_of ops) ops
chosen ops h = by (list_all (fits One) ops) refl
  where
    by : (b : Bool) → list_all (fits One) ops ≡ b → AreInFile (version_of ops) ops
    by true room = rw room (record { records = all_first ops h.records room; rising = h.rising })
    by false room = rw room h

-- ---- of spans and bodies that are written in a version

-- the span at a place of those that have room
pub room_at : (spans : List Span) (i : ℕ) (d : Span) → have_room One spans ≡ true → i < length spans → (get_or spans i d).site < sites One
room_at [] i d h l = absurd (omega arith)
room_at (span ∷ spans) zero d h l = grind (arith, nat_tests)
room_at (span ∷ spans) (suc i) d h l = room_at spans i d (and_parts (nat_lt span.site (sites One)) (have_room One spans) h).1 (omega arith)
