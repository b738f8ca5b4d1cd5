-- The spans that operations name: stamps by their sites, those of consecutive counts as one span, and cut for several
-- operations.
use Rattle.std.specs.Prelude.{ℕ, zero, suc, ◌+◌, ◌-◌, ◌/◌, ◌==◌, ◌&&◌, ◌||◌, nat_le, nat_lt, Bool, List, [], ◌∷◌, length, take, drop, if◌then◌else◌}
use Rattle.rt_stamps.specs.declared.stamp.Span.{Span}
use Rattle.rt_stamps.specs.declared.stamp.Stamp.{Stamp}
use Rattle.rt_stamps.specs.Spans.{span_of}
use Rattle.rt_stamps.specs.Stamps.{is_same}
use Rattle.rt_store.specs.Spans.{first_in_span, last_stamp, next_stamp, precedes}

-- one stamp more among stamps by site
abbrev pub put_by_site : Stamp → List Stamp → List Stamp
put_by_site stamp [] = stamp ∷ []
put_by_site stamp (first ∷ stamps) = if precedes stamp first then stamp ∷ first ∷ stamps else first ∷ put_by_site stamp stamps

-- stamps by site, and those of one site by count
abbrev pub by_site : List Stamp → List Stamp
by_site [] = []
by_site (stamp ∷ stamps) = put_by_site stamp (by_site stamps)

-- a span before others: one span with the first of them where that goes on with the next count
abbrev pub attached : Span → List Span → List Span
attached span [] = span ∷ []
attached span (next ∷ spans) =
    if is_same (first_in_span next) (next_stamp (last_stamp span)) then record next { first = span.first } ∷ spans else span ∷ next ∷ spans

-- of stamps by site the longest runs of consecutive counts
abbrev pub consecutive_spans : List Stamp → List Span
consecutive_spans [] = []
consecutive_spans (s ∷ ss) = attached (span_of s) (consecutive_spans ss)

-- a span is of a lesser site than another one, or of the same site and begins no later
abbrev pub begins_by : Span → Span → Bool
begins_by a b = nat_lt a.site b.site || ((a.site == b.site) && nat_le a.first b.first)

-- the spans of stamps
abbrev pub spans_in : List Stamp → List Span
spans_in stamps = consecutive_spans (by_site stamps)

-- PARTS

-- how many parts of at most so many elements a list of n is cut into
abbrev pub parts_for : ℕ → ℕ → ℕ
parts_for most n = (n + (most - 1)) / most

-- so many parts of a list, each with the next ones of its elements, at most so many
abbrev pub first_parts : {X : Type 0} → ℕ → ℕ → List X → List (List X)
first_parts zero most list = []
first_parts (suc parts) most list = take most list ∷ first_parts parts most (drop most list)

-- a list in parts of so many elements, the last one with what is left
abbrev pub parts_of : {X : Type 0} → ℕ → List X → List (List X)
parts_of most list = first_parts (parts_for most (length list)) most list
