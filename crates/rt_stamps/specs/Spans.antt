-- Spans of stamps: each has the stamps of one site from a first count to a last one.
use Rattle.std.specs.Prelude.{◌+◌, ◌==◌, ◌&&◌, ◌||◌, nat_lt, nat_le, Bool, true, List, [], ◌∷◌}
use Rattle.rt_stamps.specs.declared.stamp.Span.{Span}
use Rattle.rt_stamps.specs.declared.stamp.Stamp.{Stamp}

-- the span of one stamp
abbrev pub span_of : Stamp → Span
span_of stamp = record { site = stamp.site; first = stamp.count; last = stamp.count }

-- each element stands in the relation to the next one
abbrev pub each_next : {A : Type 0} → (A → A → Bool) → List A → Bool
each_next r [] = true
each_next r (x ∷ []) = true
each_next r (x ∷ (y ∷ rest)) = r x y && each_next r (y ∷ rest)

-- the first count is at most the last
abbrev pub is_span : Span → Bool
is_span span = nat_le span.first span.last

-- a stamp of a span's site, from its first count to its last
abbrev pub is_in_span : Span → Stamp → Bool
is_in_span span stamp = (stamp.site == span.site) && (nat_le span.first stamp.count && nat_le stamp.count span.last)

-- of a lesser site, or of the same site with at least one count between the two
abbrev pub is_clear_of : Span → Span → Bool
is_clear_of a b = nat_lt a.site b.site || ((a.site == b.site) && nat_lt (a.last + 1) b.first)
