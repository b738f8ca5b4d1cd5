-- From which stamp to which the spans of Tags go, by site and at one site by count.
use Rattle.std.specs.Prelude.{◌≡◌, ◌&&◌, ◌||◌, Bool, true, false, not, List, [], ◌∷◌, ℕ, Option, None, Some, option_map, unwrap_or, if◌then◌else◌}
use Rattle.std.specs.Borrow.{Bor}
use Rattle.std.specs.Str.{bytes_eq}
use Rattle.indexmap.specs.IndexMap.{IndexMap, get_by}
use Rattle.rt_stamps.specs.declared.stamp.Span.{Span}
use Rattle.rt_stamps.specs.declared.stamp.Stamp.{Stamp}
use Rattle.rt_ops.specs.Operations.{Name}
use Rattle.rt_store.specs.Spans.{is_in_spans, last_stamp, precedes}
use Rattle.rt_rga.specs.declared.extent.Extent.{Extent}

-- the last of some spans
abbrev pub last_span : Span → List Span → Span
last_span span [] = span
last_span span (next ∷ spans) = last_span next spans

-- from the first stamp of the first span to the last one of the last
abbrev pub extent_of : List Span → Option Extent
extent_of [] = None
extent_of (span ∷ spans) = Some (record { first = record { count = span.first; site = span.site }; last = last_stamp (last_span span spans) })

-- a stamp comes neither before the first one nor after the last
abbrev pub covers : Extent → Stamp → Bool
covers extent stamp = not (precedes stamp extent.first) && not (precedes extent.last stamp)

-- there is an extent, and it covers the stamp
abbrev pub may_cover : Option Extent → Stamp → Bool
may_cover extent stamp = unwrap_or (option_map (λ extent. covers extent stamp) extent) false

-- an extent is kept under the name, and it covers the stamp
abbrev pub covers_under : {S : Type 0} → IndexMap (Bor (List ℕ)) Extent S → Name → Stamp → Bool
covers_under extents name stamp = may_cover (get_by (λ key. bytes_eq name key.now) extents) stamp

-- all of one comes before all of the other
abbrev pub is_apart_from : Extent → Extent → Bool
is_apart_from a b = precedes a.last b.first || precedes b.last a.first

-- both, with what lies between
abbrev pub joined_extents : Extent → Extent → Extent
joined_extents a b = record {
  first = if precedes b.first a.first then b.first else a.first;
  last = if precedes a.last b.last then b.last else a.last;
}

-- the first alone, where there is no other; both joined, where they are apart; else none
abbrev pub joined_if_apart : Extent → Option Extent → Option Extent
joined_if_apart a None = Some a
joined_if_apart a (Some b) = if is_apart_from a b then Some (joined_extents a b) else None

-- The spans of a Tag are added to what is kept under its name, which covered none of their stamps; what was covered stays so.
pub record IsAdded {S : Type 0} (spans : List Span) (name : Name) (old new : IndexMap (Bor (List ℕ)) Extent S) : Type 0 where
  pub disjoint : (stamp : Stamp) → (is_in_spans spans stamp && covers_under old name stamp) ≡ false
  pub added : (stamp : Stamp) → is_in_spans spans stamp ≡ true → covers_under new name stamp ≡ true
  pub kept : (other : Name) (stamp : Stamp) → covers_under old other stamp ≡ true → covers_under new other stamp ≡ true
