-- Stamps in spans, and the cells of spans.
use Rattle.std.specs.Prelude.{◌+◌, ◌==◌, ◌&&◌, ◌||◌, nat_lt, Bool, true, List, if◌then◌else◌}
use Rattle.std.specs.List.{list_any}
use Rattle.rt_stamps.specs.declared.stamp.Span.{Span}
use Rattle.rt_stamps.specs.declared.stamp.Stamp.{Stamp}
pub use Rattle.rt_stamps.specs.Spans.{each_next, is_span, is_clear_of}
use Rattle.rt_stamps.specs.Stamps.{is_same}
use Rattle.rt_store.specs.declared.cell.Cell.{Cell}
use Rattle.rt_store.specs.Cells.{is_in_span}

-- by site, and at one site by count
abbrev pub precedes : Stamp → Stamp → Bool
precedes a b = nat_lt a.site b.site || ((a.site == b.site) && nat_lt a.count b.count)

-- the stamp of the next count
abbrev pub next_stamp : Stamp → Stamp
next_stamp stamp = record { count = stamp.count + 1; site = stamp.site }

-- the first stamp of a span, and the last one
abbrev pub first_in_span : Span → Stamp
first_in_span span = record { count = span.first; site = span.site }

abbrev pub last_stamp : Span → Stamp
last_stamp span = record { count = span.last; site = span.site }

-- a stamp is in one of the spans
abbrev pub is_in_spans : List Span → Stamp → Bool
is_in_spans spans stamp = list_any (λ span. is_in_span span stamp) spans

-- a stamp is among others
abbrev pub is_among : List Stamp → Stamp → Bool
is_among stamps stamp = list_any (λ other. is_same other stamp) stamps

-- a cell with a stamp in one of the spans is gone, another is as it was
abbrev pub gone_in_any : {T : Type 0} → List Span → Cell T → Cell T
gone_in_any spans cell = if is_in_spans spans cell.stamp then record cell { gone = true } else cell
