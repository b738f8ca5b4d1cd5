-- Runs of cells that spans name, and the places of the visible ones, on the way to the runs of places that a Delete takes away
-- or a Tag changes.
use Rattle.std.specs.Prelude.{◌≡◌, ℕ, ◌<◌, ◌≤◌, Bool, false, nat_le, List, map, Some, option_map, slice_get, unwrap_or}
use Rattle.rt_stamps.specs.declared.stamp.Span.{Span}
use Rattle.rt_store.specs.declared.cell.Cell.{Cell}
use Rattle.rt_store.specs.declared.cell.CellRun.{CellRun}
use Rattle.rt_store.specs.Cells.{GoOnTo, cell_of, visible_of}
use Rattle.rt_store.specs.Spans.{is_in_spans}
use Rattle.rt_stamps.specs.Spans.{each_next}
use Rattle.rt_tags.specs.States.{TagStates, Write, is_on, state_at, written}
use Rattle.rt_rga.specs.declared.taken.PlaceRun.{PlaceRun}
use Rattle.rt_rga.specs.Taken.{differ}

-- RUNS OF CELLS

-- the span of the stamps of a run's cells
abbrev pub span_of_run : CellRun → Span
span_of_run run = record { site = run.cell.stamp.site; first = run.cell.stamp.count; last = run.last }

abbrev pub spans_of_runs : List CellRun → List Span
spans_of_runs runs = map span_of_run runs

-- a run of cells of a list: the first one is the cell of its stamp there, and those directly behind it go on to the last count
pub record IsCellRun (cells : List (Cell ℕ)) (run : CellRun) : Type 0 where
  pub cell : cell_of cells run.cell.stamp ≡ Some run.cell
  pub forward : run.cell.stamp.count ≤ run.last
  pub on : GoOnTo cells run.cell run.last

-- one more write changes whether its tag is on in the state of a kept cell
abbrev pub changes_kept : TagStates → Write → Cell ℕ → Bool
changes_kept table w cell = differ (is_on w.name (state_at table cell.state)) (is_on w.name (written w (state_at table cell.state)))

-- PLACES

-- spans name the visible cell at a place
abbrev pub names_at : {T : Type 0} → List Span → List (Cell T) → ℕ → Bool
names_at spans cells place = unwrap_or (option_map (λ cell. is_in_spans spans cell.stamp) (slice_get (visible_of cells) place)) false

-- a run of places isn't empty and stands below an end
abbrev pub IsBelow : ℕ → PlaceRun → Type 0
IsBelow end run = (run.from < run.to) × (run.to ≤ end)

-- each run ends where the next one does, or behind that
abbrev pub fall : List PlaceRun → Bool
fall runs = each_next (λ run next. nat_le next.to run.to) runs
