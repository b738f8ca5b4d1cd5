-- The stretch of a text that a widget shows, and places of the whole text as the widget sees them.
use Rattle.std.specs.Prelude.{ℕ, ◌+◌, ◌-◌, min, max, List, take, drop}
use Rattle.rt_stamps.specs.Places.{line_start, line_end}
use Rattle.rt_store.specs.declared.cell.Cell.{Cell}
use Rattle.rt_store.specs.Cells.{text_of, visible_of}
use Rattle.rt_lines.specs.declared.limits.Limits.{Limits}
use Rattle.rt_lines.specs.declared.stretch.Stretch.{Stretch}
use Rattle.rt_lines.specs.Limits.{first_line, last_line}

-- from the start of the first line that is shown up to behind the newline of the last one
abbrev pub stretch_of : {T : Type 0} → List (Cell T) → Limits → Stretch
stretch_of cells limits = record {
  begin = line_start (text_of cells) (first_line cells limits);
  end = line_end (text_of cells) (last_line cells limits) + 1;
}

-- what stands at the places of a stretch
abbrev pub part : {A : Type 0} → Stretch → List A → List A
part stretch xs = take (stretch.end - stretch.begin) (drop stretch.begin xs)

-- the visible cells that are shown
abbrev pub shown_part : {T : Type 0} → List (Cell T) → Limits → List (Cell T)
shown_part cells limits = part (stretch_of cells limits) (visible_of cells)

-- MARKS AS A WIDGET SEES THEM

-- a place of the whole text as one of the stretch: what stands outside is brought to the nearer end
abbrev pub seen_place : Stretch → ℕ → ℕ
seen_place stretch place = max stretch.begin (min place stretch.end) - stretch.begin

-- the place of the insertion cursor, which is never behind the last newline
abbrev pub seen_cursor : Stretch → ℕ → ℕ
seen_cursor stretch place = min (seen_place stretch place) (stretch.end - stretch.begin - 1)
