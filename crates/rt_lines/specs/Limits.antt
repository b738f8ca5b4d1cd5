-- The lines of a text that a widget shows (Tk text manual, "Peer widgets"). A limit is the stamp of a newline, so it stays where
-- it is while lines come and go before it.
use Rattle.std.specs.Prelude.{ℕ, ◌+◌, min, Bool, false, List, Option, None, option_map, option_and_then, unwrap_or, if◌then◌else◌}
use Rattle.rt_stamps.specs.declared.stamp.Stamp.{Stamp}
use Rattle.rt_stamps.specs.Places.{newlines, line_of}
use Rattle.rt_stamps.specs.Stamps.{replaced}
use Rattle.rt_store.specs.declared.cell.Cell.{Cell}
use Rattle.rt_store.specs.Cells.{text_of, visible_before, position_of, cell_of}
use Rattle.rt_lines.specs.declared.limits.Limits.{Limits}

-- without limits all lines are shown
abbrev pub no_limits : Limits
no_limits = record { start = None; end = None }

-- WHERE A NEWLINE STANDS

-- the place of a stamp's cell: as many visible characters stand before it, whether it is gone or not
abbrev pub place_of : {T : Type 0} → List (Cell T) → Stamp → Option ℕ
place_of cells stamp = option_map (visible_before cells) (position_of cells stamp)

-- the line that holds this place
abbrev pub line_at : {T : Type 0} → List (Cell T) → Stamp → Option ℕ
line_at cells stamp = option_map (line_of (text_of cells)) (place_of cells stamp)

-- the cell of a stamp is gone
abbrev pub is_gone_cell : {T : Type 0} → List (Cell T) → Stamp → Bool
is_gone_cell cells stamp = unwrap_or (option_map (λ cell. cell.gone) (cell_of cells stamp)) false

-- the line that begins behind a newline; where that is gone, the line that holds its place
abbrev pub line_behind : {T : Type 0} → List (Cell T) → Stamp → Option ℕ
line_behind cells stamp = option_map (λ line. if is_gone_cell cells stamp then line else line + 1) (line_at cells stamp)

-- THE LINES THAT ARE SHOWN

-- the last one holds the place of the newline that ends the view, which is its newline where that isn't gone
abbrev pub last_line : {T : Type 0} → List (Cell T) → Limits → ℕ
last_line cells limits = unwrap_or (option_and_then (line_at cells) limits.end) (newlines (text_of cells))

-- the first one begins behind the newline before the view; it is never behind the last one, so that one line at least is shown
abbrev pub first_line : {T : Type 0} → List (Cell T) → Limits → ℕ
first_line cells limits = min (unwrap_or (option_and_then (line_behind cells) limits.start) 1) (last_line cells limits)

-- THE NUMBERS OF THE OPTIONS -startline AND -endline: the first line shown, and the one behind the last; none without a limit

abbrev pub start_number : {T : Type 0} → List (Cell T) → Limits → Option ℕ
start_number cells limits = option_map (λ _. first_line cells limits) limits.start

abbrev pub end_number : {T : Type 0} → List (Cell T) → Limits → Option ℕ
end_number cells limits = option_map (λ _. last_line cells limits + 1) limits.end

-- NEWLINES THAT CAME BACK

-- the limits then
abbrev pub limits_renamed : Stamp → Stamp → Limits → Limits
limits_renamed former newer limits = record {
  start = option_map (replaced former newer) limits.start;
  end = option_map (replaced former newer) limits.end;
}
