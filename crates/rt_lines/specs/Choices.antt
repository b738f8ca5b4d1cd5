-- What the options -startline and -endline ask for. Their numbers are those of lines of the whole text: of the first line shown,
-- and of the one behind the last.
use Rattle.std.specs.Prelude.{ℕ, ◌+◌, ◌-◌, ◌&&◌, nat_le, nat_lt, Bool, List, Option, None, option_map, Result, Ok, Err, slice_get, if◌then◌else◌}
use Rattle.rt_stamps.specs.declared.fault.Fault.{Fault}
use Rattle.rt_stamps.specs.declared.fault.Fault.TheVariants.{BadView}
use Rattle.rt_stamps.specs.declared.stamp.Stamp.{Stamp}
use Rattle.rt_stamps.specs.Places.{newlines, line_end}
use Rattle.rt_store.specs.declared.cell.Cell.{Cell}
use Rattle.rt_store.specs.Cells.{text_of, visible_of}
use Rattle.rt_lines.specs.declared.choice.Choice.{Choice}
use Rattle.rt_lines.specs.declared.choice.Choice.TheVariants.{Kept, Away, Line}
use Rattle.rt_lines.specs.declared.limits.Limits.{Limits}
use Rattle.rt_lines.specs.Limits.{first_line, last_line}

-- THE LINES

-- the first line asked for: of a limit that is kept the one that is first now
abbrev pub start_asked : {T : Type 0} → List (Cell T) → Limits → Choice → ℕ
start_asked cells limits Kept = first_line cells limits
start_asked cells limits Away = 1
start_asked cells limits (Line n) = n

-- the line behind the last one asked for
abbrev pub end_asked : {T : Type 0} → List (Cell T) → Limits → Choice → ℕ
end_asked cells limits Kept = last_line cells limits + 1
end_asked cells limits Away = newlines (text_of cells) + 1
end_asked cells limits (Line n) = n

-- of a text of some lines they can be shown: the first is one of these, and before the other, which may be the one behind all
abbrev pub are_lines : ℕ → ℕ → ℕ → Bool
are_lines lines start end = nat_le 1 start && (nat_lt start end && nat_le end (lines + 1))

-- THE LIMITS

-- the newline that ends a line
abbrev pub newline_of : {T : Type 0} → List (Cell T) → ℕ → Option Stamp
newline_of cells line = option_map (λ cell. cell.stamp) (slice_get (visible_of cells) (line_end (text_of cells) line))

-- a limit that is kept keeps its stamp; one before the first line is none
abbrev pub start_chosen : {T : Type 0} → List (Cell T) → Option Stamp → Choice → Option Stamp
start_chosen cells limit Kept = limit
start_chosen cells limit Away = None
start_chosen cells limit (Line n) = if nat_le n 1 then None else newline_of cells (n - 1)

-- one behind the last line is none
abbrev pub end_chosen : {T : Type 0} → List (Cell T) → Option Stamp → Choice → Option Stamp
end_chosen cells limit Kept = limit
end_chosen cells limit Away = None
end_chosen cells limit (Line n) = if nat_lt (newlines (text_of cells)) n then None else newline_of cells (n - 1)

abbrev pub limits_chosen : {T : Type 0} → List (Cell T) → Choice → Choice → Limits → Result Limits Fault
limits_chosen cells start end limits =
    if are_lines (newlines (text_of cells)) (start_asked cells limits start) (end_asked cells limits end)
    then Ok (record { start = start_chosen cells limits.start start; end = end_chosen cells limits.end end })
    else Err BadView
