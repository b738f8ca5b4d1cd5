-- Places by stamps: what another site's cursor or a comment's anchor holds.
use Rattle.std.specs.Prelude.{ℕ, ◌+◌, ◌-◌, nat_lt, List, Option, None, option_map, slice_get, if◌then◌else◌}
use Rattle.rt_stamps.specs.declared.stamp.Stamp.{Stamp}
use Rattle.rt_store.specs.declared.cell.Cell.{Cell}
use Rattle.rt_store.specs.Cells.{visible_of}
use Rattle.rt_lines.specs.declared.limits.Limits.{Limits}
use Rattle.rt_lines.specs.Limits.{place_of}
use Rattle.rt_lines.specs.Stretches.{seen_place, stretch_of}

-- the stamp of the character at a place of what is shown within limits; none from the end on
abbrev pub stamp_at : {T : Type 0} → Limits → ℕ → List (Cell T) → Option Stamp
stamp_at limits place cells =
    let stretch = stretch_of cells limits in
    if nat_lt place (stretch.end - stretch.begin) then option_map (λ cell. cell.stamp) (slice_get (visible_of cells) (stretch.begin + place)) else None

-- how many characters stand before that of a stamp, gone or not, in what is shown within limits; none where no cell has the stamp
abbrev pub place_of_stamp : {T : Type 0} → Limits → Stamp → List (Cell T) → Option ℕ
place_of_stamp limits stamp cells = option_map (seen_place (stretch_of cells limits)) (place_of cells stamp)
