-- Ranges on the way to a removal: sorted, merged, and the last one without the last newline.
use Rattle.std.specs.Prelude.{ℕ, ◌+◌, ◌-◌, ◌≤◌, ◌<◌, ◌&&◌, nat_lt, Bool, List, [], ◌∷◌, length, ⊤, if◌then◌else◌}
use Rattle.rt_plans.specs.Removals.{is_newline_at}
use Rattle.rt_plans.specs.declared.range.Range.{Range}

-- ranges in the order of their beginnings, from a place on, and none is empty
abbrev pub RangesRise : ℕ → List Range → Type 0
RangesRise place [] = ⊤
RangesRise place (range ∷ ranges) = (place ≤ range.from) × (range.from < range.to) × RangesRise range.from ranges

-- ranges in the text's order, from a place on: none is empty, and a place stands between one and the next
abbrev pub AreSpaced : ℕ → List Range → Type 0
AreSpaced place [] = ⊤
AreSpaced place (range ∷ ranges) = (place ≤ range.from) × (range.from < range.to) × AreSpaced (range.to + 1) ranges

-- a range of a stretch as one of the text, in which the stretch begins at a place
abbrev pub range_from : ℕ → Range → Range
range_from begin range = record { from = begin + range.from; to = begin + range.to }

-- a line other than the first begins at a place
abbrev pub begins_line : List ℕ → ℕ → Bool
begins_line text place = nat_lt 0 place && is_newline_at text (place - 1)

-- The last of the merged ranges never takes the last newline. Where it would, and it takes whole lines, it takes the
-- newline before them instead.
abbrev pub spared : List ℕ → Range → Range
spared text last =
    if nat_lt last.to (length text) then last
    else record { from = if begins_line text last.from then last.from - 1 else last.from; to = last.to - 1 }
