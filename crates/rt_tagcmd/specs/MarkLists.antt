-- The marks of a stretch, and those that are left of them behind a spot.
use Rattle.std.specs.Prelude.{ℕ, ◌&&◌, nat_le, nat_lt, List, filter}
use Rattle.rt_marks.specs.Marks.{Mark, comes_before}

-- the marks that stand at a place or behind it, and before another
abbrev pub marks_from : ℕ → ℕ → List Mark → List Mark
marks_from from behind marks = filter (λ m. nat_le from m.place && nat_lt m.place behind) marks

-- those that come after a mark, and stand before a place
abbrev pub marks_ahead : ℕ → Mark → List Mark → List Mark
marks_ahead behind here marks = filter (λ m. nat_lt m.place behind) (filter (comes_before here) marks)
