-- What contracts see of a selection.
use Rattle.std.specs.Prelude.{ℕ, List}
use Rattle.indexmap.specs.IndexSet.{spare}
use Rattle.rt_stamps.specs.declared.stamp.Stamp.{Stamp}
use Rattle.rt_plans.specs.declared.selection.Selection.{Selection}

-- the stamps of the selected characters
abbrev pub selected_stamps : Selection → List Stamp
selected_stamps selection = selection.stamps.keys

-- how many more stamps there is room for
abbrev pub room_in : Selection → ℕ
room_in selection = spare selection.stamps
