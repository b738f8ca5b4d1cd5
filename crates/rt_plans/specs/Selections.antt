-- Selected characters, by their stamps.
use Rattle.std.specs.Prelude.{Bool, true, false, not, List, [], ◌∷◌, ◌++◌, filter, if◌then◌else◌}
use Rattle.rt_stamps.specs.declared.stamp.Stamp.{Stamp}
use Rattle.rt_store.specs.Spans.{is_among}

-- one stamp more, which isn't there twice
abbrev pub with_stamp : Stamp → List Stamp → List Stamp
with_stamp stamp selection = if is_among selection stamp then selection else selection ++ stamp ∷ []

-- more stamps in a selection
abbrev pub with_stamps : List Stamp → List Stamp → List Stamp
with_stamps [] selection = selection
with_stamps (stamp ∷ stamps) selection = with_stamps stamps (with_stamp stamp selection)

-- a selection without some stamps
abbrev pub unselected : List Stamp → List Stamp → List Stamp
unselected stamps selection = filter (λ stamp. not (is_among stamps stamp)) selection

-- a selection with some stamps, or without them
abbrev pub selection_with : Bool → List Stamp → List Stamp → List Stamp
selection_with true stamps selection = with_stamps stamps selection
selection_with false stamps selection = unselected stamps selection
