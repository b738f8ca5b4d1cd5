-- Where `mark next` and `mark previous` look from: the mark that a word names, or a spot before all marks of its index.
use Rattle.std.specs.Prelude.{ℕ, [], Option, Some, None, Result, Ok, if◌then◌else◌}
use Rattle.rt_marks.specs.declared.gravity.Gravity.TheVariants.{Left}
use Rattle.rt_marks.specs.Marks.{Mark}
use Rattle.rt_stamps.specs.declared.fault.Fault.{Fault}
use Rattle.rt_stamps.specs.Outcomes.{unless}
use Rattle.rt_stamps.specs.Words.{Word}
use Rattle.rt_text.specs.Index.{index_check, place_at_index}
use Rattle.rt_text.specs.Widgets.{ViewValue, mark_of, widget_of}
use Rattle.rt_tagcmd.specs.MarkCommands.{names_mark}

-- no mark has an empty name, so this one would come before all at its place
abbrev pub edge : ℕ → Mark
edge place = record { name = []; place = place; gravity = Left }

abbrev pub mark_or : Option Mark → Result Mark Fault → Result Mark Fault
mark_or (Some m) other = Ok m
mark_or None other = other

abbrev pub looked_from : ViewValue → Word → Result Mark Fault
looked_from view word =
    let w = widget_of view in
    mark_or (if names_mark view word then mark_of view word else None) (unless (index_check w word) (edge (place_at_index w word)))
