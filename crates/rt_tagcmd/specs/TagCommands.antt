-- The tag commands of a widget (Tk text manual, "tag"), each what it gives or why it is refused. `sel` is the widget's own, each
-- other tag is the text's.
use Rattle.std.specs.Prelude.{List, [], ◌∷◌, ◌++◌, map, flat_map, Bool, true, false, Option, Some, None, option_to_list, Result, slice_get, if◌then◌else◌}
use Rattle.std.specs.Option.{option_map_or}
use Rattle.rt_stamps.specs.declared.fault.Fault.{Fault}
use Rattle.rt_stamps.specs.declared.fault.Fault.TheVariants.{NoTag}
use Rattle.rt_stamps.specs.declared.position.Position.{Position}
use Rattle.rt_stamps.specs.Outcomes.{first_of, unless}
use Rattle.rt_stamps.specs.Places.{position_at}
use Rattle.rt_stamps.specs.Words.{Word}
use Rattle.rt_tags.specs.Tags.{is_listed, raised, lowered}
use Rattle.rt_plans.specs.declared.range.Range.{Range}
use Rattle.rt_stamps.specs.Names.{name_check}
use Rattle.rt_text.specs.Commands.{clock_check, with_tag_in, with_tags_deleted}
use Rattle.rt_text.specs.Index.{index_check, place_at_index}
use Rattle.rt_text.specs.Ranges.{ranges_of}
use Rattle.rt_text.specs.Widgets.{ViewValue, shows_tag, length_shown, cells_shown, tags_shown, text_shown, widget_of, with_tags}
use Rattle.rt_tagcmd.specs.TagRanges.{passing_ranges, next_range, previous_range}

-- CHECKS

-- a tag is listed
abbrev pub tag_check : ViewValue → Word → Option Fault
tag_check view name = if is_listed name view.doc.tags then None else Some NoTag

-- WRITING

-- a tag put on the characters in the ranges that indices name in pairs, or taken off
abbrev pub tag_written : Bool → ViewValue → Word → List Word → Result ViewValue Fault
tag_written on view name indices =
    let w = widget_of view in
    let after = with_tag_in view on name (ranges_of (map (place_at_index w) indices)) in
    unless (first_of (name_check name ∷ map (index_check w) indices ++ clock_check after.doc.count ∷ [])) after

-- tag add NAME INDEX ?INDEX ...?: it is listed then, also where no character gets it
abbrev pub tag_added : ViewValue → Word → List Word → Result ViewValue Fault
tag_added = tag_written true

-- tag remove NAME INDEX ?INDEX ...?
abbrev pub tag_removed : ViewValue → Word → List Word → Result ViewValue Fault
tag_removed = tag_written false

-- tag delete NAME ?NAME ...?: names that aren't listed are passed over, and so is `sel`
abbrev pub tags_deleted : ViewValue → List Word → Result ViewValue Fault
tags_deleted view names =
    let after = with_tags_deleted view names in
    unless (first_of (map name_check names ++ clock_check after.doc.count ∷ [])) after

-- PRIORITIES

-- a tag and perhaps another may have their names, and are listed
abbrev pub order_check : ViewValue → Word → Option Word → Option Fault
order_check view name other =
    let names = name ∷ option_to_list other in
    first_of (map name_check names ++ map (tag_check view) names)

-- tag raise NAME ?ABOVE?
abbrev pub tag_raised : ViewValue → Word → Option Word → Result ViewValue Fault
tag_raised view name above = unless (order_check view name above) (with_tags view (raised name above view.doc.tags))

-- tag lower NAME ?BELOW?
abbrev pub tag_lowered : ViewValue → Word → Option Word → Result ViewValue Fault
tag_lowered view name below = unless (order_check view name below) (with_tags view (lowered name below view.doc.tags))

-- tag names ?INDEX?, lowest priority first

-- all that are listed
abbrev pub tag_names : ViewValue → List Word
tag_names view = view.doc.tags

-- those of the character at an index, none at the text's end
abbrev pub tag_names_at : ViewValue → Word → Result (List Word) Fault
tag_names_at view index =
    let w = widget_of view in
    unless (index_check w index) (option_map_or (tags_shown view.own view.doc.tags) (slice_get (cells_shown view) (place_at_index w index)) [])

-- FINDING

-- the ranges of characters that have a tag, in order
abbrev pub tagged_ranges : ViewValue → Word → List Range
tagged_ranges view name = passing_ranges (shows_tag view.own name) (cells_shown view)

-- where ranges begin and end, in turn
abbrev pub range_ends : ViewValue → List Range → List Position
range_ends view ranges =
    let text = text_shown view in
    flat_map (λ range. position_at text range.from ∷ position_at text range.to ∷ []) ranges

-- tag ranges NAME
abbrev pub tag_ranges : ViewValue → Word → Result (List Position) Fault
tag_ranges view name = unless (name_check name) (range_ends view (tagged_ranges view name))

-- a name, an index and perhaps another one
abbrev pub range_check : ViewValue → Word → Word → Option Word → Option Fault
range_check view name index other = first_of (name_check name ∷ map (index_check (widget_of view)) (index ∷ option_to_list other))

-- tag nextrange NAME INDEX ?INDEX?: the first range that begins at the first index or later, and before the second, which is
-- the text's end where it isn't given
abbrev pub tag_nextrange : ViewValue → Word → Word → Option Word → Result (List Position) Fault
tag_nextrange view name from to =
    let w = widget_of view in
    let end = option_map_or (place_at_index w) to (length_shown view) in
    unless (range_check view name from to)
    (range_ends view (option_to_list (next_range (place_at_index w from) end (tagged_ranges view name))))

-- tag prevrange NAME INDEX ?INDEX?: the last range that begins before the first index, and at the second or later, which is the
-- text's beginning where it isn't given
abbrev pub tag_prevrange : ViewValue → Word → Word → Option Word → Result (List Position) Fault
tag_prevrange view name to from =
    let w = widget_of view in
    let start = option_map_or (place_at_index w) from 0 in
    unless (range_check view name to from)
    (range_ends view (option_to_list (previous_range (place_at_index w to) start (tagged_ranges view name))))
