-- What `dump` shows (Tk text manual, "dump"): where ranges of tags end and begin, the marks, and the text, place by place.
use Rattle.std.specs.Prelude.{ℕ, ◌+◌, List, ◌∷◌, ◌++◌, map, flat_map, min, Option, option_to_list, Result}
use Rattle.std.specs.Option.{option_map_or}
use Rattle.rt_tagcmd.specs.declared.element.Key.TheVariants.{TagOff, TagOn, Mark}
use Rattle.rt_tagcmd.specs.Elements.{Element, Placed, answered, by_place, element_at, if_asked, places_between, text_values}
use Rattle.rt_requests.specs.declared.kinds.Kinds.{Kinds}
use Rattle.rt_stamps.specs.declared.fault.Fault.{Fault}
use Rattle.rt_stamps.specs.Outcomes.{first_of, unless}
use Rattle.rt_stamps.specs.Words.{Word}
use Rattle.rt_tagcmd.specs.TagCommands.{tagged_ranges}
use Rattle.rt_text.specs.Index.{index_check, place_at_index}
use Rattle.rt_text.specs.Widgets.{ViewValue, length_shown, marks_of, text_shown, widget_of}

-- THE FOUR LISTS: these three, and `text_values`

-- where the ranges of a tag end in the widget, and where they begin
abbrev pub tagoffs_of : ViewValue → Word → List Placed
tagoffs_of view name = map (λ range. element_at TagOff name range.to) (tagged_ranges view name)

abbrev pub tagons_of : ViewValue → Word → List Placed
tagons_of view name = map (λ range. element_at TagOn name range.from) (tagged_ranges view name)

-- `tagoff`: the ends of each listed tag, of the tag of the lowest priority first
abbrev pub tagoffs : ViewValue → List Placed
tagoffs view = flat_map (tagoffs_of view) view.doc.tags

-- `tagon`: the beginnings of each
abbrev pub tagons : ViewValue → List Placed
tagons view = flat_map (tagons_of view) view.doc.tags

-- `mark`: the widget's marks, in their order
abbrev pub marks_standing : ViewValue → List Placed
marks_standing view = map (λ m. element_at Mark m.name m.place) (marks_of view)

-- THE DUMP

-- the elements asked for that aren't text
abbrev pub others_asked : ViewValue → Kinds → List Placed
others_asked view kinds = if_asked kinds.tags (tagoffs view) ++ if_asked kinds.tags (tagons view) ++ if_asked kinds.marks (marks_standing view)

-- what is shown from one place up to before another: at one place first `tagoff`, then `tagon`, `mark` and `text`
abbrev pub elements_between : ViewValue → Kinds → ℕ → ℕ → List Placed
elements_between view kinds from to =
    let others = others_asked view kinds in
    by_place (places_between (length_shown view) from to) (others ++ if_asked kinds.text (text_values (text_shown view) others from to))

-- the place where a dump stops: that of its second index, and without one the next place
abbrev pub stop_of : ViewValue → ℕ → Option Word → ℕ
stop_of view from to = option_map_or (place_at_index (widget_of view)) to (min (from + 1) (length_shown view))

-- the indices of a dump
abbrev pub dump_check : ViewValue → Word → Option Word → Option Fault
dump_check view from to = first_of (map (index_check (widget_of view)) (from ∷ option_to_list to))

-- dump INDEX ?INDEX?
abbrev pub dumped : ViewValue → Kinds → Word → Option Word → Result (List Element) Fault
dumped view kinds from to =
    let start = place_at_index (widget_of view) from in
    unless (dump_check view from to) (map (answered (text_shown view)) (elements_between view kinds start (stop_of view start to)))
