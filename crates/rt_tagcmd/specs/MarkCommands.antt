-- The mark commands of a widget (Tk text manual, "mark"), each what it gives or why it is refused. The marks of a widget are
-- those of its site and two of its own, `insert` and `current`.
use Rattle.std.specs.Prelude.{ℕ, ◌&&◌, Bool, not, List, [], ◌∷◌, map, Option, Some, None, is_some, option_map, Result, Ok, codes, if◌then◌else◌}
use Rattle.std.specs.Option.{option_map_or}
use Rattle.std.specs.Ordering.{is_lt}
use Rattle.rt_index.specs.Reading.{fixed_of}
use Rattle.rt_marks.specs.declared.gravity.Gravity.{Gravity}
use Rattle.rt_marks.specs.declared.gravity.Gravity.TheVariants.{Right}
use Rattle.rt_marks.specs.Marks.{Mark, mark_after, mark_before, first_mark_at, last_mark_before, marks_set, marks_with_gravity, name_order, without_all}
use Rattle.rt_stamps.specs.declared.fault.Fault.{Fault}
use Rattle.rt_stamps.specs.declared.fault.Fault.TheVariants.{NoMark}
use Rattle.rt_stamps.specs.Outcomes.{first_of, unless}
use Rattle.rt_stamps.specs.Words.{Word}
use Rattle.rt_stamps.specs.Names.{name_check}
use Rattle.rt_text.specs.declared.own_mark.OwnMark.{OwnMark}
use Rattle.rt_text.specs.Index.{index_check, place_at_index}
use Rattle.rt_text.specs.Widgets.{ViewValue, in_text, length_shown, mark_of, marks_of, own_mark_of, own_place, widget_with_place, widget_with_gravity, widget_of, with_marks}

-- CHECKS

-- the widget has a mark of a name
abbrev pub mark_check : ViewValue → Word → Option Fault
mark_check view name = if is_some (mark_of view name) then None else Some NoMark

-- mark set NAME INDEX

-- an own mark or one of the site set at a place: one that is there keeps its gravity, and a new one has right gravity
abbrev pub set_at : Option OwnMark → ViewValue → Word → ℕ → ViewValue
set_at (Some which) view name place = record view { own = widget_with_place which (in_text view (own_place which (length_shown view) place)) view.own }
set_at None view name place = with_marks view (marks_set name (in_text view place) view.doc.marks)

abbrev pub mark_set : ViewValue → Word → Word → Result ViewValue Fault
mark_set view name index =
    let w = widget_of view in
    unless (first_of (name_check name ∷ index_check w index ∷ [])) (set_at (own_mark_of name) view name (place_at_index w index))

-- mark unset NAME ?NAME ...?: the own marks stay, and so does everything where there is no mark of a name
abbrev pub mark_unset : ViewValue → List Word → Result ViewValue Fault
mark_unset view names = unless (first_of (map name_check names)) (with_marks view (without_all names view.doc.marks))

-- mark gravity NAME

abbrev pub mark_gravity : ViewValue → Word → Result Gravity Fault
mark_gravity view name =
    unless (first_of (name_check name ∷ mark_check view name ∷ [])) (option_map_or (λ m. m.gravity) (mark_of view name) Right)

-- mark gravity NAME GRAVITY

abbrev pub with_gravity : Option OwnMark → ViewValue → Word → Gravity → ViewValue
with_gravity (Some which) view name gravity = record view { own = widget_with_gravity which gravity view.own }
with_gravity None view name gravity = with_marks view (marks_with_gravity name gravity view.doc.marks)

abbrev pub mark_gravity_set : ViewValue → Word → Gravity → Result ViewValue Fault
mark_gravity_set view name gravity =
    unless (first_of (name_check name ∷ mark_check view name ∷ [])) (with_gravity (own_mark_of name) view name gravity)

-- mark names

-- a name among names that ascend by their bytes
abbrev pub inserted_by_bytes : Word → List Word → List Word
inserted_by_bytes name [] = name ∷ []
inserted_by_bytes name (x ∷ names) = if is_lt (name_order x name) then x ∷ inserted_by_bytes name names else name ∷ x ∷ names

-- names, put in order by their bytes
abbrev pub by_bytes : List Word → List Word
by_bytes [] = []
by_bytes (name ∷ names) = inserted_by_bytes name (by_bytes names)

abbrev pub mark_names : ViewValue → List Word
mark_names view = by_bytes (codes "insert" ∷ codes "current" ∷ map (λ m. m.name) view.doc.marks)

-- mark next WORD, mark previous WORD

-- a word is the name of a mark, and neither a position nor `end`
abbrev pub names_mark : ViewValue → Word → Bool
names_mark view word = is_some (mark_of view word) && not (is_some (fixed_of word))

abbrev pub found_name : Option Mark → Option Word
found_name m = option_map (λ m. m.name) m

-- the name of the mark after the one that the word names, and else of the first one at or after the index
abbrev pub mark_next : ViewValue → Word → Result (Option Word) Fault
mark_next view word =
    let marks = marks_of view in
    let w = widget_of view in
    if names_mark view word then Ok (found_name (mark_after word marks))
    else unless (index_check w word) (found_name (first_mark_at (place_at_index w word) marks))

-- the name of the mark before the one that the word names, and else of the last one strictly before the index
abbrev pub mark_previous : ViewValue → Word → Result (Option Word) Fault
mark_previous view word =
    let marks = marks_of view in
    let w = widget_of view in
    if names_mark view word then Ok (found_name (mark_before word marks))
    else unless (index_check w word) (found_name (last_mark_before (place_at_index w word) marks))
