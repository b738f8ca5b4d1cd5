-- A widget: its own marks, and what index expressions see of it.
use Rattle.std.specs.Prelude.{◌≡◌, ℕ, ◌+◌, ◌-◌, ◌<◌, ◌≤◌, ◌&&◌, nat_lt, Bool, false, List, [], ◌∷◌, length, map, min, filter, Option, Some, None, is_some, option_map, option_and_then, get_or, slice_get, unwrap_or, if◌then◌else◌, codes}
use Rattle.std.specs.List.{AllByRecursion}
use Rattle.std.specs.Str.{bytes_eq}
use Rattle.rt_index.specs.Widget.{IndexedWidget, TagEnds}
use Rattle.rt_marks.specs.declared.gravity.Gravity.{Gravity}
use Rattle.rt_marks.specs.declared.gravity.Gravity.TheVariants.{Right}
use Rattle.rt_marks.specs.Marks.{Mark, IsName, mark_of_name, in_order, with_mark, mark_inserted, mark_removed, mark_left}
use Rattle.rt_stamps.specs.declared.stamp.Stamp.{Stamp}
use Rattle.rt_stamps.specs.declared.stamp.TheConstants.{FINAL}
use Rattle.rt_stamps.specs.Words.{Word}
use Rattle.rt_store.specs.Cells.{text_of, visible_of}
use Rattle.rt_store.specs.Tagged.{next_place, last_place}
use Rattle.rt_tags.specs.States.{is_on}
use Rattle.rt_tags.specs.Tags.{sel, is_listed}
use Rattle.rt_text.specs.declared.own_mark.OwnMark.{OwnMark}
use Rattle.rt_text.specs.declared.own_mark.OwnMark.TheVariants.{Insert, Current}
use Rattle.rt_plans.specs.Deletions.{places_from}
use Rattle.rt_plans.specs.DocValue.{DocValue}
use Rattle.rt_store.specs.Shown.{TaggedCell}
use Rattle.rt_store.specs.Spans.{is_among}
use Rattle.rt_lines.specs.declared.limits.Limits.{Limits}
use Rattle.rt_lines.specs.declared.stretch.Stretch.{Stretch}
use Rattle.rt_lines.specs.Limits.{no_limits}
use Rattle.rt_lines.specs.Ordered.{LimitsAreInOrder}
use Rattle.rt_lines.specs.Stretches.{part, seen_cursor, seen_place, stretch_of}

-- OWN MARKS

-- what is a widget's own: the insertion cursor, the mark that follows the mouse (Tk text manual, "Marks"), the stamps of the
-- characters that are selected (the tag `sel`), those of removed characters perhaps among them, and which lines it shows
pub record WidgetValue : Type 0 where
  pub insert : Mark
  pub current : Mark
  pub sel : List Stamp
  pub limits : Limits

abbrev pub own_name : OwnMark → List ℕ
own_name Insert = codes "insert"
own_name Current = codes "current"

-- a new widget's own marks stand where what it shows begins, with right gravity, and nothing is selected
abbrev pub widget_at : ℕ → Limits → WidgetValue
widget_at begin limits = record {
  insert = record { name = codes "insert"; place = begin; gravity = Right };
  current = record { name = codes "current"; place = begin; gravity = Right };
  sel = [];
  limits = limits;
}

-- the first widget shows all lines
abbrev pub new_widget : WidgetValue
new_widget = widget_at 0 no_limits

-- the own mark that a name names
abbrev pub own_mark_of : List ℕ → Option OwnMark
own_mark_of name =
    if bytes_eq name (own_name Insert) then Some Insert
    else if bytes_eq name (own_name Current) then Some Current
    else None

-- a name is that of an own mark
abbrev pub is_own : List ℕ → Bool
is_own name = is_some (own_mark_of name)

abbrev pub own_mark : OwnMark → WidgetValue → Mark
own_mark Insert own = own.insert
own_mark Current own = own.current

-- the own marks with one of them changed
abbrev pub widget_with : OwnMark → Mark → WidgetValue → WidgetValue
widget_with Insert m own = record own { insert = m }
widget_with Current m own = record own { current = m }

-- one of them set at a place: it keeps its gravity
abbrev pub widget_with_place : OwnMark → ℕ → WidgetValue → WidgetValue
widget_with_place which place own = widget_with which (record (own_mark which own) { place = place }) own

-- where an own mark comes to stand in a text of n characters: `insert` never behind the last newline
abbrev pub own_place : OwnMark → ℕ → ℕ → ℕ
own_place Insert n place = min place (n - 1)
own_place Current n place = place

abbrev pub widget_with_gravity : OwnMark → Gravity → WidgetValue → WidgetValue
widget_with_gravity which gravity own = widget_with which (record (own_mark which own) { gravity = gravity }) own

-- they move with the text as all marks do: n characters inserted at a place
abbrev pub widget_inserted : ℕ → ℕ → WidgetValue → WidgetValue
widget_inserted place n own = record own { insert = mark_inserted place n own.insert; current = mark_inserted place n own.current }

-- n characters removed from a place on
abbrev pub widget_removed : ℕ → ℕ → WidgetValue → WidgetValue
widget_removed place n own = record own { insert = mark_removed place n own.insert; current = mark_removed place n own.current }

-- the characters at some places removed
abbrev pub widget_without : (ℕ → Bool) → WidgetValue → WidgetValue
widget_without removed own = record own { insert = mark_left removed own.insert; current = mark_left removed own.current }

-- own marks of a text of n characters: they stand in it, and `insert` never behind the last newline
pub record IsOwnOf (n : ℕ) (own : WidgetValue) : Type 0 where
  pub insert : own.insert.place < n
  pub current : own.current.place ≤ n
  pub insert_name : own.insert.name ≡ codes "insert"
  pub current_name : own.current.name ≡ codes "current"

-- What is so of the cells of a document and its site's widgets, the one that commands first: the own marks of each stand in the text,
-- and its limits are none or newlines, gone or not, that at the start before the one at the end.
pub record AreWidgetsOf (cells : List TaggedCell) (first : WidgetValue) (rest : List WidgetValue) : Type 0 where
  pub own : IsOwnOf (length (text_of cells)) first
  pub others : AllByRecursion (IsOwnOf (length (text_of cells))) rest
  pub limits : AllByRecursion (LimitsAreInOrder cells) (map (λ own. own.limits) (first ∷ rest))

-- ALL MARKS OF A WIDGET

-- a mark of the site stands in a text of n characters, and has a name that isn't an own mark's
pub record IsSiteMark (n : ℕ) (m : Mark) : Type 0 where
  pub place : m.place ≤ n
  pub name : IsName m.name
  -- not an own mark's
  pub other : is_own m.name ≡ false

abbrev pub AreSiteMarks : ℕ → List Mark → Type 0
AreSiteMarks n marks = AllByRecursion (IsSiteMark n) marks

-- the mark of a name: an own one, or else one of the site
abbrev pub own_or : Option OwnMark → WidgetValue → Option Mark → Option Mark
own_or (Some which) own other = Some (own_mark which own)
own_or None own other = other

abbrev pub mark_among : WidgetValue → List Mark → List ℕ → Option Mark
mark_among own marks name = own_or (own_mark_of name) own (mark_of_name name marks)

-- WHAT A WIDGET SHOWS

-- a document as one of its site's widgets shows it: that widget, which commands, and each other one
pub record ViewValue : Type 0 where
  pub doc : DocValue
  pub own : WidgetValue
  pub others : List WidgetValue

-- EACH WIDGET OF A SITE

-- each widget of the site, the one that commands first
abbrev pub widgets_of : ViewValue → List WidgetValue
widgets_of view = view.own ∷ view.others

-- the document as the widget of a number shows it
abbrev pub view_as : ℕ → ViewValue → ViewValue
view_as number view = record view { own = get_or (widgets_of view) number view.own }

-- the limits of each widget, those of the one that commands first
abbrev pub limits_of : ViewValue → List Limits
limits_of view = map (λ own. own.limits) (widgets_of view)

-- each of them by one rule
abbrev pub each_widget : (WidgetValue → WidgetValue) → ViewValue → ViewValue
each_widget rule view = record view { own = rule view.own; others = map rule view.others }

-- a widget whose selection follows a rule
abbrev pub reselected : (List Stamp → List Stamp) → WidgetValue → WidgetValue
reselected rule own = record own { sel = rule own.sel }

-- what each of some widgets has selected
abbrev pub selections_of : List WidgetValue → List (List Stamp)
selections_of widgets = map (λ own. own.sel) widgets

-- widgets that have selected other characters, each those of its turn
abbrev pub with_selections : List (List Stamp) → List WidgetValue → List WidgetValue
with_selections selections [] = []
with_selections [] (own ∷ widgets) = own ∷ widgets
with_selections (selection ∷ selections) (own ∷ widgets) = record own { sel = selection } ∷ with_selections selections widgets

-- The words by which commands speak of a widget's text: each command works as if what the widget shows were the whole text.

-- the places of the text that it shows: all of them where the widget has no limits
abbrev pub stretch_by : ViewValue → Stretch
stretch_by view = stretch_of view.doc.cells view.own.limits

-- the characters that stand there, a newline last
abbrev pub cells_shown : ViewValue → List TaggedCell
cells_shown view = part (stretch_by view) (visible_of view.doc.cells)

-- the place in the whole text where they begin
abbrev pub begin_of : ViewValue → ℕ
begin_of view = (stretch_by view).begin

-- the stamp of the last of them
abbrev pub last_newline : ViewValue → Stamp
last_newline view = unwrap_or (option_map (λ cell. cell.stamp) (slice_get (visible_of view.doc.cells) ((stretch_by view).end - 1))) FINAL

-- their code points, and how many they are
abbrev pub text_shown : ViewValue → List ℕ
text_shown view = map (λ cell. cell.ch) (cells_shown view)

abbrev pub length_shown : ViewValue → ℕ
length_shown view = length (text_shown view)

-- a mark at its place among the characters of a stretch: one that stands outside at the nearer end
abbrev pub mark_seen : Stretch → Mark → Mark
mark_seen stretch m = record m { place = seen_place stretch m.place }

-- own marks likewise, the insertion cursor never behind the last newline
abbrev pub widget_seen : Stretch → WidgetValue → WidgetValue
widget_seen stretch own =
    record own { insert = record own.insert { place = seen_cursor stretch own.insert.place }; current = mark_seen stretch own.current }

-- the site's marks, in order, and the widget's own, by their places among the characters that it shows
abbrev pub marks_shown : ViewValue → List Mark
marks_shown view = in_order (map (mark_seen (stretch_by view)) view.doc.marks)

abbrev pub widget_shown : ViewValue → WidgetValue
widget_shown view = widget_seen (stretch_by view) view.own

-- other marks of the site, or another order of its tags
abbrev pub with_marks : ViewValue → List Mark → ViewValue
with_marks view marks = record view { doc = record view.doc { marks = marks } }

abbrev pub with_tags : ViewValue → List Word → ViewValue
with_tags view tags = record view { doc = record view.doc { tags = tags } }

-- a place among them as one of the whole text
abbrev pub in_text : ViewValue → ℕ → ℕ
in_text view place = begin_of view + place

-- the places of the whole text that pass a test of places among them
abbrev pub places_in_text : ViewValue → (ℕ → Bool) → ℕ → Bool
places_in_text view test = places_from (begin_of view) (λ place. nat_lt place (length_shown view) && test place)

abbrev pub mark_of : ViewValue → List ℕ → Option Mark
mark_of view name = mark_among (widget_shown view) (marks_shown view) name

-- all marks that the widget has, in order
abbrev pub marks_of : ViewValue → List Mark
marks_of view = with_mark (widget_shown view).insert (with_mark (widget_shown view).current (marks_shown view))

-- TAGS

-- a tag is on a character: `sel` where it is selected, any other one where it is on for the text
abbrev pub is_tagged_in : List Stamp → Word → TaggedCell → Bool
is_tagged_in selection name cell = if bytes_eq name sel then is_among selection cell.stamp else is_on name cell.state

abbrev pub shows_tag : WidgetValue → Word → TaggedCell → Bool
shows_tag own name cell = is_tagged_in own.sel name cell

-- the listed tags on a character, lowest priority first
abbrev pub tags_shown : WidgetValue → List Word → TaggedCell → List Word
tags_shown own tags cell = filter (λ name. shows_tag own name cell) tags

-- where characters that pass a test begin and end, if there are any
abbrev pub ends_of : (TaggedCell → Bool) → List TaggedCell → Option TagEnds
ends_of test characters =
    option_and_then (λ first. option_map (λ last. record { first = first; last = last + 1 }) (last_place test characters)) (next_place test characters 0)

-- a listed tag, and its ends where some of the characters has it
abbrev pub tag_ends : WidgetValue → List TaggedCell → List Word → Word → Option (Option TagEnds)
tag_ends own characters tags name = if is_listed name tags then Some (ends_of (shows_tag own name) characters) else None

-- WHAT INDEX EXPRESSIONS SEE

abbrev pub widget_of : ViewValue → IndexedWidget
widget_of view = record {
  text = text_shown view;
  marks = λ name. option_map (λ m. m.place) (mark_of view name);
  tags = tag_ends view.own (cells_shown view) view.doc.tags;
}
