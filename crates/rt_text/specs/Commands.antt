-- The commands on a text.
use Rattle.std.specs.Prelude.{ℕ, ◌+◌, ◌-◌, ℤ, List, [], ◌∷◌, ◌++◌, length, map, flat_map, min, nat_lt, ◌&&◌, Bool, Option, Some, None, is_some, Result, if◌then◌else◌, encode_utf8_all}
use Rattle.std.specs.Str.{bytes_eq}
use Rattle.rt_index.specs.Widget.{IndexedWidget}
use Rattle.rt_marks.specs.Marks.{marks_inserted}
use Rattle.rt_stamps.specs.declared.limits.TheConstants.{MOST_CHARACTERS, MOST_SPANS}
use Rattle.rt_stamps.specs.declared.fault.Fault.{Fault}
use Rattle.rt_stamps.specs.declared.fault.Fault.TheVariants.{BackwardsRange}
use Rattle.rt_stamps.specs.declared.position.Position.{Position}
use Rattle.rt_stamps.specs.declared.stamp.Stamp.{Stamp}
pub use Rattle.rt_stamps.specs.Clock.{clock_check}
use Rattle.rt_stamps.specs.Names.{name_check}
use Rattle.rt_stamps.specs.Outcomes.{first_of, unless}
use Rattle.rt_stamps.specs.Places.{position_at}
use Rattle.rt_stamps.specs.Words.{Word}
pub use Rattle.rt_rga.specs.Made.{cell_check}
use Rattle.rt_store.specs.Shown.{TaggedCell}
use Rattle.rt_tags.specs.Tags.{sel}
use Rattle.rt_plans.specs.declared.range.Range.{Range}
use Rattle.rt_plans.specs.Deletions.{delete_drafts, loss_in, without_text}
use Rattle.rt_plans.specs.DocValue.{left_stamp, logged, put_after}
use Rattle.rt_plans.specs.InsertionDrafts.{insertion_drafts}
use Rattle.rt_plans.specs.Insertions.{Insertion, Piece, insertion_of, left_neighbour, right_neighbour, with_pieces}
use Rattle.rt_index.specs.declared.comparison.Comparison.{Comparison}
use Rattle.rt_index.specs.declared.measure.Measure.{Measure}
use Rattle.rt_text.specs.Comparisons.{holds_of}
use Rattle.rt_text.specs.Distances.{or_indices, distance_of}
use Rattle.rt_text.specs.Index.{index_check, place_at_index}
use Rattle.rt_text.specs.Ranges.{text_between, texts_of, ranges_of}
use Rattle.rt_plans.specs.Removals.{cells_at, is_covered, stamps_at}
use Rattle.rt_plans.specs.Selections.{unselected, selection_with}
use Rattle.rt_plans.specs.TagDrafts.{tag_deletion_drafts, tag_drafts_at}
use Rattle.rt_plans.specs.TagWrites.{listed_if, with_tag_at, without_tags}
use Rattle.rt_lines.specs.declared.stretch.Stretch.{Stretch}
use Rattle.rt_lines.specs.Stretches.{stretch_of}
use Rattle.rt_text.specs.Widgets.{ViewValue, begin_of, each_widget, in_text, last_newline, length_shown, widget_inserted, widget_without, places_in_text, reselected, selections_of, cells_shown, text_shown, widget_of, with_selections}

-- CHECKS

-- a range that is replaced doesn't end before it begins
abbrev pub backwards_check : Range → Option Fault
backwards_check range = if nat_lt range.to range.from then Some BackwardsRange else None

-- PLACES

-- an insertion at the end stands before the last newline
abbrev pub insertion_place : IndexedWidget → Word → ℕ
insertion_place w word = min (place_at_index w word) (length w.text - 1)

-- EDITS

-- nothing is inserted yet
abbrev pub none_inserted : ViewValue → Insertion
none_inserted view = record { cells = []; count = view.doc.count; sel = view.own.sel; others = selections_of view.others; tags = view.doc.tags }

-- the stretch that the widget shows once the pieces stand before the character at a place: where the newline of a limit is gone, one
-- of theirs may be the nearer
abbrev pub stretch_with : ViewValue → ℕ → List Piece → Stretch
stretch_with view place pieces =
    let doc = view.doc in
    let new = with_pieces doc.site pieces (none_inserted view) in
    stretch_of (put_after doc.cells (left_stamp doc.cells (in_text view place)) new.cells) view.own.limits

-- the right neighbour of characters without a list, behind the pieces: none where the widget then no longer shows both neighbours
abbrev pub right_behind : ViewValue → ℕ → List Piece → Option TaggedCell
right_behind view place pieces =
    let stretch = stretch_with view place pieces in
    let behind = in_text view place + length (with_pieces view.doc.site pieces (none_inserted view)).cells in
    if nat_lt stretch.begin behind && nat_lt behind stretch.end then right_neighbour (cells_shown view) place else None

-- pieces of text, and then characters without a list, before the character at a place: their cells stand directly after that of
-- the visible left neighbour, and all marks move for them, those of each widget too
abbrev pub with_pieces_at : ViewValue → ℕ → List Piece → Word → ViewValue
with_pieces_at view place pieces rest =
    let doc = view.doc in
    let at = in_text view place in
    let left = left_neighbour (cells_shown view) place in
    let right = right_behind view place pieces in
    let after = left_stamp doc.cells at in
    let start = none_inserted view in
    let new = insertion_of doc.site left right pieces rest start in
    let moved = each_widget (widget_inserted at (length new.cells)) view in
    record {
      doc = logged doc (insertion_drafts MOST_CHARACTERS doc.site after left right pieces rest start) (record doc {
        cells = put_after doc.cells after new.cells;
        count = new.count;
        marks = marks_inserted at (length new.cells) doc.marks;
        tags = new.tags;
      });
      own = record moved.own { sel = new.sel };
      others = with_selections new.others moved.others;
    }

-- a selection without the widget's last newline, where a deletion holds it
abbrev pub last_unselected : ViewValue → Bool → List Stamp → List Stamp
last_unselected view held selection = if held then unselected (last_newline view ∷ []) selection else selection

-- the document without the characters in ranges of what the widget shows, where the widget's last newline stays: where a range
-- holds it, it loses its tags, and is nowhere selected
abbrev pub without_ranges : ViewValue → List Range → ViewValue
without_ranges view ranges =
    let doc = view.doc in
    let loss = loss_in (text_shown view) (begin_of view) ranges in
    let held = is_some loss.newline in
    each_widget (λ own. reselected (last_unselected view held) (widget_without loss.places own))
    (record view { doc = logged doc (delete_drafts MOST_SPANS doc loss) (without_text doc loss) })

-- the characters that this takes, in the text's order
abbrev pub lost_in : ViewValue → List Range → List TaggedCell
lost_in view ranges = cells_at (loss_in (text_shown view) (begin_of view) ranges).places 0 view.doc.cells

-- a range replaced by pieces of text, and then characters without a list: it is deleted, and then they are inserted into what that
-- leaves, at the place where the range begins, and before the last newline
abbrev pub with_range_replaced : ViewValue → Range → List Piece → Word → ViewValue
with_range_replaced view range pieces rest =
    let left = without_ranges view (range ∷ []) in
    with_pieces_at left (min range.from (length_shown left - 1)) pieces rest

-- a tag put on the characters in ranges, or taken off: `sel` is the widget's own
abbrev pub with_tag_in : ViewValue → Bool → Word → List Range → ViewValue
with_tag_in view on name ranges =
    let doc = view.doc in
    let places = places_in_text view (is_covered ranges) in
    if bytes_eq name sel then record view { own = record view.own { sel = selection_with on (stamps_at places 0 doc.cells) view.own.sel } }
    else record view { doc = logged doc (tag_drafts_at MOST_SPANS places on name doc.cells) (listed_if on name (with_tag_at doc places on name)) }

-- tags taken off all characters of the whole text, and no longer listed; `sel` is passed over
abbrev pub with_tags_deleted : ViewValue → List Word → ViewValue
with_tags_deleted view names = record view { doc = logged view.doc (tag_deletion_drafts MOST_SPANS view.doc names) (without_tags view.doc names) }

-- COMMANDS on a widget, each what it gives or why it is refused

-- the names in the lists of pieces
abbrev pub names_in : List Piece → List Word
names_in pieces = flat_map (λ piece. piece.tags) pieces

-- insert INDEX ?CHARS TAGLIST ...? ?CHARS?: pieces with lists, and then characters without one, perhaps none
abbrev pub view_inserted : ViewValue → Word → List Piece → Word → Result ViewValue Fault
view_inserted view index pieces rest =
    let w = widget_of view in
    let edited = with_pieces_at view (insertion_place w index) pieces rest in
    let checks = index_check w index ∷ clock_check edited.doc.count ∷ cell_check view.doc.limit (length edited.doc.cells) ∷ [] in
    unless (first_of (map name_check (names_in pieces) ++ checks)) edited

-- delete INDEX ?INDEX ...?: the document without the characters in the ranges that the indices name in pairs
abbrev pub view_deleted : ViewValue → List Word → Result ViewValue Fault
view_deleted view indices =
    let w = widget_of view in
    let edited = without_ranges view (ranges_of (map (place_at_index w) indices)) in
    unless (first_of (map (index_check w) indices ++ clock_check edited.doc.count ∷ [])) edited

-- replace INDEX INDEX ?CHARS TAGLIST ...? ?CHARS?: the delete followed by the insert, which are made or refused as a whole
abbrev pub view_replaced : ViewValue → Word → Word → List Piece → Word → Result ViewValue Fault
view_replaced view from to pieces rest =
    let w = widget_of view in
    let range : Range = record { from = place_at_index w from; to = place_at_index w to } in
    let edited = with_range_replaced view range pieces rest in
    let indices = index_check w from ∷ index_check w to ∷ backwards_check range ∷ [] in
    let checks = clock_check edited.doc.count ∷ cell_check view.doc.limit (length edited.doc.cells) ∷ [] in
    unless (first_of (map name_check (names_in pieces) ++ (indices ++ checks))) edited

-- get INDEX: the character at the index, none at the text's end
abbrev pub got_one : ViewValue → Word → Result Word Fault
got_one view index =
    let w = widget_of view in
    let place = place_at_index w index in
    unless (index_check w index) (encode_utf8_all (text_between (text_shown view) place (place + 1)))

-- get INDEX INDEX: the characters from the first index up to before the second
abbrev pub got : ViewValue → Word → Word → Result Word Fault
got view from to =
    let w = widget_of view in
    unless (first_of (index_check w from ∷ index_check w to ∷ []))
    (encode_utf8_all (text_between (text_shown view) (place_at_index w from) (place_at_index w to)))

-- index INDEX: the position of the index
abbrev pub position_of_index : ViewValue → Word → Result Position Fault
position_of_index view index =
    let w = widget_of view in
    unless (index_check w index) (position_at (text_shown view) (place_at_index w index))

-- get INDEX INDEX INDEX ...: of the ranges that the indices name in pairs, the texts that aren't empty, in the order given
abbrev pub got_list : ViewValue → List Word → Result (List Word) Fault
got_list view indices =
    let w = widget_of view in
    unless (first_of (map (index_check w) indices)) (texts_of (text_shown view) (ranges_of (map (place_at_index w) indices)))

-- compare INDEX OPERATOR INDEX: whether the comparison holds
abbrev pub compared : ViewValue → Word → Comparison → Word → Result Bool Fault
compared view first comparison second =
    let w = widget_of view in
    unless (first_of (index_check w first ∷ index_check w second ∷ []))
    (holds_of comparison (place_at_index w first) (place_at_index w second))

-- count ?SWITCH ...? INDEX INDEX: the distances from the first index to the second, one for each measure in turn
abbrev pub counted : ViewValue → List Measure → Word → Word → Result (List ℤ) Fault
counted view measures from to =
    let w = widget_of view in
    unless (first_of (index_check w from ∷ index_check w to ∷ []))
    (map (distance_of (text_shown view) (place_at_index w from) (place_at_index w to)) (or_indices measures))
