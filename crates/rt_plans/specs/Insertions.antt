-- Text that is inserted, with its tags (Tk text manual, "insert").
use Rattle.std.specs.Prelude.{ℕ, zero, suc, ◌+◌, ◌*◌, ◌&&◌, not, Bool, true, false, List, [], ◌∷◌, ◌++◌, length, map, filter, take, drop, slice_get, Option, Some, None, if◌then◌else◌}
use Rattle.std.specs.Str.{bytes_eq, chars}
use Rattle.rt_stamps.specs.declared.limits.TheConstants.{MOST_CHARACTERS, MOST_TAGS}
use Rattle.rt_stamps.specs.declared.stamp.Stamp.{Stamp}
use Rattle.rt_stamps.specs.declared.stamp.TheConstants.{ROOT}
use Rattle.rt_stamps.specs.Words.{Word}
use Rattle.rt_store.specs.declared.cell.Cell.{Cell}
use Rattle.rt_tags.specs.States.{Write, is_on, names_on}
use Rattle.rt_tags.specs.Tags.{sel, is_listed, with_name}
use Rattle.rt_tags.specs.Writers.{listed_by, state_after}
use Rattle.rt_store.specs.Shown.{TaggedCell}
use Rattle.rt_store.specs.Cells.{cells_from, stamps_of}
use Rattle.rt_plans.specs.NamedSpans.{parts_for}
use Rattle.rt_plans.specs.Selections.{with_stamps}
use Rattle.rt_store.specs.Spans.{is_among}

-- characters to insert, with the list of their tags
pub record Piece : Type 0 where
  pub text : Word
  pub tags : List Word

-- THE TAGS OF NEW TEXT

-- the tags that both neighbours have; none without a left neighbour
abbrev pub tags_between : Option TaggedCell → Option TaggedCell → List Word
tags_between None right = []
tags_between (Some left) None = []
tags_between (Some left) (Some right) = filter (λ name. is_on name right.state) (names_on left.state)

-- both neighbours are among some stamps
abbrev pub are_among : List Stamp → Option TaggedCell → Option TaggedCell → Bool
are_among stamps None right = false
are_among stamps (Some left) None = false
are_among stamps (Some left) (Some right) = is_among stamps left.stamp && is_among stamps right.stamp

-- the names of a list by their bytes, each once, but for `sel`, which is never the text's
abbrev pub shared_names : List Word → List Word
shared_names names = names_on (state_after [] (listed_by ROOT (filter (λ name. not (bytes_eq name sel)) names)))

-- THE CELLS OF NEW TEXT

-- the tags that an Insert can't list: each is a Tag operation of its own, behind the Insert
abbrev pub further_tags : List Word → List Word
further_tags names = drop MOST_TAGS names

-- tags that are put on by an operation each, with the counts after one
abbrev pub put_on : ℕ → ℕ → List Word → List Write
put_on site count [] = []
put_on site count (name ∷ names) = record { name = name; writer = record { count = count + 1; site = site }; on = true } ∷ put_on site (count + 1) names

-- what is written on a character by an Insert, under the root's stamp, and by the Tag operations behind it, whose counts come
-- after the last one of the Insert
abbrev pub new_state : ℕ → ℕ → List Word → List Write
new_state site last names = state_after [] (listed_by ROOT (take MOST_TAGS names) ++ put_on site last (further_tags names))

-- an Insert has at most MOST_CHARACTERS characters: how many it takes for a text
abbrev pub inserts_for : ℕ → ℕ
inserts_for characters = parts_for MOST_CHARACTERS characters

-- the cells of a text that is so many Inserts, each with the Tag operations behind it, with the counts after one
abbrev pub cells_of_inserts : ℕ → ℕ → ℕ → List Word → List ℕ → List TaggedCell
cells_of_inserts zero site count names text = []
cells_of_inserts (suc inserts) site count names text =
    let part = take MOST_CHARACTERS text in
    let last = count + length part in
    cells_from (count + 1) site (new_state site last names) part
    ++ cells_of_inserts inserts site (last + length (further_tags names)) names (drop MOST_CHARACTERS text)

abbrev pub tagged_cells : ℕ → ℕ → List Word → List ℕ → List TaggedCell
tagged_cells site count names text = cells_of_inserts (inserts_for (length text)) site count names text

-- how many counts a text takes
abbrev pub counts_for : List Word → List ℕ → ℕ
counts_for names text = length text + inserts_for (length text) * length (further_tags names)

-- SEVERAL PIECES

-- what pieces of text have come to: the new cells, the greatest count, the widget's selection and those of the others, and
-- the listed tags
pub record Insertion : Type 0 where
  pub cells : List TaggedCell
  pub count : ℕ
  pub sel : List Stamp
  pub others : List (List Stamp)
  pub tags : List Word

-- the last of some cells, and before the first of them the given one
abbrev pub on_left : {T : Type 0} → Option (Cell T) → List (Cell T) → Option (Cell T)
on_left left [] = left
on_left left (cell ∷ cells) = on_left (Some cell) cells

-- names are listed, one after the other
abbrev pub all_listed : List Word → List Word → List Word
all_listed [] tags = tags
all_listed (name ∷ names) tags = all_listed names (with_name name tags)

-- a selection with some more stamps, or as it is
abbrev pub selected_if : Bool → List Stamp → List Stamp → List Stamp
selected_if more stamps selection = if more then with_stamps stamps selection else selection

-- characters come to be selected where both of these are
abbrev pub selected_with : Stamp → Stamp → List Stamp → List Stamp → List Stamp
selected_with left right stamps selection = selected_if (is_among selection left && is_among selection right) stamps selection

-- Characters with a list get exactly its tags: `sel` for the widget that commands alone, each other one for the text. No
-- characters change nothing.
abbrev pub with_listed : ℕ → List Word → List ℕ → Insertion → Insertion
with_listed site names [] so_far = so_far
with_listed site names (c ∷ text) so_far =
    let shared = shared_names names in
    let new = tagged_cells site so_far.count shared (c ∷ text) in
    record so_far {
      cells = so_far.cells ++ new;
      count = so_far.count + counts_for shared (c ∷ text);
      sel = selected_if (is_listed sel names) (stamps_of new) so_far.sel;
      tags = all_listed shared so_far.tags;
    }

-- pieces with lists, each directly behind the text of the one before it
abbrev pub with_pieces : ℕ → List Piece → Insertion → Insertion
with_pieces site [] so_far = so_far
with_pieces site (piece ∷ pieces) so_far = with_pieces site pieces (with_listed site piece.tags (chars piece.text) so_far)

-- Characters without a list, behind the text of the pieces: they get the tags that both neighbours have, and in each widget
-- they are selected where both neighbours are.
abbrev pub with_unlisted : ℕ → Option TaggedCell → Option TaggedCell → List ℕ → Insertion → Insertion
with_unlisted site left right [] so_far = so_far
with_unlisted site left right (c ∷ text) so_far =
    let names = tags_between left right in
    let new = tagged_cells site so_far.count names (c ∷ text) in
    record {
      cells = so_far.cells ++ new;
      count = so_far.count + counts_for names (c ∷ text);
      sel = selected_if (are_among so_far.sel left right) (stamps_of new) so_far.sel;
      others = map (λ selection. selected_if (are_among selection left right) (stamps_of new) selection) so_far.others;
      tags = all_listed names so_far.tags;
    }

-- several pieces with lists, and then characters without one: the left neighbour of these is the last character of the pieces,
-- or where they have none that of the place
abbrev pub insertion_of : ℕ → Option TaggedCell → Option TaggedCell → List Piece → Word → Insertion → Insertion
insertion_of site left right pieces rest start =
    let listed = with_pieces site pieces start in
    with_unlisted site (on_left left listed.cells) right (chars rest) listed

-- the neighbours of a place among characters
abbrev pub left_neighbour : {T : Type 0} → List (Cell T) → ℕ → Option (Cell T)
left_neighbour characters zero = None
left_neighbour characters (suc place) = slice_get characters place

abbrev pub right_neighbour : {T : Type 0} → List (Cell T) → ℕ → Option (Cell T)
right_neighbour characters place = slice_get characters place
