-- What the operations of edits do to the cells of a history, and what they count.
use Rattle.std.specs.Prelude.{◌≡◌, ℕ, ◌+◌, ◌-◌, ◌<◌, ◌≤◌, ◌==◌, ◌||◌, Bool, true, false, List, [], length, map, Option, Some, slice_get}
use Rattle.std.specs.List.{AllByRecursion, IsDistinct, list_all}
use Rattle.std.specs.Str.{all_scalars, bytes_eq, chars}
use Rattle.rt_stamps.specs.declared.limits.TheConstants.{GREATEST_COUNT, MOST_CHARACTERS, MOST_SPANS}
use Rattle.rt_stamps.specs.declared.stamp.Stamp.{Stamp}
use Rattle.rt_stamps.specs.declared.stamp.TheConstants.{ROOT}
use Rattle.rt_stamps.specs.Stamps.{is_same}
use Rattle.rt_stamps.specs.Words.{Word}
use Rattle.rt_ops.specs.Operations.{Operation}
use Rattle.rt_ops.specs.Rules.{each_next, is_lesser_name, is_name}
use Rattle.rt_store.specs.Cells.{text_of, visible_of}
use Rattle.rt_store.specs.Shown.{TaggedCell}
use Rattle.rt_tags.specs.States.{names_on}
use Rattle.rt_tags.specs.Tags.{sel}
use Rattle.rt_rga.specs.Cells.{cells_of}
use Rattle.rt_rga.specs.Drafts.{all_changed, operations_of, with_drafts}
use Rattle.rt_rga.specs.Histories.{IsHistory, greatest_last_count, has_character}
use Rattle.rt_rga.specs.Requests.{MayBeMade, characters_in_all}
use Rattle.rt_plans.specs.Deletions.{without_places}
use Rattle.rt_plans.specs.DocValue.{DocValue, put_after}
use Rattle.rt_plans.specs.InsertionDrafts.{insertion_drafts, text_drafts}
use Rattle.rt_plans.specs.Insertions.{Insertion, Piece, counts_for, insertion_of, left_neighbour, on_left, shared_names, tagged_cells, tags_between, with_pieces}
use Rattle.rt_plans.specs.RemovalDrafts.{removal_drafts}
use Rattle.rt_plans.specs.Removals.{gone_at, operations_for, span_count, stamps_at}
use Rattle.rt_plans.specs.TagDrafts.{tag_deletion_drafts, newline_drafts, tag_drafts, tags_drafts_at}
use Rattle.rt_plans.specs.TagWrites.{bared, cell_with_tag, with_tags_at, without_tags}

-- a document has the cells of its site's history, and its greatest count
pub record IsDocument (number : ℕ) (log : List Operation) (doc : DocValue) : Type 0 where
  pub cells : doc.cells ≡ cells_of log
  pub site : doc.site ≡ number
  pub count : doc.count ≡ greatest_last_count log

-- places among which the last newline's isn't
abbrev pub SparesLast : (ℕ → Bool) → List ℕ → Type 0
SparesLast removed text = removed (length text - 1) ≡ false

-- REMOVALS

abbrev pub DeletesMakeGone : Type 0
DeletesMakeGone =
    (most site : ℕ) (log : List Operation) (removed : ℕ → Bool) → 0 < most → IsHistory log
    → all_changed (operations_of site (removal_drafts most removed (cells_of log)) log) (cells_of log) ≡ gone_at removed 0 (cells_of log)

abbrev pub DeletesAreCounted : Type 0
DeletesAreCounted =
    (site : ℕ) (log : List Operation) (removed : ℕ → Bool) → IsHistory log
    → greatest_last_count (with_drafts site (removal_drafts MOST_SPANS removed (cells_of log)) log)
    ≡ greatest_last_count log + operations_for (span_count (stamps_at removed 0 (cells_of log)))

abbrev pub DeletesMayBeMade : Type 0
DeletesMayBeMade =
    (most site : ℕ) (log : List Operation) (removed : ℕ → Bool) → 0 < most → most ≤ MOST_SPANS → IsHistory log
    → SparesLast removed (text_of (cells_of log)) → MayBeMade site log (removal_drafts most removed (cells_of log))

abbrev pub RemovalIsMade : Type 0
RemovalIsMade =
    (site : ℕ) (log : List Operation) (doc : DocValue) (removed : ℕ → Bool) → 0 < site → IsHistory log → IsDocument site log doc
    → SparesLast removed (text_of doc.cells) → (without_places doc removed).count ≤ GREATEST_COUNT
    → IsDocument site (with_drafts site (removal_drafts MOST_SPANS removed doc.cells) log) (without_places doc removed)

-- TAGS

-- The Tags on some characters write on them what the document's definition says, under the same counts, and on no others.
abbrev pub TagsWriteAsFlat : Type 0
TagsWriteAsFlat =
    (site : ℕ) (log : List Operation) (cells : List TaggedCell) (on : Bool) (name : Word) (stamps : List Stamp) → IsDistinct is_same stamps
    → all_changed (operations_of site (tag_drafts MOST_SPANS on name stamps) log) cells
    ≡ map (cell_with_tag site (greatest_last_count log) name on stamps) cells

abbrev pub TagsAreCounted : Type 0
TagsAreCounted =
    (site : ℕ) (log : List Operation) (on : Bool) (name : Word) (stamps : List Stamp) → IsDistinct is_same stamps
    → greatest_last_count (with_drafts site (tag_drafts MOST_SPANS on name stamps) log) ≡ greatest_last_count log + operations_for (span_count stamps)

-- Tags on the characters at some places, one tag after the other.
abbrev pub TagsMayBeMade : Type 0
TagsMayBeMade =
    (site : ℕ) (log : List Operation) (doc : DocValue) (places : ℕ → Bool) (on : Bool) (names : List Word)
    → IsHistory log → IsDocument site log doc → AllByRecursion (λ name. is_name name ≡ true) names
    → MayBeMade site log (tags_drafts_at MOST_SPANS doc places on names)

abbrev pub TagsAreMade : Type 0
TagsAreMade =
    (site : ℕ) (log : List Operation) (doc : DocValue) (places : ℕ → Bool) (on : Bool) (names : List Word)
    → 0 < site → IsHistory log → IsDocument site log doc → AllByRecursion (λ name. is_name name ≡ true) names
    → (with_tags_at doc places on names).count ≤ GREATEST_COUNT
    → IsDocument site (with_drafts site (tags_drafts_at MOST_SPANS doc places on names) log) (with_tags_at doc places on names)

-- Tags that are deleted, by any words: `sel` perhaps among them, and words that no character has as a tag.
abbrev pub DeletionsMayBeMade : Type 0
DeletionsMayBeMade =
    (site : ℕ) (log : List Operation) (doc : DocValue) (names : List Word)
    → IsHistory log → IsDocument site log doc → MayBeMade site log (tag_deletion_drafts MOST_SPANS doc names)

abbrev pub DeletionsAreMade : Type 0
DeletionsAreMade =
    (site : ℕ) (log : List Operation) (doc : DocValue) (names : List Word)
    → 0 < site → IsHistory log → IsDocument site log doc → (without_tags doc names).count ≤ GREATEST_COUNT
    → IsDocument site (with_drafts site (tag_deletion_drafts MOST_SPANS doc names) log) (without_tags doc names)

-- A newline that stays, or any other visible character, loses all its tags by one Tag for each: just those that take them off at
-- its place.
abbrev pub NewlineHasOneTagEach : Type 0
NewlineHasOneTagEach =
    (site : ℕ) (log : List Operation) (doc : DocValue) (place : ℕ) (cell : TaggedCell) → IsHistory log → IsDocument site log doc
    → slice_get (visible_of doc.cells) place ≡ Some cell
    → tags_drafts_at MOST_SPANS doc (λ p. p == place) false (names_on cell.state) ≡ newline_drafts cell.stamp (names_on cell.state)

-- The document is then as where they are taken off at its place.
abbrev pub NewlineIsBared : Type 0
NewlineIsBared =
    (site : ℕ) (log : List Operation) (doc : DocValue) (place : ℕ) (cell : TaggedCell) → IsHistory log → IsDocument site log doc
    → slice_get (visible_of doc.cells) place ≡ Some cell
    → with_tags_at doc (λ p. p == place) false (names_on cell.state) ≡ bared doc cell.stamp (names_on cell.state)

-- INSERTIONS

-- names that rise strictly by their bytes, as those of an operation do
pub record AreTagNames (names : List Word) : Type 0 where
  pub each : list_all is_name names ≡ true
  pub rising : each_next is_lesser_name names ≡ true

-- the element is the root, or a character of the history, gone or not
abbrev pub IsElement : List Operation → Stamp → Type 0
IsElement log stamp = (has_character log stamp || is_same stamp ROOT) ≡ true

-- A text with tags, behind an element.
abbrev pub TextIsPutAsFlat : Type 0
TextIsPutAsFlat =
    (site : ℕ) (log : List Operation) (after : Stamp) (names : List Word) (text : List ℕ) → 0 < site → IsHistory log
    → let count = greatest_last_count log in
    all_changed (operations_of site (text_drafts MOST_CHARACTERS site count after names text) log) (cells_of log)
    ≡ put_after (cells_of log) after (tagged_cells site count names text)

abbrev pub TextIsCounted : Type 0
TextIsCounted =
    (site : ℕ) (log : List Operation) (after : Stamp) (names : List Word) (text : List ℕ)
    → greatest_last_count (with_drafts site (text_drafts MOST_CHARACTERS site (greatest_last_count log) after names text) log)
    ≡ greatest_last_count log + counts_for names text

abbrev pub TextMayBeMade : Type 0
TextMayBeMade =
    (site : ℕ) (log : List Operation) (after : Stamp) (names : List Word) (text : List ℕ)
    → AreTagNames names → all_scalars text ≡ true → IsElement log after
    → MayBeMade site log (text_drafts MOST_CHARACTERS site (greatest_last_count log) after names text)

abbrev pub TextIsMade : Type 0
TextIsMade =
    (site : ℕ) (log : List Operation) (after : Stamp) (names : List Word) (text : List ℕ)
    → 0 < site → IsHistory log → AreTagNames names → all_scalars text ≡ true → IsElement log after
    → let count = greatest_last_count log in count + counts_for names text ≤ GREATEST_COUNT
    → cells_of (with_drafts site (text_drafts MOST_CHARACTERS site count after names text) log)
    ≡ put_after (cells_of log) after (tagged_cells site count names text)

-- Several pieces with lists, and then characters without one.

-- the tags and the characters of a text are as operations have them
pub record IsText (names : List Word) (text : List ℕ) : Type 0 where
  pub tags : AreTagNames names
  pub characters : all_scalars text ≡ true

abbrev pub HaveTexts : List Piece → Type 0
HaveTexts pieces = AllByRecursion (λ piece. IsText (shared_names piece.tags) (chars piece.text)) pieces

-- the tags and the characters of an insertion, and the element that it goes behind
pub record IsInsertion (site : ℕ) (log : List Operation) (after : Stamp) (left right : Option TaggedCell) (pieces : List Piece) (rest : Word)
    (start : Insertion) : Type 0 where
  pub element : IsElement log after
  pub listed : HaveTexts pieces
  pub unlisted : IsText (tags_between (on_left left (with_pieces site pieces start).cells) right) (chars rest)
  pub none : start.cells ≡ []
  pub count : start.count ≡ greatest_last_count log

-- a larger history has the new cells behind the element, and their last count
pub record IsInserted (log : List Operation) (after : Stamp) (new : Insertion) (larger : List Operation) : Type 0 where
  pub cells : cells_of larger ≡ put_after (cells_of log) after new.cells
  pub count : greatest_last_count larger ≡ new.count

abbrev pub InsertionMayBeMade : Type 0
InsertionMayBeMade =
    (site : ℕ) (log : List Operation) (after : Stamp) (left right : Option TaggedCell) (pieces : List Piece) (rest : Word) (start : Insertion)
    → IsInsertion site log after left right pieces rest start → MayBeMade site log (insertion_drafts MOST_CHARACTERS site after left right pieces rest start)

abbrev pub InsertionIsMade : Type 0
InsertionIsMade =
    (site : ℕ) (log : List Operation) (after : Stamp) (left right : Option TaggedCell) (pieces : List Piece) (rest : Word) (start : Insertion)
    → 0 < site → IsHistory log → IsInsertion site log after left right pieces rest start
    → (insertion_of site left right pieces rest start).count ≤ GREATEST_COUNT
    → IsInserted log after (insertion_of site left right pieces rest start)
    (with_drafts site (insertion_drafts MOST_CHARACTERS site after left right pieces rest start) log)

-- The tags of new text are such.
abbrev pub SharedNamesAreTags : Type 0
SharedNamesAreTags =
    (names : List Word) → AllByRecursion (λ name. bytes_eq name sel ≡ false → is_name name ≡ true) names → AreTagNames (shared_names names)

abbrev pub TagsBetweenAreTags : Type 0
TagsBetweenAreTags =
    (site : ℕ) (log : List Operation) (place : ℕ) (right : Option TaggedCell) (pieces : List Piece) (start : Insertion)
    → IsHistory log → HaveTexts pieces → start.cells ≡ []
    → AreTagNames (tags_between (on_left (left_neighbour (visible_of (cells_of log)) place) (with_pieces site pieces start).cells) right)

-- Whether the counts fit is told by the count of the flat edit.
abbrev pub AllTagsAreCounted : Type 0
AllTagsAreCounted =
    (site : ℕ) (log : List Operation) (doc : DocValue) (places : ℕ → Bool) (on : Bool) (names : List Word) → IsHistory log → IsDocument site log doc
    → greatest_last_count (with_drafts site (tags_drafts_at MOST_SPANS doc places on names) log) ≡ (with_tags_at doc places on names).count

abbrev pub DeletionsAreCounted : Type 0
DeletionsAreCounted =
    (site : ℕ) (log : List Operation) (doc : DocValue) (names : List Word) → IsHistory log → IsDocument site log doc
    → greatest_last_count (with_drafts site (tag_deletion_drafts MOST_SPANS doc names) log) ≡ (without_tags doc names).count

abbrev pub InsertionIsCounted : Type 0
InsertionIsCounted =
    (site : ℕ) (log : List Operation) (after : Stamp) (left right : Option TaggedCell) (pieces : List Piece) (rest : Word) (start : Insertion)
    → start.count ≡ greatest_last_count log
    → greatest_last_count (with_drafts site (insertion_drafts MOST_CHARACTERS site after left right pieces rest start) log)
    ≡ (insertion_of site left right pieces rest start).count

-- Whether the cells fit is told by the new cells of the flat edit: tags and removals insert no characters.
abbrev pub TagsInsertNone : Type 0
TagsInsertNone =
    (doc : DocValue) (places : ℕ → Bool) (on : Bool) (names : List Word) → characters_in_all (tags_drafts_at MOST_SPANS doc places on names) ≡ 0

abbrev pub DeletionsInsertNone : Type 0
DeletionsInsertNone = (doc : DocValue) (names : List Word) → characters_in_all (tag_deletion_drafts MOST_SPANS doc names) ≡ 0

abbrev pub InsertionHasNewCells : Type 0
InsertionHasNewCells =
    (site : ℕ) (after : Stamp) (left right : Option TaggedCell) (pieces : List Piece) (rest : Word) (start : Insertion)
    → length start.cells + characters_in_all (insertion_drafts MOST_CHARACTERS site after left right pieces rest start)
    ≡ length (insertion_of site left right pieces rest start).cells
