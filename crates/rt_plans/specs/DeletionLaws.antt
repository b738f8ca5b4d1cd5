-- What the operations of deletions and replacements do to the cells of a history, and what edits find in these.
use Rattle.std.specs.Prelude.{◌≡◌, ℕ, ◌+◌, ◌<◌, ◌≤◌, All, List, [], ◌++◌, length, Option, true}
use Rattle.std.specs.Str.{IsUtf8, all_scalars, chars}
use Rattle.rt_stamps.specs.declared.limits.TheConstants.{GREATEST_COUNT, MOST_CHARACTERS, MOST_SPANS}
use Rattle.rt_stamps.specs.declared.stamp.Stamp.{Stamp}
use Rattle.rt_stamps.specs.Names.{IsName}
use Rattle.rt_stamps.specs.Words.{Word}
use Rattle.rt_ops.specs.Operations.{Operation}
use Rattle.rt_store.specs.Cells.{text_of, visible_of}
use Rattle.rt_store.specs.Shown.{TaggedCell}
use Rattle.rt_tags.specs.States.{names_on}
use Rattle.rt_rga.specs.Cells.{cells_of}
use Rattle.rt_rga.specs.Drafts.{with_drafts}
use Rattle.rt_rga.specs.Histories.{IsHistory, greatest_last_count}
use Rattle.rt_rga.specs.Requests.{MayBeMade, characters_in_all}
use Rattle.rt_plans.specs.declared.range.Range.{Range}
use Rattle.rt_plans.specs.Deletions.{Loss, delete_drafts, loss_in, without_text}
use Rattle.rt_plans.specs.DraftLaws.{AreTagNames, HaveTexts, IsDocument, IsElement, IsInsertion, SparesLast}
use Rattle.rt_plans.specs.DocValue.{DocValue, left_stamp, put_after}
use Rattle.rt_plans.specs.InsertionDrafts.{insertion_drafts}
use Rattle.rt_plans.specs.Insertions.{Insertion, Piece, insertion_of, left_neighbour, on_left, tags_between, with_pieces}

-- DELETIONS

-- A deletion of ranges in a stretch of the text never takes the text's last newline.
abbrev pub RangesSpareLast : Type 0
RangesSpareLast =
    (text stretch : List ℕ) (begin : ℕ) (ranges : List Range) → begin + length stretch ≤ length text → SparesLast (loss_in stretch begin ranges).places text

-- They may be made also where the counts don't fit.
abbrev pub LossMayBeMade : Type 0
LossMayBeMade =
    (site : ℕ) (log : List Operation) (doc : DocValue) (loss : Loss) → IsHistory log → IsDocument site log doc → SparesLast loss.places (text_of doc.cells)
    → MayBeMade site log (delete_drafts MOST_SPANS doc loss)

abbrev pub LossIsCounted : Type 0
LossIsCounted =
    (site : ℕ) (log : List Operation) (doc : DocValue) (loss : Loss) → IsHistory log → IsDocument site log doc
    → greatest_last_count (with_drafts site (delete_drafts MOST_SPANS doc loss) log) ≡ (without_text doc loss).count

abbrev pub LossIsMade : Type 0
LossIsMade =
    (site : ℕ) (log : List Operation) (doc : DocValue) (loss : Loss) → 0 < site → IsHistory log → IsDocument site log doc
    → SparesLast loss.places (text_of doc.cells) → (without_text doc loss).count ≤ GREATEST_COUNT
    → IsDocument site (with_drafts site (delete_drafts MOST_SPANS doc loss) log) (without_text doc loss)

abbrev pub LossInsertsNone : Type 0
LossInsertsNone = (doc : DocValue) (loss : Loss) → characters_in_all (delete_drafts MOST_SPANS doc loss) ≡ 0

-- REPLACEMENTS: a deletion, and then an insertion into what it leaves

abbrev pub ReplacementMayBeMade : Type 0
ReplacementMayBeMade =
    (site : ℕ) (log : List Operation) (doc : DocValue) (loss : Loss) (after : Stamp) (left right : Option TaggedCell) (pieces : List Piece)
    (rest : Word) (start : Insertion) → IsHistory log → IsDocument site log doc → SparesLast loss.places (text_of doc.cells)
    → IsInsertion site (with_drafts site (delete_drafts MOST_SPANS doc loss) log) after left right pieces rest start
    → MayBeMade site log (delete_drafts MOST_SPANS doc loss ++ insertion_drafts MOST_CHARACTERS site after left right pieces rest start)

abbrev pub ReplacementIsCounted : Type 0
ReplacementIsCounted =
    (site : ℕ) (log : List Operation) (doc : DocValue) (loss : Loss) (after : Stamp) (left right : Option TaggedCell) (pieces : List Piece)
    (rest : Word) (start : Insertion) → IsHistory log → IsDocument site log doc → start.count ≡ (without_text doc loss).count
    → greatest_last_count (with_drafts site
    (delete_drafts MOST_SPANS doc loss ++ insertion_drafts MOST_CHARACTERS site after left right pieces rest start) log)
    ≡ (insertion_of site left right pieces rest start).count

abbrev pub ReplacementIsMade : Type 0
ReplacementIsMade =
    (site : ℕ) (log : List Operation) (doc : DocValue) (loss : Loss) (after : Stamp) (left right : Option TaggedCell) (pieces : List Piece)
    (rest : Word) (start : Insertion) → 0 < site → IsHistory log → IsDocument site log doc → SparesLast loss.places (text_of doc.cells)
    → IsInsertion site (with_drafts site (delete_drafts MOST_SPANS doc loss) log) after left right pieces rest start
    → (insertion_of site left right pieces rest start).count ≤ GREATEST_COUNT
    → cells_of (with_drafts site
    (delete_drafts MOST_SPANS doc loss ++ insertion_drafts MOST_CHARACTERS site after left right pieces rest start) log)
    ≡ put_after (without_text doc loss).cells after (insertion_of site left right pieces rest start).cells

-- WHAT EDITS FIND

-- The visible left neighbour of a place below the end.
abbrev pub LeftIsElement : Type 0
LeftIsElement = (log : List Operation) (place : ℕ) → IsHistory log → place < length (text_of (cells_of log)) → IsElement log (left_stamp (cells_of log) place)

-- The visible left neighbour of a place below the end of what a deletion leaves, also where its counts don't fit.
abbrev pub LeftStaysElement : Type 0
LeftStaysElement =
    (site : ℕ) (log : List Operation) (doc : DocValue) (loss : Loss) (place : ℕ) → IsHistory log → IsDocument site log doc
    → SparesLast loss.places (text_of doc.cells) → place < length (text_of (without_text doc loss).cells)
    → IsElement (with_drafts site (delete_drafts MOST_SPANS doc loss) log) (left_stamp (without_text doc loss).cells place)

-- The tags on the characters of a history are names that rise by their bytes.
abbrev pub CellsHaveTagNames : Type 0
CellsHaveTagNames = (log : List Operation) → IsHistory log → All (λ cell. AreTagNames (names_on cell.state)) (cells_of log)

-- The tags that both neighbours have in what a deletion leaves, where pieces stand before the place perhaps.
abbrev pub TagsLeftAreTags : Type 0
TagsLeftAreTags =
    (site : ℕ) (log : List Operation) (doc : DocValue) (loss : Loss) (place : ℕ) (right : Option TaggedCell) (pieces : List Piece)
    (start : Insertion) → IsHistory log → IsDocument site log doc → HaveTexts pieces → start.cells ≡ []
    → AreTagNames (tags_between (on_left (left_neighbour (visible_of (without_text doc loss).cells) place)
    (with_pieces site pieces start).cells) right)

-- The characters of a text's bytes are scalar values.
abbrev pub CharactersAreScalars : Type 0
CharactersAreScalars = (bytes : List ℕ) → IsUtf8 bytes → all_scalars (chars bytes) ≡ true

-- WHERE THE LAWS OF INSERTIONS HOLD

-- a piece's words are UTF-8, and its names as long as names may be
pub record IsPiece (piece : Piece) : Type 0 where
  pub text : IsUtf8 piece.text
  pub names : All (λ name. IsUtf8 name × IsName name) piece.tags

abbrev pub PiecesAreTexts : Type 0
PiecesAreTexts = (pieces : List Piece) → All IsPiece pieces → HaveTexts pieces

-- Before each place below the text's end an insertion may begin.
abbrev pub InsertionsMayBegin : Type 0
InsertionsMayBegin =
    (site : ℕ) (log : List Operation) (doc : DocValue) (place : ℕ) (right : Option TaggedCell) (pieces : List Piece) (rest : Word) (start : Insertion)
    → IsHistory log → IsDocument site log doc → place < length (text_of doc.cells) → HaveTexts pieces → IsUtf8 rest
    → start.cells ≡ [] → start.count ≡ doc.count
    → IsInsertion site log (left_stamp doc.cells place) (left_neighbour (visible_of doc.cells) place) right pieces rest start

-- So it may before each place below the end of what a deletion leaves, also where its counts don't fit.
abbrev pub ReplacementsMayBegin : Type 0
ReplacementsMayBegin =
    (site : ℕ) (log : List Operation) (doc : DocValue) (loss : Loss) (place : ℕ) (right : Option TaggedCell) (pieces : List Piece)
    (rest : Word) (start : Insertion) → IsHistory log → IsDocument site log doc → SparesLast loss.places (text_of doc.cells)
    → let left = without_text doc loss in
    place < length (text_of left.cells) → HaveTexts pieces → IsUtf8 rest → start.cells ≡ [] → start.count ≡ left.count
    → IsInsertion site (with_drafts site (delete_drafts MOST_SPANS doc loss) log) (left_stamp left.cells place)
    (left_neighbour (visible_of left.cells) place) right pieces rest start
