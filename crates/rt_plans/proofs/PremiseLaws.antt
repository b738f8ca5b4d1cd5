-- What insertions ask holds at a place below the text's end.
use Rattle.std.proofs.Common.{◌≡◌, ℕ, ◌<◌, ◌≤◌, List, [], ◌∷◌, All, ◌&&◌, true, false, not, length, sym, ◌∙◌, ap, subst, arith, Option}
use Rattle.std.specs.List.{AllByRecursion}
use Rattle.std.specs.Str.{IsUtf8, bytes_eq, chars, is_utf8}
use Rattle.std.proofs.lemmas.Bool.{and_from}
use Rattle.std.proofs.lemmas.Bool.Decides.{nat_tests}
use Rattle.std.proofs.lemmas.List.Elements.{recursion_from_All}
use Rattle.std.proofs.lemmas.Str.{is_utf8-from_IsUtf8}
use Rattle.rt_stamps.specs.declared.limits.TheConstants.{MOST_SPANS}
use Rattle.rt_stamps.specs.Names.{IsName, is_name_length}
use Rattle.rt_stamps.specs.Words.{Word}
use Rattle.rt_ops.specs.Operations.{Operation}
use Rattle.rt_ops.specs.Rules.{is_name}
use Rattle.rt_store.specs.Cells.{text_of, visible_of}
use Rattle.rt_store.specs.Shown.{TaggedCell}
use Rattle.rt_tags.specs.Tags.{sel}
use Rattle.rt_rga.specs.Drafts.{with_drafts}
use Rattle.rt_rga.specs.Histories.{IsHistory}
use Rattle.rt_plans.specs.DeletionLaws.{IsPiece}
use Rattle.rt_plans.specs.Deletions.{Loss, delete_drafts, without_text}
use Rattle.rt_plans.specs.DraftLaws.{HaveTexts, IsDocument, IsElement, IsInsertion, IsText, SparesLast}
use Rattle.rt_plans.specs.DocValue.{DocValue, left_stamp}
use Rattle.rt_plans.specs.Insertions.{Insertion, Piece, left_neighbour, shared_names}
use Rattle.rt_plans.proofs.DeletionDraftLaws.{loss_counted}
use Rattle.rt_plans.proofs.FoundLaws.{characters_are_scalars, left_is_element, left_stays, tags_left_are}
use Rattle.rt_plans.proofs.TagNames.{CellsNamed, every_named, shared_are, tags_between_in}

-- PIECES

fits : (n : ℕ) → 1 ≤ n → n ≤ 255 → is_name_length n ≡ true
fits n h k = grind (arith, nat_tests)

pub name_is : (name : Word) → IsUtf8 name → IsName name → bytes_eq name sel ≡ false → is_name name ≡ true
name_is name u n e =
    and_from (is_utf8 name) (is_name_length (length name) && not (bytes_eq name sel)) (is_utf8-from_IsUtf8 name u)
    (and_from (is_name_length (length name)) (not (bytes_eq name sel)) (fits (length name) n.0 n.1) (ap not e))

names_are : (names : List Word) → AllByRecursion (λ name. IsUtf8 name × IsName name) names → AllByRecursion (λ name. bytes_eq name sel ≡ false → is_name name ≡ true) names
names_are [] h = tt
names_are (name ∷ names) h = (name_is name h.0.0 h.0.1, names_are names h.1)

piece_is : (piece : Piece) → IsPiece piece → IsText (shared_names piece.tags) (chars piece.text)
piece_is piece h = record {
  tags = shared_are piece.tags (names_are piece.tags (recursion_from_All (λ name. IsUtf8 name × IsName name) piece.tags h.names));
  characters = characters_are_scalars piece.text h.text;
}

pieces_by : (pieces : List Piece) → AllByRecursion IsPiece pieces → HaveTexts pieces
pieces_by [] h = tt
pieces_by (piece ∷ pieces) h = (piece_is piece h.0, pieces_by pieces h.1)

pub pieces_are : (pieces : List Piece) → All IsPiece pieces → HaveTexts pieces
pieces_are pieces h = pieces_by pieces (recursion_from_All IsPiece pieces h)

-- PLACES

pub may_begin : (site : ℕ) (log : List Operation) (document : DocValue) (place : ℕ) (right : Option TaggedCell) (pieces : List Piece) (rest : Word) (start : Insertion) → IsHistory log → IsDocument site log document
    → place < length (text_of document.cells) → HaveTexts pieces → IsUtf8 rest → start.cells ≡ [] → start.count ≡ document.count
    → IsInsertion site log (left_stamp document.cells place) (left_neighbour (visible_of document.cells) place) right pieces rest start
may_begin site log document place right pieces rest start h doc l t u none count = record {
  element = subst (λ (cells : List TaggedCell). IsElement log (left_stamp cells place)) (sym doc.cells)
      (left_is_element log place h (subst (λ (cells : List TaggedCell). place < length (text_of cells)) doc.cells l));
  listed = t;
  unlisted = record {
    tags = tags_between_in site document.cells place right pieces start (subst CellsNamed (sym doc.cells) (every_named log h)) t none;
    characters = characters_are_scalars rest u;
  };
  none = none;
  count = count ∙ doc.count;
}

pub may_begin_in_rest : (site : ℕ) (log : List Operation) (document : DocValue) (loss : Loss) (place : ℕ) (right : Option TaggedCell) (pieces : List Piece) (rest : Word) (start : Insertion)
    → IsHistory log → IsDocument site log document → SparesLast loss.places (text_of document.cells) → place < length (text_of (without_text document loss).cells) → HaveTexts pieces → IsUtf8 rest → start.cells ≡ [] → start.count ≡ (without_text document loss).count
    → IsInsertion site (with_drafts site (delete_drafts MOST_SPANS document loss) log) (left_stamp (without_text document loss).cells place)
    (left_neighbour (visible_of (without_text document loss).cells) place) right pieces rest start
may_begin_in_rest site log document loss place right pieces rest start h doc s l t u none count = record {
  element = left_stays site log document loss place h doc s l;
  listed = t;
  unlisted = record { tags = tags_left_are site log document loss place right pieces start h doc t none; characters = characters_are_scalars rest u };
  none = none;
  count = count ∙ sym (loss_counted site log document loss h doc);
}
