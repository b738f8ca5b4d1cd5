-- What pieces of text have come to, one piece more.
use Rattle.std.proofs.Common.{◌≡◌, ℕ, ◌+◌, ◌<◌, ◌≤◌, List, [], ◌∷◌, ◌++◌, Bool, true, length, take, drop, get_or, refl, sym, ◌∙◌, ap, subst, arith, append_assoc, take-append-drop, Option, Some, None}
use Rattle.std.specs.Prelude.{nat_eq, option_map}
use Rattle.std.specs.Str.{chars}
use Rattle.std.proofs.lemmas.List.{append-nil, take_more}
use Rattle.rt_stamps.specs.declared.limits.TheConstants.{MOST_CHARACTERS}
use Rattle.rt_stamps.specs.declared.stamp.Stamp.{Stamp}
use Rattle.rt_stamps.specs.Words.{Word, as_words}
use Rattle.rt_ops.specs.Operations.{Body}
use Rattle.rt_tags.specs.Tags.{is_listed, sel}
use Rattle.rt_store.specs.Cells.{stamps_of}
use Rattle.rt_store.specs.Shown.{TaggedCell}
use Rattle.rt_plans.specs.declared.pieces.PlannedPieces.{PlannedPieces}
use Rattle.rt_plans.specs.InsertionDrafts.{last_element, pieces_drafts, text_drafts}
use Rattle.rt_plans.specs.Insertions.{Insertion, Piece, all_listed, counts_for, selected_if, shared_names, tagged_cells, with_listed, with_pieces}
use Rattle.rt_plans.specs.PlannedPieces.{AreSoFar}
use Rattle.rt_plans.specs.Selections.{with_stamps}
use Rattle.rt_plans.proofs.CharacterCounts.{listed_length}
use Rattle.rt_plans.proofs.InsertTexts.{behind_append}
use Rattle.rt_plans.proofs.LastNames.{last_tagged, shared_rise}
use Rattle.rt_plans.proofs.Planning.{none_left}
use Rattle.rt_plans.proofs.PlanLaws.{all_append, pieces_from, pieces_spent}

-- a text more: its characters, its counts, the element behind it, and its tags
pub record IsMoreText (site : ℕ) (names : List Word) (text : List ℕ) (old new : PlannedPieces) : Type 0 where
  pub characters : new.characters ≡ old.characters + length text
  pub count : new.texts.count ≡ old.texts.count + counts_for names text
  pub element : new.texts.behind ≡ last_element old.texts.behind (tagged_cells site old.texts.count names text)
  pub tags : as_words new.names.items ≡ as_words old.names.items ++ names

abbrev pub names_in : PlannedPieces → Option (List Word)
names_in pieces = option_map (λ names. as_words names.items) pieces.last

pub added_listed : (after : Stamp) (selection : List Stamp) (listed : List Word) (old new : PlannedPieces) (site : ℕ) (tags : List Word) (text : List ℕ) (so_far : Insertion) → 1 ≤ length text
    → IsMoreText site (shared_names tags) text old new
    → with_stamps new.selected.items selection ≡ selected_if (is_listed sel tags) (stamps_of (tagged_cells site old.texts.count (shared_names tags) text)) (with_stamps old.selected.items selection)
    → names_in new ≡ Some (shared_names tags)
    → AreSoFar after selection listed old so_far
    → AreSoFar after selection listed new (with_listed site tags text so_far)
added_listed after selection listed old new site tags [] so_far some m s l h = absurd (omega arith)
added_listed after selection listed old new site tags (c ∷ text) so_far some m s l h =
    let shared = shared_names tags in
    let more : ℕ → List TaggedCell = λ count. tagged_cells site count shared (c ∷ text) in
    record {
      characters = m.characters ∙ ap (λ n. n + length (c ∷ text)) h.characters ∙ sym (listed_length site tags (c ∷ text) so_far);
      count = m.count ∙ ap (λ n. n + counts_for shared (c ∷ text)) h.count;
      element = m.element ∙ (λ i. last_element (h.element i) (more (h.count i))) ∙ sym (behind_append after so_far.cells (more so_far.count));
      sel = s ∙ (λ i. selected_if (is_listed sel tags) (stamps_of (more (h.count i))) (h.sel i));
      tags = ap (λ l. all_listed l listed) m.tags ∙ all_append (as_words old.names.items) shared listed ∙ ap (all_listed shared) h.tags;
      last = l ∙ sym (last_tagged site so_far.count so_far.cells shared (c ∷ text) (shared_rise tags) some);
    }

-- no text
pub none_listed : (after : Stamp) (selection : List Stamp) (listed : List Word) (pieces : PlannedPieces) (site : ℕ) (tags : List Word) (text : List ℕ) (so_far : Insertion) → text ≡ []
    → AreSoFar after selection listed pieces so_far → AreSoFar after selection listed pieces (with_listed site tags text so_far)
none_listed after selection listed pieces site tags text so_far e h = subst (λ t. AreSoFar after selection listed pieces (with_listed site tags t so_far)) (sym e) h

pub no_drafts : (drafts : List Body) (site count : ℕ) (after : Stamp) (names : List Word) (text : List ℕ) → text ≡ [] → drafts ≡ drafts ++ text_drafts MOST_CHARACTERS site count after names text
no_drafts drafts site count after names text e = sym (append-nil drafts) ∙ sym (ap (λ t. drafts ++ text_drafts MOST_CHARACTERS site count after names t) e)

-- none yet
pub none_so_far : (pieces : PlannedPieces) (after : Stamp) (selection : List Stamp) (others : List (List Stamp)) (listed : List Word) (count : ℕ)
    → pieces.characters ≡ 0 → pieces.texts.count ≡ count → pieces.texts.behind ≡ after → pieces.selected.items ≡ [] → pieces.names.items ≡ [] → pieces.last ≡ None
    → AreSoFar after selection listed pieces (record { cells = []; count = count; sel = selection; others = others; tags = listed })
none_so_far pieces after selection others listed count s c b k n l = record {
  characters = s;
  count = c;
  element = b;
  sel = ap (λ l. with_stamps l selection) k;
  tags = ap (λ l. all_listed (as_words l) listed) n;
  last = ap (option_map (λ names. as_words names.items)) l;
}

pub none_in : (items : List ℕ) (n : ℕ) (empty : Bool) → n ≡ length items → empty ≡ nat_eq n 0 → empty ≡ true → items ≡ []
none_in items n empty len b e = none_left empty items (b ∙ ap (λ m. nat_eq m 0) len) e

-- ONE PIECE MORE

abbrev next : ℕ → Piece → Insertion → Insertion
next site piece so_far = with_listed site piece.tags (chars piece.text) so_far

abbrev next_drafts : ℕ → Stamp → Piece → Insertion → List Body
next_drafts site after piece so_far = text_drafts MOST_CHARACTERS site so_far.count (last_element after so_far.cells) (shared_names piece.tags) (chars piece.text)

last_piece : (site : ℕ) (pieces : List Piece) (piece : Piece) (so_far : Insertion) → with_pieces site (pieces ++ piece ∷ []) so_far ≡ next site piece (with_pieces site pieces so_far)
last_piece site [] piece so_far = refl
last_piece site (p ∷ pieces) piece so_far = last_piece site pieces piece (next site p so_far)

last_drafts : (site : ℕ) (after : Stamp) (pieces : List Piece) (piece : Piece) (so_far : Insertion)
    → pieces_drafts MOST_CHARACTERS site after (pieces ++ piece ∷ []) so_far ≡ pieces_drafts MOST_CHARACTERS site after pieces so_far ++ next_drafts site after piece (with_pieces site pieces so_far)
last_drafts site after [] piece so_far = append-nil (next_drafts site after piece so_far)
last_drafts site after (p ∷ pieces) piece so_far =
    let first = next_drafts site after p so_far in
    let rest = next site p so_far in
    ap (λ l. first ++ l) (last_drafts site after pieces piece rest)
    ∙ sym (append_assoc first (pieces_drafts MOST_CHARACTERS site after pieces rest) (next_drafts site after piece (with_pieces site pieces rest)))

pub pieces_more : (site : ℕ) (pieces : List Piece) (i : ℕ) (piece : Piece) (so_far : Insertion) → i < length pieces → piece ≡ get_or pieces i piece
    → with_pieces site (take (i + 1) pieces) so_far ≡ with_listed site piece.tags (chars piece.text) (with_pieces site (take i pieces) so_far)
pieces_more site pieces i piece so_far h e =
    ap (λ l. with_pieces site l so_far) (take_more pieces i piece h ∙ ap (λ p. take i pieces ++ p ∷ []) (sym e)) ∙ last_piece site (take i pieces) piece so_far

pub drafts_further : (site : ℕ) (after : Stamp) (pieces : List Piece) (i : ℕ) (piece : Piece) (so_far : Insertion) → i < length pieces → piece ≡ get_or pieces i piece
    → pieces_drafts MOST_CHARACTERS site after (take (i + 1) pieces) so_far
    ≡ pieces_drafts MOST_CHARACTERS site after (take i pieces) so_far ++ next_drafts site after piece (with_pieces site (take i pieces) so_far)
drafts_further site after pieces i piece so_far h e =
    ap (λ l. pieces_drafts MOST_CHARACTERS site after l so_far) (take_more pieces i piece h ∙ ap (λ p. take i pieces ++ p ∷ []) (sym e)) ∙ last_drafts site after (take i pieces) piece so_far

apart : (site : ℕ) (xs ys : List Piece) (so_far : Insertion) → with_pieces site (xs ++ ys) so_far ≡ with_pieces site ys (with_pieces site xs so_far)
apart site [] ys so_far = refl
apart site (x ∷ xs) ys so_far = apart site xs ys (next site x so_far)

-- too few counts for a piece behind others
pub spent_early : (site : ℕ) (pieces : List Piece) (i : ℕ) (piece : Piece) (start : Insertion) (count greatest : ℕ) → i < length pieces → piece ≡ get_or pieces i piece
    → count ≡ (with_pieces site (take i pieces) start).count → greatest < count + counts_for (shared_names piece.tags) (chars piece.text)
    → greatest < (with_pieces site pieces start).count
spent_early site pieces i piece start count greatest h e n k =
    let before = with_pieces site (take i pieces) start in
    let whole : with_pieces site (piece ∷ drop (i + 1) pieces) before ≡ with_pieces site pieces start =
    ap (λ l. with_pieces site l before) (pieces_from pieces i piece h e) ∙ sym (apart site (take i pieces) (drop i pieces) start) ∙ ap (λ l. with_pieces site l start) (take-append-drop i pieces) in
    subst (λ (all : Insertion). greatest < all.count) whole
    (pieces_spent site piece (drop (i + 1) pieces) before greatest (subst (λ (m : ℕ). greatest < m + counts_for (shared_names piece.tags) (chars piece.text)) n k))
