-- What edits find in the cells of a history, and in what a deletion leaves of them.
use Rattle.std.proofs.Common.{◌≡◌, ℕ, zero, suc, ◌<◌, inl, inr, List, [], ◌∷◌, ◌++◌, true, false, cond, not, ◌||◌, length, map, refl, sym, ◌∙◌, ap, subst, arith, Some, Option}
use Rattle.std.specs.Prelude.{option_map, slice_get, unwrap_or}
use Rattle.std.specs.List.{IsDistinct}
use Rattle.std.specs.Str.{IsUtf8, all_scalars, chars}
use Rattle.std.proofs.lemmas.Bool.{or_left, or_right}
use Rattle.std.proofs.lemmas.Str.{scalars-chars}
use Rattle.rt_stamps.specs.declared.limits.TheConstants.{MOST_SPANS}
use Rattle.rt_stamps.specs.declared.stamp.Stamp.{Stamp}
use Rattle.rt_stamps.specs.declared.stamp.TheConstants.{FINAL, ROOT}
use Rattle.rt_stamps.specs.Stamps.{is_same}
use Rattle.rt_stamps.specs.Words.{Word}
use Rattle.rt_stamps.proofs.Order.{same_refl}
use Rattle.rt_ops.specs.Operations.{Operation}
use Rattle.rt_tags.specs.States.{names_on}
use Rattle.rt_store.specs.Cells.{AreDistinct, stamps_of, text_of, visible_of}
use Rattle.rt_store.specs.Shown.{TaggedCell}
use Rattle.rt_store.specs.Spans.{is_among}
use Rattle.rt_store.proofs.Distinct.{split}
use Rattle.rt_store.proofs.Shown.{map_append}
use Rattle.rt_rga.specs.Cells.{cell_in, cells_of}
use Rattle.rt_rga.specs.Drafts.{with_drafts}
use Rattle.rt_rga.specs.Histories.{IsHistory, final_character, has_character}
use Rattle.rt_rga.proofs.Corollaries.{cells_distinct}
use Rattle.rt_rga.proofs.Final.{cells_last}
use Rattle.rt_plans.specs.Deletions.{Loss, delete_drafts, without_places, without_text}
use Rattle.rt_plans.specs.DraftLaws.{AreTagNames, HaveTexts, IsDocument, IsElement, SparesLast}
use Rattle.rt_plans.specs.DocValue.{DocValue, left_stamp}
use Rattle.rt_plans.specs.Insertions.{Insertion, Piece, left_neighbour, on_left, tags_between, with_pieces}
use Rattle.rt_plans.specs.Removals.{gone_at}
use Rattle.rt_plans.specs.TagWrites.{bared, cell_with_tag, with_tag}
use Rattle.rt_plans.proofs.DeletionDraftLaws.{document_named, stamps_gone, still_ends}
use Rattle.rt_plans.proofs.DraftSteps.{AreKnownCells, known_cells, known_later}
use Rattle.rt_plans.proofs.NewlineDrafts.{EndsAs, bared_named, bared_stamps, document_ends, loss_has, newline_names}
use Rattle.rt_plans.proofs.PieceDraftLaws.{apart_front}
use Rattle.rt_plans.proofs.PlaceLaws.{length_text}
use Rattle.rt_plans.proofs.Putting.{tagged_state}
use Rattle.rt_plans.proofs.TagNames.{CellsNamed, gone_named, tags_between_in}

-- THE LEFT NEIGHBOUR

-- cells, the last one apart, which is the visible last newline's
record HasLast (cells front : List TaggedCell) (last : TaggedCell) : Type 0 where
  pub is : cells ≡ front ++ last ∷ []
  pub stamp : last.stamp ≡ FINAL
  pub gone : last.gone ≡ false

-- a visible cell at a place is one of the first ones
abbrev IsLeftIn : List TaggedCell → List TaggedCell → ℕ → Type 0
IsLeftIn visible front p = (x : TaggedCell) × (slice_get visible p ≡ Some x) × (is_among (stamps_of front) x.stamp ≡ true)

left_step : (c : TaggedCell) (rest cs : List TaggedCell) (p : ℕ) → ((q : ℕ) → suc q < length rest → IsLeftIn rest cs q) → suc p < length (c ∷ rest) → IsLeftIn (c ∷ rest) (c ∷ cs) p
left_step c rest cs zero f h = (c, refl, or_left (is_same c.stamp c.stamp) _ (same_refl c.stamp))
left_step c rest cs (suc q) f h = let w = f q (omega (arith, h)) in (w.0, w.1, or_right (is_same c.stamp w.0.stamp) _ w.2)

left_in : (front : List TaggedCell) (last : TaggedCell) (p : ℕ) → last.gone ≡ false → suc p < length (visible_of (front ++ last ∷ [])) → IsLeftIn (visible_of (front ++ last ∷ [])) front p
left_in [] last p g h = absurd (let n : length (visible_of (last ∷ [])) ≡ 1 = ap (λ b. length (cond (not b) (last ∷ []) [])) g in omega (arith, n, h))
left_in (c ∷ cs) last p g h =
    let rest = visible_of (cs ++ last ∷ []) in
    let whole = visible_of (c ∷ (cs ++ last ∷ [])) in
    split c.gone
    (λ e.
    let seen : whole ≡ rest = ap (λ b. cond (not b) (c ∷ rest) rest) e in
    let w = left_in cs last p g (subst (λ (l : List TaggedCell). suc p < length l) seen h) in
    subst (λ (l : List TaggedCell). IsLeftIn l (c ∷ cs) p) (sym seen) (w.0, w.1, or_right (is_same c.stamp w.0.stamp) _ w.2))
    (λ e.
    let seen : whole ≡ c ∷ rest = ap (λ b. cond (not b) (c ∷ rest) rest) e in
    subst (λ (l : List TaggedCell). IsLeftIn l (c ∷ cs) p) (sym seen) (left_step c rest cs p (λ q n. left_in cs last q g n) (subst (λ (l : List TaggedCell). suc p < length l) seen h)))

among_front : (front rest : List TaggedCell) (s : Stamp) → is_among (stamps_of front) s ≡ true → is_among (stamps_of (front ++ rest)) s ≡ true
among_front [] rest s h = absurd (cc h)
among_front (c ∷ cs) rest s h = split (is_same c.stamp s)
    (λ e. or_left (is_same c.stamp s) _ e)
    (λ e. or_right (is_same c.stamp s) _ (among_front cs rest s (ap (λ b. b || is_among (stamps_of cs) s) (sym e) ∙ h)))

left_known : (log : List Operation) (cells front : List TaggedCell) (last : TaggedCell) (place : ℕ) → HasLast cells front last → AreDistinct cells → AreKnownCells log cells → place < length (text_of cells)
    → IsElement log (left_stamp cells place)
left_known log cells front last zero e d k l = or_right (has_character log ROOT) (is_same ROOT ROOT) refl
left_known log cells front last (suc p) e d k l =
    let n : suc p < length (visible_of (front ++ last ∷ [])) = subst (λ (cells : List TaggedCell). suc p < length (visible_of cells)) e.is (omega (arith, l, length_text cells)) in
    let w = left_in front last p e.gone n in
    let s = w.0.stamp in
    let at : left_stamp cells (suc p) ≡ s =
    ap (λ (cells : List TaggedCell). unwrap_or (option_map (λ (cell : TaggedCell). cell.stamp) (slice_get (visible_of cells) p)) ROOT) e.is
    ∙ ap (λ o. unwrap_or (option_map (λ (cell : TaggedCell). cell.stamp) o) ROOT) w.1 in
    let there : is_among (stamps_of cells) s ≡ true = ap (λ (cells : List TaggedCell). is_among (stamps_of cells) s) e.is ∙ among_front front (last ∷ []) s w.2 in
    let element : IsElement log s = elim (k s there) [
      | inl f ↦ or_left (has_character log s) (is_same s ROOT) f
      | inr f ↦ absurd (let apart = apart_front front last [] (subst AreDistinct e.is d) in
          let same : is_among (stamps_of front) last.stamp ≡ true = ap (is_among (stamps_of front)) (e.stamp ∙ sym f) ∙ w.2 in
          cc (apart, same))
    ] in
    subst (IsElement log) (sym at) element

pub left_is_element : (log : List Operation) (place : ℕ) → IsHistory log → place < length (text_of (cells_of log)) → IsElement log (left_stamp (cells_of log) place)
left_is_element log place h l =
    let w = cells_last log h in
    left_known log (cells_of log) w.0 (cell_in log final_character) place (record { is = w.1.is; stamp = w.1.stamp; gone = w.1.gone }) (cells_distinct log h) (known_cells log (cells_of log) h refl) l

-- WHAT A DELETION LEAVES

abbrev SomeLast : List TaggedCell → Type 0
SomeLast cells = (front : List TaggedCell) × (last : TaggedCell) × HasLast cells front last

tag_end : (document : DocValue) (name : Word) (stamps : List Stamp) → SomeLast document.cells → SomeLast (with_tag document name false stamps).cells
tag_end document name stamps w =
    let g = cell_with_tag document.site document.count name false stamps in
    let change = tagged_state document.site document.count name false stamps w.1 in (
      map g w.0,
      g w.1,
      record {
        is = ap (map g) w.2.is ∙ map_append g w.0 (w.1 ∷ []);
        stamp = ap (λ (c : TaggedCell). c.stamp) change ∙ w.2.stamp;
        gone = ap (λ (c : TaggedCell). c.gone) change ∙ w.2.gone;
      },
    )

bared_end : (names : List Word) (document : DocValue) (stamp : Stamp) → SomeLast document.cells → SomeLast (bared document stamp names).cells
bared_end [] document stamp w = w
bared_end (name ∷ names) document stamp w = bared_end names (with_tag document name false (stamp ∷ [])) stamp (tag_end document name (stamp ∷ []) w)

pub left_stamps : (document : DocValue) (loss : Loss) → stamps_of (without_text document loss).cells ≡ stamps_of document.cells
left_stamps document loss =
    loss_has (λ (left : DocValue). stamps_of left.cells ≡ stamps_of document.cells) document loss (stamps_gone loss.places 0 document.cells)
    (λ cell e. bared_stamps (names_on cell.state) (without_places document loss.places) cell.stamp ∙ stamps_gone loss.places 0 document.cells)

left_end : (document : DocValue) (loss : Loss) (front : List TaggedCell) (last : TaggedCell) → EndsAs document front last → SparesLast loss.places (text_of document.cells) → SomeLast (without_text document loss).cells
left_end document loss front last e s =
    let left = without_places document loss.places in
    let still = still_ends document loss.places front last e s in
    let end : SomeLast left.cells = (gone_at loss.places 0 front, last, record { is = still.is; stamp = still.stamp; gone = still.gone }) in
    loss_has (λ (left : DocValue). SomeLast left.cells) document loss end (λ cell k. bared_end (names_on cell.state) left cell.stamp end)

pub left_stays : (site : ℕ) (log : List Operation) (document : DocValue) (loss : Loss) (place : ℕ) → IsHistory log → IsDocument site log document → SparesLast loss.places (text_of document.cells)
    → place < length (text_of (without_text document loss).cells) → IsElement (with_drafts site (delete_drafts MOST_SPANS document loss) log) (left_stamp (without_text document loss).cells place)
left_stays site log document loss place h doc spared l =
    let cells = (without_text document loss).cells in
    let drafts = delete_drafts MOST_SPANS document loss in
    let stamps = left_stamps document loss in
    let w = left_end document loss (cells_last log h).0 (cell_in log final_character) (document_ends site log document h doc) spared in
    let distinct : AreDistinct cells = subst (IsDistinct is_same) (sym stamps) (subst AreDistinct (sym doc.cells) (cells_distinct log h)) in
    left_known (with_drafts site drafts log) cells w.0 w.1 place w.2 distinct
    (λ s k. known_later site drafts log document.cells (known_cells log document.cells h doc.cells) s (ap (λ l. is_among l s) (sym stamps) ∙ k)) l

pub tags_left_are : (site : ℕ) (log : List Operation) (document : DocValue) (loss : Loss) (place : ℕ) (right : Option TaggedCell) (pieces : List Piece) (start : Insertion)
    → IsHistory log → IsDocument site log document → HaveTexts pieces → start.cells ≡ []
    → AreTagNames (tags_between (on_left (left_neighbour (visible_of (without_text document loss).cells) place) (with_pieces site pieces start).cells) right)
tags_left_are site log document loss place right pieces start h doc t none =
    let named = document_named site log document h doc in
    let left : CellsNamed (without_places document loss.places).cells = gone_named loss.places 0 document.cells named in
    let all : CellsNamed (without_text document loss).cells =
    loss_has (λ (left : DocValue). CellsNamed left.cells) document loss left
    (λ cell e. bared_named (names_on cell.state) (without_places document loss.places) cell.stamp (newline_names document loss cell named e) left) in
    tags_between_in site (without_text document loss).cells place right pieces start all t none

-- CHARACTERS

pub characters_are_scalars : (bytes : List ℕ) → IsUtf8 bytes → all_scalars (chars bytes) ≡ true
characters_are_scalars bytes h = scalars-chars bytes h
