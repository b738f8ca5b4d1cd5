-- The cells of new text: they are visible, and their stamps are new.
use Rattle.std.proofs.Common.{◌≡◌, ℕ, zero, suc, ◌+◌, ◌<◌, ◌≤◌, List, [], ◌∷◌, ◌++◌, true, false, cond, not, length, take, drop, refl, sym, ap, ◌∙◌, arith, append-nil, append_assoc}
use Rattle.std.specs.List.{AllByRecursion}
use Rattle.std.specs.Str.{chars}
use Rattle.std.proofs.lemmas.Bool.{or_from}
use Rattle.std.proofs.lemmas.List.{length-map}
use Rattle.rt_stamps.specs.declared.limits.TheConstants.{MOST_CHARACTERS}
use Rattle.rt_stamps.specs.declared.stamp.Stamp.{Stamp}
use Rattle.rt_stamps.specs.Words.{Word}
use Rattle.rt_store.specs.declared.cell.Cell.{Cell}
use Rattle.rt_store.specs.Cells.{cells_from, stamps_of, text_of, visible_of}
use Rattle.rt_store.specs.Shown.{TaggedCell}
use Rattle.rt_store.specs.Spans.{is_among}
use Rattle.rt_store.specs.Written.{AreBelowNext}
use Rattle.rt_store.proofs.Distinct.{differs, new_apart}
use Rattle.rt_tags.specs.States.{Write}
use Rattle.rt_plans.specs.Insertions.{Insertion, Piece, cells_of_inserts, further_tags, inserts_for, new_state, shared_names, tagged_cells, with_listed, with_pieces}
use Rattle.rt_plans.proofs.InsertedText.{text_append, text_tagged}
use Rattle.rt_text.specs.Neighbours.{pieces_text}

-- a cell is visible, and its stamp is of a site and has a count behind another
pub record IsNew (count site : ℕ) (cell : TaggedCell) : Type 0 where
  pub above : count < cell.stamp.count
  pub from : cell.stamp.site ≡ site
  pub there : cell.gone ≡ false

abbrev pub AreNew : ℕ → ℕ → List TaggedCell → Type 0
AreNew count site cells = AllByRecursion (IsNew count site) cells

both_new : (count site : ℕ) (xs ys : List TaggedCell) → AreNew count site xs → AreNew count site ys → AreNew count site (xs ++ ys)
both_new count site [] ys h k = k
both_new count site (x ∷ xs) ys h k = (h.0, both_new count site xs ys h.1 k)

from_new : (count site n : ℕ) (state : List Write) (text : List ℕ) → count < n → AreNew count site (cells_from n site state text)
from_new count site n state [] h = tt
from_new count site n state (c ∷ text) h = (record { above = h; from = refl; there = refl }, from_new count site (n + 1) state text (omega arith))

pub inserts_new : (inserts site count start : ℕ) (names : List Word) (text : List ℕ) → start ≤ count → AreNew start site (cells_of_inserts inserts site count names text)
inserts_new zero site count start names text h = tt
inserts_new (suc inserts) site count start names text h =
    let part = take MOST_CHARACTERS text in
    let last = count + length part in
    both_new start site (cells_from (count + 1) site (new_state site last names) part) (cells_of_inserts inserts site (last + length (further_tags names)) names (drop MOST_CHARACTERS text))
    (from_new start site (count + 1) (new_state site last names) part (omega arith))
    (inserts_new inserts site (last + length (further_tags names)) start names (drop MOST_CHARACTERS text) (omega arith))

listed_new : (site start : ℕ) (names : List Word) (text : List ℕ) (so_far : Insertion) → start ≤ so_far.count → AreNew start site so_far.cells
    → (start ≤ (with_listed site names text so_far).count) × AreNew start site (with_listed site names text so_far).cells
listed_new site start names [] so_far h k = (h, k)
listed_new site start names (c ∷ text) so_far h k =
    let shared = shared_names names in (
      omega (arith, h),
      both_new start site so_far.cells (tagged_cells site so_far.count shared (c ∷ text)) k (inserts_new (inserts_for (length (c ∷ text))) site so_far.count start shared (c ∷ text) h),
    )

pub pieces_new : (site start : ℕ) (pieces : List Piece) (so_far : Insertion) → start ≤ so_far.count → AreNew start site so_far.cells → AreNew start site (with_pieces site pieces so_far).cells
pieces_new site start [] so_far h k = k
pieces_new site start (piece ∷ pieces) so_far h k =
    let next = listed_new site start piece.tags (chars piece.text) so_far h k in
    pieces_new site start pieces (with_listed site piece.tags (chars piece.text) so_far) next.0 next.1

-- THEIR TEXT

listed_text : (site : ℕ) (names : List Word) (text : List ℕ) (so_far : Insertion) → text_of (with_listed site names text so_far).cells ≡ text_of so_far.cells ++ text
listed_text site names [] so_far = sym (append-nil (text_of so_far.cells))
listed_text site names (c ∷ text) so_far =
    text_append so_far.cells (tagged_cells site so_far.count (shared_names names) (c ∷ text)) ∙ ap (λ t. text_of so_far.cells ++ t) (text_tagged site so_far.count (shared_names names) (c ∷ text))

pub pieces_are : (site : ℕ) (pieces : List Piece) (so_far : Insertion) → text_of (with_pieces site pieces so_far).cells ≡ text_of so_far.cells ++ pieces_text pieces
pieces_are site [] so_far = sym (append-nil (text_of so_far.cells))
pieces_are site (piece ∷ pieces) so_far =
    pieces_are site pieces (with_listed site piece.tags (chars piece.text) so_far)
    ∙ ap (λ t. t ++ pieces_text pieces) (listed_text site piece.tags (chars piece.text) so_far)
    ∙ append_assoc (text_of so_far.cells) (chars piece.text) (pieces_text pieces)

-- they are all visible
pub all_there : (count site : ℕ) (cells : List TaggedCell) → AreNew count site cells → visible_of cells ≡ cells
all_there count site [] h = refl
all_there count site (x ∷ xs) h = ap (λ b. cond (not b) (x ∷ visible_of xs) (visible_of xs)) h.0.there ∙ ap (λ l. x ∷ l) (all_there count site xs h.1)

pub there_counted : (count site : ℕ) (cells : List TaggedCell) → AreNew count site cells → length (text_of cells) ≡ length cells
there_counted count site cells h = length-map (visible_of cells) (λ (cell : TaggedCell). cell.ch) ∙ ap length (all_there count site cells h)

-- and no cell of the text has the stamp of one of them
pub none_new : {T : Type 0} (count site : ℕ) (cells : List (Cell T)) (new : List TaggedCell) (s : Stamp) → AreBelowNext count cells → 1 ≤ site → AreNew count site new
    → is_among (stamps_of cells) s ≡ true → is_among (stamps_of new) s ≡ false
none_new count site cells [] s below real h k = refl
none_new count site cells (x ∷ new) s below real h k =
    let apart : is_among (stamps_of cells) x.stamp ≡ false =
    ap (λ n. is_among (stamps_of cells) (record { count = x.stamp.count; site = n })) h.0.from ∙ new_apart count x.stamp.count site cells below h.0.above real in
    or_from _ (is_among (stamps_of new) s) (differs x.stamp s (stamps_of cells) apart k) (none_new count site cells new s below real h.1 k)
