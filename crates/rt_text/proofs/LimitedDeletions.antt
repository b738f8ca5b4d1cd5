-- What a deletion leaves of a document, where the widget that commands shows a stretch of it.
use Rattle.std.proofs.Common.{◌≡◌, ℕ, ◌-◌, ◌<◌, ◌≤◌, List, [], ◌∷◌, Bool, cond, false, length, map, refl, sym, ◌∙◌, ap, arith, subst, None, Some}
use Rattle.std.specs.Prelude.{is_some, option_map, slice_get, unwrap_or}
use Rattle.std.specs.List.{AllByRecursion}
use Rattle.std.proofs.lemmas.List.{length-map}
use Rattle.rt_marks.specs.Marks.{Mark, marks_left, place_left}
use Rattle.rt_ops.specs.Operations.{Body}
use Rattle.rt_stamps.specs.declared.limits.TheConstants.{GREATEST_COUNT, MOST_SPANS}
use Rattle.rt_stamps.specs.declared.stamp.Stamp.{Stamp}
use Rattle.rt_stamps.specs.declared.stamp.TheConstants.{FINAL}
use Rattle.rt_stamps.specs.Words.{Word}
use Rattle.rt_store.specs.declared.cell.Cell.{Cell}
use Rattle.rt_store.specs.Cells.{EndsFinal, text_of, visible_of}
use Rattle.rt_store.specs.Shown.{TaggedCell, shown}
use Rattle.rt_store.proofs.Shown.{text_shown, visible_at_shown}
use Rattle.rt_tags.specs.States.{TagStates, names_on, state_at}
use Rattle.rt_rga.specs.Cells.{cells_of}
use Rattle.rt_rga.specs.Drafts.{with_drafts}
use Rattle.rt_rga.specs.Histories.{IsHistory}
use Rattle.rt_rga.specs.Kept.{ReplicaValue}
use Rattle.rt_rga.specs.Made.{refusal_of}
use Rattle.rt_rga.specs.Requests.{MayBeMade}
use Rattle.rt_rga.proofs.Final.{ends_final}
use Rattle.rt_rga.proofs.Requests.{all_count_on}
use Rattle.rt_plans.specs.declared.range.Range.{Range}
use Rattle.rt_plans.specs.Deletions.{Loss, delete_drafts, loss_in, without_places, without_text}
use Rattle.rt_plans.specs.DraftLaws.{IsDocument, SparesLast}
use Rattle.rt_plans.specs.DocValue.{DocValue, logged}
use Rattle.rt_plans.specs.Selections.{unselected}
use Rattle.rt_plans.specs.TagWrites.{bared, cell_with_tag, with_tag}
use Rattle.rt_plans.proofs.CharacterCounts.{loss_inserts_none}
use Rattle.rt_plans.proofs.DeletionDraftLaws.{loss_counted, loss_made, loss_may, spares_last}
use Rattle.rt_plans.proofs.NewlineDrafts.{loss_has}
use Rattle.rt_plans.proofs.Putting.{tagged_state}
use Rattle.rt_plans.proofs.StateChanges.{text_changed}
use Rattle.rt_lines.specs.declared.limits.Limits.{Limits}
use Rattle.rt_lines.specs.declared.stretch.Stretch.{Stretch}
use Rattle.rt_lines.specs.Stretches.{part, stretch_of}
use Rattle.rt_lines.proofs.Parts.{part_length, part_map}
use Rattle.rt_lines.proofs.Shown.{stretch_shown}
use Rattle.rt_lines.proofs.Whole.{stretch_some, stretch_within}
use Rattle.rt_text.specs.Widgets.{WidgetValue, AreSiteMarks, IsOwnOf, last_newline, widget_without, reselected}
use Rattle.rt_text.specs.Commands.{clock_check, without_ranges}
use Rattle.rt_text.proofs.MadeDocument.{seen, seen_made, counts_alone, clock_fits}
use Rattle.rt_text.proofs.ViewLaws.{viewed}
use Rattle.rt_text.proofs.MarkLaws.{length_gone, own_of_left, own_of_selecting, site_left}
use Rattle.rt_text.proofs.PeerLaws.{each_by}

-- SELECTIONS

-- a selection without the last newline that is shown, where a deletion holds it
abbrev pub last_gone : Stamp → Bool → List Stamp → List Stamp
last_gone last held selection = cond held (unselected (last ∷ []) selection) selection

-- a widget after a deletion
abbrev pub widget_left : (ℕ → Bool) → Stamp → Bool → WidgetValue → WidgetValue
widget_left removed last held own = reselected (last_gone last held) (widget_without removed own)

-- WHAT IS SHOWN

-- the cells that are kept of a document tell the stretch and its characters
pub stretch_kept : (table : TagStates) (kept : List (Cell ℕ)) (cells : List TaggedCell) (limits : Limits) → map (shown table) kept ≡ cells → stretch_of kept limits ≡ stretch_of cells limits
stretch_kept table kept cells limits e = sym (stretch_shown (state_at table) kept limits) ∙ ap (λ (l : List TaggedCell). stretch_of l limits) e

pub text_kept : (table : TagStates) (kept : List (Cell ℕ)) (cells : List TaggedCell) → map (shown table) kept ≡ cells → text_of kept ≡ text_of cells
text_kept table kept cells e = sym (text_shown (state_at table) kept) ∙ ap text_of e

-- what a deletion of ranges takes of a stretch, by the whole text
pub loss_kept : (table : TagStates) (kept : List (Cell ℕ)) (document : DocValue) (limits : Limits) (stretch : Stretch) (ranges : List Range) → map (shown table) kept ≡ document.cells → stretch ≡ stretch_of kept limits
    → loss_in (part stretch (text_of kept)) stretch.begin ranges ≡ loss_in (map (λ cell. cell.ch) (part (stretch_of document.cells limits) (visible_of document.cells))) (stretch_of document.cells limits).begin ranges
loss_kept table kept document limits stretch ranges e s =
    let same : stretch ≡ stretch_of document.cells limits = s ∙ stretch_kept table kept document.cells limits e in
    (λ i. loss_in (part (same i) (text_kept table kept document.cells e i)) (same i).begin ranges)
    ∙ ap (λ t. loss_in t (stretch_of document.cells limits).begin ranges) (sym (part_map (λ (cell : TaggedCell). cell.ch) (stretch_of document.cells limits) (visible_of document.cells)))

-- the stamp of the last character
pub last_kept : (table : TagStates) (kept : List (Cell ℕ)) (document : DocValue) (own : WidgetValue) (others : List WidgetValue) (stretch : Stretch) (cell : Cell ℕ) → map (shown table) kept ≡ document.cells → stretch ≡ stretch_of kept own.limits
    → slice_get (visible_of kept) (stretch.end - 1) ≡ Some cell → cell.stamp ≡ last_newline (viewed document own others)
last_kept table kept document own others stretch cell e s h =
    let same : stretch ≡ stretch_of document.cells own.limits = s ∙ stretch_kept table kept document.cells own.limits e in
    let found : slice_get (visible_of document.cells) ((stretch_of document.cells own.limits).end - 1) ≡ Some (shown table cell) =
    (λ i. slice_get (visible_of (sym e i)) ((sym same i).end - 1)) ∙ visible_at_shown (state_at table) kept (stretch.end - 1) ∙ ap (option_map (shown table)) h in
    sym (ap (λ o. unwrap_or (option_map (λ (c : TaggedCell). c.stamp) o) FINAL) found)

-- WHAT A DELETION LEAVES

-- tags that are taken off a character leave all but cells and count
bared_rest : (names : List Word) (document : DocValue) (stamp : Stamp) → bared document stamp names ≡ record document { cells = (bared document stamp names).cells; count = (bared document stamp names).count }
bared_rest [] document stamp = refl
bared_rest (name ∷ names) document stamp = bared_rest names (with_tag document name false (stamp ∷ [])) stamp

bared_text : (names : List Word) (document : DocValue) (stamp : Stamp) → text_of (bared document stamp names).cells ≡ text_of document.cells
bared_text [] document stamp = refl
bared_text (name ∷ names) document stamp =
    bared_text names (with_tag document name false (stamp ∷ [])) stamp
    ∙ text_changed (cell_with_tag document.site document.count name false (stamp ∷ [])) (tagged_state document.site document.count name false (stamp ∷ [])) document.cells

-- what a deletion of ranges of what is shown takes
abbrev pub loss_of : DocValue → Limits → List Range → Loss
loss_of document limits ranges = loss_in (map (λ cell. cell.ch) (part (stretch_of document.cells limits) (visible_of document.cells))) (stretch_of document.cells limits).begin ranges

module _ (document : DocValue) (limits : Limits) (ranges : List Range) where
  abbrev pub drafts_of : List Body
  drafts_of = delete_drafts MOST_SPANS document (loss_of document limits ranges)

  abbrev removed_of : ℕ → Bool
  removed_of = (loss_of document limits ranges).places

  abbrev pub left_of : DocValue
  left_of = without_text document (loss_of document limits ranges)

  -- all but cells, count and marks
  pub deletion_rest : left_of ≡ record document { cells = left_of.cells; count = left_of.count; marks = marks_left removed_of document.marks }
  deletion_rest =
      loss_has (λ (f : DocValue). f ≡ record document { cells = f.cells; count = f.count; marks = marks_left removed_of document.marks }) document (loss_of document limits ranges) refl
      (λ cell e. bared_rest (names_on cell.state) (without_places document removed_of) cell.stamp)

  -- how many characters are left
  pub deletion_length : length (text_of left_of.cells) ≡ place_left removed_of (length (text_of document.cells))
  deletion_length =
      let n = length_gone removed_of document.cells in
      loss_has (λ (f : DocValue). length (text_of f.cells) ≡ place_left removed_of (length (text_of document.cells))) document (loss_of document limits ranges) n
      (λ cell e. ap length (bared_text (names_on cell.state) (without_places document removed_of) cell.stamp) ∙ n)

  module _ (h : IsHistory document.log) (doc : IsDocument document.site document.log document) where
    -- the text's last newline stays
    pub spared : SparesLast removed_of (text_of document.cells)
    spared =
        let ends : EndsFinal document.cells = subst EndsFinal (sym doc.cells) (ends_final document.log h) in
        let stretch = stretch_of document.cells limits in
        let shown : List ℕ = map (λ (cell : TaggedCell). cell.ch) (part stretch (visible_of document.cells)) in
        let within : stretch.end ≤ length (visible_of document.cells) = stretch_within document.cells limits ends in
        let some : stretch.begin < stretch.end = stretch_some document.cells limits ends in
        let size : length shown ≡ stretch.end - stretch.begin = length-map (part stretch (visible_of document.cells)) (λ (cell : TaggedCell). cell.ch) ∙ part_length stretch (visible_of document.cells) within in
        spares_last (text_of document.cells) shown stretch.begin ranges (omega (arith, size, within, some, length-map (visible_of document.cells) (λ (cell : TaggedCell). cell.ch)))

    pub deletion_may : MayBeMade document.site document.log drafts_of
    deletion_may = loss_may document.site document.log document (loss_of document limits ranges) h doc spared

    -- it is refused for its counts alone
    pub deletion_refusal : length document.cells ≤ document.limit → refusal_of document.limit drafts_of document.log ≡ clock_check left_of.count
    deletion_refusal few =
        counts_alone document.limit drafts_of document.log left_of.count (subst (λ l. length l ≤ document.limit) doc.cells few) (loss_inserts_none document (loss_of document limits ranges))
        (sym (all_count_on document.site drafts_of document.log) ∙ loss_counted document.site document.log document (loss_of document limits ranges) h doc)

    -- what the replica has then made, with the marks moved for some places, is seen as the document that the deletion leaves
    pub deletion_seen : 0 < document.site → (new : ReplicaValue) (marks : List Mark) (removed : ℕ → Bool) → new.log ≡ with_drafts document.site drafts_of document.log → new.cells ≡ cells_of new.log → new.site ≡ document.site
        → new.limit ≡ document.limit → refusal_of document.limit drafts_of document.log ≡ None → length document.cells ≤ document.limit → ((p : ℕ) → removed p ≡ removed_of p) → marks ≡ marks_left removed document.marks
        → seen new marks document.tags ≡ logged document drafts_of left_of
    deletion_seen positive new marks removed log cells site limit fits few places moved =
        let edited : DocValue = left_of in
        let count : edited.count ≤ GREATEST_COUNT = clock_fits edited.count (sym (deletion_refusal few) ∙ fits) in
        let all : marks ≡ edited.marks = moved ∙ (λ i. marks_left (λ p. places p i) document.marks) ∙ sym (ap (λ (f : DocValue). f.marks) deletion_rest) in
        let names : document.tags ≡ edited.tags = sym (ap (λ (f : DocValue). f.tags) deletion_rest) in
        (λ i. seen new (all i) (names i))
        ∙ seen_made document edited drafts_of new log cells site limit (ap (λ (f : DocValue). f.limit) deletion_rest) (loss_made document.site document.log document (loss_of document limits ranges) positive h doc spared count)

    -- what a widget's own becomes fits the text that is left, since the last newline stays
    pub deletion_own : (own : WidgetValue) (removed : ℕ → Bool) → ((p : ℕ) → removed p ≡ removed_of p) → IsOwnOf (length (text_of document.cells)) own
        → IsOwnOf (length (text_of left_of.cells)) (widget_without removed own)
    deletion_own own removed places k =
        let n = length (text_of document.cells) in
        subst (λ m. IsOwnOf m (widget_without removed own)) (sym deletion_length)
        (subst (IsOwnOf (place_left removed_of n)) (λ i. widget_without (λ p. sym (places p) i) own) (own_of_left n removed_of own spared k))

    -- and of each other one's
    pub deletion_others : (others : List WidgetValue) (removed : ℕ → Bool) (last : Stamp) (held : Bool) → ((p : ℕ) → removed p ≡ removed_of p) → AllByRecursion (IsOwnOf (length (text_of document.cells))) others
        → AllByRecursion (IsOwnOf (length (text_of left_of.cells))) (map (widget_left removed last held) others)
    deletion_others others removed last held places all =
        each_by (IsOwnOf (length (text_of document.cells))) (IsOwnOf (length (text_of left_of.cells))) (widget_left removed last held)
        (λ own k. own_of_selecting _ (widget_without removed own) (last_gone last held own.sel) (deletion_own own removed places k)) others all

  -- marks stay in the text that is left
  pub deletion_placed : (marks : List Mark) (removed : ℕ → Bool) → ((p : ℕ) → removed p ≡ removed_of p) → marks ≡ marks_left removed document.marks
      → AreSiteMarks (length (text_of document.cells)) document.marks → AreSiteMarks (length (text_of left_of.cells)) marks
  deletion_placed marks removed places moved h =
      let n = length (text_of document.cells) in
      let all : marks ≡ marks_left removed_of document.marks = moved ∙ (λ i. marks_left (λ p. places p i) document.marks) in
      subst (λ m. AreSiteMarks m marks) (sym deletion_length) (subst (AreSiteMarks (place_left removed_of n)) (sym all) (site_left n removed_of document.marks h))

-- the edit, by the places that go and whether the last newline is held
pub deletion_edited : (document : DocValue) (own : WidgetValue) (others : List WidgetValue) (ranges : List Range) (doc : DocValue) (removed : ℕ → Bool) (last : Stamp) (held : Bool) → doc ≡ logged document (drafts_of document own.limits ranges) (left_of document own.limits ranges)
    → ((p : ℕ) → removed p ≡ (loss_of document own.limits ranges).places p) → last ≡ last_newline (viewed document own others) → held ≡ is_some (loss_of document own.limits ranges).newline
    → without_ranges (viewed document own others) ranges ≡ record { doc = doc; own = widget_left removed last held own; others = map (widget_left removed last held) others }
deletion_edited document own others ranges doc removed last held made places newest e =
    λ i. record {
      doc = sym made i;
      own = widget_left (λ p. sym (places p) i) (sym newest i) (sym e i) own;
      others = map (widget_left (λ p. sym (places p) i) (sym newest i) (sym e i)) others;
    }
