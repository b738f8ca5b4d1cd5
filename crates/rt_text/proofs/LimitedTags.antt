-- Tags that are written on characters of what a widget shows.
use Rattle.std.proofs.Common.{◌≡◌, ◌∙◌, ℕ, ◌-◌, ◌+◌, ◌<◌, ◌≤◌, ◌&&◌, All, Bool, true, false, cond, List, ap, arith, length, map, subst, sym, take}
use Rattle.std.specs.Prelude.{nat_lt, slice_get}
use Rattle.std.specs.Str.{bytes_eq}
use Rattle.std.proofs.lemmas.Bool.{cond-false, cond-true}
use Rattle.std.proofs.lemmas.List.{length-map, take-map}
use Rattle.rt_stamps.specs.declared.limits.TheConstants.{MOST_SPANS}
use Rattle.rt_stamps.specs.declared.stamp.Stamp.{Stamp}
use Rattle.rt_stamps.specs.Words.{Word}
use Rattle.rt_store.specs.declared.cell.Cell.{Cell}
use Rattle.rt_store.specs.Cells.{text_of, visible_of}
use Rattle.rt_store.specs.Shown.{TaggedCell, shown}
use Rattle.rt_store.specs.Tagged.{last_place, next_place, previous_place}
use Rattle.rt_store.proofs.Shown.{last_map, next_map, visible_shown}
use Rattle.rt_tags.specs.States.{TagStates, state_at}
use Rattle.rt_tags.specs.Tags.{sel}
use Rattle.rt_plans.specs.declared.range.Range.{Range}
use Rattle.rt_plans.specs.Deletions.{places_from}
use Rattle.rt_plans.specs.DocValue.{logged}
use Rattle.rt_plans.specs.Removals.{is_covered, stamps_at}
use Rattle.rt_plans.specs.Selections.{selection_with}
use Rattle.rt_plans.specs.TagDrafts.{tag_drafts_at}
use Rattle.rt_plans.specs.TagWrites.{listed_if, with_tag_at}
use Rattle.rt_plans.proofs.Shown.{stamps_at_shown}
use Rattle.rt_lines.specs.declared.limits.Limits.{Limits}
use Rattle.rt_lines.specs.declared.stretch.Stretch.{Stretch}
use Rattle.rt_lines.specs.Stretches.{part, shown_part, stretch_of}
use Rattle.rt_lines.proofs.Parts.{part_get, part_length, part_map}
use Rattle.rt_text.specs.Commands.{with_tag_in}
use Rattle.rt_text.specs.Widgets.{WidgetValue, ViewValue, length_shown, places_in_text, stretch_by}
use Rattle.rt_text.proofs.LimitedDeletions.{stretch_kept}
use Rattle.rt_text.proofs.PutLaws.{visible_same}

-- PLACES

-- as many characters are shown as there are places
pub shown_length : (cells : List TaggedCell) (stretch : Stretch) → stretch.end ≤ length (visible_of cells) → length (map (λ cell. cell.ch) (part stretch (visible_of cells))) ≡ stretch.end - stretch.begin
shown_length cells stretch h = length-map (part stretch (visible_of cells)) (λ (cell : TaggedCell). cell.ch) ∙ part_length stretch (visible_of cells) h

pub shown_size : (view : ViewValue) (stretch : Stretch) → stretch ≡ stretch_by view → stretch.end ≤ length (text_of view.doc.cells) → stretch.end - stretch.begin ≡ length_shown view
shown_size view stretch s h =
    let within : stretch.end ≤ length (visible_of view.doc.cells) = omega (arith, h, length-map (visible_of view.doc.cells) (λ (cell : TaggedCell). cell.ch)) in
    (λ i. (s i).end - (s i).begin) ∙ sym (shown_length view.doc.cells (stretch_by view) (subst (λ (x : Stretch). x.end ≤ length (visible_of view.doc.cells)) s within))

-- ranges of what is shown, as those of the text
pub places_are : (view : ViewValue) (ranges : List Range) (stretch : Stretch) (within : ℕ → Bool) → stretch ≡ stretch_by view → stretch.end ≤ length (visible_of view.doc.cells)
    → ((p : ℕ) → within p ≡ places_from stretch.begin (λ q. nat_lt q (stretch.end - stretch.begin) && is_covered ranges q) p) → (p : ℕ) → within p ≡ places_in_text view (is_covered ranges) p
places_are view ranges stretch within s l h = λ p.
    let size : stretch.end - stretch.begin ≡ length_shown view =
    (λ i. (s i).end - (s i).begin) ∙ sym (shown_length view.doc.cells (stretch_by view) (subst (λ (x : Stretch). x.end ≤ length (visible_of view.doc.cells)) s l)) in
    h p ∙ (λ i. places_from (s i).begin (λ q. nat_lt q (size i) && is_covered ranges q) p)

pub up_to_end : (n end : ℕ) (ranges : List Range) → end ≤ n → All (λ range. range.to ≤ end) ranges → All (λ range. range.to ≤ n) ranges
up_to_end n end ranges l h = λ i d lt. omega (arith, l, h i d lt)

pub stamps_kept : (table : TagStates) (kept : List (Cell ℕ)) (cells : List TaggedCell) (places : ℕ → Bool) → map (shown table) kept ≡ cells → stamps_at places 0 kept ≡ stamps_at places 0 cells
stamps_kept table kept cells places e = sym (stamps_at_shown (state_at table) places 0 kept) ∙ ap (stamps_at places 0) e

-- A TAG

-- one that is written on the characters at some places
abbrev tag_by : ViewValue → Bool → Word → (ℕ → Bool) → ViewValue
tag_by view on name places =
    cond (bytes_eq name sel) (record view { own = record view.own { sel = selection_with on (stamps_at places 0 view.doc.cells) view.own.sel } })
    (record view { doc = logged view.doc (tag_drafts_at MOST_SPANS places on name view.doc.cells) (listed_if on name (with_tag_at view.doc places on name)) })

tag_is : (view : ViewValue) (on : Bool) (name : Word) (ranges : List Range) (within : ℕ → Bool) → ((p : ℕ) → within p ≡ places_in_text view (is_covered ranges) p)
    → with_tag_in view on name ranges ≡ tag_by view on name within
tag_is view on name ranges within h = λ i. tag_by view on name (λ p. sym (h p) i)

-- `sel`, and any other one
pub tag_own : (view : ViewValue) (on : Bool) (name : Word) (ranges : List Range) (within : ℕ → Bool) → ((p : ℕ) → within p ≡ places_in_text view (is_covered ranges) p) → bytes_eq name sel ≡ true
    → with_tag_in view on name ranges ≡ record view { own = record view.own { sel = selection_with on (stamps_at within 0 view.doc.cells) view.own.sel } }
tag_own view on name ranges within h named = tag_is view on name ranges within h ∙ cond-true (bytes_eq name sel) _ _ named

pub tag_shared : (view : ViewValue) (on : Bool) (name : Word) (ranges : List Range) (within : ℕ → Bool) → ((p : ℕ) → within p ≡ places_in_text view (is_covered ranges) p) → bytes_eq name sel ≡ false
    → with_tag_in view on name ranges
    ≡ record view { doc = logged view.doc (tag_drafts_at MOST_SPANS within on name view.doc.cells) (listed_if on name (with_tag_at view.doc within on name)) }
tag_shared view on name ranges within h named = tag_is view on name ranges within h ∙ cond-false (bytes_eq name sel) _ _ named

-- LOOK-UPS

-- the next place that is shown whose character has a tag
pub next_kept : (table : TagStates) (kept : List (Cell ℕ)) (cells : List TaggedCell) (limits : Limits) (stretch : Stretch) (stamps : List Stamp) (own : WidgetValue) (test : List Stamp → TaggedCell → Bool) (place : ℕ) → map (shown table) kept ≡ cells
    → stretch ≡ stretch_of kept limits → limits ≡ own.limits → stamps ≡ own.sel
    → next_place (λ cell. test stamps (shown table cell)) (part stretch (visible_of kept)) place ≡ next_place (test own.sel) (shown_part cells own.limits) place
next_kept table kept cells limits stretch stamps own test place e s l n =
    let same : stretch ≡ stretch_of cells own.limits = s ∙ ap (stretch_of kept) l ∙ stretch_kept table kept cells own.limits e in
    sym (next_map (test stamps) (shown table) (part stretch (visible_of kept)) place)
    ∙ ap (λ xs. next_place (test stamps) xs place) (part_map (shown table) stretch (visible_of kept) ∙ ap (part stretch) (sym (visible_shown (state_at table) kept)))
    ∙ (λ i. next_place (test (n i)) (part (same i) (visible_of (e i))) place)

-- the greatest one below a place
pub previous_kept : (table : TagStates) (kept : List (Cell ℕ)) (cells : List TaggedCell) (limits : Limits) (stretch : Stretch) (stamps : List Stamp) (own : WidgetValue) (test : List Stamp → TaggedCell → Bool) (place : ℕ) → map (shown table) kept ≡ cells
    → stretch ≡ stretch_of kept limits → limits ≡ own.limits → stamps ≡ own.sel
    → previous_place (λ cell. test stamps (shown table cell)) (part stretch (visible_of kept)) place ≡ previous_place (test own.sel) (shown_part cells own.limits) place
previous_kept table kept cells limits stretch stamps own test place e s l n =
    let same : stretch ≡ stretch_of cells own.limits = s ∙ ap (stretch_of kept) l ∙ stretch_kept table kept cells own.limits e in
    sym (last_map (test stamps) (shown table) (take place (part stretch (visible_of kept))))
    ∙ ap (last_place (test stamps)) (sym (take-map (shown table) place (part stretch (visible_of kept))))
    ∙ ap (λ xs. previous_place (test stamps) xs place) (part_map (shown table) stretch (visible_of kept) ∙ ap (part stretch) (sym (visible_shown (state_at table) kept)))
    ∙ (λ i. previous_place (test (n i)) (part (same i) (visible_of (e i))) place)

-- a place that is shown is one of the text
pub place_kept : (table : TagStates) (kept : List (Cell ℕ)) (cells : List TaggedCell) (limits : Limits) (stretch : Stretch) (own : WidgetValue) (place : ℕ) → map (shown table) kept ≡ cells → stretch ≡ stretch_of kept limits → limits ≡ own.limits
    → stretch.end ≤ length (visible_of kept) → place < length (shown_part cells own.limits)
    → (place < stretch.end - stretch.begin) × (slice_get (shown_part cells own.limits) place ≡ slice_get (visible_of cells) (stretch.begin + place))
place_kept table kept cells limits stretch own place e s l h within =
    let same : stretch ≡ stretch_of cells own.limits = s ∙ ap (stretch_of kept) l ∙ stretch_kept table kept cells own.limits e in
    let few : stretch.end ≤ length (visible_of cells) = omega (arith, h, visible_same table kept cells e) in
    let size : length (part stretch (visible_of cells)) ≡ stretch.end - stretch.begin = part_length stretch (visible_of cells) few in
    let less : place < length (part stretch (visible_of cells)) = subst (λ (x : Stretch). place < length (part x (visible_of cells))) (sym same) within in
    let below : place < stretch.end - stretch.begin = omega (arith, size, less) in
    (below, ap (λ (x : Stretch). slice_get (part x (visible_of cells)) place) (sym same) ∙ part_get stretch (visible_of cells) place below)
