-- Characters go from the working copy of a text as they do from the document.
use Rattle.std.proofs.Common.{◌<◌, ◌⊎◌, inl, inr, None, Some, ◌≡◌, ◌∙◌, ℕ, ◌+◌, ◌≤◌, Bool, true, false, List, [], ◌∷◌, ◌++◌, ◌||◌, cond, filter, get_or, length, map, refl, sym, ap, subst, arith}
use Rattle.std.proofs.lemmas.Bool.{or_from}
use Rattle.std.proofs.lemmas.List.{length-map, map-append}
use Rattle.std.proofs.lemmas.List.Elements.{All-map}
use Rattle.std.proofs.lemmas.List.Folds.{list_any-append}
use Rattle.std.proofs.lemmas.Option.{slice_get_cases}
use Rattle.std.specs.declared.alloc.Global.{Global}
use Rattle.std.specs.declared.vec.Vec.{Vec}
use Rattle.std.specs.List.{AllByRecursion, IsDistinct, list_all}
use Rattle.std.specs.Prelude.{option_map, slice_get, unwrap_or}
use Rattle.rt_ops.specs.Rules.{is_name}
use Rattle.rt_stamps.specs.declared.limits.TheConstants.{GREATEST_COUNT, MOST_SPANS}
use Rattle.rt_stamps.specs.declared.stamp.Span.{Span}
use Rattle.rt_stamps.specs.declared.stamp.Stamp.{Stamp}
use Rattle.rt_stamps.specs.declared.stamp.TheConstants.{FINAL}
use Rattle.rt_stamps.specs.Stamps.{is_same}
use Rattle.rt_stamps.proofs.Order.{same_sym}
use Rattle.rt_stamps.specs.Words.{as_words}
use Rattle.rt_ops.specs.Edits.{body_of}
use Rattle.rt_ops.specs.Operations.{Delete, stamps_of_span}
use Rattle.rt_marks.specs.Marks.{Mark, marks_left}
use Rattle.rt_store.specs.declared.cell.Cell.{Cell}
use Rattle.rt_store.specs.Cells.{stamps_of, visible_of}
use Rattle.rt_store.specs.Shown.{TaggedCell, shown}
use Rattle.rt_store.specs.Spans.{gone_in_any, is_among, is_in_spans}
use Rattle.rt_store.proofs.Distinct.{differs}
use Rattle.rt_store.proofs.Gone.{all_gone_states, length_stays, stamps_stay}
use Rattle.rt_tags.specs.States.{TagStates, state_at}
use Rattle.rt_tags.proofs.Sorted.{every_append}
use Rattle.rt_rga.proofs.RemovedPlaces.{fewer}
use Rattle.rt_rga.proofs.Writes.{spans_name}
use Rattle.rt_rga.specs.OneOrMany.{items_in}
use Rattle.rt_plans.specs.declared.range.Range.{Range}
use Rattle.rt_plans.specs.Insertions.{all_listed}
use Rattle.rt_plans.specs.NamedSpans.{parts_for, parts_of, spans_in}
use Rattle.rt_plans.specs.RemovalDrafts.{removal_drafts}
use Rattle.rt_plans.specs.Removals.{RangesFollow, cells_at, gone_at, is_covered, operations_for, span_count, stamps_at}
use Rattle.rt_plans.proofs.DistinctLaws.{distinct_at}
use Rattle.rt_plans.proofs.GoneLaws.{gone_from_spans}
use Rattle.rt_plans.proofs.NamedSpanLaws.{length_parts, spans_counted}
use Rattle.rt_plans.proofs.Shown.{stamps_at_shown}
use Rattle.rt_undo.specs.declared.action.RemovedSpan.{RemovedSpan}
use Rattle.rt_undo.specs.Actions.{Removed, group_of, removed_in, removed_of, removed_with}
use Rattle.rt_undo.specs.Renames.{is_moved, now_of}
use Rattle.rt_revert.specs.declared.losses.Losses.{Losses}
use Rattle.rt_revert.specs.declared.plan.TextChange.{TextChange}
use Rattle.rt_revert.specs.declared.plan.TextChange.TheVariants.{Removed as Gone}
use Rattle.rt_revert.specs.declared.progress.Progress.{Progress}
use Rattle.rt_revert.specs.Plans.{AreGiven, AreUpTo, IsTextChange, IsUpTo, marks_after, marks_changed, most_places, named_group, named_removed}
use Rattle.rt_revert.specs.Portions.{AreSmall, HasEach, Portion, offset_of, only, visible_before_stamp, whole_ranges}
use Rattle.rt_revert.specs.Progress.{IsCopy, IsOther, IsSoFar, IsUnderWay, LookAlike, spans_of}
use Rattle.rt_revert.specs.Reverting.{Reversion, are_at, as_removed, stamp_after, still_visible, with_removal}
use Rattle.rt_revert.proofs.Alike.{alike_at, alike_gone, alike_place_in, alike_stamps_at, alike_still, gone_at_shown, place_in_shown, same_drafts}
use Rattle.rt_revert.proofs.Counted.{later_cells, up_to_stamps}
use Rattle.rt_revert.proofs.Had.{had_all}
use Rattle.rt_revert.proofs.PortionGone.{AreHad, ends_within, gone_stamps, lost_named, lost_stamps, map_same, one, only_gone, others_gone, placed_all, singles, singles_covered, singles_order, stamps_only, still_only}
use Rattle.rt_revert.proofs.PortionLaws.{place_law}
use Rattle.rt_revert.proofs.TakenBack.{still_is}
use Rattle.rt_revert.proofs.WorkCells.{at_shown}

-- THE SPANS OF REMOVED CHARACTERS

abbrev stamp_in : {T : Type 0} → Removed T → Stamp
stamp_in r = r.stamp

of_span : (state : ℕ) (ss : List Stamp) → map stamp_in (map (removed_with state) ss) ≡ ss
of_span state [] = refl
of_span state (s ∷ ss) = ap (λ l. s ∷ l) (of_span state ss)

in_one : (span : Span) (s : Stamp) → is_in_spans (span ∷ []) s ≡ is_among (stamps_of_span span) s
in_one span s = sym (spans_name (span ∷ []) s) ∙ append_one (stamps_of_span span)
  where
    append_one : (ss : List Stamp) → is_among (ss ++ []) s ≡ is_among ss s
    append_one [] = refl
    append_one (x ∷ ss) = ap (λ b. is_same x s || b) (append_one ss)

or_false : (b : Bool) → (b || false) ≡ b
or_false true = refl
or_false false = refl

pub spans_removed : (removed : List RemovedSpan) (s : Stamp) → is_in_spans (spans_of removed) s ≡ is_among (map stamp_in (removed_in removed)) s
spans_removed [] s = refl
spans_removed (r ∷ rs) s =
    let first = removed_of r in
    (λ i. (sym (or_false _) ∙ in_one r.span s) i || spans_removed rs s i)
    ∙ sym (ap (λ l. is_among l s) (map-append stamp_in first (removed_in rs) ∙ ap (λ l. l ++ map stamp_in (removed_in rs)) (of_span r.state (stamps_of_span r.span)))
    ∙ list_any-append (λ t. is_same t s) (stamps_of_span r.span) (map stamp_in (removed_in rs)))

-- the stamps of the characters at some places
stamps_cond : (b d : Bool) (c : TaggedCell) (here next : List TaggedCell) (these others : List Stamp) → map stamp_in (map as_removed here) ≡ these → map stamp_in (map as_removed next) ≡ others
    → map stamp_in (map as_removed (cond b here (cond d (c ∷ next) next))) ≡ cond b these (cond d (c.stamp ∷ others) others)
stamps_cond true d c here next these others h k = h
stamps_cond false true c here next these others h k = ap (λ l. c.stamp ∷ l) k
stamps_cond false false c here next these others h k = k

removed_stamps : (places : ℕ → Bool) (p : ℕ) (cells : List TaggedCell) → map stamp_in (map as_removed (cells_at places p cells)) ≡ stamps_at places p cells
removed_stamps places p [] = refl
removed_stamps places p (c ∷ cs) =
    stamps_cond c.gone (places p) c (cells_at places p cs) (cells_at places (p + 1) cs) (stamps_at places p cs) (stamps_at places (p + 1) cs) (removed_stamps places p cs) (removed_stamps places (p + 1) cs)

named_stamps : (table : TagStates) (removed : List (Removed ℕ)) → map stamp_in (map (named_removed table) removed) ≡ map stamp_in removed
named_stamps table [] = refl
named_stamps table (r ∷ rs) = ap (λ l. r.stamp ∷ l) (named_stamps table rs)

-- none of the characters that go has a stamp that isn't asked for
none_step : (stamps : List Stamp) (s : Stamp) (c : TaggedCell) (rest : List TaggedCell) (b : Bool) → is_among stamps c.stamp ≡ b → is_among stamps s ≡ false
    → is_among (map stamp_in (map as_removed rest)) s ≡ false → is_among (map stamp_in (map as_removed (cond b (c ∷ rest) rest))) s ≡ false
none_step stamps s c rest true e n h = or_from (is_same c.stamp s) _ (same_sym c.stamp s ∙ differs s c.stamp stamps n e) h
none_step stamps s c rest false e n h = h

none_among : (stamps : List Stamp) (s : Stamp) (cells : List TaggedCell) → is_among stamps s ≡ false
    → is_among (map stamp_in (map as_removed (filter (λ (cell : TaggedCell). is_among stamps cell.stamp) cells))) s ≡ false
none_among stamps s [] n = refl
none_among stamps s (c ∷ cs) n = none_step stamps s c (filter (λ (cell : TaggedCell). is_among stamps cell.stamp) cs) (is_among stamps c.stamp) refl n (none_among stamps s cs n)

-- what was removed spares the final newline
pub spared : (table : TagStates) (stamps : List Stamp) (cells : List (Cell ℕ)) (removed : List RemovedSpan) → map (named_removed table) (removed_in removed) ≡ still_visible stamps (map (shown table) cells)
    → is_among stamps FINAL ≡ false → is_in_spans (spans_of removed) FINAL ≡ false
spared table stamps cells removed e n =
    spans_removed removed FINAL
    ∙ ap (λ l. is_among l FINAL) (sym (named_stamps table (removed_in removed)) ∙ ap (map stamp_in) e)
    ∙ none_among stamps FINAL (visible_of (map (shown table) cells)) n

-- WHAT THE OPERATIONS COUNT

pub drafts_counted : {T : Type 0} (places : ℕ → Bool) (cells : List (Cell T)) → IsDistinct is_same (stamps_of cells)
    → length (removal_drafts MOST_SPANS places cells) ≡ operations_for (span_count (stamps_at places 0 cells))
drafts_counted places cells d =
    let stamps = stamps_at places 0 cells in
    let spans = spans_in stamps in
    length-map (parts_of MOST_SPANS spans) (λ spans. Delete spans)
    ∙ length_parts (parts_for MOST_SPANS (length spans)) MOST_SPANS spans
    ∙ ap operations_for (spans_counted stamps (distinct_at places 0 cells d))

-- CHANGES

pub after_more : (changes : List TextChange) (change : TextChange) (marks : List Mark) → marks_after (changes ++ change ∷ []) marks ≡ marks_changed change (marks_after changes marks)
after_more [] change marks = refl
after_more (c ∷ changes) change marks = after_more changes change (marks_changed c marks)

-- what was taken out of a working copy
pub record Took (table : TagStates) (stamps : List Stamp) (old new : List (Cell ℕ)) (before after : Progress) (losses : Losses) (whole : Vec Range Global) : Type 0 where
  pub list : new ≡ map (gone_in_any (spans_of losses.removed.items)) old
  pub removed : map (named_removed table) (removed_in losses.removed.items) ≡ still_visible stamps (map (shown table) old)
  pub drafts : map body_of losses.drafts.items ≡ removal_drafts MOST_SPANS (are_at stamps old) old
  pub places : (place : ℕ) → is_covered losses.places.items place ≡ are_at stamps old place
  pub covered : (place : ℕ) → is_covered whole.items place ≡ is_covered (whole_ranges before.offsets old (stamps_at (is_covered losses.places.items) 0 old)) place
  pub order : RangesFollow 0 (whole_ranges before.offsets old (stamps_at (is_covered losses.places.items) 0 old)) → RangesFollow 0 whole.items
  pub new_drafts : items_in after.texts.drafts ≡ items_in before.texts.drafts ++ losses.drafts.items
  pub count : after.texts.count ≡ before.texts.count + length losses.drafts.items
  pub most : after.texts.count ≤ GREATEST_COUNT
  pub changes : after.changes.items ≡ before.changes.items ++ Gone whole ∷ []
  pub renames : after.renames ≡ before.renames
  pub names : after.names ≡ before.names
  pub returns : after.returns ≡ before.returns
  pub actions : after.actions ≡ before.actions
  pub offsets : after.offsets ≡ before.offsets

module _ (table : TagStates) (stamps : List Stamp) (old new : List (Cell ℕ)) (before after : Progress) (losses : Losses) (whole : Vec Range Global) where
  abbrev places : ℕ → Bool
  places = are_at stamps old

  abbrev all : List TaggedCell
  all = map (shown table) old

  shown_places : are_at stamps all ≡ places
  shown_places = λ i place. at_shown (state_at table) stamps old place i

  named_spans : map (named_removed table) (removed_in losses.removed.items) ≡ still_visible stamps all → (s : Stamp) → is_in_spans (spans_of losses.removed.items) s ≡ is_among (stamps_at places 0 old) s
  named_spans e s =
      spans_removed losses.removed.items s
      ∙ ap (λ l. is_among l s) (sym (named_stamps table (removed_in losses.removed.items)) ∙ ap (map stamp_in) (e ∙ still_is stamps all)
      ∙ removed_stamps (are_at stamps all) 0 all ∙ ap (λ (p : ℕ → Bool). stamps_at p 0 all) shown_places ∙ stamps_at_shown (state_at table) places 0 old)

  went : Took table stamps old new before after losses whole → IsDistinct is_same (stamps_of old) → new ≡ gone_at places 0 old
  went h d = h.list ∙ gone_from_spans places old (spans_of losses.removed.items) d (named_spans h.removed)

  same_gone : (spans : List Span) (c : Cell ℕ) → (gone_in_any spans c).stamp ≡ c.stamp
  same_gone spans c = elim (is_in_spans spans c.stamp) as (λ b. (cond b (record c { gone = true }) c).stamp ≡ c.stamp) [ true ↦ refl | false ↦ refl ]

  later : (spans : List Span) (cells : List (Cell ℕ)) (count more : ℕ) → count ≤ more → AreUpTo count cells → AreUpTo more (map (gone_in_any spans) cells)
  later spans cells count more le h =
      All-map (λ (cell : Cell ℕ). IsUpTo more cell.stamp) (gone_in_any spans) cells
      (λ k d lt. subst (IsUpTo more) (sym (same_gone spans (get_or cells k d))) (λ e. omega (arith, h k d lt e, le)))

  pub took_copy : Took table stamps old new before after losses whole → IsCopy table old before.texts.count → IsCopy table new after.texts.count
  took_copy h k =
      let spans = spans_of losses.removed.items in
      subst (λ cells. IsCopy table cells after.texts.count) (sym h.list) (record {
        states = all_gone_states table spans old k.states;
        distinct = subst (IsDistinct is_same) (sym (stamps_stay spans old)) k.distinct;
        few = omega (arith, length_stays spans old, k.few);
        older = later spans old before.texts.count after.texts.count (omega (arith, h.count)) k.older;
      })

  pub took_going : Took table stamps old new before after losses whole → IsUnderWay table before → IsUnderWay table after
  took_going h k = record {
    count = h.most;
    moved = λ s e. omega (arith, h.count, k.moved s (ap (λ m. is_moved m s) (sym h.renames) ∙ e));
    now = λ s. ap (λ m. now_of m s) h.renames ∙ k.now s ∙ ap (λ v. stamp_after v.items s) (sym h.returns);
    apart = subst (λ v. AllByRecursion IsOther v.items) (sym h.returns) k.apart;
    names = subst (λ v. list_all is_name (as_words v.items) ≡ true) (sym h.names) k.names;
    given = subst (λ v. AreGiven table (group_of v.items)) (sym h.actions) k.given;
    offsets = subst AreSmall (sym h.offsets) k.offsets;
  }

  -- the characters that go are those that go from the whole text
  named : (part : Portion) (r : Reversion) → AreHad part.has stamps → LookAlike all (only part.has r.doc.cells) → stamps_at (are_at stamps r.doc.cells) 0 r.doc.cells ≡ stamps_at places 0 old
  named part r had k =
      let ours = only part.has r.doc.cells in
      sym (stamps_only part.has stamps r.doc.cells had)
      ∙ ap (λ (p : ℕ → Bool). stamps_at p 0 ours) (sym (alike_at stamps all ours k))
      ∙ sym (alike_stamps_at (are_at stamps all) all ours k)
      ∙ stamps_at_shown (state_at table) (are_at stamps all) 0 old
      ∙ ap (λ (p : ℕ → Bool). stamps_at p 0 old) shown_places

  -- the counts of the operations
  pub lost_count : (number : ℕ) (part : Portion) (r : Reversion) → map body_of losses.drafts.items ≡ removal_drafts MOST_SPANS places old → IsDistinct is_same (stamps_of old)
      → HasEach part stamps → IsSoFar table number old before part r → (with_removal stamps r).doc.count ≡ before.texts.count + length losses.drafts.items
  lost_count number part r e d had s =
      let same = named part r (had_all part stamps had) s.cells in
      let counted : length losses.drafts.items ≡ operations_for (span_count (stamps_at (are_at stamps r.doc.cells) 0 r.doc.cells)) =
      sym (length-map losses.drafts.items body_of) ∙ ap length e ∙ drafts_counted places old d ∙ ap (λ ss. operations_for (span_count ss)) (sym same) in
      (λ i. s.count i + sym counted i)

  pub took_still : (number : ℕ) (part : Portion) (r : Reversion) → map (named_removed table) (removed_in losses.removed.items) ≡ still_visible stamps all
      → HasEach part stamps → IsSoFar table number old before part r → map (named_removed table) (removed_in losses.removed.items) ≡ still_visible stamps r.doc.cells
  took_still number part r e had s =
      e ∙ alike_still stamps all (only part.has r.doc.cells) s.cells ∙ still_only part.has stamps r.doc.cells (had_all part stamps had)

  -- where they stand in the whole text
  ranges_are : (number : ℕ) (part : Portion) (r : Reversion) → Took table stamps old new before after losses whole → AreHad part.has stamps → IsSoFar table number old before part r
      → whole_ranges before.offsets old (stamps_at (is_covered losses.places.items) 0 old) ≡ singles (are_at stamps r.doc.cells) 0 r.doc.cells
  ranges_are number part r h had s =
      let cells = r.doc.cells in
      let theirs = are_at stamps cells in
      let chosen : stamps_at (is_covered losses.places.items) 0 old ≡ stamps_at theirs 0 cells =
      ap (λ (p : ℕ → Bool). stamps_at p 0 old) (λ i place. h.places place i) ∙ sym (named part r had s.cells) in
      ap (whole_ranges before.offsets old) chosen
      ∙ map_same (λ t. one (visible_before_stamp old t + offset_of before.offsets t)) (λ t. one (visible_before_stamp cells t)) (stamps_at theirs 0 cells) (λ t k.
      let n = lost_named stamps cells t (ap (λ l. is_among l t) (sym (lost_stamps stamps cells)) ∙ k) in
      let has : part.has t ≡ true = had t n.0 in
      let ours : visible_before_stamp old t ≡ visible_before_stamp (only part.has cells) t = sym (place_in_shown (state_at table) old t) ∙ alike_place_in all (only part.has cells) t s.cells in
      let at : visible_before_stamp old t + offset_of before.offsets t ≡ visible_before_stamp cells t = omega (arith, ours, s.within.offsets t has n.1, place_law part.has cells t has n.1) in
      ap one at)
      ∙ placed_all theirs cells s.within.distinct

  -- a place where one of them stands is one of the text
  at_within : (cells : List TaggedCell) (place : ℕ) → are_at stamps cells place ≡ true → place < length cells
  at_within cells place e = by (slice_get_cases (visible_of cells) place).1
    where
      by : ((x : TaggedCell) × (place < length (visible_of cells)) × (slice_get (visible_of cells) place ≡ Some x) × (get_or (visible_of cells) place x ≡ x))
          ⊎ ((length (visible_of cells) ≤ place) × (slice_get (visible_of cells) place ≡ None)) → place < length cells
      by (inl x) = omega (arith, x.1, fewer cells)
      by (inr x) = absurd (let n : are_at stamps cells place ≡ false = ap (λ o. unwrap_or (option_map (λ (cell : TaggedCell). is_among stamps cell.stamp) o) false) x.1 in cc (n, e))

  pub took_so_far : Took table stamps old new before after losses whole → IsDistinct is_same (stamps_of old) → (number : ℕ) (part : Portion) (r : Reversion)
      → HasEach part stamps → IsSoFar table number old before part r → IsSoFar table number new after part (with_removal stamps r)
  took_so_far h d number part r has s =
      let had = had_all part stamps has in
      let cells = r.doc.cells in
      let ours = only part.has cells in
      let theirs = are_at stamps cells in
      let left = gone_at theirs 0 cells in
      let same : places ≡ are_at stamps ours = sym shown_places ∙ alike_at stamps all ours s.cells in
      let ranges = ranges_are number part r h had s in
      let covers : (place : ℕ) → is_covered whole.items place ≡ theirs place =
      λ place. h.covered place ∙ ap (λ l. is_covered l place) ranges ∙ singles_covered stamps cells place in
      let ordered : RangesFollow 0 whole.items = h.order (subst (RangesFollow 0) (sym ranges) (singles_order theirs 0 0 cells (omega arith))) in
      let change : IsTextChange (Gone whole) =
      (ordered, ends_within whole.items 0 most_places ordered (λ place e. omega (arith, at_within cells place (sym (covers place) ∙ e), s.within.few, h.count, h.most))) in
      let copied : map (shown table) new ≡ gone_at (are_at stamps ours) 0 all =
      ap (map (shown table)) (went h d) ∙ sym (gone_at_shown (state_at table) places 0 old) ∙ ap (λ (p : ℕ → Bool). gone_at p 0 all) same in
      let stays : stamps_of left ≡ stamps_of cells = gone_stamps stamps cells in
      record {
        cells = subst (λ (l : List TaggedCell). LookAlike (map (shown table) new) l) (sym (only_gone part.has stamps cells))
            (subst (λ (l : List TaggedCell). LookAlike l (gone_at (are_at stamps ours) 0 ours)) (sym copied) (alike_gone (are_at stamps ours) all ours s.cells));
        within = record {
          newer = λ t lt. s.within.newer t (omega (arith, h.count, lt));
          back = s.within.back;
          offsets = λ t k a. ap (λ m. offset_of m t) h.offsets ∙ s.within.offsets t k (ap (λ l. is_among l t) (sym stays) ∙ a) ∙ sym (others_gone part.has stamps cells t had);
          distinct = subst (IsDistinct is_same) (sym stays) s.within.distinct;
          older = up_to_stamps after.texts.count left cells stays (later_cells before.texts.count after.texts.count cells (omega (arith, h.count)) s.within.older);
          few = omega (arith, sym (length-map left (λ (c : TaggedCell). c.stamp)) ∙ ap length stays ∙ length-map cells (λ (c : TaggedCell). c.stamp), s.within.few, h.count);
        };
        site = s.site;
        count = lost_count number part r h.drafts d has s ∙ sym h.count;
        drafts = (λ i. s.drafts i ++ (same_drafts theirs places cells old (named part r had s.cells) ∙ sym h.drafts) i)
            ∙ sym (map-append body_of (items_in before.texts.drafts) losses.drafts.items) ∙ ap (map body_of) (sym h.new_drafts);
        returns = s.returns ∙ ap (λ v. v.items) (sym h.returns);
        actions = s.actions ∙ ap (λ v. named_group table (group_of v.items)) (sym h.actions);
        changes = subst (AllByRecursion IsTextChange) (sym h.changes) (every_append IsTextChange before.changes.items (Gone whole ∷ []) s.changes (change, tt));
        marks = ap (marks_left theirs) s.marks ∙ ap (λ (p : ℕ → Bool). marks_left p (marks_after before.changes.items part.doc.marks)) (λ i place. sym (covers place) i)
            ∙ sym (after_more before.changes.items (Gone whole) part.doc.marks) ∙ ap (λ l. marks_after l part.doc.marks) (sym h.changes);
        tags = s.tags ∙ ap (λ v. all_listed (as_words v.items) part.doc.tags) (sym h.names);
      }
