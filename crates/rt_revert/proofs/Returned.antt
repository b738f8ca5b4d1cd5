-- Characters come back into the working copy of a text as they do into the document.
use Rattle.std.proofs.Common.{All, ◌≡◌, ◌∙◌, ℕ, ◌+◌, ◌<◌, ◌≤◌, ◌⊎◌, inl, inr, Bool, true, false, List, [], ◌∷◌, ◌++◌, ◌||◌, cond, drop, filter, length, map, refl, sym, ap, subst, append_assoc, arith, length-take, take, Option, Some, None}
use Rattle.std.specs.Prelude.{option_map, unwrap_or}
use Rattle.std.proofs.lemmas.Bool.{and_from}
use Rattle.std.proofs.lemmas.Bool.Decides.{nat_tests}
use Rattle.std.proofs.lemmas.List.Folds.{list_all-append}
use Rattle.std.specs.List.{AllByRecursion, list_all}
use Rattle.rt_stamps.specs.declared.limits.TheConstants.{GREATEST_COUNT, MOST_CELLS, MOST_CHARACTERS}
use Rattle.rt_stamps.specs.declared.stamp.Stamp.{Stamp}
use Rattle.rt_stamps.specs.declared.stamp.TheConstants.{FINAL, ROOT}
use Rattle.rt_stamps.specs.Stamps.{is_same}
use Rattle.rt_stamps.specs.Words.{Word, as_words}
use Rattle.rt_stamps.proofs.Order.{same_from_true, same_sym}
use Rattle.rt_ops.specs.Edits.{body_of}
use Rattle.rt_ops.specs.Rules.{is_name}
use Rattle.rt_marks.specs.Marks.{marks_inserted}
use Rattle.rt_store.specs.declared.cell.Cell.{Cell}
use Rattle.rt_store.specs.Cells.{AreDistinct, EndsFinal, IsPlaced, after_element, skip_from, stamps_of, visible_before}
use Rattle.rt_store.specs.Shown.{TaggedCell, shown}
use Rattle.rt_store.specs.Spans.{is_among}
use Rattle.rt_store.proofs.Distinct.{new_apart, split}
use Rattle.rt_store.proofs.GivenStates.{one_state, spliced_states}
use Rattle.rt_store.proofs.Places.{length_put, placed}
use Rattle.rt_store.proofs.Shown.{stamps_shown}
use Rattle.rt_tags.specs.States.{IsByName, IsState, TagStates, Write, names_on, state_at}
use Rattle.rt_tags.proofs.Sorted.{every_append}
use Rattle.rt_rga.proofs.RemovedPlaces.{fewer}
use Rattle.rt_rga.specs.OneOrMany.{items_in}
use Rattle.rt_plans.specs.DraftLaws.{AreTagNames}
use Rattle.rt_plans.specs.DocValue.{put_after}
use Rattle.rt_plans.specs.InsertionDrafts.{text_drafts}
use Rattle.rt_plans.specs.Insertions.{all_listed, counts_for, new_state, tagged_cells}
use Rattle.rt_plans.proofs.CellLaws.{skip_from_newest}
use Rattle.rt_plans.proofs.LastNames.{Rise, new_names, rise_to, sorted_filter}
use Rattle.rt_plans.proofs.PlanLaws.{all_append}
use Rattle.rt_undo.specs.Actions.{Removed, group_of}
use Rattle.rt_undo.specs.Renames.{is_moved, now_of, replaced}
use Rattle.rt_revert.specs.declared.plan.TextChange.TheVariants.{Inserted}
use Rattle.rt_revert.specs.declared.progress.Progress.{Progress}
use Rattle.rt_revert.specs.Plans.{AreGiven, AreUpTo, IsTextChange, marks_after, named_group}
use Rattle.rt_revert.specs.declared.plan.Return.{Return}
use Rattle.rt_revert.specs.Portions.{Portion, offset_behind, offset_of, only, others_before}
use Rattle.rt_revert.specs.Progress.{IsCopy, IsOther, IsSoFar, IsUnderWay, LookAlike}
use Rattle.rt_revert.specs.Reverting.{Reversion, gone_cell_of, stamp_after, with_insertion, with_return}
use Rattle.rt_revert.proofs.Alike.{alike_character, alike_place, alike_put, alike_stamps, character, character_shown, place_shown, put_shown}
use Rattle.rt_revert.proofs.CellsParted.{put_among, put_distinct}
use Rattle.rt_revert.proofs.Counted.{all_below, later_cells, new_up_to, put_up_to, up_to}
use Rattle.rt_revert.proofs.Had.{after_had}
use Rattle.rt_revert.proofs.PortionLaws.{only_among, only_gone_cell, only_has, only_put, others_new, others_put, spot_law}
use Rattle.rt_revert.proofs.Stamps.{site_apart}
use Rattle.rt_revert.proofs.TakenBack.{stamp_after_more}
use Rattle.rt_revert.proofs.Went.{after_more}

-- THE NAMES OF A STATE

pub state_rises : (state : List Write) → IsByName state → Rise (names_on state)
state_rises state h = rise_to (filter (λ (w : Write). w.on) state) (sorted_filter (λ (w : Write). w.on) state h)

-- A CHARACTER CAME BACK

-- the new cell
abbrev pub new_of : ℕ → Progress → Cell ℕ → Cell ℕ
new_of site before cell = record { stamp = record { count = before.texts.count + 1; site = site }; ch = cell.ch; gone = false; state = cell.state }

-- what was put into a working copy
pub record Came (site : ℕ) (table : TagStates) (old new : List (Cell ℕ)) (before after : Progress) (cell : Cell ℕ) (place : ℕ) (words : List Word) : Type 0 where
  pub positive : 0 < site
  pub is : words ≡ names_on (state_at table cell.state)
  pub list : new ≡ put_after old cell.stamp (new_of site before cell ∷ [])
  pub few : length new ≤ MOST_CELLS
  pub at : place ≡ visible_before old (after_element old cell.stamp)
  pub drafts : map body_of (items_in after.texts.drafts) ≡ map body_of (items_in before.texts.drafts) ++ text_drafts MOST_CHARACTERS site before.texts.count cell.stamp words (cell.ch ∷ [])
  pub count : after.texts.count ≡ before.texts.count + counts_for words (cell.ch ∷ [])
  pub most : after.texts.count ≤ GREATEST_COUNT
  pub now : (s : Stamp) → now_of after.renames s ≡ replaced cell.stamp (new_of site before cell).stamp (now_of before.renames s)
  pub moved : (s : Stamp) → is_moved after.renames s ≡ (is_same s cell.stamp || is_moved before.renames s)
  pub returns : after.returns.items ≡ before.returns.items ++ record { former = cell.stamp; newer = (new_of site before cell).stamp } ∷ []
  pub changes : after.changes.items ≡ before.changes.items ++ Inserted (place + offset_behind before.offsets cell.stamp) ∷ []
  pub names : as_words after.names.items ≡ as_words before.names.items ++ words
  pub actions : after.actions ≡ before.actions
  pub offsets : (s : Stamp) → offset_of after.offsets s ≡ cond (is_same s (new_of site before cell).stamp) (offset_behind before.offsets cell.stamp) (offset_of before.offsets s)

-- what is known of the character
pub record IsThere (table : TagStates) (old : List (Cell ℕ)) (cell : Cell ℕ) : Type 0 where
  pub state : IsState table cell.state
  pub names : AreTagNames (names_on (state_at table cell.state))
  pub rise : Rise (names_on (state_at table cell.state))
  pub there : is_among (stamps_of old) cell.stamp ≡ true
  pub other : is_same cell.stamp FINAL ≡ false

module _ (site : ℕ) (table : TagStates) (old new : List (Cell ℕ)) (before after : Progress) (cell : Cell ℕ) (place : ℕ) (words : List Word) where
  abbrev this : Cell ℕ
  this = new_of site before cell

  pub fresh : 0 < site → IsCopy table old before.texts.count → is_among (stamps_of old) this.stamp ≡ false
  fresh p k = new_apart before.texts.count (before.texts.count + 1) site old (all_below before.texts.count old k.older) (omega arith) p

  pub came_copy : Came site table old new before after cell place words → IsThere table old cell → IsCopy table old before.texts.count → IsCopy table new after.texts.count
  came_copy h t k =
      let more : before.texts.count + 1 ≤ after.texts.count = omega (arith, h.count) in
      record {
        states = subst (λ (l : List (Cell ℕ)). All (λ (c : Cell ℕ). IsState table c.state) l) (sym h.list) (spliced_states table (after_element old cell.stamp) old (this ∷ []) k.states (one_state table this t.state));
        distinct = subst AreDistinct (sym h.list) (put_distinct old cell.stamp this k.distinct (fresh h.positive k));
        few = h.few;
        older = subst (AreUpTo after.texts.count) (sym h.list) (put_up_to after.texts.count old cell.stamp (this ∷ []) (later_cells before.texts.count after.texts.count old (omega arith) k.older)
            (new_up_to after.texts.count this more));
      }

  or_cases : (a b : Bool) → (a || b) ≡ true → (a ≡ true) ⊎ (b ≡ true)
  or_cases true b e = inl refl
  or_cases false b e = inr e

  small : (a b : Bool) (n m : ℕ) → n ≤ MOST_CELLS → m ≤ MOST_CELLS → cond a (cond b 0 n) m ≤ MOST_CELLS
  small true true n m h k = omega arith
  small true false n m h k = h
  small false b n m h k = k

  pub came_going : Came site table old new before after cell place words → IsThere table old cell → IsCopy table old before.texts.count → IsUnderWay table before → IsUnderWay table after
  came_going h t k g =
      let more : before.texts.count + 1 ≤ after.texts.count = omega (arith, h.count) in
      record {
        count = h.most;
        moved = λ s e. elim (or_cases (is_same s cell.stamp) (is_moved before.renames s) (sym (h.moved s) ∙ e)) [
          | inl i ↦ let same : s ≡ cell.stamp = same_from_true s cell.stamp i in
              let le : cell.stamp.count ≤ before.texts.count = up_to before.texts.count old cell.stamp k.older t.there t.other in
              subst (λ (u : Stamp). u.count ≤ after.texts.count) (sym same) (omega (arith, le, more))
          | inr i ↦ omega (arith, g.moved s i, more)
        ];
        now = λ s. h.now s ∙ ap (replaced cell.stamp this.stamp) (g.now s) ∙ sym (stamp_after_more before.returns.items (record { former = cell.stamp; newer = this.stamp }) s)
            ∙ ap (λ l. stamp_after l s) (sym h.returns);
        apart = subst (AllByRecursion IsOther) (sym h.returns) (every_append IsOther before.returns.items (record { former = cell.stamp; newer = this.stamp } ∷ []) g.apart (site_apart this.stamp h.positive, tt));
        names = ap (list_all is_name) h.names ∙ list_all-append is_name (as_words before.names.items) words
            ∙ and_from _ _ g.names (ap (list_all is_name) h.is ∙ t.names.each);
        given = subst (λ v. AreGiven table (group_of v.items)) (sym h.actions) g.given;
        offsets = λ s. subst (λ n. n ≤ MOST_CELLS) (sym (h.offsets s)) (small (is_same s this.stamp) (is_same cell.stamp ROOT) (offset_of before.offsets cell.stamp) (offset_of before.offsets s) (g.offsets cell.stamp) (g.offsets s));
      }

  -- the new cell of the document
  abbrev next_cell : Reversion → List Word → TaggedCell
  next_cell r tags = record { stamp = record { count = r.doc.count + 1; site = r.doc.site }; ch = cell.ch; gone = false; state = new_state r.doc.site (r.doc.count + 1) tags }

  -- the new cell, with its names
  alike_new : (r : Reversion) (tags : List Word) → tags ≡ names_on (state_at table cell.state) → Rise tags → r.doc.site ≡ site → r.doc.count ≡ before.texts.count
      → LookAlike (map (shown table) (this ∷ [])) (tagged_cells r.doc.site r.doc.count tags (cell.ch ∷ []))
  alike_new r tags e rise s n =
      let state : names_on (state_at table cell.state) ≡ names_on (new_state r.doc.site (r.doc.count + 1) tags) = sym e ∙ sym (new_names r.doc.site (r.doc.count + 1) tags rise) in
      record { names = λ i. record { stamp = record { count = sym n i + 1; site = sym s i }; ch = cell.ch; gone = false; state = state i } ∷ [] }

  pub came_so_far : Came site table old new before after cell place words → IsThere table old cell → (part : Portion) (r : Reversion) → part.has cell.stamp ≡ true
      → IsSoFar table site old before part r → IsSoFar table site new after part (with_insertion cell.stamp (names_on (state_at table cell.state)) cell.ch r)
  came_so_far h t part r had s =
      let tags = names_on (state_at table cell.state) in
      let all : List TaggedCell = map (shown table) old in
      let whole = r.doc.cells in
      let ours = only part.has whole in
      let next = next_cell r tags in
      let more : List TaggedCell = next ∷ [] in
      let same : next.stamp ≡ this.stamp = λ i. record { count = s.count i + 1; site = s.site i } in
      let there : is_among (stamps_of whole) cell.stamp ≡ true =
      sym (only_among part.has whole cell.stamp had) ∙ ap (λ l. is_among l cell.stamp) (sym (alike_stamps all ours s.cells) ∙ stamps_shown (state_at table) old) ∙ t.there in
      let has : part.has next.stamp ≡ true = s.within.newer next.stamp (omega (arith, s.count)) in
      let fresh : is_among (stamps_of whole) next.stamp ≡ false =
      ap (is_among (stamps_of whole)) same ∙ new_apart before.texts.count (before.texts.count + 1) site whole (all_below before.texts.count whole s.within.older) (omega arith) h.positive in
      let cells : map (shown table) new ≡ put_after all cell.stamp (map (shown table) (this ∷ [])) = ap (map (shown table)) h.list ∙ put_shown (state_at table) old cell.stamp (this ∷ []) in
      let offset : cond (is_same cell.stamp ROOT) 0 (others_before part.has whole cell.stamp) ≡ offset_behind before.offsets cell.stamp =
      ap (cond (is_same cell.stamp ROOT) 0) (sym (s.within.offsets cell.stamp had there)) in
      let ours_at : visible_before ours (after_element ours cell.stamp) ≡ place =
      sym (alike_place all ours cell.stamp s.cells) ∙ place_shown (state_at table) old cell.stamp ∙ sym h.at in
      let spot : visible_before whole (after_element whole cell.stamp) ≡ place + offset_behind before.offsets cell.stamp =
      spot_law part.has whole cell.stamp had there ∙ (λ i. ours_at i + offset i) in
      let change : IsTextChange (Inserted (place + offset_behind before.offsets cell.stamp)) =
      omega (arith, spot, fewer (take (after_element whole cell.stamp) whole), length-take (after_element whole cell.stamp) whole, s.within.few, h.count, h.most) in
      let up : before.texts.count + 1 ≤ after.texts.count = omega (arith, h.count) in
      record {
        cells = subst (λ (l : List TaggedCell). LookAlike (map (shown table) new) l) (sym (only_put part.has whole cell.stamp more had there (only_has part.has next [] has)))
            (subst (λ (l : List TaggedCell). LookAlike l (put_after ours cell.stamp more)) (sym cells)
            (alike_put all ours (map (shown table) (this ∷ [])) more cell.stamp s.cells (alike_new r tags refl t.rise s.site s.count)));
        within = record {
          newer = λ u lt. s.within.newer u (omega (arith, h.count, lt));
          back = every_append (λ (x : Return). part.has x.newer ≡ true) r.returns (record { former = cell.stamp; newer = next.stamp } ∷ []) s.within.back (has, tt);
          offsets = λ u k a. split (is_same this.stamp u)
              (λ e.
              let one : next.stamp ≡ u = same ∙ same_from_true this.stamp u e in
              h.offsets u ∙ ap (λ b. cond b (offset_behind before.offsets cell.stamp) (offset_of before.offsets u)) (same_sym u this.stamp ∙ e)
              ∙ sym offset ∙ sym (others_new part.has whole cell.stamp next had there fresh) ∙ ap (others_before part.has (put_after whole cell.stamp more)) one)
              (λ e.
              let apart : is_same next.stamp u ≡ false = ap (λ (v : Stamp). is_same v u) same ∙ e in
              h.offsets u ∙ ap (λ b. cond b (offset_behind before.offsets cell.stamp) (offset_of before.offsets u)) (same_sym u this.stamp ∙ e)
              ∙ s.within.offsets u k (sym (put_among whole cell.stamp next u ∙ ap (λ b. b || is_among (stamps_of whole) u) apart) ∙ a)
              ∙ sym (others_put part.has whole cell.stamp next u has apart));
          distinct = put_distinct whole cell.stamp next s.within.distinct fresh;
          older = put_up_to after.texts.count whole cell.stamp more (later_cells before.texts.count after.texts.count whole (omega arith) s.within.older)
              (new_up_to after.texts.count next (omega (arith, s.count, up)));
          few = omega (arith, ap length (append_assoc (take (after_element whole cell.stamp) whole) more (drop (after_element whole cell.stamp) whole)) ∙ length_put (after_element whole cell.stamp) more whole, s.within.few, up);
        };
        site = s.site;
        count = (λ i. s.count i + counts_for (sym h.is i) (cell.ch ∷ [])) ∙ sym h.count;
        drafts = (λ i. s.drafts i ++ text_drafts MOST_CHARACTERS (s.site i) (s.count i) cell.stamp (sym h.is i) (cell.ch ∷ [])) ∙ sym h.drafts;
        returns = (λ i. s.returns i ++ record { former = cell.stamp; newer = record { count = s.count i + 1; site = s.site i } } ∷ []) ∙ sym h.returns;
        actions = s.actions ∙ ap (λ v. named_group table (group_of v.items)) (sym h.actions);
        changes = subst (AllByRecursion IsTextChange) (sym h.changes) (every_append IsTextChange before.changes.items (Inserted (place + offset_behind before.offsets cell.stamp) ∷ []) s.changes (change, tt));
        marks = (λ i. marks_inserted (spot i) 1 (s.marks i)) ∙ sym (after_more before.changes.items (Inserted (place + offset_behind before.offsets cell.stamp)) part.doc.marks)
            ∙ ap (λ l. marks_after l part.doc.marks) (sym h.changes);
        tags = ap (all_listed tags) s.tags ∙ ap (λ l. all_listed l (all_listed (as_words before.names.items) part.doc.tags)) (sym h.is)
            ∙ sym (all_append (as_words before.names.items) words part.doc.tags) ∙ ap (λ l. all_listed l part.doc.tags) (sym h.names);
      }

  -- where it goes
  pub where_it_goes : 0 < site → EndsFinal old → IsThere table old cell → IsPlaced old cell.stamp this.stamp
  where_it_goes p ends t = placed old cell.stamp this.stamp ends (inl t.there) t.other (grind (arith, nat_tests, p))

  pub goes_directly : IsCopy table old before.texts.count → skip_from old cell.stamp this.stamp ≡ after_element old cell.stamp
  goes_directly k = skip_from_newest before.texts.count old cell.stamp this.stamp refl (all_below before.texts.count old k.older)

-- a stamp that is newer than all hasn't moved
pub unmoved : (table : TagStates) (plan : Progress) (s : Stamp) → IsUnderWay table plan → plan.texts.count < s.count → is_moved plan.renames s ≡ false
unmoved table plan s g lt = split (is_moved plan.renames s) (λ e. absurd (omega (arith, g.moved s e, lt))) (λ e. e)

-- A CHARACTER THAT MAY BE THERE

brought : (whole : ℕ → Reversion) (r : Reversion) (o : Option TaggedCell) → unwrap_or (option_map (λ (cell : TaggedCell). whole cell.ch) o) r ≡ unwrap_or (option_map whole (character o)) r
brought whole r None = refl
brought whole r (Some cell) = refl

pub return_is : (table : TagStates) (site : ℕ) (old : List (Cell ℕ)) (plan : Progress) (part : Portion) (r : Reversion) (removed : Removed (List Word)) (s : Stamp) (o : Option (Cell ℕ))
    → part.has removed.stamp ≡ true → IsSoFar table site old plan part r → stamp_after plan.returns.items removed.stamp ≡ s → gone_cell_of old s ≡ o
    → with_return removed r ≡ unwrap_or (option_map (λ ch. with_insertion s removed.tags ch r) (character o)) r
return_is table site old plan part r removed s o had h e f =
    let all : List TaggedCell = map (shown table) old in
    let ours = only part.has r.doc.cells in
    let same : stamp_after r.returns removed.stamp ≡ s = ap (λ l. stamp_after l removed.stamp) h.returns ∙ e in
    let has : part.has s ≡ true = ap part.has (sym same) ∙ after_had part r.returns removed.stamp h.within.back had in
    let theirs : character (gone_cell_of r.doc.cells s) ≡ character o =
    ap character (sym (only_gone_cell part.has r.doc.cells s has)) ∙ sym (alike_character all ours s h.cells) ∙ character_shown (state_at table) old s ∙ ap character f in
    ap (λ t. unwrap_or (option_map (λ (cell : TaggedCell). with_insertion t removed.tags cell.ch r) (gone_cell_of r.doc.cells t)) r) same
    ∙ brought (λ ch. with_insertion s removed.tags ch r) r (gone_cell_of r.doc.cells s)
    ∙ ap (λ o. unwrap_or (option_map (λ ch. with_insertion s removed.tags ch r) o) r) theirs

-- the stamp that a removed character has by then
pub stamp_had : (table : TagStates) (site : ℕ) (old : List (Cell ℕ)) (plan : Progress) (part : Portion) (r : Reversion) (s t : Stamp)
    → part.has s ≡ true → IsSoFar table site old plan part r → stamp_after plan.returns.items s ≡ t → part.has t ≡ true
stamp_had table site old plan part r s t had h e =
    ap part.has (sym (ap (λ l. stamp_after l s) h.returns ∙ e)) ∙ after_had part r.returns s h.within.back had
