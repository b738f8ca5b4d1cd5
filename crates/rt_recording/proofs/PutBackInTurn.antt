-- The text after several recorded insertions were undone as one group.
use Rattle.std.proofs.Common.{◌≡◌, ◌∙◌, ℕ, suc, ◌+◌, ◌<◌, ◌≤◌, Bool, false, not, List, [], ◌∷◌, ◌++◌, map, filter, cond, ap, arith, refl, subst, sym, add-zero}
use Rattle.std.specs.List.{AllByRecursion}
use Rattle.std.specs.Prelude.{option_map, reverse, slice_get, unwrap_or}
use Rattle.std.proofs.lemmas.Bool.{cond-false, cond-true}
use Rattle.std.proofs.lemmas.List.{map-id}
use Rattle.std.proofs.lemmas.List.Elements.{All-from_recursion}
use mathlib.Core.List.{reverse-cons}
use Rattle.rt_stamps.specs.declared.stamp.Stamp.{Stamp}
use Rattle.rt_stamps.specs.Words.{Word}
use Rattle.rt_ops.specs.Operations.{Operation, stamps_of_span}
use Rattle.rt_store.specs.Cells.{visible_of}
use Rattle.rt_store.specs.Shown.{TaggedCell}
use Rattle.rt_store.specs.Spans.{is_among}
use Rattle.rt_store.specs.Written.{AreBelowNext, IsBelowNext}
use Rattle.rt_rga.specs.Histories.{IsHistory}
use Rattle.rt_rga.specs.Texts.{tagged_text}
use Rattle.rt_rga.proofs.Skipping.{split}
use Rattle.rt_plans.specs.DraftLaws.{IsDocument}
use Rattle.rt_plans.specs.DocValue.{left_stamp}
use Rattle.rt_plans.specs.Insertions.{Insertion, insertion_of, left_neighbour}
use Rattle.rt_plans.specs.Removals.{gone_at}
use Rattle.rt_plans.proofs.CellLaws.{known_put}
use Rattle.rt_undo.specs.declared.action.Kind.TheVariants.{Insert}
use Rattle.rt_undo.specs.Actions.{Action}
use Rattle.rt_revert.specs.Reverting.{Reversion, are_at, as_it_is, stamp_after, reverted, with_each_reverted, with_removal, with_returns, with_reverted}
use Rattle.rt_text.specs.Commands.{none_inserted, right_behind}
use Rattle.rt_text.specs.Widgets.{ViewValue, in_text, cells_shown}
use Rattle.rt_recording.specs.EditLaws.{Put, after_put, after_puts, put_actions}
use Rattle.rt_recording.specs.Edits.{edit_action, counts_between}
use Rattle.rt_recording.proofs.PutBack.{AreBetween, IsNew, all_beside, beside, beside_put, new_insertion, none_beside, tagged_as}
use Rattle.rt_recording.proofs.TakenBack.{below_apart, document_below}

-- WHAT STAYS VISIBLE

-- two tests, in either order
filters_swapped : {X : Type 0} (p q : X → Bool) (xs : List X) → filter p (filter q xs) ≡ filter q (filter p xs)
filters_swapped p q [] = refl
filters_swapped p q (x ∷ xs) =
    let rest = filters_swapped p q xs in
    split (p x)
    (λ e. split (q x) (λ k. rw (e, k, e) (ap (λ l. x ∷ l) rest)) (λ k. rw (e, k) rest))
    (λ e. split (q x) (λ k. rw (k, e) rest) (λ k. rw (e, k) rest))

-- where the visible cells of some stamps go, those stay visible that have none of these stamps
visible_left : (stamps : List Stamp) (places : ℕ → Bool) (p : ℕ) (cells : List TaggedCell) → ((k : ℕ) → places (p + k) ≡ are_at stamps cells k)
    → visible_of (gone_at places p cells) ≡ beside stamps (visible_of cells)
visible_left stamps places p [] h = refl
visible_left stamps places p (c ∷ cs) h =
    let among = is_among stamps c.stamp in
    let at : List TaggedCell → ℕ → Bool = λ shown k. unwrap_or (option_map (λ (cell : TaggedCell). is_among stamps cell.stamp) (slice_get shown k)) false in
    let shown : Bool → List TaggedCell = λ b. cond (not b) (c ∷ visible_of cs) (visible_of cs) in
    let left : TaggedCell = record c { gone = places p } in
    let same = gone_at places p cs in
    let further = gone_at places (p + 1) cs in
    let rest = beside stamps (visible_of cs) in
    split c.gone
    (λ e.
    ap visible_of (cond-true c.gone (c ∷ same) (left ∷ further) e)
    ∙ ap (λ b. cond (not b) (c ∷ visible_of same) (visible_of same)) e
    ∙ visible_left stamps places p cs (λ k. h k ∙ ap (λ b. at (shown b) k) e)
    ∙ sym (ap (λ b. beside stamps (shown b)) e))
    (λ e.
    let here : places p ≡ among = ap places (sym (add-zero p)) ∙ h 0 ∙ ap (λ b. at (shown b) 0) e in
    let tail = visible_left stamps places (p + 1) cs (λ k. ap places (omega arith) ∙ h (suc k) ∙ ap (λ b. at (shown b) (suc k)) e) in
    ap visible_of (cond-false c.gone (c ∷ same) (left ∷ further) e)
    ∙ split among
    (λ q. ap (λ b. cond (not b) (left ∷ visible_of further) (visible_of further)) (here ∙ q) ∙ tail ∙ sym (ap (λ b. cond (not b) (c ∷ rest) rest) q))
    (λ q. ap (λ b. cond (not b) (left ∷ visible_of further) (visible_of further)) (here ∙ q)
    ∙ (λ i. record c { gone = (here ∙ q ∙ sym e) i } ∷ tail i)
    ∙ sym (ap (λ b. cond (not b) (c ∷ rest) rest) q))
    ∙ sym (ap (λ b. beside stamps (shown b)) e))

-- so it is of an action that took nothing away, where nothing came back before
visible_reverted : (action : Action (List Word)) (so_far : Reversion) → action.removed ≡ [] → so_far.returns ≡ []
    → visible_of (with_reverted action so_far).doc.cells ≡ beside action.inserted (visible_of so_far.doc.cells)
visible_reverted action so_far none start =
    let cells = so_far.doc.cells in
    ap (λ removed. visible_of (with_returns removed (with_removal (map (stamp_after so_far.returns) action.inserted) so_far)).doc.cells) none
    ∙ ap (λ returns. visible_of (with_removal (map (stamp_after returns) action.inserted) so_far).doc.cells) start
    ∙ ap (λ stamps. visible_of (with_removal stamps so_far).doc.cells) (map-id action.inserted)
    ∙ visible_left action.inserted (are_at action.inserted cells) 0 cells (λ k. ap (are_at action.inserted cells) (omega arith))

-- actions and then one more
one_more : (actions : List (Action (List Word))) (action : Action (List Word)) (so_far : Reversion)
    → with_each_reverted (actions ++ action ∷ []) so_far ≡ with_reverted action (with_each_reverted actions so_far)
one_more [] action so_far = refl
one_more (first ∷ actions) action so_far = one_more actions action (with_reverted first so_far)

-- ONE INSERTION

-- no cell is newer than a document's greatest count, and its site is no 0
record IsNewest (view : ViewValue) : Type 0 where
  pub site : 1 ≤ view.doc.site
  pub below : AreBelowNext view.doc.count view.doc.cells

-- later counts are greater
below_later : (count later : ℕ) (cells : List TaggedCell) → count ≤ later → AreBelowNext count cells → AreBelowNext later cells
below_later count later cells le h = λ k d lt. let p = h k d lt in (omega (arith, p.0, le), λ e. p.1 (omega (arith, p.0, le, e)))

-- none of the new cells is newer than the last of their counts
between_below : (site low high : ℕ) (cells : List TaggedCell) → AreBetween site low high cells → AllByRecursion (λ (cell : TaggedCell). IsBelowNext high cell.stamp) cells
between_below site low high [] h = tt
between_below site low high (c ∷ cs) h = ((omega (arith, h.0.within), λ e. absurd (omega (arith, h.0.within, e))), between_below site low high cs h.1)

module _ (view : ViewValue) (put : Put) where
  abbrev new : ViewValue
  new = after_put view put

  abbrev inserted : Insertion
  inserted = insertion_of view.doc.site (left_neighbour (cells_shown view) put.place) (right_behind view put.place put.pieces) put.pieces put.rest (none_inserted view)

  abbrev after : Stamp
  after = left_stamp view.doc.cells (in_text view put.place)

  abbrev action : Action (List Word)
  action = edit_action Insert view.doc new.doc []

  is_new : IsNew view.doc.site view.doc.count inserted
  is_new =
      new_insertion view.doc.site view.doc.count (left_neighbour (cells_shown view) put.place) (right_behind view put.place put.pieces) put.pieces put.rest (none_inserted view)
      (record { cells = tt; count = omega arith })

  -- after an insertion too no cell is newer than the greatest count
  newest_put : IsNewest view → IsNewest new
  newest_put h = record {
    site = h.site;
    below = known_put inserted.count view.doc.cells after inserted.cells
        (below_later view.doc.count inserted.count view.doc.cells is_new.count h.below)
        (All-from_recursion (λ (cell : TaggedCell). IsBelowNext inserted.count cell.stamp) inserted.cells
        (between_below view.doc.site view.doc.count inserted.count inserted.cells is_new.cells));
  }

  -- the cells that its action has not put in are those that were there
  beside_new : IsNewest view → beside action.inserted new.doc.cells ≡ view.doc.cells
  beside_new h =
      let stamps = stamps_of_span (counts_between view.doc.site view.doc.count inserted.count) in
      beside_put stamps view.doc.cells inserted.cells after
      (all_beside stamps view.doc.cells (below_apart view.doc inserted.count h.site h.below))
      (none_beside view.doc.site view.doc.count inserted.count inserted.cells is_new.cells)

-- ALL OF THEM

-- reverting has come back to a document: what is visible is what was, and nothing was taken away that would have come back
record IsBack (view : ViewValue) (so_far : Reversion) : Type 0 where
  pub shown : visible_of so_far.doc.cells ≡ visible_of view.doc.cells
  pub returns : so_far.returns ≡ []

-- so it is once the actions of all insertions are reverted, from the last to the first
each_back : (view : ViewValue) (puts : List Put) → IsNewest view → IsBack view (with_each_reverted (reverse (put_actions view puts)) (as_it_is (after_puts view puts).doc))
each_back view [] h = record { shown = refl; returns = refl }
each_back view (put ∷ puts) h =
    let next = new view put in
    let last = action view put in
    let start = as_it_is (after_puts next puts).doc in
    let others = reverse (put_actions next puts) in
    let so_far = with_each_reverted others start in
    let back = each_back next puts (newest_put view put h) in
    let stamps = last.inserted in
    let whole : with_each_reverted (reverse (last ∷ put_actions next puts)) start ≡ with_reverted last so_far =
    ap (λ group. with_each_reverted group start) (reverse-cons last (put_actions next puts)) ∙ one_more others last start in
    subst (IsBack view) (sym whole) (record {
      shown = visible_reverted last so_far refl back.returns
          ∙ ap (beside stamps) back.shown
          ∙ filters_swapped (λ (cell : TaggedCell). not (is_among stamps cell.stamp)) (λ (cell : TaggedCell). not cell.gone) next.doc.cells
          ∙ ap visible_of (beside_new view put h);
      returns = back.returns;
    })

-- insertions one after the other, undone at once as one group, leave the text as it was
pub insertions_back : (site : ℕ) (log : List Operation) (view : ViewValue) (puts : List Put) → 0 < site → IsHistory log → IsDocument site log view.doc
    → tagged_text (reverted (after_puts view puts).doc (put_actions view puts)).cells ≡ tagged_text view.doc.cells
insertions_back site log view puts p h doc =
    ap (map tagged_as) (each_back view puts (record { site = omega (arith, doc.site, p); below = document_below site log view.doc h doc })).shown
