-- A reverted group has a new cell for each character that its operations insert.
use Rattle.std.proofs.Common.{◌≡◌, ℕ, suc, ◌+◌, Bool, true, false, List, [], ◌∷◌, ◌++◌, cond, length, map, take, drop, refl, ◌∙◌, ap, arith, length-append, take-append-drop, Option, Some, None}
use Rattle.std.specs.Prelude.{option_map, reverse, unwrap_or}
use Rattle.rt_stamps.specs.declared.limits.TheConstants.{MOST_CHARACTERS, MOST_SPANS}
use Rattle.rt_stamps.specs.declared.stamp.Stamp.{Stamp}
use Rattle.rt_stamps.specs.Words.{Word}
use Rattle.rt_store.specs.declared.cell.Cell.{Cell}
use Rattle.rt_store.specs.Cells.{after_element}
use Rattle.rt_store.specs.Shown.{TaggedCell}
use Rattle.rt_rga.specs.Requests.{characters_in_all}
use Rattle.rt_rga.proofs.Appending.{characters_append}
use Rattle.rt_plans.specs.DocValue.{DocValue, put_after}
use Rattle.rt_plans.specs.InsertionDrafts.{text_drafts}
use Rattle.rt_plans.specs.Insertions.{inserts_for, tagged_cells}
use Rattle.rt_plans.specs.NamedSpans.{parts_of, spans_in}
use Rattle.rt_plans.specs.RemovalDrafts.{removal_drafts}
use Rattle.rt_plans.specs.Removals.{gone_at, stamps_at}
use Rattle.rt_plans.proofs.CharacterCounts.{cells_length, deletes_none, text_characters}
use Rattle.rt_plans.proofs.NamedSpanLaws.{cut}
use Rattle.rt_undo.specs.Actions.{Action, Removed}
use Rattle.rt_revert.specs.Reverting.{Reversion, are_at, as_it_is, gone_cell_of, reversion, stamp_after, with_each_reverted, with_insertion, with_removal, with_return, with_returns, with_reverted}

-- n cells and those of the operations so far
abbrev HasCells : ℕ → Reversion → Type 0
HasCells n r = n + characters_in_all r.drafts ≡ length r.doc.cells

length_gone : {T : Type 0} (removed : ℕ → Bool) (place : ℕ) (cells : List (Cell T)) → length (gone_at removed place cells) ≡ length cells
length_gone removed place [] = refl
length_gone {T} removed place (cell ∷ cells) = by cell.gone (length_gone removed place cells) (length_gone removed (place + 1) cells)
  where
    by : (b : Bool) → length (gone_at removed place cells) ≡ length cells → length (gone_at removed (place + 1) cells) ≡ length cells
        → length (cond b (cell ∷ gone_at removed place cells) (record cell { gone = removed place } ∷ gone_at removed (place + 1) cells)) ≡ suc (length cells)
    by true h k = ap suc h
    by false h k = ap suc k

pub length_put : {T : Type 0} (cells : List (Cell T)) (left : Stamp) (new : List (Cell T)) → length (put_after cells left new) ≡ length cells + length new
length_put cells left new =
    let at = after_element cells left in
    let rest : length (take at cells ++ new) + length (drop at cells) ≡ length cells + length new =
    omega (arith, length-append (take at cells) new, length-append (take at cells) (drop at cells), ap length (take-append-drop at cells)) in
    length-append (take at cells ++ new) (drop at cells) ∙ rest

gone_cells : (n : ℕ) (stamps : List Stamp) (r : Reversion) → HasCells n r → HasCells n (with_removal stamps r)
gone_cells n stamps r h =
    let places = are_at stamps r.doc.cells in
    let new = removal_drafts MOST_SPANS places r.doc.cells in
    let none : characters_in_all new ≡ 0 = deletes_none (parts_of MOST_SPANS (spans_in (stamps_at places 0 r.doc.cells))) in
    omega (arith, characters_append r.drafts new, none, length_gone places 0 r.doc.cells, h)

character_cells : (n : ℕ) (stamp : Stamp) (tags : List Word) (ch : ℕ) (r : Reversion) → HasCells n r → HasCells n (with_insertion stamp tags ch r)
character_cells n stamp tags ch r h =
    let text = ch ∷ [] in
    let new = text_drafts MOST_CHARACTERS r.doc.site r.doc.count stamp tags text in
    let cells = tagged_cells r.doc.site r.doc.count tags text in
    let one : length cells ≡ length text = cells_length (inserts_for (length text)) r.doc.site r.doc.count tags text (cut MOST_CHARACTERS (length text) (omega arith)).enough in
    omega (arith, characters_append r.drafts new, text_characters r.doc.site r.doc.count stamp tags text, length_put r.doc.cells stamp cells, one, h)

return_cells : (n : ℕ) (removed : Removed (List Word)) (r : Reversion) → HasCells n r → HasCells n (with_return removed r)
return_cells n removed r h = by (gone_cell_of r.doc.cells stamp)
  where
    stamp : Stamp
    stamp = stamp_after r.returns removed.stamp

    by : (o : Option TaggedCell) → HasCells n (unwrap_or (option_map (λ (cell : TaggedCell). with_insertion stamp removed.tags cell.ch r) o) r)
    by None = h
    by (Some cell) = character_cells n stamp removed.tags cell.ch r h

returns_cells : (n : ℕ) (removed : List (Removed (List Word))) (r : Reversion) → HasCells n r → HasCells n (with_returns removed r)
returns_cells n [] r h = h
returns_cells n (x ∷ more) r h = returns_cells n more (with_return x r) (return_cells n x r h)

all_cells : (n : ℕ) (actions : List (Action (List Word))) (r : Reversion) → HasCells n r → HasCells n (with_each_reverted actions r)
all_cells n [] r h = h
all_cells n (action ∷ actions) r h =
    let stamps = map (stamp_after r.returns) action.inserted in
    all_cells n actions (with_reverted action r) (returns_cells n action.removed (with_removal stamps r) (gone_cells n stamps r h))

pub reversion_cells : (doc : DocValue) (group : List (Action (List Word))) → length doc.cells + characters_in_all (reversion doc group).drafts ≡ length (reversion doc group).doc.cells
reversion_cells doc group = all_cells (length doc.cells) (reverse group) (as_it_is doc) (omega arith)
