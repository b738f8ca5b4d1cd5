-- An insertion at a place, and what it leaves.
use Rattle.std.proofs.Common.{◌≡◌, ℕ, ◌+◌, ◌-◌, List, [], ◌∷◌, ◌++◌, Option, None, Some, Result, Ok, Err, ◌⊎◌, inl, inr, OnOk, length, take, drop, map, min, sym, ◌∙◌, ap, arith}
use Rattle.std.specs.Prelude.{IfErr}
use Rattle.std.specs.Result.{result_err, result_unwrap_or}
use Rattle.std.proofs.lemmas.List.{length-append, length-map, take-append-drop}
use Rattle.rt_index.specs.Index.{index_of}
use Rattle.rt_stamps.specs.declared.fault.Fault.{Fault}
use Rattle.rt_stamps.specs.declared.fault.Fault.TheVariants.{NoMemory}
use Rattle.rt_stamps.specs.declared.stamp.Stamp.{Stamp}
use Rattle.rt_stamps.specs.Outcomes.{Refuses, first_of, unless}
use Rattle.rt_stamps.specs.Words.{Word}
use Rattle.rt_store.specs.declared.cell.Cell.{Cell}
use Rattle.rt_store.specs.Cells.{after_element, map_state, visible_of}
use Rattle.rt_tags.specs.States.{TagStates, state_at}
use Rattle.rt_stamps.specs.Names.{name_check}
use Rattle.rt_text.specs.Commands.{cell_check, clock_check, view_inserted, names_in, with_pieces_at}
use Rattle.rt_plans.specs.DocValue.{DocValue, put_after}
use Rattle.rt_store.specs.Shown.{TaggedCell, shown}
use Rattle.rt_plans.specs.Insertions.{Piece}
use Rattle.rt_text.specs.Widgets.{ViewValue, length_shown, widget_of}
use Rattle.rt_text.proofs.ReadyLaws.{first_none, first_some}
use Rattle.rt_store.proofs.Shown.{visible_shown}

-- THE COMMAND, BY ITS CHECKS

abbrev pub late_checks : DocValue → ViewValue → List (Option Fault)
late_checks doc edited = clock_check edited.doc.count ∷ cell_check doc.limit (length edited.doc.cells) ∷ []

-- an edit by an outcome of its index
abbrev at_index : ViewValue → List Piece → Word → Result ℕ Fault → ViewValue
at_index view pieces rest r = with_pieces_at view (min (result_unwrap_or r 0) (length_shown view - 1)) pieces rest

abbrev by_index : ViewValue → List Piece → Word → Result ℕ Fault → Result ViewValue Fault
by_index view pieces rest r =
    unless (first_of (map name_check (names_in pieces) ++ result_err r ∷ late_checks view.doc (at_index view pieces rest r))) (at_index view pieces rest r)

pub refused_name : (view : ViewValue) (index : Word) (pieces : List Piece) (rest : Word) (fault : Fault) → first_of (map name_check (names_in pieces)) ≡ Some fault
    → view_inserted view index pieces rest ≡ Err fault
refused_name view index pieces rest fault h =
    let r = index_of (widget_of view) index in
    ap (λ o. unless o (at_index view pieces rest r)) (first_some (map name_check (names_in pieces)) (result_err r ∷ late_checks view.doc (at_index view pieces rest r)) fault h)

pub refused_index : (view : ViewValue) (index : Word) (pieces : List Piece) (rest : Word) (fault : Fault) → first_of (map name_check (names_in pieces)) ≡ None
    → index_of (widget_of view) index ≡ Err fault → view_inserted view index pieces rest ≡ Err fault
refused_index view index pieces rest fault h e =
    ap (by_index view pieces rest) e
    ∙ ap (λ o. unless o (at_index view pieces rest (Err fault))) (first_none (map name_check (names_in pieces)) (Some fault ∷ late_checks view.doc (at_index view pieces rest (Err fault))) h)

-- where the names and the index are fine, the counts and the cells decide
pub by_late_checks : (view : ViewValue) (index : Word) (pieces : List Piece) (rest : Word) (found place : ℕ) → first_of (map name_check (names_in pieces)) ≡ None
    → index_of (widget_of view) index ≡ Ok found → place ≡ min found (length_shown view - 1)
    → view_inserted view index pieces rest
    ≡ unless (first_of (late_checks view.doc (with_pieces_at view place pieces rest))) (with_pieces_at view place pieces rest)
by_late_checks view index pieces rest found place h e p =
    ap (by_index view pieces rest) e
    ∙ ap (λ o. unless o (at_index view pieces rest (Ok found))) (first_none (map name_check (names_in pieces)) (None ∷ late_checks view.doc (at_index view pieces rest (Ok found))) h)
    ∙ ap (λ n. unless (first_of (late_checks view.doc (with_pieces_at view n pieces rest))) (with_pieces_at view n pieces rest)) (sym p)

-- WHAT STAYS

pub visible_same : (table : TagStates) (kept : List (Cell ℕ)) (cells : List TaggedCell) → map (shown table) kept ≡ cells → length (visible_of kept) ≡ length (visible_of cells)
visible_same table kept cells e = sym (length-map (visible_of kept) (map_state (state_at table))) ∙ ap length (sym (visible_shown (state_at table) kept)) ∙ ap (λ l. length (visible_of l)) e

pub put_length : {T : Type 0} (cells : List (Cell T)) (left : Stamp) (new : List (Cell T)) → length (put_after cells left new) ≡ length cells + length new
put_length cells left new =
    let at = after_element cells left in
    omega (arith, length-append (take at cells ++ new) (drop at cells), length-append (take at cells) new, ap length (take-append-drop at cells), length-append (take at cells) (drop at cells))

-- THE COMMAND'S END

pub done_by : (view : ViewValue) (index : Word) (pieces : List Piece) (rest : Word) (found place : ℕ) (edited : ViewValue) → first_of (map name_check (names_in pieces)) ≡ None
    → index_of (widget_of view) index ≡ Ok found → place ≡ min found (length_shown view - 1)
    → edited ≡ with_pieces_at view place pieces rest → first_of (late_checks view.doc edited) ≡ None → view_inserted view index pieces rest ≡ Ok edited
done_by view index pieces rest found place edited h e p made checked =
    by_late_checks view index pieces rest found place h e p
    ∙ ap (λ x. unless (first_of (late_checks view.doc x)) x) (sym made)
    ∙ ap (λ o. unless o edited) checked

pub late_refused : (view : ViewValue) (index : Word) (pieces : List Piece) (rest : Word) (found place : ℕ) (fault : Fault) → first_of (map name_check (names_in pieces)) ≡ None
    → index_of (widget_of view) index ≡ Ok found → place ≡ min found (length_shown view - 1)
    → first_of (late_checks view.doc (with_pieces_at view place pieces rest)) ≡ Some fault → view_inserted view index pieces rest ≡ Err fault
late_refused view index pieces rest found place fault h e p k =
    by_late_checks view index pieces rest found place h e p ∙ ap (λ o. unless o (with_pieces_at view place pieces rest)) k

pub either : {A B C : Type 0} → (B → C) → A ⊎ B → A ⊎ C
either f (inl a) = inl a
either f (inr b) = inr (f b)

pub both_done : {A B C X : Type 0} (r : Result X Fault) → (A → B → C) → OnOk r A → OnOk r B → OnOk r C
both_done (Ok x) f a b = f a b
both_done (Err fault) f a b = tt

pub all_refused : (view : ViewValue) (index : Word) (pieces : List Piece) (rest : Word) (found place : ℕ) (r : Result (Unit {0}) Fault) → first_of (map name_check (names_in pieces)) ≡ None
    → index_of (widget_of view) index ≡ Ok found → place ≡ min found (length_shown view - 1)
    → IfErr r (λ fault. (fault ≡ NoMemory) ⊎ (first_of (late_checks view.doc (with_pieces_at view place pieces rest)) ≡ Some fault)) → IfErr r (Refuses (view_inserted view index pieces rest))
all_refused view index pieces rest found place (Ok x) h e p k = tt
all_refused view index pieces rest found place (Err fault) h e p k = either (late_refused view index pieces rest found place fault h e p) k
