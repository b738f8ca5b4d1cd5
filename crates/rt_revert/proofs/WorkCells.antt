-- Cells of a copy of the text, as those of the document.
use Rattle.std.proofs.Common.{All, length-take, take, ◌≡◌, ◌∙◌, ℕ, ◌<◌, List, [], ◌∷◌, Bool, false, map, length, refl, ap, sym, arith, Option, Some, None}
use Rattle.std.specs.Prelude.{IfSome, option_map, slice_get, unwrap_or}
use Rattle.std.proofs.lemmas.List.Elements.{All-tail}
use Rattle.std.specs.List.{AllByRecursion}
use Rattle.rt_stamps.specs.declared.stamp.Stamp.{Stamp}
use Rattle.rt_store.specs.declared.cell.Cell.{Cell}
use Rattle.rt_store.specs.Cells.{map_state, position_of, visible_before, visible_of}
use Rattle.rt_store.specs.Shown.{TaggedCell, shown}
use Rattle.rt_store.proofs.Finding.{position_within}
use Rattle.rt_store.proofs.Shown.{visible_at_shown}
use Rattle.rt_tags.specs.States.{IsState, TagStates, state_at}
use Rattle.rt_rga.proofs.RemovedPlaces.{fewer}
use Rattle.rt_plans.proofs.Shown.{cells_at_shown}
use Rattle.rt_undo.specs.Actions.{Removed}
use Rattle.rt_revert.specs.Planning.{cell_removed}
use Rattle.rt_revert.specs.Plans.{named_removed}
use Rattle.rt_revert.proofs.TakenBack.{still_is}
use Rattle.rt_store.specs.Spans.{is_among}
use Rattle.rt_plans.specs.Removals.{cells_at}
use Rattle.rt_revert.specs.Reverting.{are_at, as_removed, still_visible}

-- THE PLACES OF CHARACTERS

pub place_within : {T : Type 0} (cells : List (Cell T)) (stamp : Stamp) → IfSome (option_map (visible_before cells) (position_of cells stamp)) (λ place. place < length cells)
place_within {T} cells stamp = by (position_of cells stamp) refl
  where
    by : (o : Option ℕ) → position_of cells stamp ≡ o → IfSome (option_map (visible_before cells) o) (λ place. place < length cells)
    by None e = tt
    by (Some n) e =
        let less : n < length cells = position_within cells stamp n e in
        omega (arith, less, fewer (take n cells), length-take n cells)

-- the characters that are at the places of some stamps, with what their states stand for
tests_shown : {S T : Type 0} (f : S → T) (stamps : List Stamp) (o : Option (Cell S))
    → unwrap_or (option_map (λ (cell : Cell T). is_among stamps cell.stamp) (option_map (map_state f) o)) false
    ≡ unwrap_or (option_map (λ (cell : Cell S). is_among stamps cell.stamp) o) false
tests_shown f stamps None = refl
tests_shown f stamps (Some cell) = refl

pub at_shown : {S T : Type 0} (f : S → T) (stamps : List Stamp) (cells : List (Cell S)) (place : ℕ) → are_at stamps (map (map_state f) cells) place ≡ are_at stamps cells place
at_shown {S} {T} f stamps cells place =
    ap (λ o. unwrap_or (option_map (λ (cell : Cell T). is_among stamps cell.stamp) o) false) (visible_at_shown f cells place) ∙ tests_shown f stamps (slice_get (visible_of cells) place)

names_same : (table : TagStates) (cells : List (Cell ℕ)) → map (named_removed table) (map cell_removed cells) ≡ map as_removed (map (shown table) cells)
names_same table [] = refl
names_same table (c ∷ cs) = ap (λ l. as_removed (shown table c) ∷ l) (names_same table cs)

pub removed_named : (table : TagStates) (stamps : List Stamp) (cells : List (Cell ℕ))
    → map (named_removed table) (map cell_removed (cells_at (are_at stamps cells) 0 cells)) ≡ still_visible stamps (map (shown table) cells)
removed_named table stamps cells =
    let all : List TaggedCell = map (shown table) cells in
    let same : are_at stamps all ≡ are_at stamps cells = λ i place. at_shown (state_at table) stamps cells place i in
    names_same table (cells_at (are_at stamps cells) 0 cells)
    ∙ ap (map as_removed) (sym (cells_at_shown (state_at table) (are_at stamps cells) 0 cells))
    ∙ ap (λ (p : ℕ → Bool). map as_removed (cells_at p 0 all)) (sym same)
    ∙ sym (still_is stamps all)

pub given_at : (table : TagStates) (cells : List (Cell ℕ)) → All (λ cell. IsState table cell.state) cells → AllByRecursion (λ (removed : Removed ℕ). IsState table removed.tags) (map cell_removed cells)
given_at table [] h = tt
given_at table (c ∷ cs) h = (h 0 c (omega arith), given_at table cs (All-tail (λ (cell : Cell ℕ). IsState table cell.state) c cs h))
