-- Cells with what their states stand for: what doesn't look at the states is the same of them.
use Rattle.std.proofs.Common.{◌≡◌, ℕ, ◌+◌, List, [], ◌∷◌, Bool, true, false, cond, map, refl, ap}
use Rattle.rt_store.specs.declared.cell.Cell.{Cell}
use Rattle.rt_store.specs.Cells.{map_state}
use Rattle.rt_plans.specs.Removals.{stamps_at, cells_at}

-- CELLS AT PLACES

at_step : {S T : Type 0} (f : S → T) (cell : Cell S) (here next : List (Cell T)) (before behind : List (Cell S)) (b d : Bool)
    → here ≡ map (map_state f) before → next ≡ map (map_state f) behind
    → cond b here (cond d (map_state f cell ∷ next) next) ≡ map (map_state f) (cond b before (cond d (cell ∷ behind) behind))
at_step f cell here next before behind true d h k = h
at_step f cell here next before behind false true h k = ap (λ l. map_state f cell ∷ l) k
at_step f cell here next before behind false false h k = k

pub cells_at_shown : {S T : Type 0} (f : S → T) (places : ℕ → Bool) (place : ℕ) (cells : List (Cell S)) → cells_at places place (map (map_state f) cells) ≡ map (map_state f) (cells_at places place cells)
cells_at_shown f places place [] = refl
cells_at_shown f places place (cell ∷ cells) =
    at_step f cell (cells_at places place (map (map_state f) cells)) (cells_at places (place + 1) (map (map_state f) cells)) (cells_at places place cells) (cells_at places (place + 1) cells) cell.gone (places place)
    (cells_at_shown f places place cells) (cells_at_shown f places (place + 1) cells)

pub stamps_at_shown : {S T : Type 0} (f : S → T) (places : ℕ → Bool) (place : ℕ) (cells : List (Cell S)) → stamps_at places place (map (map_state f) cells) ≡ stamps_at places place cells
stamps_at_shown f places place [] = refl
stamps_at_shown f places place (cell ∷ cells) =
    let here = stamps_at_shown f places place cells in
    let next = stamps_at_shown f places (place + 1) cells in
    λ i. cond cell.gone (here i) (cond (places place) (cell.stamp ∷ next i) (next i))
