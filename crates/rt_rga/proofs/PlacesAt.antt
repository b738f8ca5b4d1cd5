-- The place of a position.
use Rattle.std.proofs.Common.{◌≡◌, ℕ, zero, suc, refl, ap, ◌∙◌, Some, List, [], ◌∷◌, length, map, take}
use Rattle.std.specs.Prelude.{slice_get, option_map}
use Rattle.rt_stamps.specs.declared.stamp.Stamp.{Stamp}
use Rattle.rt_store.specs.declared.cell.Cell.{Cell}
use Rattle.rt_store.specs.Cells.{AreDistinct, map_state, position_of, skip_from, visible_before, visible_of}
pub use Rattle.rt_store.proofs.Positions.{get_within, position_at}
use Rattle.rt_store.proofs.Shown.{length_shown, skip_shown, visible_shown}
use Rattle.rt_ops.specs.Operations.{Body, Insert, Delete, Tag}
use Rattle.rt_rga.specs.Taken.{place_by}

pub place_at : {T : Type 0} (cells : List (Cell T)) (n : ℕ) (x : Cell T) → AreDistinct cells → slice_get cells n ≡ Some x → option_map (visible_before cells) (position_of cells x.stamp) ≡ Some (visible_before cells n)
place_at cells n x d e = ap (option_map (visible_before cells)) (position_at cells n x d e)

-- PLACES OF CELLS WITH OTHER STATES

take_map : {A B : Type 0} (f : A → B) (n : ℕ) (xs : List A) → take n (map f xs) ≡ map f (take n xs)
take_map f zero xs = refl
take_map f (suc n) [] = refl
take_map f (suc n) (x ∷ xs) = ap (λ l. f x ∷ l) (take_map f n xs)

before_shown : {S T : Type 0} (f : S → T) (cells : List (Cell S)) (n : ℕ) → visible_before (map (map_state f) cells) n ≡ visible_before cells n
before_shown {S} {T} f cells n =
    ap (λ (cs : List (Cell T)). length (visible_of cs)) (take_map (map_state f) n cells)
    ∙ ap (λ (cs : List (Cell T)). length cs) (visible_shown f (take n cells))
    ∙ length_shown f (visible_of (take n cells))

pub place_shown : {S T : Type 0} (f : S → T) (stamp : Stamp) (body : Body) (cells : List (Cell S)) → place_by stamp body (map (map_state f) cells) ≡ place_by stamp body cells
place_shown f stamp (Insert after tags text) cells =
    ap (visible_before (map (map_state f) cells)) (skip_shown f cells after stamp) ∙ before_shown f cells (skip_from cells after stamp)
place_shown f stamp (Delete spans) cells = refl
place_shown f stamp (Tag on name spans) cells = refl
