-- The cell of a stamp stands at its position.
use Rattle.std.proofs.Common.{zero, suc, [], ◌∷◌, ◌||◌, not, take, ◌≡◌, ℕ, ◌<◌, ◌≤◌, get_or, Bool, true, false, ◌∙◌, refl, sym, ap, List, length, cond, Option, Some, None, arith}
use Rattle.std.specs.Prelude.{is_some, nat_lt, option_and_then, option_map, slice_get}
use Rattle.std.specs.List.{position_or_len}
use Rattle.std.proofs.lemmas.List.Folds.{find_at}
use Rattle.std.proofs.lemmas.Option.{slice_get_past, slice_get-get_or}
use Rattle.rt_stamps.specs.declared.stamp.Stamp.{Stamp}
use Rattle.rt_stamps.specs.Stamps.{is_same}
use Rattle.rt_store.specs.declared.cell.Cell.{Cell}
use Rattle.rt_store.specs.Cells.{cell_of, position_of, stamps_of, visible_before, visible_of}
use Rattle.rt_store.specs.Spans.{is_among}

found : {X : Type 0} (xs : List X) (n : ℕ) (b : Bool) → nat_lt n (length xs) ≡ b → slice_get xs n ≡ option_and_then (slice_get xs) (cond b (Some n) None)
found xs n true e = refl
found xs n false e = slice_get_past xs n (at_end n (length xs) e)
  where
    at_end : (n m : ℕ) → nat_lt n m ≡ false → m ≤ n
    at_end n m e = grind (arith, e)

pub cell_found : {T : Type 0} (cells : List (Cell T)) (stamp : Stamp) → cell_of cells stamp ≡ option_and_then (slice_get cells) (position_of cells stamp)
cell_found cells stamp =
    let n = position_or_len (λ cell. is_same cell.stamp stamp) cells in
    find_at (λ cell. is_same cell.stamp stamp) cells ∙ found cells n (nat_lt n (length cells)) refl

-- a position that is found is one of the cells
pub position_within : {T : Type 0} (cells : List (Cell T)) (stamp : Stamp) (position : ℕ) → position_of cells stamp ≡ Some position → position < length cells
position_within cells stamp position h =
    let n = position_or_len (λ cell. is_same cell.stamp stamp) cells in
    within n (length cells) position (nat_lt n (length cells)) refl h
  where
    within : (n m p : ℕ) (b : Bool) → nat_lt n m ≡ b → cond b (Some n) None ≡ Some p → p < m
    within n m p true e h = let same : n ≡ p = cc in let less : n < m = grind (arith, e) in omega (arith, same, less)
    within n m p false e h = let bad : ⊥ = cc in absurd bad

pub found_there : {T : Type 0} (cells : List (Cell T)) (stamp : Stamp) (position : ℕ) → position_of cells stamp ≡ Some position → slice_get cells position ≡ cell_of cells stamp
found_there cells stamp position h = ap (option_and_then (slice_get cells)) (sym h) ∙ sym (cell_found cells stamp)

pub found_at : {T : Type 0} (cells : List (Cell T)) (stamp : Stamp) (position : ℕ) (d : Cell T) → position_of cells stamp ≡ Some position → Some (get_or cells position d) ≡ cell_of cells stamp
found_at cells stamp position d h =
    sym (slice_get-get_or cells position d (position_within cells stamp position h)) ∙ found_there cells stamp position h

pub found_nowhere : {T : Type 0} (cells : List (Cell T)) (stamp : Stamp) → position_of cells stamp ≡ None → None ≡ cell_of cells stamp
found_nowhere cells stamp h = ap (option_and_then (slice_get cells)) (sym h) ∙ sym (cell_found cells stamp)

-- a stamp is found where it is one of the cells
pub stamp_held : {T : Type 0} (cells : List (Cell T)) (stamp : Stamp) → is_some (cell_of cells stamp) ≡ is_among (stamps_of cells) stamp
stamp_held [] stamp = refl
stamp_held {T} (x ∷ xs) stamp = held (is_same x.stamp stamp) x (cell_of xs stamp) (is_among (stamps_of xs) stamp) (stamp_held xs stamp)
  where
    held : (b : Bool) (x : Cell T) (o : Option (Cell T)) (d : Bool) → is_some o ≡ d → is_some (cond b (Some x) o) ≡ (b || d)
    held true x o d h = refl
    held false x o d h = h

-- before a visible cell stand as many as its place says
place_step : {T : Type 0} (b : Bool) (x cell : Cell T) (vs before : List (Cell T)) → slice_get vs (length before) ≡ Some cell → slice_get (cond (not b) (x ∷ vs) vs) (length (cond (not b) (x ∷ before) before)) ≡ Some cell
place_step true x cell vs before h = h
place_step false x cell vs before h = h

place_first : {T : Type 0} (b : Bool) (x cell : Cell T) (vs : List (Cell T)) → b ≡ false → x ≡ cell → slice_get (cond (not b) (x ∷ vs) vs) 0 ≡ Some cell
place_first true x cell vs e h = let bad : ⊥ = cc in absurd bad
place_first false x cell vs e h = ap Some h

pub visible_there : {T : Type 0} (cells : List (Cell T)) (position : ℕ) (cell : Cell T) → slice_get cells position ≡ Some cell → cell.gone ≡ false → slice_get (visible_of cells) (visible_before cells position) ≡ Some cell
visible_there [] position cell h k = let bad : ⊥ = cc in absurd bad
visible_there {T} (x ∷ xs) zero cell h k = let same : x ≡ cell = cc in let shown : x.gone ≡ false = ap (λ (c : Cell T). c.gone) same ∙ k in place_first x.gone x cell (visible_of xs) shown same
visible_there (x ∷ xs) (suc n) cell h k = place_step x.gone x cell (visible_of xs) (visible_of (take n xs)) (visible_there xs n cell h k)

-- the place of a visible cell
pub place_found : {T : Type 0} (cells : List (Cell T)) (stamp : Stamp) (cell : Cell T) (place : ℕ) → cell_of cells stamp ≡ Some cell → cell.gone ≡ false
    → option_map (visible_before cells) (position_of cells stamp) ≡ Some place → slice_get (visible_of cells) place ≡ Some cell
place_found {T} cells stamp cell place h k p = by (position_of cells stamp) refl p
  where
    by : (o : Option ℕ) → position_of cells stamp ≡ o → option_map (visible_before cells) o ≡ Some place → slice_get (visible_of cells) place ≡ Some cell
    by None e q = let bad : ⊥ = cc in absurd bad
    by (Some n) e q =
        let same : visible_before cells n ≡ place = cc in
        let there : slice_get cells n ≡ Some cell = found_there cells stamp n e ∙ h in
        ap (slice_get (visible_of cells)) (sym same) ∙ visible_there cells n cell there k
