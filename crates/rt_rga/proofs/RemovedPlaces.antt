-- Where visible cells stand, and those that a Delete takes away.
use Rattle.std.proofs.Common.{◌≡◌, ℕ, zero, suc, ◌+◌, ◌<◌, ◌≤◌, List, [], ◌∷◌, ◌++◌, Bool, true, false, cond, not, length, take, refl, sym, ◌∙◌, ap, arith, Option, Some, None, ◌⊎◌, inl, inr}
use Rattle.std.specs.Prelude.{option_map, slice_get, unwrap_or}
use Rattle.std.proofs.lemmas.List.{length-append}
use Rattle.rt_stamps.specs.declared.stamp.TheConstants.{FINAL}
use Rattle.rt_stamps.specs.Stamps.{is_same}
use Rattle.rt_stamps.proofs.Order.{same_refl, same_from_true}
use Rattle.rt_ops.specs.Operations.{Body}
use Rattle.rt_store.specs.declared.cell.Cell.{Cell}
use Rattle.rt_store.specs.Cells.{AreDistinct, EndsFinal, cell_of, position_of, visible_before, visible_of}
use Rattle.rt_store.proofs.Distinct.{split}
use Rattle.rt_store.proofs.Finding.{found_there}
use Rattle.rt_store.proofs.Places.{final_last}
use Rattle.rt_store.proofs.Positions.{position_at}
use Rattle.rt_rga.specs.Cells.{deletes}
use Rattle.rt_rga.specs.Taken.{takes_away}

-- VISIBLE CELLS

-- a visible cell is one of the cells, and as many visible ones stand before it as its place says
pub record IsVisibleAt {T : Type 0} (cells : List (Cell T)) (place : ℕ) (cell : Cell T) (position : ℕ) : Type 0 where
  pub there : slice_get cells position ≡ Some cell
  pub shown : cell.gone ≡ false
  pub before : visible_before cells position ≡ place

pub visible_from : {T : Type 0} (cells : List (Cell T)) (place : ℕ) (cell : Cell T) → slice_get (visible_of cells) place ≡ Some cell → (position : ℕ) × IsVisibleAt cells place cell position
visible_from [] place cell h = absurd (cc h)
visible_from {T} (x ∷ xs) place cell h = by x.gone refl (λ p k. visible_from xs p cell k) place h
  where
    by : (b : Bool) → x.gone ≡ b → ((p : ℕ) → slice_get (visible_of xs) p ≡ Some cell → (position : ℕ) × IsVisibleAt xs p cell position) → (place : ℕ)
        → slice_get (cond (not b) (x ∷ visible_of xs) (visible_of xs)) place ≡ Some cell → (position : ℕ) × IsVisibleAt (x ∷ xs) place cell position
    by true e rest place h =
        let (n, v) = rest place h in (
          suc n,
          record {
            there = v.there;
            shown = v.shown;
            before = ap (λ b. length (cond (not b) (x ∷ visible_of (take n xs)) (visible_of (take n xs)))) e ∙ v.before;
          },
        )
    by false e rest zero h =
        let same : x ≡ cell = cc in
        (0, record { there = ap Some same; shown = ap (λ (c : Cell T). c.gone) (sym same) ∙ e; before = refl })
    by false e rest (suc place) h =
        let (n, v) = rest place h in (
          suc n,
          record {
            there = v.there;
            shown = v.shown;
            before = ap (λ b. length (cond (not b) (x ∷ visible_of (take n xs)) (visible_of (take n xs)))) e ∙ ap suc v.before;
          },
        )

-- what its stamp finds
pub record IsFoundAt {T : Type 0} (cells : List (Cell T)) (place : ℕ) (cell : Cell T) : Type 0 where
  pub found : cell_of cells cell.stamp ≡ Some cell
  pub shown : cell.gone ≡ false
  pub at : option_map (visible_before cells) (position_of cells cell.stamp) ≡ Some place

pub found_visible : {T : Type 0} (cells : List (Cell T)) (place : ℕ) (cell : Cell T) → AreDistinct cells → slice_get (visible_of cells) place ≡ Some cell → IsFoundAt cells place cell
found_visible cells place cell d h =
    let (n, v) = visible_from cells place cell h in
    let at : position_of cells cell.stamp ≡ Some n = position_at cells n cell d v.there in
    record {
      found = sym (found_there cells cell.stamp n at) ∙ v.there;
      shown = v.shown;
      at = ap (option_map (visible_before cells)) at ∙ ap Some v.before;
    }

-- BEFORE THE LAST PLACE

pub fewer : {T : Type 0} (cells : List (Cell T)) → length (visible_of cells) ≤ length cells
fewer [] = omega arith
fewer (c ∷ cs) = elim c.gone as (λ b. length (cond (not b) (c ∷ visible_of cs) (visible_of cs)) ≤ suc (length cs)) [ true ↦ omega (arith, fewer cs) | false ↦ omega (arith, fewer cs) ]

visible_append : {T : Type 0} (xs ys : List (Cell T)) → visible_of (xs ++ ys) ≡ visible_of xs ++ visible_of ys
visible_append [] ys = refl
visible_append {T} (x ∷ xs) ys = by (visible_append xs ys) x.gone
  where
    by : visible_of (xs ++ ys) ≡ visible_of xs ++ visible_of ys → (b : Bool) → cond (not b) (x ∷ visible_of (xs ++ ys)) (visible_of (xs ++ ys)) ≡ cond (not b) (x ∷ visible_of xs) (visible_of xs) ++ visible_of ys
    by rest true = rest
    by rest false = ap (λ l. x ∷ l) rest

at_end : {A : Type 0} (xs : List A) (last x : A) (n : ℕ) → slice_get (xs ++ last ∷ []) n ≡ Some x → (suc n < length (xs ++ last ∷ [])) ⊎ (x ≡ last)
at_end [] last x zero h = inr (let e : last ≡ x = cc in sym e)
at_end [] last x (suc n) h = absurd (cc h)
at_end (y ∷ ys) last x zero h = inl (omega (arith, length-append ys (last ∷ [])))
at_end (y ∷ ys) last x (suc n) h = elim (at_end ys last x n h) [
  | inl l ↦ inl (omega arith)
  | inr e ↦ inr e
]

-- a visible cell that isn't the final newline stands before the last place
pub before_last : {T : Type 0} (cells : List (Cell T)) (place : ℕ) (cell : Cell T) → EndsFinal cells → slice_get (visible_of cells) place ≡ Some cell → is_same cell.stamp FINAL ≡ false → place + 1 < length (visible_of cells)
before_last {T} cells place cell ends h n =
    let (front, last, l) = final_last cells ends in
    let shown : visible_of cells ≡ visible_of front ++ last ∷ [] =
    ap visible_of l.is ∙ visible_append front (last ∷ []) ∙ ap (λ b. visible_of front ++ cond (not b) (last ∷ []) []) l.gone in
    elim (at_end (visible_of front) last cell place (ap (λ cs. slice_get cs place) (sym shown) ∙ h)) [
      | inl k ↦ (let e = ap length shown in omega arith)
      | inr e ↦ absurd (let t : is_same cell.stamp FINAL ≡ true = ap (λ (c : Cell T). is_same c.stamp FINAL) e ∙ ap (λ s. is_same s FINAL) l.stamp ∙ same_refl FINAL in cc (t, n))
    ]

-- what a Delete takes away that spares the final newline stands before the last place
pub taken_before : {T : Type 0} (cells : List (Cell T)) (body : Body) (place : ℕ) → EndsFinal cells → deletes body FINAL ≡ false → takes_away body cells place ≡ true → place + 1 < length (visible_of cells)
taken_before {T} cells body place ends stays h = by (slice_get (visible_of cells) place) refl h
  where
    by : (o : Option (Cell T)) → slice_get (visible_of cells) place ≡ o → unwrap_or (option_map (λ cell. deletes body cell.stamp) o) false ≡ true → place + 1 < length (visible_of cells)
    by None e t = absurd (cc t)
    by (Some c) e t = before_last cells place c ends e (split (is_same c.stamp FINAL)
        (λ s. absurd (let f : deletes body c.stamp ≡ false = ap (deletes body) (same_from_true c.stamp FINAL s) ∙ stays in cc (t, f)))
        (λ s. s))
