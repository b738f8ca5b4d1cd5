-- Laws of cells.
use Rattle.std.proofs.Common.{◌≡◌, ℕ, ◌+◌, ◌<◌, ◌≤◌, zero, suc, List, [], ◌∷◌, ◌++◌, Bool, true, false, cond, length, take, drop, refl, sym, ◌∙◌, ap, arith, eqb, Some, not, ◌&&◌}
use Rattle.std.specs.Prelude.{slice_get, take_while, nat_lt}
use Rattle.std.proofs.lemmas.List.Elements.{All-drop, All-take, All-append}
use Rattle.std.proofs.lemmas.Bool.{le-ltb, eqb-true}
use Rattle.std.specs.List.{position_or_len}
use Rattle.rt_stamps.specs.declared.stamp.Stamp.{Stamp}
use Rattle.rt_store.specs.declared.cell.Cell.{Cell}
use Rattle.rt_stamps.specs.declared.stamp.TheConstants.{FINAL}
use Rattle.rt_stamps.specs.Stamps.{is_before, is_same}
use Rattle.rt_store.specs.Cells.{EndsFinal, final_cell, skip_from, visible_of, after_element, with_state, cells_from}
use Rattle.rt_plans.specs.DocValue.{put_after}
use Rattle.rt_store.specs.Written.{IsBelowNext, AreBelowNext}
use Rattle.rt_stamps.proofs.Order.{same_refl}

-- a known stamp is no greater than one of the next count
lesser_site : (new old : Stamp) (b : Bool) → eqb new.count old.count ≡ b → (new.count ≡ old.count → old.site ≡ 0) → b && nat_lt new.site old.site ≡ false
lesser_site new old true e h = le-ltb new.site old.site (omega (arith, h (eqb-true new.count old.count e)))
lesser_site new old false e h = refl

lesser : (count : ℕ) (new old : Stamp) → new.count ≡ count + 1 → IsBelowNext count old → is_before new old ≡ false
lesser count new old n h = rw (le-ltb new.count old.count (omega arith)) (lesser_site new old (eqb new.count old.count) refl (λ e. h.1 (sym e ∙ n)))

-- no cell is skipped by a stamp that is newer than all
skip_none : {T : Type 0} (count : ℕ) (new : Stamp) (xs : List (Cell T)) → new.count ≡ count + 1 → AreBelowNext count xs → length (take_while (λ cell. is_before new cell.stamp) xs) ≡ 0
skip_none count new [] n h = refl
skip_none count new (x ∷ xs) n h = rw (lesser count new x.stamp n (h 0 x (omega arith))) refl

-- so a newest cell goes directly after its left element
pub skip_from_newest : {T : Type 0} (count : ℕ) (cells : List (Cell T)) (left new : Stamp) → new.count ≡ count + 1 → AreBelowNext count cells → skip_from cells left new ≡ after_element cells left
skip_from_newest count cells left new n h =
    let known : AreBelowNext count (drop (after_element cells left) cells) = All-drop (λ cell. IsBelowNext count cell.stamp) (after_element cells left) cells h in
    let none : length (take_while (λ cell. is_before new cell.stamp) (drop (after_element cells left) cells)) ≡ 0 = skip_none count new (drop (after_element cells left) cells) n known in
    omega arith

-- new cells are known from their last count on
pub known_from : {T : Type 0} (first site : ℕ) (state : T) (cs : List ℕ) (count : ℕ) → first + length cs ≤ count + 1 → AreBelowNext count (cells_from first site state cs)
known_from first site state [] count h = λ k d lt. absurd (omega arith)
known_from {T} first site state (c ∷ cs) count h = λ k d lt. known_at first site c cs count h (known_from (first + 1) site state cs count (omega arith)) k d lt
  where
    known_at : (first site c : ℕ) (cs : List ℕ) (count : ℕ) → first + suc (length cs) ≤ count + 1 → AreBelowNext count (cells_from (first + 1) site state cs) → AreBelowNext count (cells_from first site state (c ∷ cs))
    known_at first site c cs count h rest zero d lt = (omega arith, λ e. absurd (omega arith))
    known_at first site c cs count h rest (suc k) d lt = rest k d (omega arith)

-- what is known stays known
pub known_later : {T : Type 0} (count later : ℕ) (cells : List (Cell T)) → count < later → AreBelowNext count cells → AreBelowNext later cells
known_later count later cells le h = λ k d lt. let p = h k d lt in (omega arith, λ e. absurd (omega arith))

pub known_put : {T : Type 0} (count : ℕ) (cells : List (Cell T)) (left : Stamp) (new : List (Cell T)) → AreBelowNext count cells → AreBelowNext count new → AreBelowNext count (put_after cells left new)
known_put {T} count cells left new h k =
    let at = after_element cells left in
    let P : Cell T → Type 0 = λ cell. IsBelowNext count cell.stamp in
    All-append P (take at cells ++ new) (drop at cells) (All-append P (take at cells) new (All-take P at cells h) k) (All-drop P at cells h)

one_further : (b : Bool) (n m : ℕ) → n + 1 < m → cond b (1 + n) 0 + 1 < suc m
one_further true n m h = omega arith
one_further false n m h = omega arith

fewer : {T : Type 0} (cells : List (Cell T)) → length (visible_of cells) ≤ length cells
fewer [] = omega arith
fewer (x ∷ xs) = elim x.gone as (λ b. length (cond (not b) (x ∷ visible_of xs) (visible_of xs)) ≤ suc (length xs)) [ true ↦ omega (arith, fewer xs) | false ↦ omega (arith, fewer xs) ]

found_step : {T : Type 0} (x : Cell T) (xs : List (Cell T)) (p : ℕ) (cell : Cell T) (b : Bool) → slice_get (cond (not b) (x ∷ visible_of xs) (visible_of xs)) p ≡ Some cell → suc p < length (cond (not b) (x ∷ visible_of xs) (visible_of xs))
    → ((q : ℕ) → slice_get (visible_of xs) q ≡ Some cell → suc q < length (visible_of xs) → position_or_len (λ y. is_same y.stamp cell.stamp) xs + 1 < length xs)
    → position_or_len (λ y. is_same y.stamp cell.stamp) (x ∷ xs) + 1 < suc (length xs)
found_step x xs p cell true h k ih = one_further (not (is_same x.stamp cell.stamp)) _ _ (ih p h k)
found_step x xs zero cell false h k ih =
    let same : x ≡ cell = cc in
    rw (← same, same_refl x.stamp) (omega (arith, fewer xs))
found_step x xs (suc q) cell false h k ih = one_further (not (is_same x.stamp cell.stamp)) _ _ (ih q h (omega arith))

-- a visible cell before the last is found before the last cell
pub found_before : {T : Type 0} (cells : List (Cell T)) (p : ℕ) (cell : Cell T) → slice_get (visible_of cells) p ≡ Some cell → suc p < length (visible_of cells)
    → position_or_len (λ x. is_same x.stamp cell.stamp) cells + 1 < length cells
found_before [] p cell h k = absurd (omega arith)
found_before (x ∷ xs) p cell h k = found_step x xs p cell x.gone h k (λ q a b. found_before xs q cell a b)

-- a last cell that stands alone is the final newline, in some state
pub final_parts : (x : Cell ℕ) → EndsFinal (x ∷ []) → (x.stamp ≡ FINAL) × (x.ch ≡ 10) × (x.gone ≡ false)
final_parts x h =
    let e : with_state final_cell.state x ≡ final_cell = cc in
    (ap (λ (cell : Cell ℕ). cell.stamp) e, ap (λ (cell : Cell ℕ). cell.ch) e, ap (λ (cell : Cell ℕ). cell.gone) e)
