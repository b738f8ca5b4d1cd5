-- Where cells stand whose stamps differ, and the cells of a run.
use Rattle.std.proofs.Common.{◌≡◌, ℕ, zero, suc, ◌+◌, ◌<◌, ◌≤◌, Bool, true, false, not, refl, sym, ap, ◌∙◌, arith, Option, Some, None, List, [], ◌∷◌, ◌||◌, cond, length}
use Rattle.std.specs.Prelude.{nat_lt, slice_get}
use Rattle.std.proofs.lemmas.Bool.Decides.{nat_tests}
use Rattle.std.proofs.lemmas.Map.Keys.{IsDistinct-head, IsDistinct-tail}
use Rattle.std.specs.List.{AllByRecursion, position_or_len}
use Rattle.rt_stamps.specs.declared.stamp.Stamp.{Stamp}
use Rattle.rt_stamps.specs.Stamps.{is_same}
use Rattle.rt_stamps.proofs.Order.{same_from_true, same_refl}
use Rattle.rt_store.specs.declared.cell.Cell.{Cell}
use Rattle.rt_store.specs.Cells.{AreDistinct, GoOnTo, GoesOn, cell_of, position_of, stamps_of}
use Rattle.rt_store.specs.Spans.{is_among}
use Rattle.rt_store.proofs.Distinct.{split}
use Rattle.rt_store.proofs.Finding.{found_nowhere, found_there}

apart_at : {T : Type 0} (s : Stamp) (cells : List (Cell T)) (n : ℕ) (x : Cell T) → AllByRecursion (λ t. is_same s t ≡ false) (stamps_of cells) → slice_get cells n ≡ Some x → is_same s x.stamp ≡ false
apart_at s [] n x h e = absurd (cc e)
apart_at {T} s (c ∷ cs) zero x h e = let i : c ≡ x = cc e in sym (ap (λ (y : Cell T). is_same s y.stamp) i) ∙ h.0
apart_at s (c ∷ cs) (suc n) x h e = apart_at s cs n x h.1 e

next : (n : ℕ) → 1 + n ≡ suc n
next n = omega arith

first_at : {T : Type 0} (cells : List (Cell T)) (n : ℕ) (x : Cell T) → AreDistinct cells → slice_get cells n ≡ Some x → position_or_len (λ cell. is_same cell.stamp x.stamp) cells ≡ n
first_at [] n x d e = absurd (cc e)
first_at {T} (c ∷ cs) zero x d e =
    let i : c ≡ x = cc e in
    let t : is_same c.stamp x.stamp ≡ true = ap (λ (y : Cell T). is_same c.stamp y.stamp) (sym i) ∙ same_refl c.stamp in
    ap (λ b. cond (not b) (1 + position_or_len (λ cell. is_same cell.stamp x.stamp) cs) 0) t
first_at (c ∷ cs) (suc n) x d e =
    let f : is_same c.stamp x.stamp ≡ false = apart_at c.stamp cs n x (IsDistinct-head is_same c.stamp (stamps_of cs) d) e in
    ap (λ b. cond (not b) (1 + position_or_len (λ cell. is_same cell.stamp x.stamp) cs) 0) f
    ∙ ap (λ m. 1 + m) (first_at cs n x (IsDistinct-tail is_same c.stamp (stamps_of cs) d) e) ∙ next n

pub get_within : {X : Type 0} (xs : List X) (n : ℕ) (x : X) → slice_get xs n ≡ Some x → n < length xs
get_within [] n x e = absurd (cc e)
get_within (y ∷ xs) zero x e = omega arith
get_within (y ∷ xs) (suc n) x e = let i = get_within xs n x e in omega arith

-- a cell stands at the position that its stamp tells
pub position_at : {T : Type 0} (cells : List (Cell T)) (n : ℕ) (x : Cell T) → AreDistinct cells → slice_get cells n ≡ Some x → position_of cells x.stamp ≡ Some n
position_at cells n x d e =
    let i = first_at cells n x d e in
    let l : nat_lt n (length cells) ≡ true = (let k = get_within cells n x e in grind (arith, nat_tests)) in
    (λ j. cond (nat_lt (i j) (length cells)) (Some (i j)) None) ∙ ap (λ b. cond b (Some n) None) l

-- a cell's stamp is among those of the cells
pub among_at : {T : Type 0} (cells : List (Cell T)) (n : ℕ) (x : Cell T) → slice_get cells n ≡ Some x → is_among (stamps_of cells) x.stamp ≡ true
among_at [] n x e = absurd (cc e)
among_at {T} (c ∷ cs) zero x e =
    let i : c ≡ x = cc e in
    ap (λ b. b || is_among (stamps_of cs) x.stamp) (ap (λ (y : Cell T). is_same y.stamp x.stamp) i ∙ same_refl x.stamp)
among_at (c ∷ cs) (suc n) x e = or_right (is_same c.stamp x.stamp) _ (among_at cs n x e)
  where
    or_right : (a b : Bool) → b ≡ true → (a || b) ≡ true
    or_right true b h = refl
    or_right false b h = h

-- RUNS

pub run_held : {T : Type 0} (cells : List (Cell T)) (first : Cell T) (last n : ℕ) → GoOnTo cells first last → first.stamp.count + n ≤ last
    → is_among (stamps_of cells) (record { count = first.stamp.count + n; site = first.stamp.site }) ≡ true
run_held cells first last n run le =
    let (cell, there, on) = run.each n le in
    ap (is_among (stamps_of cells)) (sym on.stamp) ∙ among_at cells (run.position + n) cell there

pub run_found : {T : Type 0} (cells : List (Cell T)) (first : Cell T) (last n : ℕ) → AreDistinct cells → GoOnTo cells first last → first.stamp.count + n ≤ last
    → (cell : Cell T) × (cell_of cells (record { count = first.stamp.count + n; site = first.stamp.site }) ≡ Some cell) × GoesOn first n cell
run_found cells first last n distinct run le =
    let (cell, there, on) = run.each n le in
    let at = position_at cells (run.position + n) cell distinct there in
    (cell, ap (cell_of cells) (sym on.stamp) ∙ sym (found_there cells cell.stamp (run.position + n) at) ∙ there, on)

-- what a stamp finds has it
pub found_stamp : {T : Type 0} (cells : List (Cell T)) (s : Stamp) (x : Cell T) → cell_of cells s ≡ Some x → x.stamp ≡ s
found_stamp [] s x h = absurd (cc h)
found_stamp {T} (c ∷ cs) s x h = split (is_same c.stamp s)
    (λ e. let i : Some c ≡ Some x = sym (ap (λ b. cond b (Some c) (cell_of cs s)) e) ∙ h in let j : c ≡ x = cc in sym (ap (λ (y : Cell T). y.stamp) j) ∙ same_from_true c.stamp s e)
    (λ e. found_stamp cs s x (sym (ap (λ b. cond b (Some c) (cell_of cs s)) e) ∙ h))

-- what a stamp finds stands at a position
position_of_found : {T : Type 0} (cells : List (Cell T)) (s : Stamp) (x : Cell T) → cell_of cells s ≡ Some x → (position : ℕ) × (position_of cells s ≡ Some position)
position_of_found {T} cells s x h = by (position_of cells s) refl
  where
    by : (o : Option ℕ) → position_of cells s ≡ o → (position : ℕ) × (position_of cells s ≡ Some position)
    by None e = let none : None ≡ cell_of cells s = found_nowhere cells s e in absurd (cc (none, h))
    by (Some n) e = (n, e)

-- a cell that its stamp finds is a run of one
pub run_of_one : {T : Type 0} (cells : List (Cell T)) (stamp : Stamp) (cell : Cell T) → cell_of cells stamp ≡ Some cell → GoOnTo cells cell stamp.count
run_of_one {T} cells stamp cell found =
    let (position, here) = position_of_found cells stamp cell found in
    let same = found_stamp cells stamp cell found in
    record {
      position = position;
      here = ap (position_of cells) same ∙ here;
      each = λ n le.
          let z : n ≡ 0 = (let c = ap (λ (s : Stamp). s.count) same in omega (arith, le, c)) in
          let p : position + n ≡ position = omega (arith, z) in
          let k : cell.stamp.count ≡ cell.stamp.count + n = omega (arith, z) in (
            cell,
            ap (slice_get cells) p ∙ found_there cells stamp position here ∙ found,
            record { stamp = ap (λ count. record { count = count; site = cell.stamp.site }) k; gone = refl; state = refl },
          );
    }
