-- The places of some characters that are visible, as ranges, are those of the definition.
use Rattle.std.proofs.Common.{get_or, ◌≡◌, ℕ, ◌<◌, ◌≤◌, List, [], ◌∷◌, Bool, true, false, cond, ◌&&◌, ◌||◌, length, refl, sym, ◌∙◌, ap, arith, Option, Some, None, ◌⊎◌, inl, inr}
use Rattle.std.specs.Prelude.{option_and_then, option_map, nat_lt, slice_get, unwrap_or}
use Rattle.std.proofs.lemmas.Bool.Decides.{nat_tests}
use Rattle.std.proofs.lemmas.List.Folds.{list_any-append}
use Rattle.std.proofs.lemmas.Option.{slice_get_cases}
use Rattle.rt_stamps.specs.declared.stamp.Stamp.{Stamp}
use Rattle.rt_stamps.specs.Stamps.{is_same}
use Rattle.rt_stamps.proofs.Order.{same_from_true, same_refl}
use Rattle.rt_store.specs.declared.cell.Cell.{Cell}
use Rattle.rt_store.specs.Cells.{AreDistinct, cell_of, position_of, visible_before, visible_of}
use Rattle.rt_store.specs.Spans.{is_among}
use Rattle.rt_store.proofs.Distinct.{split}
use Rattle.rt_store.proofs.Finding.{place_found}
use Rattle.rt_rga.proofs.RemovedPlaces.{found_visible}
use Rattle.rt_plans.specs.Removals.{is_covered, is_in}
use Rattle.rt_revert.specs.Planning.{range_at, ranges_of_visible, visible_place}
use Rattle.rt_revert.specs.Reverting.{are_at}

-- what is found by a stamp has it
pub found_stamp : {T : Type 0} (cells : List (Cell T)) (s : Stamp) (x : Cell T) → cell_of cells s ≡ Some x → x.stamp ≡ s
found_stamp [] s x h = absurd (cc h)
found_stamp {T} (c ∷ cs) s x h = split (is_same c.stamp s)
    (λ e. let i : Some c ≡ Some x = sym (ap (λ b. cond b (Some c) (cell_of cs s)) e) ∙ h in let j : c ≡ x = cc in sym (ap (λ (y : Cell T). y.stamp) j) ∙ same_from_true c.stamp s e)
    (λ e. found_stamp cs s x (sym (ap (λ b. cond b (Some c) (cell_of cs s)) e) ∙ h))

-- a place that is told is one of a visible cell
pub record IsToldAt {T : Type 0} (cells : List (Cell T)) (s : Stamp) (place : ℕ) (cell : Cell T) : Type 0 where
  pub stamp : cell.stamp ≡ s
  pub there : slice_get (visible_of cells) place ≡ Some cell

pub told : {T : Type 0} (cells : List (Cell T)) (s : Stamp) (place : ℕ) → visible_place cells s ≡ Some place → (cell : Cell T) × IsToldAt cells s place cell
told {T} cells s place h = by (cell_of cells s) refl h
  where
    shown : (c : Cell T) (b : Bool) → cell_of cells s ≡ Some c → c.gone ≡ b
        → cond b None (option_map (visible_before cells) (position_of cells s)) ≡ Some place → (cell : Cell T) × IsToldAt cells s place cell
    shown c true e g h = absurd (cc h)
    shown c false e g h = (c, record { stamp = found_stamp cells s c e; there = place_found cells s c place e g h })

    by : (o : Option (Cell T)) → cell_of cells s ≡ o
        → option_and_then (λ (cell : Cell T). cond cell.gone None (option_map (visible_before cells) (position_of cells s))) o ≡ Some place
        → (cell : Cell T) × IsToldAt cells s place cell
    by None e h = absurd (cc h)
    by (Some c) e h = shown c c.gone e refl h

-- one stamp's
pub one_covered : {T : Type 0} (cells : List (Cell T)) (s : Stamp) (place : ℕ) (v : Cell T) → AreDistinct cells → slice_get (visible_of cells) place ≡ Some v
    → is_covered (range_at (visible_place cells s)) place ≡ is_same s v.stamp
one_covered {T} cells s place v d h = split (is_same s v.stamp) here there
  where
    at : is_covered (range_at (Some place)) place ≡ true
    at = grind (arith, nat_tests)

    here : is_same s v.stamp ≡ true → is_covered (range_at (visible_place cells s)) place ≡ is_same s v.stamp
    here e =
        let f = found_visible cells place v d h in
        let same : s ≡ v.stamp = same_from_true s v.stamp e in
        let all : visible_place cells v.stamp ≡ Some place =
        ap (option_and_then (λ (cell : Cell T). cond cell.gone None (option_map (visible_before cells) (position_of cells v.stamp)))) f.found
        ∙ ap (λ b. cond b None (option_map (visible_before cells) (position_of cells v.stamp))) f.shown ∙ f.at in
        ap (λ x. is_covered (range_at (visible_place cells x)) place) same ∙ ap (λ o. is_covered (range_at o) place) all ∙ at ∙ sym e

    differs : (q : ℕ) → visible_place cells s ≡ Some q → q ≡ place → is_same s v.stamp ≡ true
    differs q k e =
        let t = told cells s q k in
        let same : Some t.0 ≡ Some v = sym t.1.there ∙ ap (slice_get (visible_of cells)) e ∙ h in
        let one : t.0 ≡ v = cc in
        ap (λ (x : Stamp). is_same x v.stamp) (sym t.1.stamp ∙ ap (λ (c : Cell T). c.stamp) one) ∙ same_refl v.stamp

    apart : (q : ℕ) → is_covered (range_at (Some q)) place ≡ true → q ≡ place
    apart q e = grind (arith, nat_tests)

    by : (o : Option ℕ) → visible_place cells s ≡ o → is_same s v.stamp ≡ false → is_covered (range_at o) place ≡ is_same s v.stamp
    by None k e = sym e
    by (Some q) k e = split (is_covered (range_at (Some q)) place)
        (λ c. absurd (let t = differs q k (apart q c) in cc (t, e)))
        (λ c. c ∙ sym e)

    there : is_same s v.stamp ≡ false → is_covered (range_at (visible_place cells s)) place ≡ is_same s v.stamp
    there e = ap (λ o. is_covered (range_at o) place) refl ∙ by (visible_place cells s) refl e

all_covered : {T : Type 0} (cells : List (Cell T)) (stamps : List Stamp) (place : ℕ) (v : Cell T) → AreDistinct cells → slice_get (visible_of cells) place ≡ Some v
    → is_covered (ranges_of_visible cells stamps) place ≡ is_among stamps v.stamp
all_covered cells [] place v d h = refl
all_covered cells (s ∷ stamps) place v d h =
    list_any-append (λ range. is_in range place) (range_at (visible_place cells s)) (ranges_of_visible cells stamps)
    ∙ (λ i. one_covered cells s place v d h i || all_covered cells stamps place v d h i)

pub covered : {T : Type 0} (cells : List (Cell T)) (stamps : List Stamp) (place : ℕ) → AreDistinct cells
    → (nat_lt place (length (visible_of cells)) && is_covered (ranges_of_visible cells stamps) place) ≡ are_at stamps cells place
covered {T} cells stamps place d = by (slice_get_cases (visible_of cells) place).1
  where
    tests : Option (Cell T) → Bool
    tests o = unwrap_or (option_map (λ (cell : Cell T). is_among stamps cell.stamp) o) false

    by : ((x : Cell T) × (place < length (visible_of cells)) × (slice_get (visible_of cells) place ≡ Some x) × (get_or (visible_of cells) place x ≡ x))
        ⊎ ((length (visible_of cells) ≤ place) × (slice_get (visible_of cells) place ≡ None))
        → (nat_lt place (length (visible_of cells)) && is_covered (ranges_of_visible cells stamps) place) ≡ are_at stamps cells place
    by (inl x) =
        let less : nat_lt place (length (visible_of cells)) ≡ true = grind (arith, nat_tests, x.1) in
        ap (λ b. b && is_covered (ranges_of_visible cells stamps) place) less ∙ all_covered cells stamps place x.0 d x.2 ∙ sym (ap tests x.2)
    by (inr x) =
        let past : nat_lt place (length (visible_of cells)) ≡ false = grind (arith, nat_tests, x.0) in
        ap (λ b. b && is_covered (ranges_of_visible cells stamps) place) past ∙ sym (ap tests x.1)
