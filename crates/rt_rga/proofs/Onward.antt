-- The stamps of a run, and what is found by them.
use Rattle.std.proofs.Common.{◌≡◌, ℕ, zero, suc, ◌+◌, ◌-◌, ◌<◌, ◌≤◌, Bool, true, false, refl, sym, ap, ◌∙◌, arith, Some, None, List, ◌∷◌, ◌++◌, ◌&&◌, ◌||◌, not}
use Rattle.std.specs.List.{list_any}
use Rattle.std.specs.Option.{is_some}
use Rattle.std.proofs.lemmas.List.Folds.{list_any-append}
use Rattle.std.proofs.lemmas.Bool.Decides.{nat_tests}
use Rattle.rt_stamps.specs.declared.stamp.Stamp.{Stamp}
use Rattle.rt_stamps.specs.declared.stamp.TheConstants.{FINAL}
use Rattle.rt_stamps.specs.Stamps.{is_same}
use Rattle.rt_ops.specs.Operations.{stamps_from}
use Rattle.rt_store.specs.declared.cell.Cell.{Cell}
use Rattle.rt_store.specs.Cells.{GoOnTo, cell_of, stamps_of}
use Rattle.rt_store.specs.Spans.{is_among}
use Rattle.rt_store.proofs.Finding.{stamp_held}
use Rattle.rt_store.proofs.Positions.{found_stamp, run_held}
use Rattle.rt_rga.specs.Kept.{is_kept_character}

-- the stamps from a count on are some first ones and the rest
parts : (site count n m : ℕ) → stamps_from site count (n + m) ≡ stamps_from site count n ++ stamps_from site (count + n) m
parts site count zero m =
    let a : count ≡ count + 0 = omega arith in
    let b : 0 + m ≡ m = omega arith in
    λ i. stamps_from site (a i) (b i)
parts site count (suc n) m =
    let more : suc n + m ≡ suc (n + m) = omega arith in
    let one : count + 1 + n ≡ count + suc n = omega arith in
    ap (stamps_from site count) more
    ∙ ap (λ l. record { count = count; site = site } ∷ l) (parts site (count + 1) n m ∙ ap (λ k. stamps_from site (count + 1) n ++ stamps_from site k m) one)

pub parted : (site count to last : ℕ) → count ≤ to → to ≤ last
    → stamps_from site count (last + 1 - count) ≡ stamps_from site count (to + 1 - count) ++ stamps_from site (to + 1) (last + 1 - (to + 1))
parted site count to last l m =
    let n : last + 1 - count ≡ (to + 1 - count) + (last + 1 - (to + 1)) = omega (arith, l, m) in
    let k : count + (to + 1 - count) ≡ to + 1 = omega (arith, l) in
    ap (stamps_from site count) n
    ∙ parts site count (to + 1 - count) (last + 1 - (to + 1))
    ∙ ap (λ c. stamps_from site count (to + 1 - count) ++ stamps_from site c (last + 1 - (to + 1))) k

-- none of some stamps from a count on passes a test
none_from : (p : Stamp → Bool) (site count n : ℕ) → ((k : ℕ) → k < n → p (record { count = count + k; site = site }) ≡ false) → list_any p (stamps_from site count n) ≡ false
none_from p site count zero h = refl
none_from p site count (suc n) h =
    let z : count + 0 ≡ count = omega arith in
    let first : p (record { count = count; site = site }) ≡ false = ap (λ c. p (record { count = c; site = site })) (sym z) ∙ h 0 (omega arith) in
    ap (λ b. b || list_any p (stamps_from site (count + 1) n)) first
    ∙ none_from p site (count + 1) n (λ k lt. let e : count + 1 + k ≡ count + suc k = omega arith in ap (λ c. p (record { count = c; site = site })) e ∙ h (suc k) (omega (arith, lt)))

-- where none passes up to a count, the rest tells
pub none_to : (p : Stamp → Bool) (site count to last : ℕ) → count ≤ to → to ≤ last → ((n : ℕ) → count + n ≤ to → p (record { count = count + n; site = site }) ≡ false)
    → list_any p (stamps_from site (to + 1) (last + 1 - (to + 1))) ≡ list_any p (stamps_from site count (last + 1 - count))
none_to p site count to last l m h =
    let none = none_from p site count (to + 1 - count) (λ k lt. h k (omega (arith, lt, l))) in
    sym (
    ap (list_any p) (parted site count to last l m)
    ∙ list_any-append p (stamps_from site count (to + 1 - count)) (stamps_from site (to + 1) (last + 1 - (to + 1)))
    ∙ ap (λ b. b || list_any p (stamps_from site (to + 1) (last + 1 - (to + 1)))) none
    )

-- and where that is all, none does
pub none_left : (p : Stamp → Bool) (site count to last : ℕ) → count ≤ to → to ≡ last → ((n : ℕ) → count + n ≤ to → p (record { count = count + n; site = site }) ≡ false)
    → false ≡ list_any p (stamps_from site count (last + 1 - count))
none_left p site count to last l m h =
    let z : last + 1 - (to + 1) ≡ 0 = omega (arith, m) in
    ap (λ n. list_any p (stamps_from site (to + 1) n)) (sym z) ∙ none_to p site count to last l (omega (arith, m)) h

-- CHARACTERS

-- the stamps of a run are those of characters, but for the final newline's
pub characters_on : (cells : List (Cell ℕ)) (first : Cell ℕ) (stamp : Stamp) (last n : ℕ) → Some first ≡ cell_of cells stamp → GoOnTo cells first last → stamp.count + n ≤ last
    → is_same (record { count = stamp.count + n; site = stamp.site }) FINAL ≡ false → is_kept_character cells (record { count = stamp.count + n; site = stamp.site }) ≡ true
characters_on cells first stamp last n found run le other =
    let same = found_stamp cells stamp first (sym found) in
    let count = ap (λ (s : Stamp). s.count) same in
    let held = run_held cells first last n run (omega (arith, le, count)) in
    let among = ap (λ (s : Stamp). is_among (stamps_of cells) (record { count = s.count + n; site = s.site })) (sym same) ∙ held in
    λ i. not (other i) && among i

-- where nothing is found is no character
pub not_found : (cells : List (Cell ℕ)) (stamp : Stamp) → cell_of cells stamp ≡ None → is_kept_character cells stamp ≡ false
not_found cells stamp none = ap (λ b. not (is_same stamp FINAL) && b) (sym (stamp_held cells stamp) ∙ ap is_some none) ∙ and_false (not (is_same stamp FINAL))
  where
    and_false : (b : Bool) → (b && false) ≡ false
    and_false true = refl
    and_false false = refl

-- a stamp of a real site isn't the final newline's
pub is_real : (count site : ℕ) → (site ≡ 0 → ⊥) → is_same (record { count = count; site = site }) FINAL ≡ false
is_real count site h = grind (arith, nat_tests, h)
