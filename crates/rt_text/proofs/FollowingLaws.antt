-- Runs of places that are taken away one after the other, from the last to the first.
use Rattle.std.proofs.Common.{◌≡◌, ℕ, zero, suc, ◌+◌, ◌-◌, ◌<◌, ◌≤◌, Bool, true, false, ◌||◌, List, [], ◌∷◌, length, take, get_or, refl, ap, ◌∙◌, arith}
use Rattle.std.specs.Prelude.{nat_le}
use Rattle.std.proofs.lemmas.Bool.{and_left, and_right, lt-leb, le-ltb}
use Rattle.rt_marks.specs.Marks.{Mark, marks_removed, marks_left, place_removed, place_left, is_within_or}
use Rattle.rt_marks.proofs.Leaving.{marks_then, place_then}
use Rattle.rt_rga.specs.declared.taken.PlaceRun.{PlaceRun}
use Rattle.rt_rga.specs.Taken.{AreFallingRuns, is_in_run, is_in_runs}
use Rattle.rt_text.specs.Widgets.{WidgetValue, widget_removed, widget_without}

-- no run is empty
pub run_forward : (end : ℕ) (runs : List PlaceRun) (i : ℕ) (d : PlaceRun) → i < length runs → AreFallingRuns end runs → (get_or runs i d).from ≤ (get_or runs i d).to
run_forward end [] i d h k = absurd (omega (arith, h))
run_forward end (run ∷ runs) zero d h k = omega (arith, k.0)
run_forward end (run ∷ runs) (suc i) d h k = run_forward run.from runs i d (omega (arith, h)) k.2

-- and each ends below their end
run_below : (end : ℕ) (runs : List PlaceRun) (i : ℕ) (d : PlaceRun) → i < length runs → AreFallingRuns end runs → (get_or runs i d).to < end
run_below end [] i d h k = absurd (omega (arith, h))
run_below end (run ∷ runs) zero d h k = k.1
run_below end (run ∷ runs) (suc i) d h k =
    let next = run_below run.from runs i d (omega (arith, h)) k.2 in
    omega (arith, next, k.0, k.1)

outside : (run : PlaceRun) (rest : Bool) (p : ℕ) → p < run.from → rest ≡ false → (is_in_run run p || rest) ≡ false
outside run rest p l e = ap (λ b. b || rest) (and_left _ _ (lt-leb run.from p l)) ∙ e

-- so the runs before one in the list are behind it in the text
not_before : (end : ℕ) (runs : List PlaceRun) (i : ℕ) (d : PlaceRun) → i < length runs → AreFallingRuns end runs → (p : ℕ) → p < (get_or runs i d).to → is_in_runs (take i runs) p ≡ false
not_before end [] i d h k p l = absurd (omega (arith, h))
not_before end (run ∷ runs) zero d h k p l = refl
not_before end (run ∷ runs) (suc i) d h k p l =
    let below = run_below run.from runs i d (omega (arith, h)) k.2 in
    outside run (is_in_runs (take i runs) p) p (omega (arith, below, l)) (not_before run.from runs i d (omega (arith, h)) k.2 p l)

or_swap : (a b c : Bool) → (a || (b || c)) ≡ (b || (a || c))
or_swap true true c = refl
or_swap true false c = refl
or_swap false b c = refl

covers_suc : (runs : List PlaceRun) (i : ℕ) (d : PlaceRun) → i < length runs → (p : ℕ)
    → is_within_or (get_or runs i d).from (get_or runs i d).to (is_in_runs (take i runs)) p ≡ is_in_runs (take (suc i) runs) p
covers_suc [] i d h p = absurd (omega (arith, h))
covers_suc (run ∷ runs) zero d h p = refl
covers_suc (run ∷ runs) (suc i) d h p =
    or_swap (is_in_run (get_or runs i d) p) (is_in_run run p) (is_in_runs (take i runs) p)
    ∙ ap (λ b. is_in_run run p || b) (covers_suc runs i d (omega (arith, h)) p)

-- the runs up to one and the one
covers_more : (runs : List PlaceRun) (i : ℕ) (d : PlaceRun) → i < length runs
    → is_within_or (get_or runs i d).from (get_or runs i d).to (is_in_runs (take i runs)) ≡ is_in_runs (take (i + 1) runs)
covers_more runs i d h =
    let next : suc i ≡ i + 1 = omega arith in
    (λ j p. covers_suc runs i d h p j) ∙ ap (λ n. is_in_runs (take n runs)) next

pub marks_follow : (end : ℕ) (runs : List PlaceRun) (i : ℕ) (d : PlaceRun) (marks : List Mark) → i < length runs → AreFallingRuns end runs
    → marks_removed (get_or runs i d).from ((get_or runs i d).to - (get_or runs i d).from) (marks_left (is_in_runs (take i runs)) marks) ≡ marks_left (is_in_runs (take (i + 1) runs)) marks
marks_follow end runs i d marks h k =
    let run = get_or runs i d in
    marks_then (is_in_runs (take i runs)) run.from run.to (not_before end runs i d h k) marks ∙ ap (λ r. marks_left r marks) (covers_more runs i d h)

pub own_follow : (end : ℕ) (runs : List PlaceRun) (i : ℕ) (d : PlaceRun) (own : WidgetValue) → i < length runs → AreFallingRuns end runs
    → widget_removed (get_or runs i d).from ((get_or runs i d).to - (get_or runs i d).from) (widget_without (is_in_runs (take i runs)) own) ≡ widget_without (is_in_runs (take (i + 1) runs)) own
own_follow end runs i d own h k =
    let run = get_or runs i d in
    let before = is_in_runs (take i runs) in
    let at : (p : ℕ) → place_removed run.from (run.to - run.from) (place_left before p) ≡ place_left (is_in_runs (take (i + 1) runs)) p =
    λ p. place_then before run.from run.to (not_before end runs i d h k) p ∙ ap (λ r. place_left r p) (covers_more runs i d h) in
    λ j. record own { insert = record own.insert { place = at own.insert.place j }; current = record own.current { place = at own.current.place j } }

-- the last place of a text stays
pub last_stays : (end : ℕ) (runs : List PlaceRun) (p : ℕ) → end ≤ p + 1 → AreFallingRuns end runs → is_in_runs runs p ≡ false
last_stays end [] p h k = refl
last_stays end (run ∷ runs) p h k =
    ap (λ b. b || is_in_runs runs p) (and_right (nat_le run.from p) _ (le-ltb p run.to (omega (arith, h, k.1))))
    ∙ last_stays run.from runs p (omega (arith, h, k.0, k.1)) k.2
