-- Places in runs.
use Rattle.rt_rows.specs.declared.rows.RowPlace.{RowPlace}
use Rattle.std.proofs.Common.{◌≡◌, ℕ, zero, suc, ◌+◌, ◌-◌, ◌*◌, ◌<◌, ◌≤◌, Bool, true, false, List, [], ◌∷◌, ◌++◌, length, get_or, take, refl, ap, ◌∙◌, arith, append-nil, length-append}
use Rattle.std.specs.List.Sorted.{IsPartitionedBy}
use Rattle.rt_oplog.specs.declared.run.Run.{Run}
use Rattle.std.proofs.lemmas.List.{get_or-append-add}
use Rattle.rt_oplog.specs.Kept.{leading}
use Rattle.rt_oplog.specs.Places.{end_place}
use Rattle.rt_oplog.specs.Runs.{places_from, places_in, places_of, places_to}
use Rattle.rt_oplog.proofs.Sets.{split}
use Rattle.rt_oplog.proofs.InParts as parts

pub length_from : (row at n : ℕ) → length (places_from row at n) ≡ n
length_from row at zero = refl
length_from row at (suc n) = ap suc (length_from row (suc at) n)

pub length_of : (run : Run) → length (places_of run) ≡ suc run.more
length_of run = length_from run.row run.at (suc run.more)

pub place_from : (row at n i : ℕ) (d : RowPlace) → i < n → get_or (places_from row at n) i d ≡ record { row = row; at = at + i }
place_from row at zero i d l = absurd (omega arith)
place_from row at (suc n) zero d l = let e : at ≡ at + 0 = omega arith in ap (λ k. record { row = row; at = k }) e
place_from row at (suc n) (suc i) d l =
    let e : suc at + i ≡ at + suc i = omega arith in
    place_from row (suc at) n i d (omega arith) ∙ ap (λ k. record { row = row; at = k }) e

pub from_more : (row at m n : ℕ) → places_from row at (m + n) ≡ places_from row at m ++ places_from row (at + m) n
from_more row at zero n =
    let e : 0 + n ≡ n = omega arith in
    let f : at ≡ at + 0 = omega arith in
    ap (places_from row at) e ∙ ap (λ k. places_from row k n) f
from_more row at (suc m) n =
    let e : suc m + n ≡ suc (m + n) = omega arith in
    let f : suc at + m ≡ at + suc m = omega arith in
    ap (places_from row at) e ∙ ap (λ xs. record { row = row; at = at } ∷ xs) (from_more row (suc at) m n ∙ ap (λ k. places_from row (suc at) m ++ places_from row k n) f)

pub some_of_run : (run : Run) → 0 < length (places_of run)
some_of_run run = omega (arith, length_of run)

pub some_of_runs : (runs : List Run) → 0 < length runs → 0 < length (places_in runs)
some_of_runs [] l = absurd (omega arith)
some_of_runs (run ∷ runs) l = omega (arith, some_of_run run, length-append (places_of run) (places_in runs))

-- there are at least as many places as runs, and not too many to be counted
pub few_places : (runs : List Run) → length (places_in runs) ≤ 4294967296 * length runs
few_places [] = omega arith
few_places (run ∷ runs) = omega (arith, few_places runs, length_of run, run.fits, length-append (places_of run) (places_in runs))

pub each_places : (runs : List Run) → length runs ≤ length (places_in runs)
each_places [] = omega arith
each_places (run ∷ runs) = omega (arith, each_places runs, length_of run, length-append (places_of run) (places_in runs))

-- the first place that fails a test, among places of which those that pass stand in front

pub leading_past : {X : Type 0} (p : X → Bool) (xs : List X) (i : ℕ) (d : X) → IsPartitionedBy p xs → i < length xs → p (get_or xs i d) ≡ true → i < leading p xs
leading_past p [] i d h l e = absurd (omega arith)
leading_past p (x ∷ xs) zero d h l e = rw e (omega arith)
leading_past p (x ∷ xs) (suc i) d h l e =
    let first : p x ≡ true = h 0 (suc i) d (omega arith) l e in
    let r = leading_past p xs i d (λ j k y m n f. h (suc j) (suc k) y (omega arith) (omega arith) f) (omega arith) e in
    rw first (omega (arith, r))

pub leading_upto : {X : Type 0} (p : X → Bool) (xs : List X) (i : ℕ) (d : X) → i < length xs → p (get_or xs i d) ≡ false → leading p xs ≤ i
leading_upto p [] i d l e = absurd (omega arith)
leading_upto p (x ∷ xs) zero d l e = rw e (omega arith)
leading_upto p (x ∷ xs) (suc i) d l e =
    let r = leading_upto p xs i d (omega arith) e in
    split (p x) (λ k. rw k (omega (arith, r))) (λ k. rw k (omega arith))

-- places so far, as runs are gone through

pub places_next : (runs : List Run) (i : ℕ) (run : Run) → i < length runs → run ≡ get_or runs i run → places_in (take (i + 1) runs) ≡ places_in (take i runs) ++ places_of run
places_next runs i run l e = parts.places_next places_of runs i run l e

pub places_up_to : (runs : List Run) (i : ℕ) (run : Run) → i < length runs → run ≡ get_or runs i run → places_to runs (i + 1) ≡ places_to runs i + length (places_of run)
places_up_to runs i run l e = parts.places_up_to places_of runs i run l e

-- the last place is that of the last run
pub last_run : (runs : List Run) (d : Run) → 0 < length runs → end_place (places_in runs) ≡ end_place (places_of (get_or runs (length runs - 1) d))
last_run [] d l = absurd (omega arith)
last_run (run ∷ []) d l = ap end_place (append-nil (places_of run))
last_run (run ∷ next ∷ runs) d l =
    let r = last_run (next ∷ runs) d (omega arith) in
    let n = length-append (places_of run) (places_in (next ∷ runs)) in
    let some = some_of_runs (next ∷ runs) (omega arith) in
    let at : length (places_of run ++ places_in (next ∷ runs)) - 1 ≡ length (places_of run) + (length (places_in (next ∷ runs)) - 1) = omega (arith, n, some) in
    let back : suc (length (next ∷ runs) - 1) ≡ length (run ∷ next ∷ runs) - 1 = omega arith in
    let first : RowPlace = record { row = 0; at = 0 } in
    ap (λ i. get_or (places_of run ++ places_in (next ∷ runs)) i first) at ∙ get_or-append-add (places_of run) (places_in (next ∷ runs)) (length (places_in (next ∷ runs)) - 1) first
    ∙ r ∙ ap (λ i. end_place (places_of (get_or (run ∷ next ∷ runs) i d))) back
