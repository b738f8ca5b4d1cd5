-- The cells of a run from a stamp's on.
use Rattle.std.proofs.Common.{◌≡◌, ℕ, ◌+◌, ◌-◌, ◌<◌, ◌≤◌, true, List, refl, sym, ap, ◌∙◌, arith, subst, Some, get_or}
use Rattle.std.specs.Prelude.{◌==◌, ◌&&◌, nat_le, nat_lt, slice_get}
use Rattle.std.specs.List.{AllByRecursion}
use Rattle.std.proofs.lemmas.Bool.{and_parts, eqb-true}
use Rattle.std.proofs.lemmas.Bool.Decides.{nat_tests}
use Rattle.std.proofs.lemmas.Option.{slice_get-get_or}
use Rattle.rt_stamps.specs.declared.stamp.Stamp.{Stamp}
use Rattle.rt_store.specs.declared.cell.Cell.{Cell}
use Rattle.rt_store.specs.Cells.{GoOnTo, position_of}
use Rattle.rt_tree.specs.declared.node.Counts.{Counts}
use Rattle.rt_tree.specs.declared.node.CountedBy.TheVariants.{Cells}
use Rattle.rt_tree.specs.declared.node.Run.{Run}
use Rattle.rt_tree.specs.Runs.{IsRun, cells_of_runs, run_characters, has_cell, run_cells}
use Rattle.rt_tree.specs.Walks.{IsBehind, StandsAt}
use Rattle.rt_tree.proofs.CellLaws.{characters_length, get-from, is_run, nth_found}
use Rattle.rt_tree.proofs.Positions.{has_within}

-- the cell so many places into a run
abbrev in_run : List ℕ → Run → ℕ → Cell ℕ
in_run text run i = record { stamp = record { count = run.first + i; site = run.site }; ch = get_or (run_characters text run) i 0; gone = run.gone; state = run.state }

get_in : (text : List ℕ) (run : Run) (i : ℕ) → IsRun text run → i < run.len → slice_get (run_cells text run) i ≡ Some (in_run text run i)
get_in text run i is lt =
    let long = characters_length text run is in
    get-from run.gone run.first run.site run.state (run_characters text run) i (get_or (run_characters text run) i 0)
    (slice_get-get_or (run_characters text run) i 0 (omega (arith, long, lt)))

from_first : (run : Run) (stamp : Stamp) → has_cell run stamp ≡ true → run.first ≤ stamp.count
from_first run stamp h = grind (arith, nat_tests)

-- the stamp that a run has, by how far it is into the run
same_stamp : (run : Run) (stamp : Stamp) → has_cell run stamp ≡ true → record { count = run.first + (stamp.count - run.first); site = run.site } ≡ stamp
same_stamp run stamp h =
    let both = and_parts (run.site == stamp.site) (nat_le run.first stamp.count && nat_lt (stamp.count - run.first) run.len) h in
    let site : run.site ≡ stamp.site = eqb-true run.site stamp.site both.0 in
    let low = from_first run stamp h in
    let count : run.first + (stamp.count - run.first) ≡ stamp.count = omega (arith, low) in
    λ i. record { count = count i; site = site i }

module _ (text : List ℕ) (all : List Run) (run : Run) (front : Counts) (stamp : Stamp) (kept : AllByRecursion (IsRun text) all) (is : IsBehind all run front) (there : has_cell run stamp ≡ true) where
  abbrev offset : ℕ
  offset = stamp.count - run.first

  pub goes_on : (cell : Cell ℕ) (last : ℕ) → Some (front.cells + offset) ≡ position_of (cells_of_runs text all) stamp → slice_get (run_cells text run) offset ≡ Some cell → last < run.first + run.len
      → GoOnTo (cells_of_runs text all) cell last
  goes_on cell last here found low =
      let within = has_within run stamp there in
      let good = is_run text all run front offset 0 kept is.left is.right is.here in
      let first : in_run text run offset ≡ cell = some_same (sym (get_in text run offset good within) ∙ found) in
      subst (λ c. GoOnTo (cells_of_runs text all) c last) first (record {
        position = front.cells + offset;
        here = ap (position_of (cells_of_runs text all)) (same_stamp run stamp there) ∙ sym here;
        each = λ n le.
            let inside : offset + n < run.len = omega (arith, le, low) in
            let st : StandsAt Cells all run front (offset + n) (front.cells + offset + n) = record {
              left = is.left;
              right = is.right;
              here = is.here;
              before = is.before;
              at = omega arith;
              inside = inside;
            } in (
              in_run text run (offset + n),
              nth_found text all run front (offset + n) (front.cells + offset + n) kept st ∙ get_in text run (offset + n) good inside,
              record { stamp = ap (λ k. record { count = k; site = run.site }) (plus run.first offset n); gone = refl; state = refl },
            );
      })
    where
      some_same : {x y : Cell ℕ} → Some x ≡ Some y → x ≡ y
      some_same e = cc e

      plus : (a b c : ℕ) → a + (b + c) ≡ a + b + c
      plus a b c = omega arith
