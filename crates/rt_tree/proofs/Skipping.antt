-- Where a new stamp goes, past the cells of runs.
use Rattle.std.proofs.Common.{◌≡◌, ℕ, zero, suc, ◌+◌, ◌-◌, ◌<◌, ◌≤◌, not, Bool, true, false, List, [], ◌∷◌, ◌++◌, length, drop, get_or, map, refl, sym, ap, ◌∙◌, arith, Some, slice_get}
use Rattle.std.specs.Prelude.{nat_le, take_while}
use Rattle.std.specs.List.{AllByRecursion}
use Rattle.std.proofs.lemmas.Bool.Decides.{nat_tests}
use Rattle.std.proofs.lemmas.Option.{slice_get-get_or}
use Rattle.rt_stamps.specs.declared.stamp.Stamp.{Stamp}
use Rattle.rt_stamps.specs.Stamps.{is_before}
use Rattle.rt_store.specs.declared.cell.Cell.{Cell}
use Rattle.rt_store.specs.Cells.{cells_from, final_cell, stamps_of}
use Rattle.rt_store.proofs.Distinct.{split}
use Rattle.rt_store.proofs.Places.{past, past_is}
use Rattle.rt_tree.specs.declared.node.Run.{Run}
use Rattle.rt_tree.specs.Runs.{IsRun, cells_of_runs, run_characters, first_stamp, run_cells, with_gone}
use Rattle.rt_tree.specs.Sharing.{NoneIsNewer}
use Rattle.rt_tree.specs.Skips.{HasCells, passed, stops}
use Rattle.rt_tree.proofs.CellLaws.{characters_length, get-right, run_length}
use Rattle.rt_tree.proofs.Passing.{goes_on, stopped}

abbrev stamp : ℕ → ℕ → Stamp
stamp count site = record { count = count; site = site }

abbrev row : Bool → ℕ → ℕ → ℕ → List ℕ → List (Cell ℕ)
row gone count site state text = map (with_gone gone) (cells_from count site state text)

greater : (new : Stamp) (count site : ℕ) → is_before new (stamp count site) ≡ true → is_before new (stamp (count + 1) site) ≡ true
greater new count site h = grind (arith, nat_tests)

above-one : (new : Stamp) (s : Stamp) (ss : List Stamp) → is_before new s ≡ true → past new (s ∷ ss) ≡ suc (past new ss)
above-one new s ss h = rw h refl

stop-one : (new : Stamp) (s : Stamp) (ss : List Stamp) → is_before new s ≡ false → past new (s ∷ ss) ≡ 0
stop-one new s ss h = rw h refl

-- all cells of a run are greater where its first one is
past-row : (new : Stamp) (gone : Bool) (count site state : ℕ) (text : List ℕ) (rest : List (Cell ℕ)) → is_before new (stamp count site) ≡ true
    → past new (stamps_of (row gone count site state text ++ rest)) ≡ length text + past new (stamps_of rest)
past-row new gone count site state [] rest h = omega arith
past-row new gone count site state (c ∷ text) rest h =
    let one = above-one new (stamp count site) (stamps_of (row gone (count + 1) site state text ++ rest)) h in
    let more = past-row new gone (count + 1) site state text rest (greater new count site h) in
    omega (arith, one, more)

-- and those from a greater one on
past-within : (new : Stamp) (gone : Bool) (count site state : ℕ) (text : List ℕ) (rest : List (Cell ℕ)) (at : ℕ) → at < length text → is_before new (stamp (count + at) site) ≡ true
    → at + past new (stamps_of (drop at (row gone count site state text ++ rest))) ≡ length text + past new (stamps_of rest)
past-within new gone count site state [] rest at lt h = absurd (omega (arith, lt))
past-within new gone count site state (c ∷ text) rest zero lt h =
    let z : count + 0 ≡ count = omega arith in
    let all = past-row new gone count site state (c ∷ text) rest (ap (λ n. is_before new (stamp n site)) (sym z) ∙ h) in
    omega (arith, all)
past-within new gone count site state (c ∷ text) rest (suc at) lt h =
    let e : count + 1 + at ≡ count + suc at = omega arith in
    let more = past-within new gone (count + 1) site state text rest at (omega (arith, lt)) (ap (λ n. is_before new (stamp n site)) e ∙ h) in
    omega (arith, more)

-- the stamp of a cell of a run
stamp-at : (gone : Bool) (count site state : ℕ) (text : List ℕ) (rest : List (Cell ℕ)) (at : ℕ) (cell : Cell ℕ) → at < length text → slice_get (row gone count site state text ++ rest) at ≡ Some cell → cell.stamp ≡ stamp (count + at) site
stamp-at gone count site state [] rest at cell lt is = absurd (omega (arith, lt))
stamp-at gone count site state (c ∷ text) rest zero cell lt is =
    let z : count + 0 ≡ count = omega arith in
    let e : record { stamp = stamp count site; ch = c; gone = gone; state = state } ≡ cell = cc in
    ap (λ (x : Cell ℕ). x.stamp) (sym e) ∙ ap (λ n. stamp n site) (sym z)
stamp-at gone count site state (c ∷ text) rest (suc at) cell lt is =
    let e : count + 1 + at ≡ count + suc at = omega arith in
    stamp-at gone (count + 1) site state text rest at cell (omega (arith, lt)) is ∙ ap (λ n. stamp n site) e

pub drop-right : {X : Type 0} (a b : List X) (n k : ℕ) → length a + k ≡ n → drop n (a ++ b) ≡ drop k b
drop-right [] b n k e = let h : n ≡ k = omega arith in ap (λ i. drop i b) h
drop-right (x ∷ a) b zero k e = absurd (omega arith)
drop-right (x ∷ a) b (suc n) k e = drop-right a b n k (omega arith)

module _ (text : List ℕ) (new : Stamp) where
  abbrev past_cells : List (Cell ℕ) → ℕ
  past_cells cs = past new (stamps_of cs)

  -- from where a run begins
  pub past-passed : (rs : List Run) → AllByRecursion (IsRun text) rs → past_cells (cells_of_runs text rs) ≡ passed 0 new rs
  past-passed [] all = refl
  past-passed (r ∷ rs) all = split (is_before new (first_stamp r))
      (λ e.
      let a = past-row new r.gone r.first r.site r.state (run_characters text r) (cells_of_runs text rs) e in
      let l = characters_length text r all.0 in
      let no : stops 0 new r ≡ false = ap not e in
      let g = goes_on 0 new r rs no in
      let z : 0 - r.len ≡ 0 = omega arith in
      let j = ap (λ n. passed n new rs) z in
      let i = past-passed rs all.1 in
      omega (arith, a, l, g, i, j))
      (λ e.
      let yes : stops 0 new r ≡ true = ap not e in
      let g = stopped 0 new r rs yes in
      low r rs all.0 e ∙ sym g)
    where
      low : (r : Run) (rs : List Run) → IsRun text r → is_before new (first_stamp r) ≡ false → past_cells (cells_of_runs text (r ∷ rs)) ≡ 0
      low r rs is e = low-row (run_characters text r) (let l = characters_length text r is in omega (arith, l, is.some))
        where
          low-row : (cs : List ℕ) → 0 < length cs → past_cells (row r.gone r.first r.site r.state cs ++ cells_of_runs text rs) ≡ 0
          low-row [] lt = absurd (omega (arith, lt))
          low-row (c ∷ cs) lt = stop-one new (first_stamp r) (stamps_of (row r.gone (r.first + 1) r.site r.state cs ++ cells_of_runs text rs)) e

  -- from a cell whose stamp is greater
  pub past-from : (rs : List Run) (at : ℕ) (cell : Cell ℕ) → AllByRecursion (IsRun text) rs → slice_get (cells_of_runs text rs) at ≡ Some cell → is_before new cell.stamp ≡ true
      → at + past_cells (drop at (cells_of_runs text rs)) ≡ passed (at + 1) new rs
  past-from [] at cell all is h = absurd (nothing is) where
    nothing : {x : Cell ℕ} → slice_get [] at ≡ Some x → ⊥
    nothing e = cc
  past-from (r ∷ rs) at cell all is h = split (nat_le r.len at)
      (λ le.
      let l = run_length text r all.0 in
      let s : 0 < r.len = all.0.some in
      let low : r.len ≤ at = grind (arith, nat_tests) in
      let k = at - r.len in
      let at_is : length (run_cells text r) + k ≡ at = omega (arith, l, low) in
      let there = sym (get-right (run_cells text r) (cells_of_runs text rs) at k at_is) ∙ is in
      let i = past-from rs k cell all.1 there h in
      let d = ap past_cells (drop-right (run_cells text r) (cells_of_runs text rs) at k at_is) in
      let g = goes_on (at + 1) new r rs (no_stop at r) in
      let e : at + 1 - r.len ≡ k + 1 = omega (arith, low) in
      let j = ap (λ n. passed n new rs) e in
      omega (arith, i, d, g, j, low))
      (λ gt.
      let l = characters_length text r all.0 in
      let less : at < r.len = grind (arith, nat_tests) in
      let inside : at < length (run_characters text r) = omega (arith, l, less) in
      let own = stamp-at r.gone r.first r.site r.state (run_characters text r) (cells_of_runs text rs) at cell inside is in
      let w = past-within new r.gone r.first r.site r.state (run_characters text r) (cells_of_runs text rs) at inside (ap (is_before new) (sym own) ∙ h) in
      let p = past-passed rs all.1 in
      let g = goes_on (at + 1) new r rs (no_stop at r) in
      let e : at + 1 - r.len ≡ 0 = omega (arith, less) in
      let j = ap (λ n. passed n new rs) e in
      omega (arith, w, l, p, g, j))
    where
      no_stop : (at : ℕ) (r : Run) → stops (at + 1) new r ≡ false
      no_stop at r = grind (arith, nat_tests)

-- the position that is reached from a cell whose stamp is greater
pub skip_is : (text : List ℕ) (new : Stamp) (rs : List Run) (at : ℕ) (cell : Cell ℕ) → AllByRecursion (IsRun text) rs → slice_get (cells_of_runs text rs) at ≡ Some cell → is_before new cell.stamp ≡ true
    → passed (at + 1) new rs ≡ at + length (take_while (λ (c : Cell ℕ). is_before new c.stamp) (drop at (cells_of_runs text rs)))
skip_is text new rs at cell all is h = sym (past-from text new rs at cell all is h) ∙ ap (λ n. at + n) (sym (past_is new (drop at (cells_of_runs text rs))))

-- and from one whose stamp isn't
pub skip_none : (new : Stamp) (cs : List (Cell ℕ)) (at : ℕ) (cell : Cell ℕ) → slice_get cs at ≡ Some cell → is_before new cell.stamp ≡ false
    → at ≡ at + length (take_while (λ (c : Cell ℕ). is_before new c.stamp) (drop at cs))
skip_none new cs at cell is h = let p = past_is new (drop at cs) in let z = none cs at is in omega (arith, p, z) where
  none : (cs : List (Cell ℕ)) (at : ℕ) → slice_get cs at ≡ Some cell → past new (stamps_of (drop at cs)) ≡ 0
  none [] at is = absurd (nothing is) where
    nothing : {x : Cell ℕ} → slice_get [] at ≡ Some x → ⊥
    nothing e = cc
  none (c ∷ cs) zero is = let e : c ≡ cell = cc in stop-one new c.stamp (stamps_of cs) (ap (λ (x : Cell ℕ). is_before new x.stamp) e ∙ h)
  none (c ∷ cs) (suc at) is = none cs at is

-- where no cell has so great a count, none is passed
upto_at : (n : ℕ) (cs : List (Cell ℕ)) (at : ℕ) (d : Cell ℕ) → NoneIsNewer n cs → at < length cs → (get_or cs at d).stamp.count ≤ n
upto_at n [] at d all lt = absurd (omega (arith, lt))
upto_at n (c ∷ cs) zero d all lt = all.0
upto_at n (c ∷ cs) (suc at) d all lt = upto_at n cs at d all.1 (omega (arith, lt))

not_above : (a b : Stamp) → b.count < a.count → is_before a b ≡ false
not_above a b lt = grind (arith, nat_tests)

pub skip_newest : (new : Stamp) (n : ℕ) (cs : List (Cell ℕ)) (at : ℕ) → n < new.count → NoneIsNewer n cs → at < length cs
    → at ≡ at + length (take_while (λ (c : Cell ℕ). is_before new c.stamp) (drop at cs))
skip_newest new n cs at above all lt =
    let low = upto_at n cs at final_cell all lt in
    skip_none new cs at (get_or cs at final_cell) (slice_get-get_or cs at final_cell lt) (not_above new (get_or cs at final_cell).stamp (omega (arith, above, low)))

-- runs have cells
pub have_cells : (text : List ℕ) (rs : List Run) → AllByRecursion (IsRun text) rs → AllByRecursion HasCells rs
have_cells text [] all = tt
have_cells text (r ∷ rs) all = (all.0.some, have_cells text rs all.1)

pub low_is : (b : Bool) → not b ≡ true → b ≡ false
low_is true e = sym e
low_is false e = refl

pub high_is : (b : Bool) → not b ≡ false → b ≡ true
high_is true e = refl
high_is false e = sym e
