-- Where a stamp's cell stands.
use Rattle.std.proofs.Common.{◌≡◌, ℕ, zero, suc, ◌+◌, ◌<◌, ◌≤◌, Bool, true, false, List, [], ◌∷◌, ◌++◌, length, take, map, cond, refl, sym, ap, ◌∙◌, arith, Some, None, if◌then◌else◌, length-append}
use Rattle.std.specs.Prelude.{◌-◌, ◌==◌, ◌&&◌, nat_le, nat_lt}
use Rattle.std.specs.List.{AllByRecursion, position_or_len}
use Rattle.std.proofs.lemmas.Bool.Decides.{nat_tests}
use Rattle.rt_stamps.specs.declared.stamp.Stamp.{Stamp}
use Rattle.rt_stamps.specs.Stamps.{is_same}
use Rattle.rt_store.specs.declared.cell.Cell.{Cell}
use Rattle.rt_store.specs.Cells.{cells_from, position_of, visible_before, visible_of}
use Rattle.rt_store.proofs.Distinct.{split}
use Rattle.rt_tree.specs.declared.node.Counts.{Counts}
use Rattle.rt_tree.specs.declared.node.CountedBy.TheVariants.{Cells}
use Rattle.rt_tree.specs.declared.node.Run.{Run}
use Rattle.rt_tree.specs.Runs.{IsRun, cells_of_runs, run_characters, has_cell, run_cells, with_gone}
use Rattle.rt_tree.specs.Walks.{StandsAt}
use Rattle.rt_tree.proofs.CellLaws.{cells_around, characters_length, counted_left, is_run, run_length, visible-append}

-- how many cells stand before the first one with a stamp
abbrev pub before : List (Cell ℕ) → Stamp → ℕ
before cells stamp = position_or_len (λ (cell : Cell ℕ). is_same cell.stamp stamp) cells

pub before-here : (c : Cell ℕ) (cs : List (Cell ℕ)) (stamp : Stamp) → is_same c.stamp stamp ≡ true → before (c ∷ cs) stamp ≡ 0
before-here c cs stamp e = rw e refl

pub before-later : (c : Cell ℕ) (cs : List (Cell ℕ)) (stamp : Stamp) → is_same c.stamp stamp ≡ false → before (c ∷ cs) stamp ≡ 1 + before cs stamp
before-later c cs stamp e = rw e refl

pub found_is : (cells : List (Cell ℕ)) (stamp : Stamp) (at : ℕ) → at ≡ before cells stamp → at < length cells → Some at ≡ position_of cells stamp
found_is cells stamp at e less =
    let t : nat_lt (before cells stamp) (length cells) ≡ true = grind (arith, nat_tests) in
    ap Some e ∙ ap (λ (b : Bool). cond b (Some (before cells stamp)) None) (sym t)

pub nowhere_is : (cells : List (Cell ℕ)) (stamp : Stamp) → length cells ≤ before cells stamp → None ≡ position_of cells stamp
nowhere_is cells stamp all =
    let t : nat_lt (before cells stamp) (length cells) ≡ false = grind (arith, nat_tests) in
    ap (λ (b : Bool). cond b (Some (before cells stamp)) None) (sym t)

-- none of the first cells has the stamp
before-append : (a b : List (Cell ℕ)) (stamp : Stamp) → length a ≤ before (a ++ b) stamp → before (a ++ b) stamp ≡ length a + before b stamp
before-append [] b stamp le = omega arith
before-append (c ∷ a) b stamp le = split (is_same c.stamp stamp)
    (λ e. let l = before-here c (a ++ b) stamp e in absurd (omega (arith, l, le)))
    (λ e. let l = before-later c (a ++ b) stamp e in let i = before-append a b stamp (omega (arith, l, le)) in omega (arith, l, i))

abbrev row : Bool → ℕ → ℕ → ℕ → List ℕ → List (Cell ℕ)
row gone count site state text = map (with_gone gone) (cells_from count site state text)

abbrev cell : Bool → ℕ → ℕ → ℕ → ℕ → Cell ℕ
cell gone count site state ch = record { stamp = record { count = count; site = site }; ch = ch; gone = gone; state = state }

abbrev among : ℕ → ℕ → ℕ → Stamp → Bool
among count site len stamp = (site == stamp.site) && (nat_le count stamp.count && nat_lt (stamp.count - count) len)

before-row : (gone : Bool) (count site state : ℕ) (text : List ℕ) (rest : List (Cell ℕ)) (stamp : Stamp) → among count site (length text) stamp ≡ true → before (row gone count site state text ++ rest) stamp ≡ stamp.count - count
before-row gone count site state [] rest stamp h = absurd (let no_less : nat_lt (stamp.count - count) 0 ≡ true = grind (arith, nat_tests) in grind (arith, nat_tests))
before-row gone count site state (c ∷ text) rest stamp h = split (is_same (record { count = count; site = site }) stamp)
    (λ e.
    let l = before-here (cell gone count site state c) (row gone (count + 1) site state text ++ rest) stamp e in
    let k : count ≡ stamp.count = grind (arith, nat_tests) in
    omega (arith, l, k))
    (λ e.
    let l = before-later (cell gone count site state c) (row gone (count + 1) site state text ++ rest) stamp e in
    let n : length (c ∷ text) ≡ length text + 1 = omega arith in
    let k : count < stamp.count = grind (arith, nat_tests) in
    let h' : among (count + 1) site (length text) stamp ≡ true = grind (arith, nat_tests) in
    let i = before-row gone (count + 1) site state text rest stamp h' in
    omega (arith, l, i, k))

pub before-none : (gone : Bool) (count site state : ℕ) (text : List ℕ) (rest : List (Cell ℕ)) (stamp : Stamp) → among count site (length text) stamp ≡ false → before (row gone count site state text ++ rest) stamp ≡ length text + before rest stamp
before-none gone count site state [] rest stamp h = omega arith
before-none gone count site state (c ∷ text) rest stamp h =
    let n : length (c ∷ text) ≡ length text + 1 = omega arith in
    let e : is_same (record { count = count; site = site }) stamp ≡ false = grind (arith, nat_tests) in
    let h' : among (count + 1) site (length text) stamp ≡ false = grind (arith, nat_tests) in
    let l = before-later (cell gone count site state c) (row gone (count + 1) site state text ++ rest) stamp e in
    let i = before-none gone (count + 1) site state text rest stamp h' in
    omega (arith, l, i)

-- VISIBLE CELLS BEFORE A POSITION

take-right : {X : Type 0} (a b : List X) (n k : ℕ) → length a + k ≡ n → take n (a ++ b) ≡ a ++ take k b
take-right [] b n k e = let h : n ≡ k = omega arith in ap (λ i. take i b) h
take-right (x ∷ a) b zero k e = absurd (omega arith)
take-right (x ∷ a) b (suc n) k e = ap (λ l. x ∷ l) (take-right a b n k (omega arith))

-- of the first cells of a run all are visible, or none
visible-row : (gone : Bool) (cs rest : List (Cell ℕ)) (k : ℕ) → k ≤ length (map (with_gone gone) cs) → length (visible_of (take k (map (with_gone gone) cs ++ rest))) ≡ (if gone then 0 else k)
visible-row true cs rest zero le = refl
visible-row false cs rest zero le = refl
visible-row gone [] rest (suc k) le = absurd (omega (arith, le))
visible-row true (c ∷ cs) rest (suc k) le = visible-row true cs rest k (omega (arith, le))
visible-row false (c ∷ cs) rest (suc k) le = ap suc (visible-row false cs rest k (omega (arith, le)))

module _ (text : List ℕ) (all : List Run) (run : Run) (front : Counts) (offset place : ℕ) (runs : AllByRecursion (IsRun text) all) where
  pub visible_there : StandsAt Cells all run front offset place → front.visible + (if run.gone then 0 else offset) ≡ visible_before (cells_of_runs text all) place
  visible_there st =
      let before_it = cells_of_runs text st.left in
      let rest = cells_of_runs text st.right in
      let l = counted_left text all run front offset place runs st.left st.right st.here in
      let f = ap (λ (x : Counts). x.cells) st.before in
      let v = ap (λ (x : Counts). x.visible) st.before in
      let long = run_length text run (is_run text all run front offset place runs st.left st.right st.here) in
      let cut = ap (λ cs. visible_of (take place cs)) (cells_around text all run front offset place runs st.left st.right st.here)
      ∙ ap visible_of (take-right before_it (run_cells text run ++ rest) place offset (omega (arith, l.cells, f, st.at)))
      ∙ visible-append before_it (take offset (run_cells text run ++ rest)) in
      let n = ap length cut ∙ length-append (visible_of before_it) (visible_of (take offset (run_cells text run ++ rest))) in
      let own = visible-row run.gone (cells_from run.first run.site run.state (run_characters text run)) rest offset (omega (arith, long, st.inside)) in
      omega (arith, n, l.visible, v, own)

  -- a run in which a walk for a stamp is
  module _ (stamp : Stamp) (low : place ≤ before (cells_of_runs text all) stamp) where
    ahead_of : StandsAt Cells all run front offset place → (rest : List (Cell ℕ)) × (before (cells_of_runs text all) stamp ≡ place - offset + before (run_cells text run ++ rest) stamp)
    ahead_of st =
        let rest = cells_of_runs text st.right in
        let mine = cells_of_runs text st.left in
        let l = counted_left text all run front offset place runs st.left st.right st.here in
        let f = ap (λ (x : Counts). x.cells) st.before in
        let cut = ap (λ cs. before cs stamp) (cells_around text all run front offset place runs st.left st.right st.here) in
        let b = before-append mine (run_cells text run ++ rest) stamp (omega (arith, low, cut, l.cells, f, st.at)) in
        (rest, omega (arith, cut, b, l.cells, f, st.at))

    pub stamp_here : StandsAt Cells all run front offset place → has_cell run stamp ≡ true → place - offset + (stamp.count - run.first) ≡ before (cells_of_runs text all) stamp
    stamp_here st h =
        let a = ahead_of st in
        let long = characters_length text run (is_run text all run front offset place runs st.left st.right st.here) in
        let b = before-row run.gone run.first run.site run.state (run_characters text run) a.0 stamp (ap (λ n. among run.first run.site n stamp) long ∙ h) in
        omega (arith, a.1, b)

    pub stamp_later : StandsAt Cells all run front offset place → has_cell run stamp ≡ false → place - offset + run.len ≤ before (cells_of_runs text all) stamp
    stamp_later st h =
        let a = ahead_of st in
        let long = characters_length text run (is_run text all run front offset place runs st.left st.right st.here) in
        let b = before-none run.gone run.first run.site run.state (run_characters text run) a.0 stamp (ap (λ n. among run.first run.site n stamp) long ∙ h) in
        omega (arith, a.1, b, long)

    -- the run ends within the cells
    pub fits_here : StandsAt Cells all run front offset place → place - offset + run.len ≤ length (cells_of_runs text all)
    fits_here st =
        let rest = cells_of_runs text st.right in
        let l = counted_left text all run front offset place runs st.left st.right st.here in
        let f = ap (λ (x : Counts). x.cells) st.before in
        let long = run_length text run (is_run text all run front offset place runs st.left st.right st.here) in
        let cut = ap length (cells_around text all run front offset place runs st.left st.right st.here)
        ∙ length-append (cells_of_runs text st.left) (run_cells text run ++ rest) in
        let more = length-append (run_cells text run) rest in
        omega (arith, cut, more, l.cells, f, st.at, long)

pub has_within : (r : Run) (stamp : Stamp) → has_cell r stamp ≡ true → stamp.count - r.first < r.len
has_within r stamp h = grind (arith, nat_tests)
