-- How far it is to a character whose state passes a test. No public clause cites this module.
use Rattle.std.specs.Prelude.{ℕ, ◌+◌, ◌-◌, ◌&&◌, nat_lt, min, Bool, List, [], ◌∷◌, if◌then◌else◌}
use Rattle.rt_tree.specs.declared.node.Run.{Run}
use Rattle.rt_tree.specs.Sums.{counts_of_run}

-- the visible character so many on from the beginning of a run is in the run and passes
abbrev pub is_here : (ℕ → Bool) → ℕ → Run → Bool
is_here test from r = nat_lt from (counts_of_run r).visible && test r.state

-- how many visible characters stand before the first that passes, so many on or further; all of them, if there is none
abbrev pub reached : (ℕ → Bool) → ℕ → List Run → ℕ
reached test from [] = 0
reached test from (r ∷ rs) =
    let visible = (counts_of_run r).visible in
    if is_here test from r then from else visible + reached test (from - visible) rs

-- a number of later ones, behind so many, if there is one, or else what is in front
abbrev pub later_or : ℕ → ℕ → ℕ → ℕ
later_or visible later front = if nat_lt 0 later then visible + later else front

-- one more than the last place, of the first so many, whose visible character passes; 0 if there is none
abbrev pub reached_back : (ℕ → Bool) → ℕ → List Run → ℕ
reached_back test upto [] = 0
reached_back test upto (r ∷ rs) =
    let visible = (counts_of_run r).visible in
    later_or visible (reached_back test (upto - visible) rs) (if test r.state then min upto visible else 0)
