-- Runs that are passed.
use Rattle.std.proofs.Common.{◌≡◌, ℕ, ◌+◌, ◌-◌, ◌<◌, ◌≤◌, ◌==◌, ◌&&◌, not, true, false, List, [], ◌∷◌, ◌++◌, refl, sym, ap, ◌∙◌, arith, if◌then◌else◌}
use Rattle.std.specs.Prelude.{nat_le}
use Rattle.std.specs.List.{AllByRecursion}
use Rattle.std.proofs.lemmas.Bool.Decides.{nat_tests}
use Rattle.rt_stamps.specs.declared.stamp.Stamp.{Stamp}
use Rattle.rt_stamps.specs.Stamps.{is_before}
use Rattle.rt_store.proofs.Distinct.{split}
use Rattle.rt_tree.specs.declared.node.Run.{Run}
use Rattle.rt_tree.specs.Runs.{first_stamp}
use Rattle.rt_tree.specs.Skips.{HasCells, are_passed, passed, stops}
use Rattle.rt_tree.specs.Sums.{counts_of, least_first, lesser, totals_of}

abbrev pub cells : List Run → ℕ
cells rs = (counts_of rs).cells

pub stopped : (from : ℕ) (new : Stamp) (r : Run) (rs : List Run) → stops from new r ≡ true → passed from new (r ∷ rs) ≡ 0
stopped from new r rs e = rw e refl

pub goes_on : (from : ℕ) (new : Stamp) (r : Run) (rs : List Run) → stops from new r ≡ false → passed from new (r ∷ rs) ≡ r.len + passed (from - r.len) new rs
goes_on from new r rs e = rw e refl

pub passed-le : (from : ℕ) (new : Stamp) (rs : List Run) → passed from new rs ≤ cells rs
passed-le from new [] = omega arith
passed-le from new (r ∷ rs) = split (stops from new r)
    (λ e. let h = stopped from new r rs e in omega (arith, h))
    (λ e. let h = goes_on from new r rs e in let i = passed-le (from - r.len) new rs in omega (arith, h, i))

-- what comes behind runs that are all passed
pub passed-append : (from : ℕ) (new : Stamp) (a b : List Run) → AllByRecursion HasCells a → passed from new a ≡ cells a → passed from new (a ++ b) ≡ cells a + passed (from - cells a) new b
passed-append from new [] b some all = let z : from ≡ from - 0 = omega arith in let j = ap (λ n. passed n new b) z in omega (arith, j)
passed-append from new (r ∷ a) b some all = split (stops from new r)
    (λ e. let h = stopped from new r a e in let s : 0 < r.len = some.0 in absurd (omega (arith, h, all, s)))
    (λ e.
    let h = goes_on from new r a e in
    let g = goes_on from new r (a ++ b) e in
    let i = passed-append (from - r.len) new a b some.1 (omega (arith, h, all)) in
    let s : from - r.len - cells a ≡ from - (r.len + cells a) = omega arith in
    let j = ap (λ n. passed n new b) s in
    omega (arith, g, i, j))

-- nothing is looked at behind runs that aren't all passed
pub passed-front : (from : ℕ) (new : Stamp) (a b : List Run) → passed from new a < cells a → passed from new (a ++ b) ≡ passed from new a
passed-front from new [] b less = absurd (omega (arith, less))
passed-front from new (r ∷ a) b less = split (stops from new r)
    (λ e. stopped from new r (a ++ b) e ∙ sym (stopped from new r a e))
    (λ e.
    let h = goes_on from new r a e in
    let g = goes_on from new r (a ++ b) e in
    let i = passed-front (from - r.len) new a b (omega (arith, h, less)) in
    omega (arith, g, h, i))

-- runs that end before the position
pub passed-far : (from : ℕ) (new : Stamp) (rs : List Run) → AllByRecursion HasCells rs → cells rs ≤ from → passed from new rs ≡ cells rs
passed-far from new [] some le = refl
passed-far from new (r ∷ rs) some le =
    let s : 0 < r.len = some.0 in
    let l : r.len + cells rs ≤ from = le in
    let no : stops from new r ≡ false = grind (arith, nat_tests) in
    let g = goes_on from new r rs no in
    let i = passed-far (from - r.len) new rs some.1 (omega (arith, l)) in
    omega (arith, g, i)

pub above-lesser : (new a b : Stamp) → is_before new (lesser a b) ≡ true → (is_before new a ≡ true) × (is_before new b ≡ true)
above-lesser new a b h = split (is_before b a)
    (λ e. let k : is_before new b ≡ true = ap (λ x. is_before new (if x then b else a)) (sym e) ∙ h in (grind (arith, nat_tests), k))
    (λ e. let k : is_before new a ≡ true = ap (λ x. is_before new (if x then b else a)) (sym e) ∙ h in (k, grind (arith, nat_tests)))

-- runs whose first stamps are all greater
pub passed-high : (new : Stamp) (rs : List Run) → is_before new (least_first rs) ≡ true → passed 0 new rs ≡ cells rs
passed-high new [] h = refl
passed-high new (r ∷ rs) h =
    let both = above-lesser new (first_stamp r) (least_first rs) h in
    let no : stops 0 new r ≡ false = ap not both.0 in
    let g = goes_on 0 new r rs no in
    let z : 0 - r.len ≡ 0 = omega arith in
    let i = passed-high new rs both.1 in
    let j = ap (λ n. passed n new rs) z in
    omega (arith, g, i, j)

-- runs that are passed, as their totals tell
pub passed-whole : (from : ℕ) (new : Stamp) (rs : List Run) → AllByRecursion HasCells rs → are_passed from new (totals_of rs) ≡ true → passed from new rs ≡ cells rs
passed-whole from new rs some e = split (nat_le (cells rs) from)
    (λ le. passed-far from new rs some (grind (arith, nat_tests)))
    (λ gt.
    let both : ((from == 0) && is_before new (least_first rs)) ≡ true = grind (arith, nat_tests) in
    let z : from ≡ 0 = grind (arith, nat_tests) in
    let h : is_before new (least_first rs) ≡ true = grind (arith, nat_tests) in
    ap (λ n. passed n new rs) z ∙ passed-high new rs h)
