-- The ranges of a text are just its maximal ones.
use Rattle.std.proofs.Common.{ℕ, zero, suc, ◌-◌, ◌<◌, ◌≤◌, List, [], ◌∷◌, length, Bool, arith, Contains, All}
use Rattle.std.specs.Prelude.{Any, AllPairs}
use Rattle.std.specs.List.{AllByRecursion}
use Rattle.std.proofs.lemmas.List.Elements.{All-from_recursion}
use Rattle.rt_plans.specs.declared.range.Range.{Range}
use Rattle.rt_tagcmd.specs.TagRanges.{IsIn, IsMaximal, passing_ranges}
use Rattle.rt_store.specs.Tagged.{Passes}
use Rattle.rt_tagcmd.proofs.Runs.{IsMax, apart, contained, covered, each_max, text_runs}

pub passing_within : {A : Type 0} (test : A → Bool) (cs : List A) (k : ℕ) → Passes test cs k → k < length cs
passing_within test [] k h = let bad : ⊥ = cc in absurd bad
passing_within test (c ∷ cs) zero h = omega arith
passing_within test (c ∷ cs) (suc k) h = let less = passing_within test cs k h in omega arith

pub max_is : {A : Type 0} (test : A → Bool) (cs : List A) (r : Range) → IsMaximal test cs r → IsMax (Passes test cs) r
max_is test cs r h = record { not_empty = h.not_empty; all = h.passes; before = h.none_before; behind = h.none_behind }

pub is_max : {A : Type 0} (test : A → Bool) (cs : List A) (r : Range) → IsMax (Passes test cs) r → IsMaximal test cs r
is_max test cs r h = record { not_empty = h.not_empty; within = within; passes = h.all; none_before = h.before; none_behind = h.behind }
  where
    full : r.from < r.to
    full = h.not_empty

    within : r.to ≤ length cs
    within = let last = passing_within test cs (r.to - 1) (h.all (r.to - 1) (omega (arith, full)) (omega (arith, full))) in omega (arith, full)

pub each_maximal : {A : Type 0} (test : A → Bool) (cs : List A) → All (IsMaximal test cs) (passing_ranges test cs)
each_maximal test cs = All-from_recursion (IsMaximal test cs) (passing_ranges test cs) (by_each (passing_ranges test cs) (each_max (Passes test cs) 0 (passing_ranges test cs) (text_runs test cs) (λ k e p. absurd (omega arith))))
  where
    by_each : (rs : List Range) → AllByRecursion (IsMax (Passes test cs)) rs → AllByRecursion (IsMaximal test cs) rs
    by_each [] h = tt
    by_each (r ∷ rs) h = (is_max test cs r h.0, by_each rs h.1)

pub place_covered : {A : Type 0} (test : A → Bool) (cs : List A) (place : ℕ) → Passes test cs place → Any (IsIn place) (passing_ranges test cs)
place_covered test cs place p = covered (Passes test cs) 0 (passing_ranges test cs) place (text_runs test cs) (omega arith) p

pub ranges_apart : {A : Type 0} (test : A → Bool) (cs : List A) → AllPairs (λ r s. r.to < s.from) (passing_ranges test cs)
ranges_apart test cs = apart (Passes test cs) 0 (passing_ranges test cs) (text_runs test cs)

pub maximal_contained : {A : Type 0} (test : A → Bool) (cs : List A) (r : Range) → IsMaximal test cs r → Contains (passing_ranges test cs) r
maximal_contained test cs r h = contained (Passes test cs) 0 (passing_ranges test cs) r (text_runs test cs) (max_is test cs r h) (omega arith)
