-- The last range that begins before a place, by the last place before it that passes.
use Rattle.std.proofs.Common.{◌≡◌, ℕ, ◌+◌, ◌-◌, ◌<◌, ◌≤◌, inl, inr, List, [], ◌∷◌, Bool, true, false, cond, not, reverse, arith, refl, sym, ap, ◌∙◌, subst, Some, None}
use Rattle.std.specs.Prelude.{Decides, find, nat_le, nat_lt}
use Rattle.std.specs.Option.{option_or}
use Rattle.std.proofs.lemmas.Bool.{cases_eq, cases_lt, le-leb, le-ltb, lt-leb, lt-ltb, ltb-true, and_from, and_left, and_right}
use Rattle.rt_plans.specs.declared.range.Range.{Range}
use Rattle.rt_tagcmd.specs.TagRanges.{BeginFrom, IsBegin, PassThrough, PassUpTo, begins_between, passing_ranges, previous_range}
use Rattle.rt_store.specs.Tagged.{Passes, IsGreatestBelow, next_place, previous_place}
use Rattle.rt_store.proofs.Least.{greatest, least, no_next, no_previous}
use Rattle.rt_tagcmd.proofs.FirstRange.{clash, opposite}
use Rattle.rt_tagcmd.proofs.RangeWalks.{find_reversed, past_failing, past_passing}
use Rattle.rt_tagcmd.proofs.Runs.{AreRuns, IsEdge, IsMax, edge_behind, met, run_max, text_runs}
use Rattle.rt_tagcmd.proofs.TagRangeLaws.{passing_within}

-- WHERE ALL PASS

-- up to a place that passes, just where none that doesn't stands before it
pub tells_all : {A : Type 0} (test : A → Bool) (cs : List A) (from last : ℕ) → None ≡ next_place (λ c. not (test c)) cs from → Passes test cs last → Decides true (PassThrough test cs from last)
tells_all test cs from last e p = (λ t. all, λ h. refl)
  where
    all : PassThrough test cs from last
    all k l m = let less = passing_within test cs last p in opposite test cs k (omega arith) (no_next (λ c. not (test c)) cs from k (sym e) l)

pub tells_up_to : {A : Type 0} (test : A → Bool) (cs : List A) (from last at : ℕ) → Some at ≡ next_place (λ c. not (test c)) cs from → Passes test cs last → Decides (nat_lt last at) (PassThrough test cs from last)
tells_up_to test cs from last at e p = (λ t. all (ltb-true last at t), λ h. lt-ltb last at (behind h))
  where
    all : last < at → PassThrough test cs from last
    all n k l m =
        let less = passing_within test cs last p in
        let next = least (λ c. not (test c)) cs from at (sym e) in
        opposite test cs k (omega arith) (next.none_before k l (omega arith))

    behind : PassThrough test cs from last → last < at
    behind h = elim (cases_lt last at) [
      | inl l ↦ l
      | inr l ↦ let next = least (λ c. not (test c)) cs from at (sym e) in absurd (clash test cs at next.passes (h at next.from l))
    ]

-- WHERE A RANGE BEGINS

-- behind a place from which not all pass
pub begin_behind : {A : Type 0} (test : A → Bool) (cs : List A) (place low : ℕ) (all : Bool) → Decides all (PassThrough test cs low place) → all ≡ false → BeginFrom test cs place (low + 1)
begin_behind test cs place low all d f k h = elim (cases_lt low k) [
  | inl l ↦ omega arith
  | inr l ↦ absurd (never (d.1 (λ j m q. h j (omega arith) q)))
]
  where
    never : all ≡ true → ⊥
    never t = let bad : false ≡ true = sym f ∙ t in cc

-- the place itself passes
pub through_one : {A : Type 0} (test : A → Bool) (cs : List A) (place : ℕ) → Passes test cs place → PassThrough test cs place place
through_one test cs place p k l m = let same : place ≡ k = omega arith in subst (Passes test cs) same p

-- THE LAST THAT PASSES A TEST

none_last : (P : ℕ → Type 0) (test : Range → Bool) (b : ℕ) (rs : List Range) → AreRuns P b rs → IsEdge P b → ((s : Range) → IsMax P s → b ≤ s.from → test s ≡ false) → find test (reverse rs) ≡ None
none_last P test b [] h edge f = refl
none_last P test b (s ∷ rs) h edge f =
    past_failing test s rs (f s (run_max P b s h.0 edge) h.0.from)
    ∙ none_last P test (s.to + 1) rs h.1 (edge_behind P b s h.0) (λ t m l. let full = h.0.not_empty in let from = h.0.from in f t m (omega arith))

last_found : (P : ℕ → Type 0) (test : Range → Bool) (b : ℕ) (rs : List Range) (r : Range) → AreRuns P b rs → IsEdge P b → IsMax P r → b ≤ r.from → test r ≡ true
    → ((s : Range) → IsMax P s → r.from < s.from → test s ≡ false) → find test (reverse rs) ≡ Some r
last_found P test b [] r h edge m l e f = absurd (h r.from l (m.all r.from (omega arith) m.not_empty))
last_found P test b (s ∷ rs) r h edge m l e f = elim (met P b s r h.0 m l) [
  | inl same ↦
      let full = h.0.not_empty in
      let begin = ap (λ (x : Range). x.from) same in
      past_passing test s rs (subst (λ x. test x ≡ true) same e)
      ∙ ap (λ o. option_or o (Some s)) (none_last P test (s.to + 1) rs h.1 (edge_behind P b s h.0) (λ t n k. f t n (omega arith)))
      ∙ ap (λ x. Some x) (sym same)
  | inr o ↦
      find_reversed test s rs
      ∙ ap (λ x. option_or x (cond (test s) (Some s) None)) (last_found P test (s.to + 1) rs r h.1 (edge_behind P b s h.0) m o.1 e f)
]

-- THE PREVIOUS RANGE

-- a range begins at a place that passes
begin_passes : (P : ℕ → Type 0) (s : Range) → IsMax P s → P s.from
begin_passes P s m = m.all s.from (omega arith) m.not_empty

fails_past : (from to : ℕ) (s : Range) → to ≤ s.from → begins_between from to s ≡ false
fails_past from to s l = and_right (nat_le from s.from) (nat_lt s.from to) (le-ltb s.from to l)

fails_before : (from to : ℕ) (s : Range) → s.from < from → begins_between from to s ≡ false
fails_before from to s l = and_left (nat_le from s.from) (nat_lt s.from to) (lt-leb from s.from l)

pub none_previous : {A : Type 0} (test : A → Bool) (cs : List A) (to from : ℕ) → previous_place test cs to ≡ None → previous_range to from (passing_ranges test cs) ≡ None
none_previous test cs to from e =
    none_last (Passes test cs) (begins_between from to) 0 (passing_ranges test cs) (text_runs test cs) (λ k f p. absurd (omega arith)) fails
  where
    fails : (s : Range) → IsMax (Passes test cs) s → 0 ≤ s.from → begins_between from to s ≡ false
    fails s m l = elim (cases_lt s.from to) [
      | inl n ↦ absurd (no_previous test cs to s.from e n (begin_passes (Passes test cs) s m))
      | inr n ↦ fails_past from to s n
    ]

-- no range begins between where that one does and the place
begin_last : {A : Type 0} (test : A → Bool) (cs : List A) (to last begin : ℕ) → IsGreatestBelow test cs to last → IsBegin test cs last begin → (s : Range) → IsMax (Passes test cs) s → begin < s.from → to ≤ s.from
begin_last test cs to last begin g b s m l = elim (cases_lt s.from to) [
  | inr n ↦ n
  | inl n ↦ elim (cases_lt last s.from) [
    | inl k ↦ absurd (g.none_after s.from k n (begin_passes (Passes test cs) s m))
    | inr k ↦ absurd (m.before (s.from - 1) (omega arith) (b.passes (s.from - 1) (omega arith) (omega arith)))
  ]
]

pub begins_earlier : {A : Type 0} (test : A → Bool) (cs : List A) (to from last begin : ℕ) → previous_place test cs to ≡ Some last → IsBegin test cs last begin → begin < from
    → previous_range to from (passing_ranges test cs) ≡ None
begins_earlier test cs to from last begin e b before =
    none_last (Passes test cs) (begins_between from to) 0 (passing_ranges test cs) (text_runs test cs) (λ k f p. absurd (omega arith)) fails
  where
    fails : (s : Range) → IsMax (Passes test cs) s → 0 ≤ s.from → begins_between from to s ≡ false
    fails s m l = elim (cases_lt begin s.from) [
      | inl n ↦ fails_past from to s (begin_last test cs to last begin (greatest test cs to last e) b s m n)
      | inr n ↦ fails_before from to s (omega arith)
    ]

-- the range that holds the last place
holds_last : {A : Type 0} (test : A → Bool) (cs : List A) (last begin end : ℕ) → Passes test cs last → IsBegin test cs last begin → PassUpTo test cs last end → IsMax (Passes test cs) (record { from = begin; to = end })
holds_last test cs last begin end p b h = record { not_empty = full; all = all; before = before; behind = h.none_behind }
  where
    long : last < end
    long = let more = h.from in elim (cases_eq last end) [ inl e ↦ absurd (h.none_behind (subst (Passes test cs) e p)) | inr d ↦ omega arith ]

    full : begin < end
    full = omega (arith, b.within, long)

    all : (k : ℕ) → begin ≤ k → k < end → Passes test cs k
    all k l m = elim (cases_lt k last) [ inl n ↦ b.passes k l (omega arith) | inr n ↦ h.passes k n m ]

    before : (k : ℕ) → k + 1 ≡ begin → Passes test cs k → ⊥
    before k e q = let none = b.least k (λ j l m. elim (cases_eq k j) [ inl s ↦ subst (Passes test cs) s q | inr d ↦ b.passes j (omega arith) m ]) in omega arith

pub is_previous : {A : Type 0} (test : A → Bool) (cs : List A) (to from last begin end : ℕ) → previous_place test cs to ≡ Some last → IsBegin test cs last begin → PassUpTo test cs last end → from ≤ begin
    → previous_range to from (passing_ranges test cs) ≡ Some (record { from = begin; to = end })
is_previous test cs to from last begin end e b h l =
    last_found (Passes test cs) (begins_between from to) 0 (passing_ranges test cs) (record { from = begin; to = end }) (text_runs test cs) (λ k f p. absurd (omega arith)) (holds_last test cs last begin end g.passes b h) (omega arith) begins
    (λ s m n. fails_past from to s (begin_last test cs to last begin g b s m n))
  where
    g : IsGreatestBelow test cs to last
    g = greatest test cs to last e

    begins : begins_between from to (record { from = begin; to = end }) ≡ true
    begins = and_from (nat_le from begin) (nat_lt begin to) (le-leb from begin l) (lt-ltb begin to (omega (arith, g.below, b.within)))
