-- The ranges of places that pass, as a walk from a place on meets them: no place passes before a range, each in it, and not the one behind it.
use Rattle.std.proofs.Common.{◌≡◌, ℕ, zero, suc, ◌+◌, ◌-◌, ◌<◌, ◌≤◌, ◌⊎◌, inl, inr, List, [], ◌∷◌, length, Bool, true, false, cond, arith, refl, sym, ap, ◌∙◌, subst, Some, None, Contains}
use Rattle.std.specs.Prelude.{◌==◌, Any, AllPairs, get_or}
use Rattle.std.specs.List.{AllByRecursion}
use Rattle.std.proofs.lemmas.Bool.{cases_eq, cases_lt, cases_order, eqb-true, eqb-false, le-leb, lt-leb, cond-true, cond-false}
use Rattle.rt_plans.specs.declared.range.Range.{Range}
use Rattle.rt_tagcmd.specs.TagRanges.{IsIn, with_place_before, ranges_from, first_range_from}
use Rattle.rt_store.specs.Tagged.{Passes}

-- a range is the first that a walk from a place meets
pub record IsRun (P : ℕ → Type 0) (b : ℕ) (r : Range) : Type 0 where
  pub from : b ≤ r.from
  pub gap : (k : ℕ) → b ≤ k → k < r.from → P k → ⊥
  pub not_empty : r.from < r.to
  pub all : (k : ℕ) → r.from ≤ k → k < r.to → P k
  pub behind : P r.to → ⊥

abbrev pub AreRuns : (ℕ → Type 0) → ℕ → List Range → Type 0
AreRuns P b [] = (k : ℕ) → b ≤ k → P k → ⊥
AreRuns P b (r ∷ rs) = IsRun P b r × AreRuns P (r.to + 1) rs

-- a range that isn't part of a longer one
pub record IsMax (P : ℕ → Type 0) (r : Range) : Type 0 where
  pub not_empty : r.from < r.to
  pub all : (k : ℕ) → r.from ≤ k → k < r.to → P k
  pub before : (k : ℕ) → k + 1 ≡ r.from → P k → ⊥
  pub behind : P r.to → ⊥

-- no place right before one passes
abbrev pub IsEdge : (ℕ → Type 0) → ℕ → Type 0
IsEdge P b = (k : ℕ) → k + 1 ≡ b → P k → ⊥

-- ONE PLACE MORE

clear_gap : (P : ℕ → Type 0) (b top : ℕ) → (P b → ⊥) → ((k : ℕ) → b + 1 ≤ k → k < top → P k → ⊥) → (k : ℕ) → b ≤ k → k < top → P k → ⊥
clear_gap P b top n g k l m p = elim (cases_eq k b) [ inl e ↦ n (subst P e p) | inr d ↦ g k (omega arith) m p ]

runs_clear : (P : ℕ → Type 0) (b : ℕ) (rs : List Range) → (P b → ⊥) → AreRuns P (b + 1) rs → AreRuns P b rs
runs_clear P b [] n h = λ k l p. elim (cases_eq k b) [ inl e ↦ n (subst P e p) | inr d ↦ h k (omega arith) p ]
runs_clear P b (r ∷ rs) n h =
    let run = h.0 in
    let from = run.from in
    (record { from = omega arith; gap = clear_gap P b r.from n run.gap; not_empty = run.not_empty; all = run.all; behind = run.behind }, h.1)

one_place : (P : ℕ → Type 0) (b : ℕ) → P b → (P (b + 1) → ⊥) → IsRun P b (record { from = b; to = b + 1 })
one_place P b p n = record { from = omega arith; gap = λ k l m q. absurd (omega arith); not_empty = omega arith; all = λ k l m. let same : b ≡ k = omega arith in subst P same p; behind = n }

joined_all : (P : ℕ → Type 0) (b from to : ℕ) → P b → from ≡ b + 1 → ((k : ℕ) → from ≤ k → k < to → P k) → (k : ℕ) → b ≤ k → k < to → P k
joined_all P b from to p e f k l m = elim (cases_eq b k) [ inl s ↦ subst P s p | inr d ↦ f k (omega arith) m ]

runs_joined : (P : ℕ → Type 0) (b : ℕ) (r : Range) (rs : List Range) → P b → AreRuns P (b + 1) (r ∷ rs) → (t : Bool) → (r.from == b + 1) ≡ t
    → AreRuns P b (cond t (record { from = b; to = r.to } ∷ rs) (record { from = b; to = b + 1 } ∷ r ∷ rs))
runs_joined P b r rs p h true e =
    let run = h.0 in
    let same = eqb-true r.from (b + 1) e in
    let more = run.not_empty in
    (record { from = omega arith; gap = λ k l m q. absurd (omega arith); not_empty = omega arith; all = joined_all P b r.from r.to p same run.all; behind = run.behind }, h.1)
runs_joined P b r rs p h false e =
    let run = h.0 in
    let apart = eqb-false r.from (b + 1) e in
    let from = run.from in
    (one_place P b p (run.gap (b + 1) (omega arith) (omega arith)), (record { from = omega arith; gap = λ k l m q. run.gap k (omega arith) m q; not_empty = run.not_empty; all = run.all; behind = run.behind }, h.1))

runs_with : (P : ℕ → Type 0) (b : ℕ) (rs : List Range) → P b → AreRuns P (b + 1) rs → AreRuns P b (with_place_before b rs)
runs_with P b [] p h = (one_place P b p (h (b + 1) (omega arith)), λ k l q. h k (omega arith) q)
runs_with P b (r ∷ rs) p h = runs_joined P b r rs p h (r.from == b + 1) refl

-- ALL PLACES OF A TEXT

-- characters pass as the places from one on do
record ReadsRuns {A : Type 0} (P : ℕ → Type 0) (b : ℕ) (test : A → Bool) (cs : List A) : Type 0 where
  into : (k j : ℕ) → j ≡ b + k → P j → Passes test cs k
  out : (k j : ℕ) → j ≡ b + k → Passes test cs k → P j

none_pass : {A : Type 0} (test : A → Bool) (k : ℕ) → Passes test [] k → ⊥
none_pass test k h = let bad : ⊥ = cc in bad

not_first : {A : Type 0} (test : A → Bool) (c : A) (cs : List A) → test c ≡ false → Passes test (c ∷ cs) 0 → ⊥
not_first test c cs e h = let bad : ⊥ = cc in bad

reads_rest : {A : Type 0} (P : ℕ → Type 0) (b : ℕ) (test : A → Bool) (c : A) (cs : List A) → ReadsRuns P b test (c ∷ cs) → ReadsRuns P (b + 1) test cs
reads_rest P b test c cs h = record { into = λ k j e p. h.into (suc k) j (omega arith) p; out = λ k j e p. h.out (suc k) j (omega arith) p }

one_more : {A : Type 0} (P : ℕ → Type 0) (b : ℕ) (test : A → Bool) (c : A) (cs : List A) (rs : List Range) → ReadsRuns P b test (c ∷ cs) → AreRuns P (b + 1) rs → (t : Bool) → test c ≡ t → AreRuns P b (cond t (with_place_before b rs) rs)
one_more P b test c cs rs h more true e = runs_with P b rs (h.out 0 b (omega arith) (ap (λ t. Some t) e)) more
one_more P b test c cs rs h more false e = runs_clear P b rs (λ p. not_first test c cs e (h.into 0 b (omega arith) p)) more

runs_of : {A : Type 0} (P : ℕ → Type 0) (b : ℕ) (test : A → Bool) (cs : List A) → ReadsRuns P b test cs → AreRuns P b (ranges_from test b cs)
runs_of P b test [] h = λ k l p. none_pass test (k - b) (h.into (k - b) k (omega arith) p)
runs_of P b test (c ∷ cs) h = one_more P b test c cs (ranges_from test (b + 1) cs) h (runs_of P (b + 1) test cs (reads_rest P b test c cs h)) (test c) refl

pub text_runs : {A : Type 0} (test : A → Bool) (cs : List A) → AreRuns (Passes test cs) 0 (ranges_from test 0 cs)
text_runs test cs = runs_of (Passes test cs) 0 test cs (record { into = λ k j e p. let same : j ≡ k = omega arith in subst (Passes test cs) same p; out = λ k j e p. let same : k ≡ j = omega arith in subst (Passes test cs) same p })

-- WHAT THEY ARE

pub run_max : (P : ℕ → Type 0) (b : ℕ) (s : Range) → IsRun P b s → IsEdge P b → IsMax P s
run_max P b s run edge = record { not_empty = run.not_empty; all = run.all; before = before; behind = run.behind }
  where
    from : b ≤ s.from
    from = run.from

    before : (k : ℕ) → k + 1 ≡ s.from → P k → ⊥
    before k e p = elim (cases_lt k b) [ inl l ↦ edge k (omega (arith, from)) p | inr l ↦ run.gap k l (omega arith) p ]

pub edge_behind : (P : ℕ → Type 0) (b : ℕ) (s : Range) → IsRun P b s → IsEdge P (s.to + 1)
edge_behind P b s run k e p = let same : k ≡ s.to = omega arith in run.behind (subst P same p)

pub each_max : (P : ℕ → Type 0) (b : ℕ) (rs : List Range) → AreRuns P b rs → IsEdge P b → AllByRecursion (IsMax P) rs
each_max P b [] h edge = tt
each_max P b (s ∷ rs) h edge = (run_max P b s h.0 edge, each_max P (s.to + 1) rs h.1 (edge_behind P b s h.0))

any_more : (Q : Range → Type 0) (s : Range) (rs : List Range) → Any Q rs → Any Q (s ∷ rs)
any_more Q s rs h = let less = h.2 in (suc h.0, h.1, omega arith, h.3, h.4)

pub covered : (P : ℕ → Type 0) (b : ℕ) (rs : List Range) (k : ℕ) → AreRuns P b rs → b ≤ k → P k → Any (IsIn k) rs
covered P b [] k h l p = absurd (h k l p)
covered P b (s ∷ rs) k h l p = elim (cases_lt k s.from) [
  | inl m ↦ absurd (h.0.gap k l m p)
  | inr m ↦ elim (cases_lt k s.to) [
    | inl n ↦ (0, s, omega arith, refl, (m, n))
    | inr n ↦ elim (cases_eq k s.to) [ inl e ↦ absurd (h.0.behind (subst P e p)) | inr d ↦ any_more (IsIn k) s rs (covered P (s.to + 1) rs k h.1 (omega arith) p) ]
  ]
]

pub later : (P : ℕ → Type 0) (b : ℕ) (rs : List Range) → AreRuns P b rs → (k : ℕ) (d : Range) → k < length rs → b ≤ (get_or rs k d).from
later P b [] h k d l = absurd (omega arith)
later P b (s ∷ rs) h zero d l = h.0.from
later P b (s ∷ rs) h (suc k) d l =
    let more = later P (s.to + 1) rs h.1 k d (omega arith) in
    let from = h.0.from in
    let full = h.0.not_empty in
    omega arith

pub apart : (P : ℕ → Type 0) (b : ℕ) (rs : List Range) → AreRuns P b rs → AllPairs (λ r s. r.to < s.from) rs
apart P b [] h i j d l m = absurd (omega arith)
apart P b (s ∷ rs) h i zero d l m = absurd (omega arith)
apart P b (s ∷ rs) h zero (suc j) d l m = let more = later P (s.to + 1) rs h.1 j d (omega arith) in omega arith
apart P b (s ∷ rs) h (suc i) (suc j) d l m = apart P (s.to + 1) rs h.1 i j d (omega arith) (omega arith)

-- A MAXIMAL RANGE IS ONE OF THEM

same_end : (P : ℕ → Type 0) (b : ℕ) (s r : Range) → IsRun P b s → IsMax P r → r.from ≡ s.from → r.to ≡ s.to
same_end P b s r run m e =
    let full = m.not_empty in
    let long = run.not_empty in
    elim (cases_order r.to s.to) [
      | inl f ↦ f
      | inr o ↦ elim o [ inl l ↦ absurd (m.behind (run.all r.to (omega arith) l)) | inr l ↦ absurd (run.behind (m.all s.to (omega arith) l)) ]
    ]

past : (P : ℕ → Type 0) (b : ℕ) (s r : Range) → IsRun P b s → IsMax P r → s.from < r.from → s.to + 1 ≤ r.from
past P b s r run m l =
    let full = m.not_empty in
    elim (cases_lt s.to r.from) [
      | inl k ↦ omega arith
      | inr k ↦ elim (cases_eq r.from s.to) [
        | inl e ↦ absurd (run.behind (subst P e (m.all r.from (omega arith) full)))
        | inr d ↦ absurd (m.before (r.from - 1) (omega arith) (run.all (r.from - 1) (omega arith) (omega arith)))
      ]
    ]

pub met : (P : ℕ → Type 0) (b : ℕ) (s r : Range) → IsRun P b s → IsMax P r → b ≤ r.from → (r ≡ s) ⊎ ((s.from < r.from) × (s.to + 1 ≤ r.from))
met P b s r run m l = elim (cases_order r.from s.from) [
  | inl e ↦ inl (let f = same_end P b s r run m e in λ i. record { from = e i; to = f i })
  | inr o ↦ elim o [ inl k ↦ absurd (run.gap r.from l k (m.all r.from (omega arith) m.not_empty)) | inr k ↦ inr (k, past P b s r run m k) ]
]

pub contained : (P : ℕ → Type 0) (b : ℕ) (rs : List Range) (r : Range) → AreRuns P b rs → IsMax P r → b ≤ r.from → Contains rs r
contained P b [] r h m l = absurd (h r.from l (m.all r.from (omega arith) m.not_empty))
contained P b (s ∷ rs) r h m l = elim (met P b s r h.0 m l) [
  | inl e ↦ (0, omega arith, sym e)
  | inr o ↦ let more = contained P (s.to + 1) rs r h.1 m o.1 in let less = more.1 in (suc more.0, omega arith, more.2)
]

-- THE FIRST FROM A PLACE

pub first_found : (P : ℕ → Type 0) (b : ℕ) (rs : List Range) (place : ℕ) (r : Range) → AreRuns P b rs → IsEdge P b → IsMax P r → b ≤ r.from → place ≤ r.from
    → ((s : Range) → IsMax P s → place ≤ s.from → r.from ≤ s.from) → first_range_from place rs ≡ Some r
first_found P b [] place r h edge m l k least = absurd (h r.from l (m.all r.from (omega arith) m.not_empty))
first_found P b (s ∷ rs) place r h edge m l k least = elim (met P b s r h.0 m l) [
  | inl e ↦ let same = ap (λ x. x.from) e in cond-true _ _ _ (le-leb place s.from (omega arith)) ∙ ap (λ x. Some x) (sym e)
  | inr o ↦ let later = o.0 in
      elim (cases_lt s.from place) [
        | inl n ↦ cond-false _ _ _ (lt-leb place s.from n) ∙ first_found P (s.to + 1) rs place r h.1 (edge_behind P b s h.0) m o.1 k least
        | inr n ↦ let no = least s (run_max P b s h.0 edge) n in absurd (omega arith)
      ]
]

pub first_none : (P : ℕ → Type 0) (rs : List Range) (place : ℕ) → AllByRecursion (IsMax P) rs → ((s : Range) → IsMax P s → place ≤ s.from → ⊥) → first_range_from place rs ≡ None
first_none P [] place h none = refl
first_none P (s ∷ rs) place h none = elim (cases_lt s.from place) [
  | inl n ↦ cond-false _ _ _ (lt-leb place s.from n) ∙ first_none P rs place h.1 none
  | inr n ↦ absurd (none s h.0 n)
]
