-- Walks over ranges in order: all of them and the next one, by the first range from a place on; and from the last one back.
use Rattle.std.proofs.Common.{◌≡◌, ℕ, ◌+◌, ◌<◌, ◌≤◌, ◌⊎◌, inl, inr, ◌++◌, List, [], ◌∷◌, length, append_assoc, reverse, All, Bool, true, false, cond, arith, refl, sym, ap, ◌∙◌, subst, Option, Some, None}
use Rattle.std.specs.Prelude.{filter, find, nat_le, nat_lt}
use Rattle.std.specs.Option.{option_or}
use Rattle.std.proofs.lemmas.List.{append-nil, reverse-append}
use Rattle.std.proofs.lemmas.List.Elements.{All-head, All-tail}
use Rattle.std.proofs.lemmas.Bool.{le-leb, le-ltb, leb-true, lt-leb, lt-ltb, cond-true, cond-false, and_left, and_right, and_from}
use Rattle.rt_plans.specs.declared.range.Range.{Range}
use Rattle.rt_tagcmd.specs.TagRanges.{IsMaximal, begins_between, first_range_from, next_range, passing_ranges}
use Rattle.rt_store.specs.Tagged.{Passes}
use Rattle.rt_tagcmd.proofs.Runs.{AreRuns, text_runs}
use Rattle.rt_tagcmd.proofs.TagRangeLaws.{each_maximal}

-- ranges from a place on, each behind the one before
abbrev pub Ascend : ℕ → List Range → Type 0
Ascend b [] = Unit {0}
Ascend b (r ∷ rs) = (b ≤ r.from) × (r.from < r.to) × Ascend (r.to + 1) rs

runs_ascend : (P : ℕ → Type 0) (b : ℕ) (rs : List Range) → AreRuns P b rs → Ascend b rs
runs_ascend P b [] h = tt
runs_ascend P b (r ∷ rs) h = (h.0.from, h.0.not_empty, runs_ascend P (r.to + 1) rs h.1)

text_ascends : {A : Type 0} (test : A → Bool) (cs : List A) → Ascend 0 (passing_ranges test cs)
text_ascends test cs = runs_ascend (Passes test cs) 0 (passing_ranges test cs) (text_runs test cs)

-- the ranges that begin at a place or later
abbrev pub ranges_at : ℕ → List Range → List Range
ranges_at place rs = filter (λ r. nat_le place r.from) rs

-- what is found is the first, or is found behind it
abbrev Found : (Range → Bool) → Range → List Range → Option Range → Type 0
Found test x rs o = ((test x ≡ true) × (Some x ≡ o)) ⊎ ((test x ≡ false) × (find test rs ≡ o))

found : (test : Range → Bool) (x : Range) (rs : List Range) (o : Option Range) → find test (x ∷ rs) ≡ o → Found test x rs o
found test x rs o e = by_test (test x) refl e
  where
    by_test : (t : Bool) → test x ≡ t → cond t (Some x) (find test rs) ≡ o → Found test x rs o
    by_test true f e = inl (f, e)
    by_test false f e = inr (f, e)

same_some : (x r : Range) → Some x ≡ Some r → x ≡ r
same_some x r e = cc

not_none : {Q : Type 0} (x : Range) → Some x ≡ None → Q
not_none x e = let bad : ⊥ = cc in absurd bad

found_bounds : (test : Range → Bool) (b : ℕ) (rs : List Range) (r : Range) → Ascend b rs → find test rs ≡ Some r → (b ≤ r.from) × (r.from < r.to)
found_bounds test b [] r h e = let bad : ⊥ = cc in absurd bad
found_bounds test b (x ∷ rs) r h e = elim (found test x rs (Some r) e) [
  | inl f ↦ subst (λ y. (b ≤ y.from) × (y.from < y.to)) (same_some x r f.1) (h.0, h.1)
  | inr f ↦
      let more = found_bounds test (x.to + 1) rs r h.2 f.1 in
      let from = h.0 in
      let full = h.1 in
      let behind = more.0 in
      (omega arith, more.1)
]

none_kept : (test : Range → Bool) (rs : List Range) → find test rs ≡ None → filter test rs ≡ []
none_kept test [] e = refl
none_kept test (x ∷ rs) e = elim (found test x rs None e) [
  | inl f ↦ not_none x f.1
  | inr f ↦ cond-false _ _ _ f.0 ∙ none_kept test rs f.1
]

all_at : (place b : ℕ) (rs : List Range) → Ascend b rs → place ≤ b → ranges_at place rs ≡ rs
all_at place b [] h l = refl
all_at place b (x ∷ rs) h l =
    let from = h.0 in
    let full = h.1 in
    cond-true _ _ _ (le-leb place x.from (omega arith)) ∙ ap (λ ys. x ∷ ys) (all_at place (x.to + 1) rs h.2 (omega arith))

-- past a range
skipped : (place : ℕ) (x : Range) (rs : List Range) → x.from < place → ranges_at place (x ∷ rs) ≡ ranges_at place rs
skipped place x rs l = cond-false _ _ _ (lt-leb place x.from l)

-- ALL

walk_end : (place : ℕ) (rs : List Range) → first_range_from place rs ≡ None → ranges_at place rs ≡ []
walk_end place rs e = none_kept (λ r. nat_le place r.from) rs e

walk_here : (place b : ℕ) (x r : Range) (rs : List Range) → Ascend b (x ∷ rs) → nat_le place x.from ≡ true → x ≡ r → ranges_at place (x ∷ rs) ≡ r ∷ ranges_at r.to (x ∷ rs)
walk_here place b x r rs h f same =
    let l = leb-true place x.from f in
    let full = h.1 in
    cond-true _ _ _ f
    ∙ ap (λ ys. x ∷ ys) (all_at place (x.to + 1) rs h.2 (omega arith) ∙ sym (skipped x.to x rs full ∙ all_at x.to (x.to + 1) rs h.2 (omega arith)))
    ∙ ap (λ y. y ∷ ranges_at y.to (x ∷ rs)) same

-- a range found behind another begins and ends behind it
next_is_behind : (test : Range → Bool) (b : ℕ) (x r : Range) (rs : List Range) → Ascend b (x ∷ rs) → find test rs ≡ Some r → x.from < r.to
next_is_behind test b x r rs h e =
    let bounds = found_bounds test (x.to + 1) rs r h.2 e in
    let more = bounds.0 in
    let long = bounds.1 in
    let full = h.1 in
    omega arith

walk_on : (place b : ℕ) (rs : List Range) (r : Range) → Ascend b rs → first_range_from place rs ≡ Some r → ranges_at place rs ≡ r ∷ ranges_at r.to rs
walk_on place b [] r h e = let bad : ⊥ = cc in absurd bad
walk_on place b (x ∷ rs) r h e = elim (found (λ s. nat_le place s.from) x rs (Some r) e) [
  | inl f ↦ walk_here place b x r rs h f.0 (same_some x r f.1)
  | inr f ↦ cond-false _ _ _ f.0 ∙ walk_on place (x.to + 1) rs r h.2 f.1 ∙ ap (λ ys. r ∷ ys) (sym (skipped r.to x rs (next_is_behind (λ s. nat_le place s.from) b x r rs h f.1)))
]

-- one range more of a walk
pub walk_more : {A : Type 0} (test : A → Bool) (cs : List A) (place : ℕ) (r : Range) (before : List Range) → passing_ranges test cs ≡ before ++ ranges_at place (passing_ranges test cs)
    → first_range_from place (passing_ranges test cs) ≡ Some r → passing_ranges test cs ≡ (before ++ r ∷ []) ++ ranges_at r.to (passing_ranges test cs)
walk_more test cs place r before h e =
    let rs = passing_ranges test cs in
    h ∙ ap (λ ys. before ++ ys) (walk_on place 0 rs r (text_ascends test cs) e) ∙ sym (append_assoc before (r ∷ []) (ranges_at r.to rs))

pub walk_first : {A : Type 0} (test : A → Bool) (cs : List A) → passing_ranges test cs ≡ ranges_at 0 (passing_ranges test cs)
walk_first test cs = sym (all_at 0 0 (passing_ranges test cs) (text_ascends test cs) (omega arith))

pub walk_last : {A : Type 0} (test : A → Bool) (cs : List A) (place : ℕ) (before : List Range) → passing_ranges test cs ≡ before ++ ranges_at place (passing_ranges test cs)
    → first_range_from place (passing_ranges test cs) ≡ None → before ≡ passing_ranges test cs
walk_last test cs place before h e = sym (h ∙ ap (λ ys. before ++ ys) (walk_end place (passing_ranges test cs) e) ∙ append-nil before)

-- what is found is a range, and passes the test
found_holds : (Q : Range → Type 0) (test : Range → Bool) (rs : List Range) (r : Range) → All Q rs → find test rs ≡ Some r → Q r × (test r ≡ true)
found_holds Q test [] r h e = let bad : ⊥ = cc in absurd bad
found_holds Q test (x ∷ rs) r h e = elim (found test x rs (Some r) e) [
  | inl f ↦ subst (λ y. Q y × (test y ≡ true)) (same_some x r f.1) (All-head Q x rs h, f.0)
  | inr f ↦ found_holds Q test rs r (All-tail Q x rs h) f.1
]

-- a walk goes on, and stays in the text
pub goes_on : {A : Type 0} (test : A → Bool) (cs : List A) (place : ℕ) (r : Range) → first_range_from place (passing_ranges test cs) ≡ Some r → (place < r.to) × (r.to ≤ length cs)
goes_on test cs place r e =
    let holds = found_holds (IsMaximal test cs) (λ s. nat_le place s.from) (passing_ranges test cs) r (each_maximal test cs) e in
    let from = leb-true place r.from holds.1 in
    let full = holds.0.not_empty in
    (omega arith, holds.0.within)

-- NEXT

-- a range that begins past the end, or before the beginning
not_between : (from to : ℕ) (x : Range) → to ≤ x.from → begins_between from to x ≡ false
not_between from to x l = and_right (nat_le from x.from) (nat_lt x.from to) (le-ltb x.from to l)

none_past : (from to b : ℕ) (rs : List Range) → Ascend b rs → to ≤ b → next_range from to rs ≡ None
none_past from to b [] h l = refl
none_past from to b (x ∷ rs) h l =
    let begin = h.0 in
    let full = h.1 in
    cond-false _ _ _ (not_between from to x (omega arith)) ∙ none_past from to (x.to + 1) rs h.2 (omega arith)

next_none : (from to : ℕ) (rs : List Range) → first_range_from from rs ≡ None → next_range from to rs ≡ None
next_none from to [] e = refl
next_none from to (x ∷ rs) e = elim (found (λ s. nat_le from s.from) x rs None e) [
  | inl f ↦ not_none x f.1
  | inr f ↦ cond-false _ _ _ (and_left (nat_le from x.from) (nat_lt x.from to) f.0) ∙ next_none from to rs f.1
]

next_past : (from to b : ℕ) (rs : List Range) (r : Range) → Ascend b rs → first_range_from from rs ≡ Some r → to ≤ r.from → next_range from to rs ≡ None
next_past from to b [] r h e l = refl
next_past from to b (x ∷ rs) r h e l = elim (found (λ s. nat_le from s.from) x rs (Some r) e) [
  | inl f ↦
      let same = ap (λ y. y.from) (same_some x r f.1) in
      let full = h.1 in
      cond-false _ _ _ (not_between from to x (omega arith)) ∙ none_past from to (x.to + 1) rs h.2 (omega arith)
  | inr f ↦ cond-false _ _ _ (and_left (nat_le from x.from) (nat_lt x.from to) f.0) ∙ next_past from to (x.to + 1) rs r h.2 f.1 l
]

next_found : (from to b : ℕ) (rs : List Range) (r : Range) → Ascend b rs → first_range_from from rs ≡ Some r → r.from < to → next_range from to rs ≡ Some r
next_found from to b [] r h e l = e
next_found from to b (x ∷ rs) r h e l = elim (found (λ s. nat_le from s.from) x rs (Some r) e) [
  | inl f ↦
      let same = ap (λ y. y.from) (same_some x r f.1) in
      cond-true _ _ _ (and_from (nat_le from x.from) (nat_lt x.from to) f.0 (lt-ltb x.from to (omega arith))) ∙ f.1
  | inr f ↦ cond-false _ _ _ (and_left (nat_le from x.from) (nat_lt x.from to) f.0) ∙ next_found from to (x.to + 1) rs r h.2 f.1 l
]

-- the first range from a place on is the next one where it begins before the other place
pub no_next_range : {A : Type 0} (test : A → Bool) (cs : List A) (from to : ℕ) → first_range_from from (passing_ranges test cs) ≡ None → next_range from to (passing_ranges test cs) ≡ None
no_next_range test cs from to e = next_none from to (passing_ranges test cs) e

pub is_next_range : {A : Type 0} (test : A → Bool) (cs : List A) (from to : ℕ) (r : Range) → first_range_from from (passing_ranges test cs) ≡ Some r → r.from < to → next_range from to (passing_ranges test cs) ≡ Some r
is_next_range test cs from to r e l = next_found from to 0 (passing_ranges test cs) r (text_ascends test cs) e l

pub past_next_range : {A : Type 0} (test : A → Bool) (cs : List A) (from to : ℕ) (r : Range) → first_range_from from (passing_ranges test cs) ≡ Some r → to ≤ r.from → next_range from to (passing_ranges test cs) ≡ None
past_next_range test cs from to r e l = next_past from to 0 (passing_ranges test cs) r (text_ascends test cs) e l

-- FROM THE LAST ONE BACK

find_both : (test : Range → Bool) (xs ys : List Range) → find test (xs ++ ys) ≡ option_or (find test xs) (find test ys)
find_both test [] ys = refl
find_both test (x ∷ xs) ys = ap (cond (test x) (Some x)) (find_both test xs ys) ∙ either_way (test x) (find test xs)
  where
    either_way : (t : Bool) (o : Option Range) → cond t (Some x) (option_or o (find test ys)) ≡ option_or (cond t (Some x) o) (find test ys)
    either_way true o = refl
    either_way false o = refl

pub find_reversed : (test : Range → Bool) (x : Range) (rs : List Range) → find test (reverse (x ∷ rs)) ≡ option_or (find test (reverse rs)) (cond (test x) (Some x) None)
find_reversed test x rs = ap (find test) (reverse-append (x ∷ []) rs) ∙ find_both test (reverse rs) (x ∷ [])

nothing_more : (o : Option Range) → option_or o None ≡ o
nothing_more None = refl
nothing_more (Some r) = refl

-- past a range that fails the test
pub past_failing : (test : Range → Bool) (x : Range) (rs : List Range) → test x ≡ false → find test (reverse (x ∷ rs)) ≡ find test (reverse rs)
past_failing test x rs f = find_reversed test x rs ∙ ap (option_or (find test (reverse rs))) (cond-false (test x) (Some x) None f) ∙ nothing_more (find test (reverse rs))

pub past_passing : (test : Range → Bool) (x : Range) (rs : List Range) → test x ≡ true → find test (reverse (x ∷ rs)) ≡ option_or (find test (reverse rs)) (Some x)
past_passing test x rs f = find_reversed test x rs ∙ ap (option_or (find test (reverse rs))) (cond-true (test x) (Some x) None f)
