-- Where a test of characters turns, from place to place: where ranges of those that pass begin, and where they end.
use Rattle.std.proofs.Common.{◌≡◌, ℕ, zero, suc, ◌+◌, ◌-◌, ◌<◌, ◌≤◌, ◌&&◌, List, [], ◌∷◌, ◌++◌, filter, map, drop, Bool, true, false, not, cond, refl, sym, ap, ◌∙◌, arith, subst, Some, inl, inr}
use Rattle.std.specs.Prelude.{◌==◌}
use Rattle.std.proofs.lemmas.Bool.{cases_lt, eq-eqb, eqb-true, cond-true, cond-false}
use Rattle.std.proofs.lemmas.List.{append_assoc, drop-drop}
use Rattle.rt_plans.specs.declared.range.Range.{Range}
use Rattle.rt_store.specs.Tagged.{IsLeastFrom, Passes}
use Rattle.rt_tagcmd.specs.TagRanges.{ranges_from, with_place_before}
use Rattle.rt_tagcmd.specs.declared.stretch.DumpStretch.{DumpStretch}
use Rattle.rt_tagcmd.specs.Stretches.{RunsTo, is_in_stretch}
use Rattle.rt_tagcmd.proofs.Bools.{between, split}

-- a place before others, if it is one
abbrev pub put : Bool → ℕ → List ℕ → List ℕ
put b p rest = cond b (p ∷ rest) rest

-- the places where a test turns in a way, of characters from a place on, by how it was right before them
abbrev pub turns : {A : Type 0} → (Bool → Bool → Bool) → (A → Bool) → Bool → ℕ → List A → List ℕ
turns way test was p [] = put (way was false) p []
turns way test was p (c ∷ cs) = put (way was (test c)) p (turns way test (test c) (p + 1) cs)

abbrev pub ended : Bool → Bool → Bool
ended was now = was && not now

abbrev pub begun : Bool → Bool → Bool
begun was now = not was && now

-- the same test isn't a turn
abbrev pub IsTurn : (Bool → Bool → Bool) → Type 0
IsTurn way = (b : Bool) → way b b ≡ false

pub ended_turns : IsTurn ended
ended_turns true = refl
ended_turns false = refl

pub begun_turns : IsTurn begun
begun_turns true = refl
begun_turns false = refl

-- RANGES BEGIN AND END THERE

abbrev Begins : ℕ → List Range → Type 0
Begins b [] = Unit {0}
Begins b (r ∷ rs) = b ≤ r.from

-- the first range with a place is from that place on
first_with : (q : ℕ) (rs : List Range) → (to : ℕ) × (more : List Range) × (with_place_before q rs ≡ record { from = q; to = to } ∷ more)
first_with q [] = (q + 1, [], refl)
first_with q (r ∷ rs) = by (r.from == q + 1)
  where
    by : (t : Bool) → (to : ℕ) × (more : List Range)
        × (cond t (record { from = q; to = r.to } ∷ rs) (record { from = q; to = q + 1 } ∷ r ∷ rs) ≡ record { from = q; to = to } ∷ more)
    by true = (r.to, rs, refl)
    by false = (q + 1, r ∷ rs, refl)

less : (b : ℕ) (rs : List Range) → Begins (b + 1) rs → Begins b rs
less b [] h = tt
less b (r ∷ rs) h = omega (arith, h)

begin_with : (b : ℕ) (rs : List Range) → Begins b (with_place_before b rs)
begin_with b rs = let f = first_with b rs in subst (Begins b) (sym f.2) (omega arith)

begin_later : {A : Type 0} (test : A → Bool) (b : ℕ) (cs : List A) → Begins b (ranges_from test b cs)
begin_later test b [] = tt
begin_later test b (c ∷ cs) = by (test c) (begin_later test (b + 1) cs)
  where
    by : (t : Bool) → Begins (b + 1) (ranges_from test (b + 1) cs) → Begins b (cond t (with_place_before b (ranges_from test (b + 1) cs)) (ranges_from test (b + 1) cs))
    by true h = begin_with b (ranges_from test (b + 1) cs)
    by false h = less b (ranges_from test (b + 1) cs) h

-- it joins the range right behind it
joins : (p to : ℕ) (more : List Range) → with_place_before p (record { from = p + 1; to = to } ∷ more) ≡ record { from = p; to = to } ∷ more
joins p to more = cond-true (p + 1 == p + 1) (record { from = p; to = to } ∷ more) (record { from = p; to = p + 1 } ∷ record { from = p + 1; to = to } ∷ more) (eq-eqb (p + 1) (p + 1) refl)

-- and is alone before others
alone : (p : ℕ) (rs : List Range) → Begins (p + 1 + 1) rs → with_place_before p rs ≡ record { from = p; to = p + 1 } ∷ rs
alone p [] h = refl
alone p (r ∷ rs) h = split (r.from == p + 1)
    (λ t. let same = eqb-true r.from (p + 1) t in absurd (omega (arith, h)))
    (λ f. cond-false (r.from == p + 1) (record { from = p; to = r.to } ∷ rs) (record { from = p; to = p + 1 } ∷ r ∷ rs) f)

abbrev froms : List Range → List ℕ
froms rs = map (λ r. r.from) rs

abbrev tos : List Range → List ℕ
tos rs = map (λ r. r.to) rs

abbrev rest_of : List ℕ → List ℕ
rest_of [] = []
rest_of (x ∷ xs) = xs

tos_with : {A : Type 0} (test : A → Bool) (p : ℕ) (cs : List A) → tos (ranges_from test (p + 1) cs) ≡ turns ended test false (p + 1) cs
    → tos (with_place_before p (ranges_from test (p + 1) cs)) ≡ turns ended test true (p + 1) cs
tos_with test p [] h = refl
tos_with test p (d ∷ ds) h = by (test d) (ranges_from test (p + 1 + 1) ds) (begin_later test (p + 1 + 1) ds) h
  where
    by : (t : Bool) (rs : List Range) → Begins (p + 1 + 1) rs → tos (cond t (with_place_before (p + 1) rs) rs) ≡ put (ended false t) (p + 1) (turns ended test t (p + 1 + 1) ds)
        → tos (with_place_before p (cond t (with_place_before (p + 1) rs) rs)) ≡ put (ended true t) (p + 1) (turns ended test t (p + 1 + 1) ds)
    by true rs b h =
        let f = first_with (p + 1) rs in
        ap (λ v. tos (with_place_before p v)) f.2 ∙ ap tos (joins p f.0 f.1) ∙ ap tos (sym f.2) ∙ h
    by false rs b h = ap tos (alone p rs b) ∙ ap (λ v. (p + 1) ∷ v) h

froms_with : {A : Type 0} (test : A → Bool) (p : ℕ) (cs : List A) → froms (ranges_from test (p + 1) cs) ≡ turns begun test false (p + 1) cs
    → froms (with_place_before p (ranges_from test (p + 1) cs)) ≡ p ∷ turns begun test true (p + 1) cs
froms_with test p [] h = refl
froms_with test p (d ∷ ds) h = by (test d) (ranges_from test (p + 1 + 1) ds) (begin_later test (p + 1 + 1) ds) h
  where
    by : (t : Bool) (rs : List Range) → Begins (p + 1 + 1) rs → froms (cond t (with_place_before (p + 1) rs) rs) ≡ put (begun false t) (p + 1) (turns begun test t (p + 1 + 1) ds)
        → froms (with_place_before p (cond t (with_place_before (p + 1) rs) rs)) ≡ p ∷ put (begun true t) (p + 1) (turns begun test t (p + 1 + 1) ds)
    by true rs b h =
        let f = first_with (p + 1) rs in
        ap (λ v. froms (with_place_before p v)) f.2 ∙ ap froms (joins p f.0 f.1) ∙ ap (λ v. p ∷ rest_of v) (sym (ap froms f.2) ∙ h)
    by false rs b h = ap froms (alone p rs b) ∙ ap (λ v. p ∷ v) h

-- ranges end where a test turns off
pub tos_are : {A : Type 0} (test : A → Bool) (p : ℕ) (cs : List A) → tos (ranges_from test p cs) ≡ turns ended test false p cs
tos_are test p [] = refl
tos_are test p (c ∷ cs) = by (test c) (tos_are test (p + 1) cs)
  where
    by : (t : Bool) → tos (ranges_from test (p + 1) cs) ≡ turns ended test false (p + 1) cs
        → tos (cond t (with_place_before p (ranges_from test (p + 1) cs)) (ranges_from test (p + 1) cs)) ≡ put (ended false t) p (turns ended test t (p + 1) cs)
    by true h = tos_with test p cs h
    by false h = h

-- and begin where it turns on
pub froms_are : {A : Type 0} (test : A → Bool) (p : ℕ) (cs : List A) → froms (ranges_from test p cs) ≡ turns begun test false p cs
froms_are test p [] = refl
froms_are test p (c ∷ cs) = by (test c) (froms_are test (p + 1) cs)
  where
    by : (t : Bool) → froms (ranges_from test (p + 1) cs) ≡ turns begun test false (p + 1) cs
        → froms (cond t (with_place_before p (ranges_from test (p + 1) cs)) (ranges_from test (p + 1) cs)) ≡ put (begun false t) p (turns begun test t (p + 1) cs)
    by true h = froms_with test p cs h
    by false h = h

-- ALONG THE PLACES

-- whether a character stands at a place and passes
abbrev test_at : {A : Type 0} → (A → Bool) → List A → ℕ → Bool
test_at test [] k = false
test_at test (c ∷ cs) zero = test c
test_at test (c ∷ cs) (suc k) = test_at test cs k

passing : {A : Type 0} (test : A → Bool) (cs : List A) (k : ℕ) → Passes test cs k → test_at test cs k ≡ true
passing test [] k h = let bad : ⊥ = cc in absurd bad
passing test (c ∷ cs) zero h = cc
passing test (c ∷ cs) (suc k) h = passing test cs k h

failing : {A : Type 0} (test : A → Bool) (cs : List A) (k : ℕ) → (Passes test cs k → ⊥) → test_at test cs k ≡ false
failing test [] k h = refl
failing test (c ∷ cs) zero h = split (test c) (λ t. absurd (h (ap (λ b. Some b) t))) (λ f. f)
failing test (c ∷ cs) (suc k) h = failing test cs k h

at_dropped : {A : Type 0} (test : A → Bool) (cs : List A) (p k j : ℕ) → j ≡ p + k → test_at test (drop p cs) k ≡ test_at test cs j
at_dropped test cs zero k j e = let same : k ≡ j = omega arith in ap (test_at test cs) same
at_dropped test [] (suc p) k j e = refl
at_dropped test (c ∷ cs) (suc p) k zero e = absurd (omega arith)
at_dropped test (c ∷ cs) (suc p) k (suc j) e = at_dropped test cs p k j (omega arith)

-- no turn while it stays the same
stays : {A : Type 0} (way : Bool → Bool → Bool) (test : A → Bool) (is : IsTurn way) (b : Bool) (n p q : ℕ) (cs : List A) → q ≡ p + n → ((k : ℕ) → k < n → test_at test cs k ≡ b)
    → turns way test b p cs ≡ turns way test b q (drop n cs)
stays way test is b zero p q cs e h = let same : p ≡ q = omega arith in ap (λ m. turns way test b m cs) same
stays way test is b (suc n) p q [] e h =
    let off : false ≡ b = h 0 (omega arith) in
    ap (λ t. put t p []) ((λ i. way b (off i)) ∙ is b) ∙ sym (ap (λ t. put t q []) ((λ i. way b (off i)) ∙ is b))
stays way test is b (suc n) p q (c ∷ cs) e h =
    let same : test c ≡ b = h 0 (omega arith) in
    (λ i. put (way b (same i)) p (turns way test (same i) (p + 1) cs))
    ∙ ap (λ t. put t p (turns way test b (p + 1) cs)) (is b)
    ∙ stays way test is b n (p + 1) q cs (omega arith) (λ k l. h (suc k) (omega arith))

-- the turn at a place
turned : {A : Type 0} (way : Bool → Bool → Bool) (test : A → Bool) (is : IsTurn way) (was now : Bool) (p : ℕ) (cs : List A) → test_at test cs 0 ≡ now
    → turns way test was p cs ≡ put (way was now) p (turns way test now p cs)
turned way test is was now p [] e =
    ap (λ t. put (way was t) p []) e
    ∙ ap (λ v. put (way was now) p v) (sym (ap (λ t. put t p []) ((λ i. way now (e i)) ∙ is now)))
turned way test is was now p (c ∷ cs) e =
    (λ i. put (way was (e i)) p (turns way test (e i) (p + 1) cs))
    ∙ ap (λ v. put (way was now) p v) (sym ((λ i. put (way now (e i)) p (turns way test (e i) (p + 1) cs)) ∙ ap (λ t. put t p (turns way test now (p + 1) cs)) (is now)))

-- THOSE OF A STRETCH

abbrev pub kept : DumpStretch → List ℕ → List ℕ
kept s ps = filter (is_in_stretch s) ps

outside : (s : DumpStretch) (p : ℕ) → (s.from ≤ p → p < s.behind → ⊥) → is_in_stretch s p ≡ false
outside s p n = split (is_in_stretch s p) (λ t. let h = between s.from s.behind p t in absurd (n h.0 h.1)) (λ f. f)

kept_out : (s : DumpStretch) (b : Bool) (p : ℕ) (rest : List ℕ) → is_in_stretch s p ≡ false → kept s (put b p rest) ≡ kept s rest
kept_out s true p rest f = ap (λ t. cond t (p ∷ kept s rest) (kept s rest)) f
kept_out s false p rest f = refl

kept_put : (s : DumpStretch) (b : Bool) (p : ℕ) (rest : List ℕ) → kept s (put b p rest) ≡ kept s (put b p []) ++ kept s rest
kept_put s true p rest = by (is_in_stretch s p)
  where
    by : (t : Bool) → cond t (p ∷ kept s rest) (kept s rest) ≡ cond t (p ∷ []) [] ++ kept s rest
    by true = refl
    by false = refl
kept_put s false p rest = refl

-- none is behind it
late : {A : Type 0} (way : Bool → Bool → Bool) (test : A → Bool) (s : DumpStretch) (b : Bool) (p : ℕ) (cs : List A) → s.behind ≤ p → kept s (turns way test b p cs) ≡ []
late way test s b p [] l = kept_out s (way b false) p [] (outside s p (λ m n. omega arith))
late way test s b p (c ∷ cs) l = kept_out s (way b (test c)) p (turns way test (test c) (p + 1) cs) (outside s p (λ m n. omega arith)) ∙ late way test s (test c) (p + 1) cs (omega arith)

-- nor before it
early : {A : Type 0} (way : Bool → Bool → Bool) (test : A → Bool) (s : DumpStretch) (a b : Bool) (n p q : ℕ) (cs : List A) → q ≡ p + n → q < s.from
    → kept s (turns way test a p cs) ≡ kept s (turns way test b q (drop n cs))
early way test s a b zero p q [] e l = kept_out s (way a false) p [] (outside s p (λ m n. omega arith)) ∙ sym (kept_out s (way b false) q [] (outside s q (λ m n. omega arith)))
early way test s a b zero p q (c ∷ cs) e l =
    let same : p ≡ q = omega arith in
    kept_out s (way a (test c)) p (turns way test (test c) (p + 1) cs) (outside s p (λ m n. omega arith))
    ∙ ap (λ m. kept s (turns way test (test c) (m + 1) cs)) same
    ∙ sym (kept_out s (way b (test c)) q (turns way test (test c) (q + 1) cs) (outside s q (λ m n. omega arith)))
early way test s a b (suc n) p q [] e l = kept_out s (way a false) p [] (outside s p (λ m n. omega arith)) ∙ sym (kept_out s (way b false) q [] (outside s q (λ m n. omega arith)))
early way test s a b (suc n) p q (c ∷ cs) e l =
    kept_out s (way a (test c)) p (turns way test (test c) (p + 1) cs) (outside s p (λ m n. omega arith))
    ∙ early way test s (test c) b n (p + 1) q cs (omega arith) l

-- A TAG'S

abbrev pub from_place : {A : Type 0} → (Bool → Bool → Bool) → (A → Bool) → List A → ℕ → List ℕ
from_place way test cs p = turns way test false p (drop p cs)

pub first_kept : {A : Type 0} (way : Bool → Bool → Bool) (test : A → Bool) (s : DumpStretch) (p : ℕ) (cs : List A) → p ≡ s.from - 1 → kept s (turns way test false 0 cs) ≡ kept s (from_place way test cs p)
first_kept way test s zero cs e = refl
first_kept way test s (suc p) cs e = early way test s false false (suc p) 0 (suc p) cs (omega arith) (omega arith)

along : {A : Type 0} (way : Bool → Bool → Bool) (test : A → Bool) (is : IsTurn way) (b : Bool) (p q : ℕ) (cs : List A) → p ≤ q → ((k : ℕ) → p ≤ k → k < q → test_at test cs k ≡ b)
    → turns way test b p (drop p cs) ≡ turns way test b q (drop q cs)
along way test is b p q cs l h =
    stays way test is b (q - p) p q (drop p cs) (omega arith) (λ k m. at_dropped test cs p k (p + k) refl ∙ h (p + k) (omega arith) (omega arith))
    ∙ ap (turns way test b q) (drop-drop (q - p) p cs)
    ∙ (let same : p + (q - p) ≡ q = omega arith in ap (λ n. turns way test b q (drop n cs)) same)

-- nothing is left where no character passes up to the stretch's end
pub none_left : {A : Type 0} (way : Bool → Bool → Bool) (test : A → Bool) (is : IsTurn way) (s : DumpStretch) (p : ℕ) (cs : List A)
    → ((k : ℕ) → p ≤ k → k < s.behind → Passes test cs k → ⊥) → kept s (from_place way test cs p) ≡ []
none_left way test is s p cs h = elim (cases_lt p s.behind) [
  | inl l ↦ ap (kept s) (along way test is false p s.behind cs (omega arith) (λ k m n. failing test cs k (h k m n))) ∙ late way test s false s.behind (drop s.behind cs) (omega arith)
  | inr l ↦ late way test s false p (drop p cs) l
]

-- up to the next range, and past it as far as the stretch goes
pub range_more : {A : Type 0} (way : Bool → Bool → Bool) (test : A → Bool) (is : IsTurn way) (s : DumpStretch) (p begin end : ℕ) (cs : List A)
    → IsLeastFrom test cs p begin → RunsTo test cs begin end s.behind
    → kept s (from_place way test cs p) ≡ (kept s (put (way false true) begin []) ++ kept s (put (way true false) end [])) ++ kept s (from_place way test cs end)
range_more way test is s p begin end cs h r =
    let from = h.from in
    let behind = r.behind in
    let within = r.within in
    ap (kept s) (along way test is false p begin cs from (λ k m n. failing test cs k (h.none_before k m n)))
    ∙ ap (kept s) (turned way test is false true begin (drop begin cs) (at_dropped test cs begin 0 begin (omega arith) ∙ passing test cs begin h.passes))
    ∙ kept_put s (way false true) begin (turns way test true begin (drop begin cs))
    ∙ ap (λ v. kept s (put (way false true) begin []) ++ kept s v) (along way test is true begin end cs (omega arith) (λ k m n. passing test cs k (r.all k m n)))
    ∙ ap (λ v. kept s (put (way false true) begin []) ++ v)
    (elim (cases_lt end s.behind) [
      | inl l ↦
          ap (kept s) (turned way test is true false end (drop end cs) (at_dropped test cs end 0 end (omega arith) ∙ failing test cs end (r.stops l)))
          ∙ kept_put s (way true false) end (from_place way test cs end)
      | inr l ↦
          late way test s true end (drop end cs) l
          ∙ sym (kept_out s (way true false) end (from_place way test cs end) (outside s end (λ m n. omega arith)) ∙ late way test s false end (drop end cs) l)
          ∙ kept_put s (way true false) end (from_place way test cs end)
    ])
    ∙ sym (append_assoc (kept s (put (way false true) begin [])) (kept s (put (way true false) end [])) (kept s (from_place way test cs end)))
