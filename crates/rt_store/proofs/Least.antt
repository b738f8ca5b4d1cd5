-- The nearest places are the least and the greatest that pass.
use Rattle.std.proofs.Common.{[], ◌≡◌, ◌+◌, ◌<◌, ◌≤◌, ◌∷◌, drop, ℕ, List, zero, suc, Bool, true, false, cond, arith, refl, sym, ◌∙◌, ap, Some, None, Option}
use Rattle.std.specs.Prelude.{position, option_map}
use Rattle.rt_store.specs.Tagged.{next_place, previous_place, last_with, Passes, IsLeastFrom, IsGreatestBelow}
use Rattle.rt_store.proofs.Nearest.{position_cons}

next_first : {A : Type 0} (test : A → Bool) (c : A) (cs : List A) → next_place test (c ∷ cs) 0 ≡ cond (test c) (Some 0) (option_map suc (next_place test cs 0))
next_first test c cs = rw (position_cons test c cs) (by_cases (test c) (position test cs))
  where
    by_cases : (b : Bool) (o : Option ℕ) → option_map (λ k. 0 + k) (cond b (Some 0) (option_map suc o)) ≡ cond b (Some 0) (option_map suc (option_map (λ k. 0 + k) o))
    by_cases true o = refl
    by_cases false None = refl
    by_cases false (Some n) = ap Some (omega arith)

next_later : {A : Type 0} (test : A → Bool) (c : A) (cs : List A) (n : ℕ) → next_place test (c ∷ cs) (suc n) ≡ option_map suc (next_place test cs n)
next_later test c cs n = further (position test (drop n cs))
  where
    further : (o : Option ℕ) → option_map (λ k. suc n + k) o ≡ option_map suc (option_map (λ k. n + k) o)
    further None = refl
    further (Some m) = ap Some (omega arith)

not_here : {A : Type 0} (test : A → Bool) (c : A) (cs : List A) → test c ≡ false → Passes test (c ∷ cs) 0 → ⊥
not_here test c cs e h = let bad : ⊥ = cc in bad

none_first : {A : Type 0} (test : A → Bool) (c : A) (cs : List A) (m : ℕ) → test c ≡ false → ((k : ℕ) → 0 ≤ k → k < m → Passes test cs k → ⊥) → (k : ℕ) → 0 ≤ k → k < suc m → Passes test (c ∷ cs) k → ⊥
none_first test c cs m e f zero p q r = not_here test c cs e r
none_first test c cs m e f (suc k) p q r = f k (omega arith) (omega arith) r

none_later : {A : Type 0} (test : A → Bool) (c : A) (cs : List A) (place m : ℕ) → ((k : ℕ) → place ≤ k → k < m → Passes test cs k → ⊥) → (k : ℕ) → suc place ≤ k → k < suc m → Passes test (c ∷ cs) k → ⊥
none_later test c cs place m f zero p q r = absurd (omega arith)
none_later test c cs place m f (suc k) p q r = f k (omega arith) (omega arith) r

least_first : {A : Type 0} (test : A → Bool) (c : A) (cs : List A) (b : Bool) (o : Option ℕ) (found : ℕ) → test c ≡ b → cond b (Some 0) (option_map suc o) ≡ Some found
    → ((m : ℕ) → o ≡ Some m → IsLeastFrom test cs 0 m) → IsLeastFrom test (c ∷ cs) 0 found
least_first test c cs true o zero e h ih = record { from = omega arith; passes = ap Some e; none_before = λ k p q r. absurd (omega arith) }
least_first test c cs true o (suc m) e h ih = let bad : 0 ≡ suc m = cc in absurd (omega arith)
least_first test c cs false None found e h ih = let bad : ⊥ = cc in absurd bad
least_first test c cs false (Some n) zero e h ih = let bad : suc n ≡ 0 = cc in absurd (omega arith)
least_first test c cs false (Some n) (suc m) e h ih =
    let same : suc n ≡ suc m = cc in
    let less : n ≡ m = omega arith in
    let l = ih m (ap Some less) in
    record { from = omega arith; passes = l.passes; none_before = none_first test c cs m e l.none_before }

least_later : {A : Type 0} (test : A → Bool) (c : A) (cs : List A) (place : ℕ) (o : Option ℕ) (found : ℕ) → option_map suc o ≡ Some found
    → ((m : ℕ) → o ≡ Some m → IsLeastFrom test cs place m) → IsLeastFrom test (c ∷ cs) (suc place) found
least_later test c cs place None found h ih = let bad : ⊥ = cc in absurd bad
least_later test c cs place (Some n) zero h ih = let bad : suc n ≡ 0 = cc in absurd (omega arith)
least_later test c cs place (Some n) (suc m) h ih =
    let same : suc n ≡ suc m = cc in
    let less : n ≡ m = omega arith in
    let l = ih m (ap Some less) in
    let from = l.from in
    record { from = omega arith; passes = l.passes; none_before = none_later test c cs place m l.none_before }

pub least : {A : Type 0} (test : A → Bool) (cs : List A) (place found : ℕ) → next_place test cs place ≡ Some found → IsLeastFrom test cs place found
least test [] zero found h = let bad : ⊥ = cc in absurd bad
least test [] (suc place) found h = let bad : ⊥ = cc in absurd bad
least test (c ∷ cs) zero found h = least_first test c cs (test c) (next_place test cs 0) found refl (sym (next_first test c cs) ∙ h) (λ m e. least test cs 0 m e)
least test (c ∷ cs) (suc place) found h = least_later test c cs place (next_place test cs place) found (sym (next_later test c cs place) ∙ h) (λ m e. least test cs place m e)

no_first : {A : Type 0} (test : A → Bool) (c : A) (cs : List A) (b : Bool) (o : Option ℕ) → test c ≡ b → cond b (Some 0) (option_map suc o) ≡ None
    → (o ≡ None → (k : ℕ) → Passes test cs k → ⊥) → (k : ℕ) → Passes test (c ∷ cs) k → ⊥
no_first test c cs true o e h f k p = let bad : ⊥ = cc in bad
no_first test c cs false (Some n) e h f k p = let bad : ⊥ = cc in bad
no_first test c cs false None e h f zero p = not_here test c cs e p
no_first test c cs false None e h f (suc k) p = f refl k p

no_later : (o : Option ℕ) → option_map suc o ≡ None → o ≡ None
no_later None h = refl
no_later (Some n) h = let bad : ⊥ = cc in absurd bad

pub no_next : {A : Type 0} (test : A → Bool) (cs : List A) (place k : ℕ) → next_place test cs place ≡ None → place ≤ k → Passes test cs k → ⊥
no_next test [] place zero h q p = let bad : ⊥ = cc in bad
no_next test [] place (suc k) h q p = let bad : ⊥ = cc in bad
no_next test (c ∷ cs) zero k h q p = no_first test c cs (test c) (next_place test cs 0) refl (sym (next_first test c cs) ∙ h) (λ e j r. no_next test cs 0 j e (omega arith) r) k p
no_next test (c ∷ cs) (suc place) zero h q p = absurd (omega arith)
no_next test (c ∷ cs) (suc place) (suc k) h q p = no_next test cs place k (no_later (next_place test cs place) (sym (next_later test c cs place) ∙ h)) (omega arith) p

no_last : (b : Bool) (o : Option ℕ) → last_with b o ≡ None → (b ≡ false) × (o ≡ None)
no_last true None h = let bad : ⊥ = cc in absurd bad
no_last false None h = (refl, refl)
no_last true (Some n) h = let bad : ⊥ = cc in absurd bad
no_last false (Some n) h = let bad : ⊥ = cc in absurd bad

pub no_previous : {A : Type 0} (test : A → Bool) (cs : List A) (place k : ℕ) → previous_place test cs place ≡ None → k < place → Passes test cs k → ⊥
no_previous test [] place zero h q p = let bad : ⊥ = cc in bad
no_previous test [] place (suc k) h q p = let bad : ⊥ = cc in bad
no_previous test (c ∷ cs) zero k h q p = absurd (omega arith)
no_previous test (c ∷ cs) (suc place) zero h q p = not_here test c cs (no_last (test c) (previous_place test cs place) h).0 p
no_previous test (c ∷ cs) (suc place) (suc k) h q p = no_previous test cs place k (no_last (test c) (previous_place test cs place) h).1 (omega arith) p

greatest_step : {A : Type 0} (test : A → Bool) (c : A) (cs : List A) (place : ℕ) (b : Bool) (o : Option ℕ) (found : ℕ) → test c ≡ b → last_with b o ≡ Some found
    → ((m : ℕ) → o ≡ Some m → IsGreatestBelow test cs place m) → (o ≡ None → (k : ℕ) → k < place → Passes test cs k → ⊥) → IsGreatestBelow test (c ∷ cs) (suc place) found
greatest_step test c cs place b (Some n) zero e h ih none = let bad : n + 1 ≡ 0 = cc in absurd (omega arith)
greatest_step test c cs place b (Some n) (suc m) e h ih none =
    let same : n + 1 ≡ suc m = cc in
    let less : n ≡ m = omega arith in
    let g = ih m (ap Some less) in
    let below = g.below in
    record { below = omega arith; passes = g.passes; none_after = after g.none_after }
  where
    after : ((k : ℕ) → m < k → k < place → Passes test cs k → ⊥) → (k : ℕ) → suc m < k → k < suc place → Passes test (c ∷ cs) k → ⊥
    after f zero p q r = absurd (omega arith)
    after f (suc k) p q r = f k (omega arith) (omega arith) r
greatest_step test c cs place true None zero e h ih none = record { below = omega arith; passes = ap Some e; none_after = after }
  where
    after : (k : ℕ) → 0 < k → k < suc place → Passes test (c ∷ cs) k → ⊥
    after zero p q r = absurd (omega arith)
    after (suc k) p q r = none refl k (omega arith) r
greatest_step test c cs place true None (suc m) e h ih none = let bad : 0 ≡ suc m = cc in absurd (omega arith)
greatest_step test c cs place false None found e h ih none = let bad : ⊥ = cc in absurd bad

pub greatest : {A : Type 0} (test : A → Bool) (cs : List A) (place found : ℕ) → previous_place test cs place ≡ Some found → IsGreatestBelow test cs place found
greatest test [] zero found h = let bad : ⊥ = cc in absurd bad
greatest test [] (suc place) found h = let bad : ⊥ = cc in absurd bad
greatest test (c ∷ cs) zero found h = let bad : ⊥ = cc in absurd bad
greatest test (c ∷ cs) (suc place) found h = greatest_step test c cs place (test c) (previous_place test cs place) found refl h (λ m e. greatest test cs place m e) (λ e k q p. no_previous test cs place k e q p)
