-- Newlines of texts that are put together.
use Rattle.std.proofs.Common.{◌≡◌, ℕ, zero, suc, ◌+◌, ◌-◌, ◌<◌, ◌≤◌, inl, inr, List, [], ◌∷◌, ◌++◌, length, take, sym, ap, ◌∙◌, arith}
use Rattle.std.proofs.lemmas.Bool.{cases_eq}
use Rattle.rt_stamps.specs.Places.{after_newlines, newlines}
use Rattle.rt_tree.proofs.Around.{test_other, test_same}

pub newlines-append : (a b : List ℕ) → newlines (a ++ b) ≡ newlines a + newlines b
newlines-append [] b = omega arith
newlines-append (c ∷ a) b = elim (cases_eq c 10) [
  | inl e ↦ test_same c 10 (newlines (a ++ b) + 1) (newlines (a ++ b)) e ∙ (let h = newlines-append a b in let s = test_same c 10 (newlines a + 1) (newlines a) e in omega (arith, h, s))
  | inr ne ↦ test_other c 10 (newlines (a ++ b) + 1) (newlines (a ++ b)) ne ∙ (let h = newlines-append a b in let s = test_other c 10 (newlines a + 1) (newlines a) ne in omega (arith, h, s))
]

-- fewer characters, fewer newlines
pub newlines-take : (i n : ℕ) (a : List ℕ) → i ≤ n → newlines (take i a) ≤ newlines (take n a)
newlines-take zero n a le = omega arith
newlines-take (suc i) zero a le = absurd (omega arith)
newlines-take (suc i) (suc n) [] le = omega arith
newlines-take (suc i) (suc n) (c ∷ a) le = elim (cases_eq c 10) [
  | inl e ↦ (let h = newlines-take i n a (omega arith) in let s = test_same c 10 (newlines (take i a) + 1) (newlines (take i a)) e in let u = test_same c 10 (newlines (take n a) + 1) (newlines (take n a)) e in omega (arith, h, s, u))
  | inr ne ↦ (let h = newlines-take i n a (omega arith) in let s = test_other c 10 (newlines (take i a) + 1) (newlines (take i a)) ne in let u = test_other c 10 (newlines (take n a) + 1) (newlines (take n a)) ne in omega (arith, h, s, u))
]

-- past all newlines of a text, and more behind it
pub after-append : (j : ℕ) (a b : List ℕ) → 0 < j → after_newlines (newlines a + j) (a ++ b) ≡ length a + after_newlines j b
after-append j [] b lt = let z : 0 + j ≡ j = omega arith in ap (λ n. after_newlines n b) z ∙ sym (let w : 0 + after_newlines j b ≡ after_newlines j b = omega arith in w)
after-append j (c ∷ a) b lt = elim (cases_eq c 10) [
  | inl e ↦
      let n : newlines (c ∷ a) + j ≡ suc (newlines a + j) = (let s = test_same c 10 (newlines a + 1) (newlines a) e in omega (arith, s)) in
      let h = after-append j a b lt in
      let s = test_same c 10 (after_newlines (newlines a + j) (a ++ b) + 1) (after_newlines (suc (newlines a + j)) (a ++ b) + 1) e in
      ap (λ k. after_newlines k (c ∷ (a ++ b))) n ∙ s ∙ omega (arith, h)
  | inr ne ↦
      let k = newlines a + j - 1 in
      let n : newlines (c ∷ a) + j ≡ suc k = (let s = test_other c 10 (newlines a + 1) (newlines a) ne in omega (arith, s)) in
      let o : suc k ≡ newlines a + j = omega arith in
      let h = ap (λ x. after_newlines x (a ++ b)) o ∙ after-append j a b lt in
      let s = test_other c 10 (after_newlines k (a ++ b) + 1) (after_newlines (suc k) (a ++ b) + 1) ne in
      ap (λ x. after_newlines x (c ∷ (a ++ b))) n ∙ s ∙ omega (arith, h)
]

-- past the only newline, which is the last character
pub after-last : (n : ℕ) (a b : List ℕ) → newlines (take n a) ≡ 0 → newlines a ≡ 1 → suc n ≡ length a → after_newlines 1 (a ++ b) ≡ length a
after-last n [] b plain one long = absurd (omega arith)
after-last zero (c ∷ d ∷ a) b plain one long = absurd (omega arith)
after-last zero (c ∷ []) b plain one long = elim (cases_eq c 10) [
  | inl e ↦ test_same c 10 (after_newlines 0 b + 1) (after_newlines 1 b + 1) e ∙ omega arith
  | inr ne ↦ absurd (let s = test_other c 10 (newlines [] + 1) (newlines []) ne in omega (arith, s, one))
]
after-last (suc n) (c ∷ a) b plain one long = elim (cases_eq c 10) [
  | inl e ↦ absurd (let s = test_same c 10 (newlines (take n a) + 1) (newlines (take n a)) e in omega (arith, s, plain))
  | inr ne ↦
      let s = test_other c 10 (newlines (take n a) + 1) (newlines (take n a)) ne in
      let u = test_other c 10 (newlines a + 1) (newlines a) ne in
      let h = after-last n a b (omega (arith, s, plain)) (omega (arith, u, one)) (omega arith) in
      test_other c 10 (after_newlines 0 (a ++ b) + 1) (after_newlines 1 (a ++ b) + 1) ne ∙ omega (arith, h)
]
