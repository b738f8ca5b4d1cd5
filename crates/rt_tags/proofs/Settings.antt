-- The settings of a branch.
use Rattle.std.proofs.Common.{◌≡◌, ◌⊎◌, inl, inr, ℕ, ◌==◌, ◌+◌, ◌*◌, ◌%◌, Bool, true, false, cond, sym, ap, ◌∙◌, Option, Some, None, is_some, arith}
use Rattle.std.proofs.lemmas.Bool.{cases_lt}
use Rattle.std.proofs.lemmas.Bool.Decides.{Decides-eqb}
use Rattle.rt_tags.specs.declared.nodes.Setting.{Setting}
use Rattle.rt_tags.specs.SharedStates.{IsThere, Tree, Empty, Branch, half, is_odd, setting_of, with_setting}
use Rattle.rt_tags.proofs.Places.{clash, split}

pub not_same : (a b : ℕ) → (a ≡ b → ⊥) → (a == b) ≡ false
not_same a b k = split (a == b) (λ t. absurd (k ((Decides-eqb a b).0 t))) (λ f. f)

pub is_same : (a b : ℕ) → a ≡ b → (a == b) ≡ true
is_same a b e = (Decides-eqb a b).1 e

pub same_tests : (a b c d : ℕ) → (a ≡ b → c ≡ d) → (c ≡ d → a ≡ b) → (a == b) ≡ (c == d)
same_tests a b c d f g = split (a == b)
    (λ t. t ∙ sym (is_same c d (f ((Decides-eqb a b).0 t))))
    (λ n. n ∙ sym (not_same c d (λ e. clash (a == b) (is_same a b (g e)) n)))

-- the settings of two parts
abbrev pub parts : Tree → Tree → ℕ → Option Setting
parts o e t = cond (is_odd t) (setting_of o (half t)) (setting_of e (half t))

pub by_parity : {P : Type 0} (x : ℕ) → (x % 2 ≡ 1 → P) → (x % 2 ≡ 0 → P) → P
by_parity {P} x g h = elim (cases_lt 0 (x % 2)) as (λ w. P) [
  | inl q ↦ g (omega arith)
  | inr q ↦ h (omega arith)
]

pub part_odd : (o e : Tree) (t : ℕ) → t % 2 ≡ 1 → parts o e t ≡ setting_of o (half t)
part_odd o e t r = ap (λ (b : Bool). cond b (setting_of o (half t)) (setting_of e (half t))) (is_same (t % 2) 1 r)

pub part_even : (o e : Tree) (t : ℕ) → t % 2 ≡ 0 → parts o e t ≡ setting_of e (half t)
part_even o e t r = ap (λ (b : Bool). cond b (setting_of o (half t)) (setting_of e (half t))) (not_same (t % 2) 1 (λ z. absurd (omega arith)))

module _ (tag : ℕ) (m : Option Setting) (o e : Tree) where
  pub setting_top : (t : ℕ) → t ≡ tag → setting_of (Branch tag m o e) t ≡ m
  setting_top t z = ap (λ (b : Bool). cond b m (parts o e t)) (is_same t tag z)

  pub setting_below : (t : ℕ) → (t ≡ tag → ⊥) → setting_of (Branch tag m o e) t ≡ parts o e t
  setting_below t z = ap (λ (b : Bool). cond b m (parts o e t)) (not_same t tag z)

  pub in_odd : (t : ℕ) → (2 * t + 1 ≡ tag → ⊥) → setting_of (Branch tag m o e) (2 * t + 1) ≡ setting_of o t
  in_odd t z =
      let r : half (2 * t + 1) ≡ t = omega arith in
      setting_below (2 * t + 1) z ∙ (part_odd o e (2 * t + 1) (omega arith) ∙ ap (setting_of o) r)

  pub in_even : (t : ℕ) → (2 * t ≡ tag → ⊥) → setting_of (Branch tag m o e) (2 * t) ≡ setting_of e t
  in_even t z =
      let r : half (2 * t) ≡ t = omega arith in
      setting_below (2 * t) z ∙ (part_even o e (2 * t) (omega arith) ∙ ap (setting_of e) r)

pub parts_none : (t : ℕ) → parts Empty Empty t ≡ None
parts_none t = by_parity t (λ r. part_odd Empty Empty t r) (λ r. part_even Empty Empty t r)

pub none_there : (t : ℕ) → setting_of (Branch 0 None Empty Empty) t ≡ None
none_there t = split (t == 0)
    (λ y. ap (λ (b : Bool). cond b None (parts Empty Empty t)) y)
    (λ n. ap (λ (b : Bool). cond b None (parts Empty Empty t)) n ∙ parts_none t)

-- one setting more in one of the parts
module _ (top low : ℕ) (tm lm : Setting) (o e : Tree) where
  abbrev pub joined : ℕ → Option Setting
  joined t = cond (t == top) (Some tm) (cond (t == low) (Some lm) (parts o e t))

  pub put_odd : (p : Tree) → low % 2 ≡ 1 → ((t : ℕ) → setting_of p t ≡ with_setting (half low) lm o t) → (t : ℕ) → setting_of (Branch top (Some tm) p e) t ≡ joined t
  put_odd p odd h t = ap (λ (v : Option Setting). cond (t == top) (Some tm) v) (by_parity t
      (λ r. part_odd p e t r ∙ (h (half t) ∙ (ap (λ (b : Bool). cond b (Some lm) (setting_of o (half t))) (same_tests (half t) (half low) t low (λ k. omega arith) (λ k. omega arith))
      ∙ ap (λ (v : Option Setting). cond (t == low) (Some lm) v) (sym (part_odd o e t r)))))
      (λ r. part_even p e t r ∙ sym (ap (λ (b : Bool). cond b (Some lm) (parts o e t)) (not_same t low (λ k. let c : t % 2 ≡ low % 2 = ap (λ (x : ℕ). x % 2) k in absurd (omega arith))) ∙ part_even o e t r)))

  pub put_even : (p : Tree) → low % 2 ≡ 0 → ((t : ℕ) → setting_of p t ≡ with_setting (half low) lm e t) → (t : ℕ) → setting_of (Branch top (Some tm) o p) t ≡ joined t
  put_even p even h t = ap (λ (v : Option Setting). cond (t == top) (Some tm) v) (by_parity t
      (λ r. part_odd o p t r ∙ sym (ap (λ (b : Bool). cond b (Some lm) (parts o e t)) (not_same t low (λ k. let c : t % 2 ≡ low % 2 = ap (λ (x : ℕ). x % 2) k in absurd (omega arith))) ∙ part_odd o e t r))
      (λ r. part_even o p t r ∙ (h (half t) ∙ (ap (λ (b : Bool). cond b (Some lm) (setting_of e (half t))) (same_tests (half t) (half low) t low (λ k. omega arith) (λ k. omega arith))
      ∙ ap (λ (v : Option Setting). cond (t == low) (Some lm) v) (sym (part_even o e t r))))))

  pub swapped : (top ≡ low → ⊥) → (t : ℕ) → joined t ≡ cond (t == low) (Some lm) (cond (t == top) (Some tm) (parts o e t))
  swapped apart t = split (t == top)
      (λ y.
      let k : t ≡ top = (Decides-eqb t top).0 y in
      let f : (t == low) ≡ false = not_same t low (λ z. apart (sym k ∙ z)) in
      ap (λ (b : Bool). cond b (Some tm) (cond (t == low) (Some lm) (parts o e t))) y
      ∙ sym (ap (λ (b : Bool). cond b (Some lm) (cond (t == top) (Some tm) (parts o e t))) f ∙ ap (λ (b : Bool). cond b (Some tm) (parts o e t)) y))
      (λ n.
      ap (λ (b : Bool). cond b (Some tm) (cond (t == low) (Some lm) (parts o e t))) n
      ∙ sym (ap (λ (v : Option Setting). cond (t == low) (Some lm) v) (ap (λ (b : Bool). cond b (Some tm) (parts o e t)) n)))

-- what is there after one setting more
pub there_with : (tag : ℕ) (setting : Setting) (tree p : Tree) → ((t : ℕ) → setting_of p t ≡ with_setting tag setting tree t) → (t : ℕ) → IsThere p t → (t ≡ tag) ⊎ IsThere tree t
there_with tag setting tree p h t is = split (t == tag)
    (λ y. inl ((Decides-eqb t tag).0 y))
    (λ n. inr (ap (λ (v : Option Setting). is_some v) (sym (h t ∙ ap (λ (b : Bool). cond b (Some setting) (setting_of tree t)) n)) ∙ is))
