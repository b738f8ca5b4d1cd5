-- The bytes that spell counts.
use Rattle.std.proofs.Common.{◌≡◌, ◌∙◌, inl, inr, refl, sym, ap, subst, arith, ℕ, ◌*◌, ◌<◌, ◌==◌, true, false, cond, List, [], ◌∷◌, ◌++◌, length, Some, unwrap_or}
use Rattle.std.specs.declared.alloc.Global.{Global}
use Rattle.std.specs.declared.collections.BTreeMap.{BTreeMap}
use Rattle.std.specs.BTreeMap.{Updates, get, is_at}
use Rattle.std.specs.Map.{lookup}
use Rattle.std.specs.Ordering.{nat_cmp}
use Rattle.std.proofs.lemmas.Bool.{cases_eq}
use Rattle.std.proofs.lemmas.Bool.Decides.{nat_tests}
use Rattle.std.proofs.lemmas.List.{length-append}
use Rattle.rt_files.specs.Ends.{SpellNoEnds, ends_bytes, known_by}

at_apart : (k q : ℕ) → (k ≡ q → ⊥) → is_at (nat_cmp k) q ≡ false
at_apart k q n = grind (arith, nat_tests)

at_same : (k : ℕ) → is_at (nat_cmp k) k ≡ true
at_same k = grind (arith, nat_tests)

here : (e : ℕ × ℕ) (ends : List (ℕ × ℕ)) → known_by (e ∷ ends) e.0 ≡ e.1
here e ends = ap (λ b. unwrap_or (cond b (Some e.1) (lookup (is_at (nat_cmp e.0)) ends)) 0) (at_same e.0)

past : (e : ℕ × ℕ) (ends : List (ℕ × ℕ)) (q : ℕ) → (e.0 ≡ q → ⊥) → known_by (e ∷ ends) q ≡ known_by ends q
past e ends q apart = ap (λ b. unwrap_or (cond b (Some e.1) (lookup (is_at (nat_cmp q)) ends)) 0) (at_apart q e.0 (λ s. apart (sym s)))

-- one more count, of a site of which others come behind it
pub known_first : (m n : BTreeMap ℕ ℕ Global) (e : ℕ × ℕ) (ends : List (ℕ × ℕ)) → Updates nat_cmp m n e.0 (Some e.1)
    → ((q : ℕ) → unwrap_or (get nat_cmp m q) 0 ≡ known_by ends q) → (q : ℕ) → unwrap_or (get nat_cmp n q) 0 ≡ known_by (e ∷ ends) q
known_first m n e ends u h q = elim (cases_eq e.0 q) [
  | inl same ↦ subst (λ r. unwrap_or (get nat_cmp n r) 0 ≡ known_by (e ∷ ends) r) same (ap (λ o. unwrap_or o 0) u.1 ∙ sym (here e ends))
  | inr apart ↦ ap (λ o. unwrap_or o 0) (u.2 q (at_apart e.0 q apart)) ∙ h q ∙ sym (past e ends q apart)
]

ends_length : (ends : List (ℕ × ℕ)) → length (ends_bytes ends) ≡ length ends * 12
ends_length [] = refl
ends_length (e ∷ ends) = let more = ends_length ends in omega (arith, more)

positive : (n : ℕ) → (n == 0) ≡ false → 0 < n
positive n e = grind (arith, nat_tests)

-- bytes of which too few for one more count are left over
pub left_over : (bytes left : List ℕ) (ends : List (ℕ × ℕ)) → bytes ≡ left ++ ends_bytes ends → length left < 12 → (length left == 0) ≡ false → SpellNoEnds bytes
left_over bytes left ends is few some = λ n e.
    let whole = ap length is in let both = length-append left (ends_bytes ends) in let each = ends_length ends in let more = positive (length left) some in
    omega (arith, whole, both, each, more, few, e)
