use Rattle.std.proofs.Common.{◌≡◌, false, ℕ, zero, suc, ◌-◌, ◌==◌, List, [], ◌∷◌, Some, length, drop, arith, subst, sym}
use Rattle.std.proofs.Math.Numerals.{one-add}
use Rattle.std.specs.List.{prefix_len}
use Rattle.std.specs.Prelude.{IfSome, slice_get}
use Rattle.std.proofs.lemmas.Bool.Decides.{nat_tests}
use Rattle.rt_index.specs.Reading.{after_spaces, is_space}
use Rattle.rt_index.proofs.Places.{split}
use Rattle.rt_index.proofs.reading.is_blank.Goals as goal

some : (n : ℕ) → (suc n == 0) ≡ false
some n = grind (arith, nat_tests)

-- where something else than a space stands in a text, something is left of it behind the spaces at its front
left : (text : List ℕ) (n b : ℕ) → slice_get text n ≡ Some b → is_space b ≡ false → (length (after_spaces text) == 0) ≡ false
left [] n b h k = cc
left (c ∷ text) zero b h k = let e : is_space c ≡ false = subst (λ o. IfSome o (λ x. is_space x ≡ false)) (sym h) k in rw e (some (length text))
left (c ∷ text) (suc n) b h k = split (is_space c)
    (λ e.
    let q : prefix_len is_space (c ∷ text) ≡ suc (prefix_len is_space text) = rw e (one-add (prefix_len is_space text)) in
    subst (λ m. (length (drop m (c ∷ text)) == 0) ≡ false) (sym q) (left text n b h k))
    (λ e. rw e (some (length text)))

no_space : (b : ℕ) → (b ≡ 32 → ⊥) → is_space b ≡ false
no_space b h = grind (arith, nat_tests)

pub returns-in-Some : goal.returns-in-Some
returns-in-Some c =
    sym (left c.args.text.now (length c.args.text.now - 1) c.in-Some.byte.now (sym c.in-Some.ensures.value) (no_space c.in-Some.byte.now c.if-byte-ne32.true))
