-- A test passes, or it fails.
use Rattle.std.proofs.Common.{◌≡◌, ℕ, ◌<◌, ◌≤◌, ◌&&◌, nat_le, nat_lt, Bool, true, false, refl, arith}
use Rattle.std.proofs.lemmas.Bool.Decides.{nat_tests}

pub split : {A : Type 0} (b : Bool) → (b ≡ true → A) → (b ≡ false → A) → A
split true f g = f refl
split false f g = g refl

-- a place between two others
pub between : (from to p : ℕ) → (nat_le from p && nat_lt p to) ≡ true → (from ≤ p) × (p < to)
between from to p h = (low (nat_le from p) (nat_lt p to) refl refl h, high (nat_le from p) (nat_lt p to) refl refl h)
  where
    low : (a b : Bool) → nat_le from p ≡ a → nat_lt p to ≡ b → (a && b) ≡ true → from ≤ p
    low true b s t e = grind (arith, nat_tests)
    low false b s t e = cc

    high : (a b : Bool) → nat_le from p ≡ a → nat_lt p to ≡ b → (a && b) ≡ true → p < to
    high true true s t e = grind (arith, nat_tests)
    high true false s t e = cc
    high false b s t e = cc

pub is_between : (from to p : ℕ) → from ≤ p → p < to → (nat_le from p && nat_lt p to) ≡ true
is_between from to p a b = grind (arith, nat_tests)
