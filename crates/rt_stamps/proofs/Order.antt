-- The order of stamps.
use Rattle.std.proofs.Common.{◌≡◌, true, false, arith}
use Rattle.std.proofs.lemmas.Bool.Decides.{nat_tests}
use Rattle.rt_stamps.specs.declared.stamp.Stamp.{Stamp}
use Rattle.rt_stamps.specs.Stamps.{is_before, is_same}

pub before_trans : (a b c : Stamp) → is_before a b ≡ true → is_before b c ≡ true → is_before a c ≡ true
before_trans a b c h k = grind (arith, nat_tests)

pub before_irrefl : (a : Stamp) → is_before a a ≡ false
before_irrefl a = grind (arith, nat_tests)

pub before_asym : (a b : Stamp) → is_before a b ≡ true → is_before b a ≡ false
before_asym a b h = grind (arith, nat_tests)

pub same_refl : (a : Stamp) → is_same a a ≡ true
same_refl a = grind (arith, nat_tests)

pub same_from_true : (a b : Stamp) → is_same a b ≡ true → a ≡ b
same_from_true a b h =
    let p : a.count ≡ b.count = grind (arith, nat_tests) in
    let q : a.site ≡ b.site = grind (arith, nat_tests) in
    λ i. record { count = p i; site = q i }

pub same_sym : (a b : Stamp) → is_same a b ≡ is_same b a
same_sym a b = grind (arith, nat_tests)

pub differ : (a b : Stamp) → is_before a b ≡ true → is_same a b ≡ false
differ a b h = grind (arith, nat_tests)

pub differ_back : (a b : Stamp) → is_before a b ≡ true → is_same b a ≡ false
differ_back a b h = grind (arith, nat_tests)

pub before_total : (a b : Stamp) → is_before a b ≡ false → is_same a b ≡ false → is_before b a ≡ true
before_total a b h k = grind (arith, nat_tests)
