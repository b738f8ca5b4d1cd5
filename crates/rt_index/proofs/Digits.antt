-- Decimal digits and their value.
use Rattle.std.proofs.Common.{◌≡◌, true, ℕ, suc, ◌+◌, ◌*◌, ◌-◌, ◌<◌, ◌≤◌, List, [], ◌∷◌, length, take, get_or, arith, ap, sym, ◌∙◌, refl, subst}
use Rattle.std.proofs.Math.Numerals.{one-add}
use Rattle.std.proofs.lemmas.Bool.Decides.{nat_tests}
use Rattle.std.specs.List.{prefix_len}
use Rattle.std.specs.Int.{IsInRange}
use Rattle.std.specs.Char.{digit_value, is_ascii_digit}
use Rattle.std.specs.Str.{all_ascii_digits}
use Rattle.std.specs.Str.Parse.{digits_value}
use Rattle.std.proofs.lemmas.Str.{digit_value_digit}
use Rattle.std.proofs.lemmas.Str.Parse.{IsNumeralModel, numerals_by_value, tells_all_ascii_digits}
use Rattle.std.proofs.lemmas.Int.Digits.{digits_value_more}
use Rattle.rt_index.proofs.Places.{split}

pub own : IsNumeralModel (λ ds. all_ascii_digits ds ≡ true) (digits_value 10)
own = numerals_by_value _ tells_all_ascii_digits

pub digits_front : (t : List ℕ) → all_ascii_digits (take (prefix_len is_ascii_digit t) t) ≡ true
digits_front [] = refl
digits_front (c ∷ t) = let P : ℕ → Type 0 = λ n. all_ascii_digits (take n (c ∷ t)) ≡ true in split (is_ascii_digit c)
    (λ e.
    let q : prefix_len is_ascii_digit (c ∷ t) ≡ suc (prefix_len is_ascii_digit t) = rw e (one-add (prefix_len is_ascii_digit t)) in
    subst P (sym q) (rw e (digits_front t)))
    (λ e. let q : prefix_len is_ascii_digit (c ∷ t) ≡ 0 = rw e refl in subst P (sym q) refl)

pub digits_whole : (t : List ℕ) → length t ≤ prefix_len is_ascii_digit t → all_ascii_digits t ≡ true
digits_whole [] h = refl
digits_whole (c ∷ t) h = split (is_ascii_digit c)
    (λ e. let k = rw e at h in rw e (digits_whole t (omega arith)))
    (λ e. let k = rw e at h in absurd (omega arith))

pub number_more : (t : List ℕ) (i : ℕ) → is_ascii_digit (get_or t i 0) ≡ true → i < length t
    → digits_value 10 (take (i + 1) t) ≡ digits_value 10 (take i t) * 10 + (get_or t i 0 - 48)
number_more t i h l =
    let digit : digit_value (get_or t i 0) ≡ get_or t i 0 - 48 = omega (arith, digit_value_digit (get_or t i 0) (in_range (get_or t i 0) h)) in
    digits_value_more 10 t i l ∙ ap (λ d. digits_value 10 (take i t) * 10 + d) digit
  where
    in_range : (c : ℕ) → is_ascii_digit c ≡ true → IsInRange 48 57 c
    in_range c h = grind (arith, nat_tests)
