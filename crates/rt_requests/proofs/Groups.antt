-- Numbers of groups, as digits write them.
use Rattle.std.proofs.Common.{◌≡◌, ◌∙◌, ℕ, ◌<◌, ◌-◌, ◌^◌, ◌==◌, min, [], ◌∷◌, Some, true, false, ap, arith, length, refl}
use Rattle.std.proofs.lemmas.Bool.{ne_eqb}
use Rattle.std.proofs.lemmas.Fmt.{decimal_is_IsNumeral_wide}
use Rattle.std.proofs.lemmas.Str.Parse.{tells_all_ascii_digits}
use Rattle.std.specs.Fmt.{decimal}
use Rattle.std.specs.Str.{all_ascii_digits}
use Rattle.rt_stamps.specs.Words.{Word}
use Rattle.rt_requests.specs.MaxUndoWords.{most_groups_of, is_number, max_undo_of}
use Rattle.rt_requests.proofs.Numbers.{numbers}

-- what a number is made of
pub some_digits : (word : Word) → is_number word ≡ true → 0 < length word
some_digits [] h = absurd (cc)
some_digits (c ∷ word) h = omega arith

pub all_digits : (word : Word) → is_number word ≡ true → all_ascii_digits word ≡ true
all_digits [] h = absurd (cc)
all_digits (c ∷ word) h = h

is_some_digits : (word : Word) → 0 < length word → all_ascii_digits word ≡ true → is_number word ≡ true
is_some_digits [] some all = absurd (omega arith)
is_some_digits (c ∷ word) some all = all

-- a number that isn't kept says the greatest
pub too_many : (number : ℕ) → ¬ (number < 2 ^ 64) → 2 ^ 63 - 1 ≡ min number (2 ^ 63 - 1)
too_many number h = omega (arith, h)

-- a number has no minus in front
number_read : (digits : Word) → is_number digits ≡ true → max_undo_of digits ≡ Some (most_groups_of digits)
number_read [] h = absurd (cc)
number_read (c ∷ digits) h =
    let digit = (tells_all_ascii_digits.parts c digits h).0 in
    let no_minus : (c == 45) ≡ false = ne_eqb c 45 (λ e. absurd (omega arith)) in
    rw (no_minus, h) refl

pub groups_read : (number : ℕ) → number < 2 ^ 63 → max_undo_of (decimal number) ≡ Some number
groups_read number h =
    let written = decimal_is_IsNumeral_wide number (omega (arith, h)) in
    let few : most_groups_of (decimal number) ≡ number = omega (arith, h, written.1) in
    number_read (decimal number) (is_some_digits (decimal number) written.0.0 (numbers.from (decimal number) written.0.1)) ∙ ap (λ n. Some n) few
