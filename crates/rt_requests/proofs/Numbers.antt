-- Numbers of lines, as digits write them.
use Rattle.std.proofs.Common.{◌≡◌, ◌∙◌, ℕ, ◌<◌, ◌^◌, [], ◌∷◌, Some, true, ap, arith, length, refl}
use Rattle.std.proofs.lemmas.Bool.{le-ltb}
use Rattle.std.proofs.lemmas.Fmt.{decimal_is_IsNumeral_wide}
use Rattle.std.proofs.lemmas.Str.Parse.{IsNumeralModel, numerals_by_value, tells_all_ascii_digits}
use Rattle.std.specs.Fmt.{decimal}
use Rattle.std.specs.Str.{all_ascii_digits}
use Rattle.std.specs.Str.Parse.{digits_value}
use Rattle.rt_stamps.specs.Words.{Word}
use Rattle.rt_requests.specs.declared.limits.Limit.TheVariants.{PastEveryLine}
use Rattle.rt_requests.specs.LimitWords.{limit_at_line, limit_of}

-- digits alone are a number
pub numbers : IsNumeralModel (λ ds. all_ascii_digits ds ≡ true) (digits_value 10)
numbers = numerals_by_value (λ ds. all_ascii_digits ds ≡ true) tells_all_ascii_digits

-- a number that isn't kept is past every line
pub too_great : (number : ℕ) → ¬ (number < 2 ^ 64) → PastEveryLine ≡ limit_at_line number
too_great number h = rw (le-ltb number (2 ^ 64) (omega (arith, h))) refl

-- digits say the line of their number
digits_read : (digits : Word) → 0 < length digits → all_ascii_digits digits ≡ true → limit_of digits ≡ Some (limit_at_line (digits_value 10 digits))
digits_read [] some all = absurd (omega arith)
digits_read (c ∷ digits) some all = rw all refl

pub decimal_read : (number : ℕ) → number < 10 ^ 64 → limit_of (decimal number) ≡ Some (limit_at_line number)
decimal_read number h =
    let written = decimal_is_IsNumeral_wide number h in
    digits_read (decimal number) written.0.0 (numbers.from (decimal number) written.0.1) ∙ ap (λ n. Some (limit_at_line n)) written.1
