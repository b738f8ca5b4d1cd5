use Rattle.std.proofs.Common.{◌≡◌, ◌∷◌, ◌∙◌, [], ℕ, List, Option, None, ap, arith, length, nat_lt, sym}
use Rattle.std.specs.List.{prefix_len}
use Rattle.std.specs.Prelude.{option_map}
use Rattle.rt_index.specs.Expression.{kept_found}
use Rattle.rt_index.specs.Reading.{after_spaces, first_modifier, is_space, modifier_at, with_second_sign}
use Rattle.rt_index.specs.declared.parts.Modifier.{Modifier}
use Rattle.rt_index.specs.declared.parts.Sign.TheVariants.{Minus, Plus}
use Rattle.rt_index.proofs.reading.first_modifier.Goals as goal

-- no modifier stands in spaces alone
none_there : (text found : List ℕ) → found ≡ after_spaces text → length found ≡ 0 → None ≡ option_map kept_found (first_modifier text)
none_there text [] is h = ap (λ v. option_map kept_found (modifier_at (nat_lt 0 (prefix_len is_space text)) v)) is
none_there text (c ∷ found) is h = absurd (omega (arith, h))

-- what a sign begins
module _ (text found rest after : List ℕ) (b : ℕ) (got : Option (Modifier × List ℕ)) (is : found ≡ after_spaces text) (cut : found ≡ b ∷ rest) (next : after ≡ after_spaces rest) where
  read_plus : b ≡ 43 → got ≡ option_map kept_found (with_second_sign Plus after) → got ≡ option_map kept_found (first_modifier text)
  read_plus sign value =
      value ∙ ap (λ v. option_map kept_found (with_second_sign Plus v)) next
      ∙ ap (λ v. option_map kept_found (modifier_at (nat_lt 0 (prefix_len is_space text)) v)) (ap (λ n. n ∷ rest) (sym sign) ∙ sym cut ∙ is)

  read_minus : b ≡ 45 → got ≡ option_map kept_found (with_second_sign Minus after) → got ≡ option_map kept_found (first_modifier text)
  read_minus sign value =
      value ∙ ap (λ v. option_map kept_found (with_second_sign Minus v)) next
      ∙ ap (λ v. option_map kept_found (modifier_at (nat_lt 0 (prefix_len is_space text)) v)) (ap (λ n. n ∷ rest) (sym sign) ∙ sym cut ∙ is)

pub returns-in-None-clause-value : goal.returns-in-None-clause-value
returns-in-None-clause-value c = none_there c.args.text.now c.after_spaces-found.result.now c.after_spaces-found.ensures.value c.in-None.ensures.cases

pub returns-in-Some-eq43-default-clause-value : goal.returns-in-Some-eq43-default-clause-value
returns-in-Some-eq43-default-clause-value c =
    read_plus c.args.text.now c.after_spaces-found.result.now c.in-Some-eq43-default.rest.now c.after_spaces.result.now c.in-Some-eq43-default.field-0-0.now _ c.after_spaces-found.ensures.value
    c.in-Some-eq43-default.ensures.cases.0 c.after_spaces.ensures.value c.in-Some-eq43-default.field-0-0-test c.with_second_sign.ensures.value

pub returns-in-Some-eq45-default-clause-value : goal.returns-in-Some-eq45-default-clause-value
returns-in-Some-eq45-default-clause-value c =
    read_minus c.args.text.now c.after_spaces-found.result.now c.in-Some-eq45-default.rest.now c.after_spaces-in-Some-eq45-default.result.now c.in-Some-eq45-default.field-0-0.now _ c.after_spaces-found.ensures.value
    c.in-Some-eq45-default.ensures.cases.0 c.after_spaces-in-Some-eq45-default.ensures.value c.in-Some-eq45-default.field-0-0-test c.with_second_sign-in-Some-eq45-default.ensures.value
