use Rattle.std.proofs.Common.{◌≡◌, ◌∙◌, ℕ, List, [], ◌∷◌, ap, length, refl, sym}
use Rattle.std.specs.Str.{chars}
use Rattle.std.proofs.lemmas.Str.{IsUtf8-past_char, chars_past_char}
use Rattle.rt_ops.proofs.text.only_char.Goals as goal

nothing_left : (bytes : List ℕ) → length bytes ≡ 0 → bytes ≡ []
nothing_left [] e = refl
nothing_left (b ∷ bytes) e = absurd (cc e)

no_characters : chars [] ≡ []
unfolding chars
no_characters = refl

pub returns-in-None-clause-only : goal.returns-in-None-clause-only
returns-in-None-clause-only c =
    let first = c.in_ok-first.first in
    chars_past_char c.args.string.now _ first c.utf8.string (sym c.chars-characters.ensures.rest ∙ c.in_ok-first.ensures.steps.0)
    ∙ ap (λ bytes. first ∷ chars bytes) (nothing_left _ c.in-None.ensures.steps.0.0) ∙ ap (λ more. first ∷ more) no_characters

pub returns-in-Some-clause-none : goal.returns-in-Some-clause-none
returns-in-Some-clause-none c = λ one.
    let first = c.in_ok-first.first in
    let second = c.in-Some.field-0 in
    let past = sym c.chars-characters.ensures.rest ∙ c.in_ok-first.ensures.steps.0 in
    let rest = chars_past_char _ _ second (IsUtf8-past_char c.args.string.now _ first c.utf8.string past) c.in-Some.ensures.steps.0 in
    let all = chars_past_char c.args.string.now _ first c.utf8.string past ∙ ap (λ more. first ∷ more) rest in
    absurd (cc (sym (ap length all) ∙ one))
