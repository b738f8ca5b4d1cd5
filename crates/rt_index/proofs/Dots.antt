-- No modifier has a dot.
use Rattle.std.proofs.Common.{◌≡◌, Bool, true, false, not, ◌&&◌, ℕ, zero, suc, ◌+◌, ◌<◌, ◌==◌, List, [], ◌∷◌, ◌++◌, length, get_or, Option, Some, None, ◌⊎◌, inl, inr, arith, ap, sym, ◌∙◌, refl, subst}
use Rattle.std.specs.Prelude.{codes}
use Rattle.std.proofs.lemmas.Bool.Decides.{nat_tests}
use Rattle.std.proofs.lemmas.List.Folds.{list_all-append}
use Rattle.std.specs.List.{list_all}
use Rattle.std.specs.Char.{is_ascii_digit}
use Rattle.std.specs.Str.{all_ascii_digits}
use Rattle.rt_index.specs.declared.parts.Sign.{Sign}
use Rattle.rt_index.specs.declared.parts.Sign.TheVariants.{Plus, Minus}
use Rattle.rt_index.specs.declared.parts.Step.{Step}
use Rattle.rt_index.specs.declared.parts.Step.TheVariants.{Characters, Lines}
use Rattle.rt_index.specs.declared.parts.Keyword.{Keyword}
use Rattle.rt_index.specs.declared.parts.Keyword.TheVariants.{LineStart, LineEnd, WordStart, WordEnd}
use Rattle.rt_index.specs.declared.parts.Modifier.{Modifier}
use Rattle.rt_index.specs.Grammar.{spaces, sign_text, second_text, IsAny, IsFront, IsUnit, IsKeyword, IsModifier, AreModifiers}
use Rattle.rt_index.specs.Reading.{modifiers_of}
use Rattle.rt_index.proofs.Places.{split}
use Rattle.rt_index.proofs.Modifiers.{option_cases}
use Rattle.rt_index.proofs.Spelling.{sound}

abbrev not_dot : ℕ → Bool
not_dot c = not (c == 46)

abbrev dotless : List ℕ → Bool
dotless t = list_all not_dot t

both : (a b : Bool) → a ≡ true → b ≡ true → (a && b) ≡ true
both true b h k = k
both false b h k = cc

left : (a b : Bool) → (a && b) ≡ true → a ≡ true
left true b h = refl
left false b h = h

right : (a b : Bool) → (a && b) ≡ true → b ≡ true
right true b h = h
right false b h = cc

joined : (a b : List ℕ) → dotless a ≡ true → dotless b ≡ true → dotless (a ++ b) ≡ true
joined a b h k = list_all-append not_dot a b ∙ both (dotless a) (dotless b) h k

fronted : (name whole : List ℕ) → dotless whole ≡ true → IsFront name whole → dotless name ≡ true
fronted name whole h f = left (dotless name) (dotless f.0) (sym (list_all-append not_dot name f.0) ∙ sym (ap dotless f.1) ∙ h)

of_spaces : (n : ℕ) → dotless (spaces n) ≡ true
of_spaces zero = refl
of_spaces (suc n) = of_spaces n

digit_not_dot : (c : ℕ) → is_ascii_digit c ≡ true → not_dot c ≡ true
digit_not_dot c h = grind (arith, nat_tests)

of_digits : (ds : List ℕ) → all_ascii_digits ds ≡ true → dotless ds ≡ true
of_digits [] h = refl
of_digits (c ∷ ds) h = split (is_ascii_digit c)
    (λ e. let k = rw e at h in both (not_dot c) (dotless ds) (digit_not_dot c e) (of_digits ds k))
    (λ e. let k = rw e at h in cc)

of_sign : (sign : Sign) → dotless (sign_text sign) ≡ true
of_sign Plus = refl
of_sign Minus = refl

of_second : (second : Option Sign) → dotless (second_text second) ≡ true
of_second None = refl
of_second (Some sign) = of_sign sign

of_any : (t : List ℕ) → IsAny t → dotless t ≡ true
of_any t (inl e) = ap dotless e
of_any t (inr h) = ap dotless h.1 ∙ joined (codes "any") (spaces (h.0 + 1)) refl (of_spaces (h.0 + 1))

of_unit : (name : List ℕ) (step : Step) → IsUnit name step → dotless name ≡ true
of_unit name Characters h = chosen h.1
  where
    chosen : IsFront name (codes "chars") ⊎ IsFront name (codes "indices") → dotless name ≡ true
    chosen (inl f) = fronted name (codes "chars") refl f
    chosen (inr f) = fronted name (codes "indices") refl f
of_unit name Lines h = fronted name (codes "lines") refl h.1

of_keyword : (name : List ℕ) (keyword : Keyword) → IsKeyword name keyword → dotless name ≡ true
of_keyword name LineStart h = fronted name (codes "linestart") refl h.1
of_keyword name LineEnd h = fronted name (codes "lineend") refl h.1
of_keyword name WordStart h = fronted name (codes "wordstart") refl h.1
of_keyword name WordEnd h = fronted name (codes "wordend") refl h.1

of_modifier : (t : List ℕ) (m : Modifier) → IsModifier t m → dotless t ≡ true
of_modifier t m (inl h) =
    ap dotless h.spelled
    ∙ joined (spaces h.before) _ (of_spaces h.before)
    (joined (sign_text h.sign) _ (of_sign h.sign)
    (joined (spaces h.between) _ (of_spaces h.between)
    (joined (second_text h.second) _ (of_second h.second)
    (joined h.digits _ (of_digits h.digits h.number.1)
    (joined (spaces h.after) _ (of_spaces h.after)
    (joined h.any h.name (of_any h.any h.passed_over) (of_unit h.name h.step h.unit)))))))
of_modifier t m (inr h) =
    ap dotless h.spelled
    ∙ joined (spaces (h.before + 1)) _ (of_spaces (h.before + 1))
    (joined h.any h.name (of_any h.any h.passed_over) (of_keyword h.name h.keyword h.word))

of_modifiers : (t : List ℕ) (ms : List Modifier) → AreModifiers t ms → dotless t ≡ true
of_modifiers t [] h = ap dotless h.1 ∙ of_spaces h.0
of_modifiers t (m ∷ ms) h = ap dotless h.4 ∙ joined h.0 h.1 (of_modifier h.0 m h.2) (of_modifiers h.1 ms h.3)

pub all_at : (p : ℕ → Bool) (t : List ℕ) (i : ℕ) → list_all p t ≡ true → i < length t → p (get_or t i 0) ≡ true
all_at p [] i h l = absurd (omega arith)
all_at p (c ∷ t) zero h l = left (p c) (list_all p t) h
all_at p (c ∷ t) (suc i) h l = all_at p t i (right (p c) (list_all p t) h) (omega arith)

pub dotted : (t : List ℕ) (i : ℕ) → i < length t → get_or t i 0 ≡ 46 → modifiers_of t ≡ None
dotted t i l d = option_cases (modifiers_of t) (λ e. e)
    (λ ms e.
    let k = all_at not_dot t i (of_modifiers t ms (sound t ms e)) l in
    let P : ℕ → Type 0 = λ c. not_dot c ≡ true in
    let f = subst P d k in
    cc)
