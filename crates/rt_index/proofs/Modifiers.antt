-- What is left after a modifier, and a text's modifiers one by one.
use Rattle.std.proofs.Common.{◌≡◌, Bool, true, false, cond, ℕ, zero, suc, ◌<◌, ◌≤◌, ◌==◌, nat_lt, List, [], ◌∷◌, ◌++◌, length, take, drop, map, Option, Some, None, IfSome, arith, ap, sym, ◌∙◌, refl, subst, length-drop, append_assoc, append-nil}
use Rattle.std.specs.Prelude.{option_map, codes, bytes_eq}
use Rattle.std.proofs.lemmas.Bool.Decides.{nat_tests}
use Rattle.std.specs.List.{prefix_len}
use Rattle.std.specs.Char.{is_ascii_digit, is_ascii_alphabetic}
use Rattle.std.specs.Str.Parse.{digits_value}
use Rattle.rt_index.specs.declared.parts.Sign.{Sign}
use Rattle.rt_index.specs.declared.parts.Sign.TheVariants.{Plus, Minus}
use Rattle.rt_index.specs.declared.parts.Modifier.{Modifier}
use Rattle.rt_index.specs.declared.parts.Modifier.TheVariants.{To}
use Rattle.rt_index.specs.Grammar.{counted_modifier, turned}
use Rattle.rt_index.specs.Expression.{kept_modifier, kept_found}
use Rattle.rt_index.specs.Reading.{is_space, after_spaces, after_any, unit_of, keyword_of, with_unit, with_keyword, with_number, with_second_sign, modifier_at, first_modifier, modifiers_within, modifiers_of}
use Rattle.rt_index.proofs.Places.{split}

-- an option that a map made
pub map_some : {A B : Type 0} (f : A → B) (o : Option A) (y : B) → option_map f o ≡ Some y → (x : A) × (o ≡ Some x) × (f x ≡ y)
map_some f None y h = cc
map_some f (Some x) y h = (x, refl, cc)

pub map_none : {A B : Type 0} (f : A → B) (o : Option A) → option_map f o ≡ None → o ≡ None
map_none f None h = refl
map_none f (Some x) h = cc

-- an option and its value
pub option_cases : {A P : Type 0} (o : Option A) → (o ≡ None → P) → ((x : A) → o ≡ Some x → P) → P
option_cases None h k = h refl
option_cases (Some x) h k = k x refl

-- what follows a modifier has at most n bytes
abbrev IsShort : ℕ → Option (Modifier × List ℕ) → Type 0
IsShort n o = IfSome o (λ found. length found.1 ≤ n)

shorter : (n m : ℕ) (o : Option (Modifier × List ℕ)) → n ≤ m → IsShort n o → IsShort m o
shorter n m None h s = tt
shorter n m (Some found) h s = omega arith

drop_short : (n : ℕ) (t : List ℕ) → length (drop n t) ≤ length t
drop_short n t = omega (arith, length-drop n t)

after_any_short : (t : List ℕ) → length (after_any t) ≤ length t
after_any_short t =
    let n = prefix_len is_ascii_alphabetic t in
    elim (bytes_eq (take n t) (codes "any")) as (λ b. length (cond b (after_spaces (drop n t)) t) ≤ length t)
    [ true ↦ omega (arith, drop_short (prefix_len is_space (drop n t)) (drop n t), drop_short n t) | false ↦ omega arith ]

unit_short : (s : Sign) (k : ℕ) (t : List ℕ) → IsShort (length t) (with_unit s k t)
unit_short s k t =
    let n = prefix_len is_ascii_alphabetic t in
    elim (unit_of (take n t)) as (λ o. IsShort (length t) (option_map (λ step. (counted_modifier s k step, drop n t)) o))
    [ Some step ↦ drop_short n t | None ↦ tt ]

keyword_short : (t : List ℕ) → IsShort (length t) (with_keyword t)
keyword_short t =
    let n = prefix_len is_ascii_alphabetic t in
    let f : _ → Modifier × List ℕ = λ keyword. (To keyword, drop n t) in
    elim (keyword_of (take n t)) as (λ o. IsShort (length t) (option_map f o))
    [ Some keyword ↦ drop_short n t | None ↦ tt ]

number_short : (s : Sign) (t : List ℕ) → IsShort (length t) (with_number s t)
number_short s t =
    let n = prefix_len is_ascii_digit t in
    let rest = after_any (after_spaces (drop n t)) in
    split (n == 0)
    (λ e. rw e tt)
    (λ e. rw e (shorter (length rest) (length t) (with_unit s (digits_value 10 (take n t)) rest)
    (omega (arith, after_any_short (after_spaces (drop n t)), drop_short (prefix_len is_space (drop n t)) (drop n t), drop_short n t))
    (unit_short s (digits_value 10 (take n t)) rest)))

second_short : (s : Sign) (t : List ℕ) → IsShort (length t) (with_second_sign s t)
second_short s [] = tt
second_short s (c ∷ t) = split (c == 43)
    (λ e. rw e (shorter (length t) (length (c ∷ t)) (with_number s t) (omega arith) (number_short s t)))
    (λ e. rw e (split (c == 45)
    (λ f. rw f (shorter (length t) (length (c ∷ t)) (with_number (turned s) t) (omega arith) (number_short (turned s) t)))
    (λ f. rw f (number_short s (c ∷ t)))))

at_short : (spaced : Bool) (t : List ℕ) (n : ℕ) → (spaced ≡ true → length t < n) → length t ≤ n → IfSome (modifier_at spaced t) (λ found. length found.1 < n)
at_short spaced [] n h l = tt
at_short spaced (c ∷ t) n h l = split (c == 43)
    (λ e. rw e (below n (with_second_sign Plus (after_spaces t)) (shorter _ (length t) _ (drop_short (prefix_len is_space t) t) (second_short Plus (after_spaces t))) (omega arith)))
    (λ e. rw e (split (c == 45)
    (λ f. rw f (below n (with_second_sign Minus (after_spaces t)) (shorter _ (length t) _ (drop_short (prefix_len is_space t) t) (second_short Minus (after_spaces t))) (omega arith)))
    (λ f. rw f (split spaced
    (λ g. rw g (under n (with_keyword (after_any (c ∷ t))) (shorter _ (length (c ∷ t)) _ (after_any_short (c ∷ t)) (keyword_short (after_any (c ∷ t)))) (h g)))
    (λ g. rw g tt)))))
  where
    below : (n : ℕ) (o : Option (Modifier × List ℕ)) → IsShort (length t) o → suc (length t) ≤ n → IfSome o (λ found. length found.1 < n)
    below n None s l = tt
    below n (Some found) s l = omega arith

    under : (n : ℕ) (o : Option (Modifier × List ℕ)) → IsShort (length (c ∷ t)) o → length (c ∷ t) < n → IfSome o (λ found. length found.1 < n)
    under n None s l = tt
    under n (Some found) s l = omega arith

lt_true : (a b : ℕ) → nat_lt a b ≡ true → a < b
lt_true a b h = grind (arith, nat_tests)

pub first_short : (t : List ℕ) (m : Modifier) (rest : List ℕ) → first_modifier t ≡ Some (m, rest) → length rest < length t
first_short t m rest e =
    let n = prefix_len is_space t in
    let P : Option (Modifier × List ℕ) → Type 0 = λ o. IfSome o (λ found. length found.1 < length t) in
    subst P e (at_short (nat_lt 0 n) (after_spaces t) (length t) (strict t) (drop_short n t))
  where
    strict : (t : List ℕ) → nat_lt 0 (prefix_len is_space t) ≡ true → length (after_spaces t) < length t
    strict [] h = cc
    strict (c ∷ t) h =
        let k = lt_true 0 (prefix_len is_space (c ∷ t)) h in
        omega (arith, k, length-drop (prefix_len is_space (c ∷ t)) (c ∷ t))

-- a bound that suffices
pub enough : (n m : ℕ) (t : List ℕ) → length t ≤ n → length t ≤ m → modifiers_within n t ≡ modifiers_within m t
enough zero zero t h k = refl
enough zero (suc m) [] h k = refl
enough zero (suc m) (c ∷ t) h k = absurd (omega arith)
enough (suc n) zero [] h k = refl
enough (suc n) zero (c ∷ t) h k = absurd (omega arith)
enough (suc n) (suc m) t h k = option_cases (first_modifier t)
    (λ e. rw e refl)
    (λ found e.
    let s = first_short t found.0 found.1 e in
    rw (e, enough n m found.1 (omega arith) (omega arith)) refl)

-- the first modifier, and the others
pub next : (t : List ℕ) (m : Modifier) (rest : List ℕ) → (length (after_spaces t) == 0) ≡ false → first_modifier t ≡ Some (m, rest)
    → modifiers_of t ≡ option_map (λ ms. m ∷ ms) (modifiers_of rest)
next t m rest b e =
    enough (length t) (suc (length t)) t (omega arith) (omega arith)
    ∙ rw (b, e) (ap (option_map (λ ms. m ∷ ms)) (enough (length t) (length rest) rest (omega (arith, first_short t m rest e)) (omega arith)))

pub none_next : (t : List ℕ) → (length (after_spaces t) == 0) ≡ false → first_modifier t ≡ None → modifiers_of t ≡ None
none_next t b e = enough (length t) (suc (length t)) t (omega arith) (omega arith) ∙ rw (b, e) refl

pub no_more : (t : List ℕ) → (length (after_spaces t) == 0) ≡ true → modifiers_of t ≡ Some []
no_more t b = enough (length t) (suc (length t)) t (omega arith) (omega arith) ∙ rw b refl

-- the steps of the reader, for the modifiers as they are kept
pub read_next : (done : List Modifier) (t text : List ℕ) (m : Modifier) (rest : List ℕ) → (length (after_spaces t) == 0) ≡ false
    → option_map kept_found (first_modifier t) ≡ Some (m, rest)
    → option_map (λ ms. done ++ map kept_modifier ms) (modifiers_of t) ≡ option_map (map kept_modifier) (modifiers_of text)
    → option_map (λ ms. (done ++ m ∷ []) ++ map kept_modifier ms) (modifiers_of rest) ≡ option_map (map kept_modifier) (modifiers_of text)
read_next done t text m rest b e h =
    let got = map_some kept_found (first_modifier t) (m, rest) e in
    let x = got.0 in
    let p : kept_modifier x.0 ≡ m = ap (λ f. f.0) got.2 in
    let q : x.1 ≡ rest = ap (λ f. f.1) got.2 in
    let P : Modifier → Type 0 = λ y.
    option_map (λ ms. (done ++ y ∷ []) ++ map kept_modifier ms) (modifiers_of x.1) ≡ option_map (map kept_modifier) (modifiers_of text) in
    let Q : List ℕ → Type 0 = λ r.
    option_map (λ ms. (done ++ m ∷ []) ++ map kept_modifier ms) (modifiers_of r) ≡ option_map (map kept_modifier) (modifiers_of text) in
    subst Q q (subst P p (shift x.0 (modifiers_of x.1) ∙ ap (option_map (λ ms. done ++ map kept_modifier ms)) (sym (next t x.0 x.1 b got.1)) ∙ h))
  where
    shift : (y : Modifier) (o : Option (List Modifier)) → option_map (λ ms. (done ++ kept_modifier y ∷ []) ++ map kept_modifier ms) o ≡ option_map (λ ms. done ++ map kept_modifier ms) (option_map (λ ms. y ∷ ms) o)
    shift y None = refl
    shift y (Some ms) = ap Some (append_assoc done (kept_modifier y ∷ []) (map kept_modifier ms))

pub read_none : (done : List Modifier) (t text : List ℕ) → (length (after_spaces t) == 0) ≡ false → option_map kept_found (first_modifier t) ≡ None
    → option_map (λ ms. done ++ map kept_modifier ms) (modifiers_of t) ≡ option_map (map kept_modifier) (modifiers_of text)
    → modifiers_of text ≡ None
read_none done t text b e h =
    let n = none_next t b (map_none kept_found (first_modifier t) e) in
    map_none (map kept_modifier) (modifiers_of text) (sym h ∙ ap (option_map (λ ms. done ++ map kept_modifier ms)) n)

pub read_done : (done : List Modifier) (t text : List ℕ) → (length (after_spaces t) == 0) ≡ true
    → option_map (λ ms. done ++ map kept_modifier ms) (modifiers_of t) ≡ option_map (map kept_modifier) (modifiers_of text)
    → option_map (map kept_modifier) (modifiers_of text) ≡ Some done
read_done done t text b h =
    sym h ∙ ap (option_map (λ ms. done ++ map kept_modifier ms)) (no_more t b) ∙ ap Some (append-nil done)
