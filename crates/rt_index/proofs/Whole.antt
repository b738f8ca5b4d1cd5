-- What the grammar spells as modifiers is read so.
use Rattle.std.proofs.Common.{◌≡◌, ◌≢◌, ◌⊎◌, inl, inr, Bool, true, false, cond, ◌&&◌, ◌||◌, ℕ, zero, suc, ◌+◌, ◌<◌, ◌≤◌, ◌==◌, nat_lt, List, [], ◌∷◌, ◌++◌, length, take, drop, get_or, Option, Some, None, arith, add-one, ap, sym, ◌∙◌, refl, subst, append_assoc, append-nil, length-append, take-append-drop}
use Rattle.std.specs.Prelude.{option_map, codes, bytes_eq, eqb}
use Rattle.std.proofs.lemmas.Bool.Decides.{nat_tests, Decides-eqb}
use Rattle.std.proofs.Math.Seq.{take-append_seam, drop-append_seam}
use Rattle.std.proofs.Math.ListN.{get_or-append}
use Rattle.std.proofs.lemmas.Slice.Eq.{starts_is}
use Rattle.std.proofs.lemmas.List.Folds.{list_all-append, length-prefix_len}
use Rattle.std.specs.List.{prefix_len, starts_with, list_all}
use Rattle.std.specs.Char.{is_ascii_digit, is_ascii_alphabetic}
use Rattle.std.specs.Str.Parse.{digits_value}
use Rattle.rt_index.specs.declared.parts.Sign.{Sign}
use Rattle.rt_index.specs.declared.parts.Sign.TheVariants.{Plus, Minus}
use Rattle.rt_index.specs.declared.parts.Step.{Step}
use Rattle.rt_index.specs.declared.parts.Step.TheVariants.{Characters, Lines}
use Rattle.rt_index.specs.declared.parts.Keyword.{Keyword}
use Rattle.rt_index.specs.declared.parts.Keyword.TheVariants.{LineStart, LineEnd, WordStart, WordEnd}
use Rattle.rt_index.specs.declared.parts.Modifier.{Modifier}
use Rattle.rt_index.specs.declared.parts.Modifier.TheVariants.{To}
use Rattle.rt_index.specs.declared.parts.Fixed.{Fixed}
use Rattle.rt_index.specs.declared.parts.Fixed.TheVariants.{Character, LineEndOf, End}
use Rattle.rt_index.specs.Grammar.{spaces, IsNumber, IsFixed, sign_text, second_text, turned, direction, counted_modifier, IsAny, IsFront, IsUnit, IsKeyword, IsMove, IsGoing, IsModifier, AreModifiers}
use Rattle.rt_index.specs.Reading.{is_space, after_spaces, after_any, unit_of, keyword_of, with_unit, with_keyword, with_number, with_second_sign, modifier_at, first_modifier, modifiers_of, fixed_of, fixed_position_of, after_line, column_of}
use Rattle.rt_index.proofs.Places.{split}
use Rattle.rt_index.proofs.Modifiers.{next, no_more}
use Rattle.rt_index.proofs.Digits.{digits_front, digits_whole}
use Rattle.rt_index.proofs.Spelling.{bytes_true, front_of, eq_of, positive, at_least}
use Rattle.rt_index.proofs.Complete.{prefix_of, digits_all, some_not_zero}

-- the first character
abbrev head : List ℕ → ℕ
head t = get_or t 0 0

none_pass : (p : ℕ → Bool) (t : List ℕ) → p (head t) ≡ false → prefix_len p t ≡ 0
none_pass p [] h = refl
none_pass p (c ∷ t) h = rw h refl

front_to : (run whole : List ℕ) → IsFront run whole → starts_with eqb whole run ≡ true
front_to run whole f = (starts_is Decides-eqb whole run (starts_with eqb whole run) refl).1 f.0 f.1

front_at : (name whole : List ℕ) (i : ℕ) → i < length name → IsFront name whole → get_or name i 0 ≡ get_or whole i 0
front_at name whole i h f = sym (get_or-append name f.0 0 i h) ∙ sym (ap (λ x. get_or x i 0) f.1)

apart : (a b : ℕ) → (a == b) ≡ false → a ≢ b
apart a b h = grind (arith, nat_tests)

-- two words that differ at a place of the run
not_front : (run one other : List ℕ) (i : ℕ) → i < length run → IsFront run one → (get_or one i 0 == get_or other i 0) ≡ false → starts_with eqb other run ≡ false
not_front run one other i h f differ = by (starts_with eqb other run) refl
  where
    by : (b : Bool) → starts_with eqb other run ≡ b → starts_with eqb other run ≡ false
    by false e = e
    by true e = absurd (apart (get_or one i 0) (get_or other i 0) differ (sym (front_at run one i h f) ∙ front_at run other i h (front_of run other e)))

unit_picked : (a b c d : Bool) (step : Step) → a ≡ false → cond (b || c) (Some Characters) (cond d (Some Lines) None) ≡ Some step
    → cond a None (cond (b || c) (Some Characters) (cond d (Some Lines) None)) ≡ Some step
unit_picked true b c d step h k = cc
unit_picked false b c d step h k = k

some_left : (b c : Bool) → b ≡ true → (b || c) ≡ true
some_left true c h = refl
some_left false c h = cc

some_right : (b c : Bool) → c ≡ true → (b || c) ≡ true
some_right true c h = refl
some_right false c h = h

none_either : (b c : Bool) → b ≡ false → c ≡ false → (b || c) ≡ false
none_either true c h k = h
none_either false c h k = k

unit_complete : (name : List ℕ) (step : Step) → IsUnit name step → unit_of name ≡ Some step
unit_complete name Characters h =
    let b = starts_with eqb (codes "chars") name in
    let c = starts_with eqb (codes "indices") name in
    unit_picked (length name == 0) b c (starts_with eqb (codes "lines") name) Characters (some_not_zero (length name) h.0)
    (ap (λ x. cond x (Some Characters) (cond (starts_with eqb (codes "lines") name) (Some Lines) None)) (chosen h.1))
  where
    chosen : IsFront name (codes "chars") ⊎ IsFront name (codes "indices") → (starts_with eqb (codes "chars") name || starts_with eqb (codes "indices") name) ≡ true
    chosen (inl f) = some_left _ _ (front_to name (codes "chars") f)
    chosen (inr f) = some_right _ _ (front_to name (codes "indices") f)
unit_complete name Lines h =
    let b = starts_with eqb (codes "chars") name in
    let c = starts_with eqb (codes "indices") name in
    let no_chars : b ≡ false = not_front name (codes "lines") (codes "chars") 0 h.0 h.1 refl in
    let no_indices : c ≡ false = not_front name (codes "lines") (codes "indices") 0 h.0 h.1 refl in
    unit_picked (length name == 0) b c (starts_with eqb (codes "lines") name) Lines (some_not_zero (length name) h.0)
    (ap (λ x. cond x (Some Characters) (cond (starts_with eqb (codes "lines") name) (Some Lines) None)) (none_either b c no_chars no_indices)
    ∙ ap (λ x. cond x (Some Lines) None) (front_to name (codes "lines") h.1))

keyword_picked : (run : List ℕ) (a b c d e : Bool) (keyword : Keyword)
    → nat_lt (length run) 5 ≡ a → starts_with eqb (codes "linestart") run ≡ b → starts_with eqb (codes "lineend") run ≡ c
    → starts_with eqb (codes "wordstart") run ≡ d → starts_with eqb (codes "wordend") run ≡ e
    → cond a None (cond b (Some LineStart) (cond c (Some LineEnd) (cond d (Some WordStart) (cond e (Some WordEnd) None)))) ≡ Some keyword → keyword_of run ≡ Some keyword
keyword_picked run a b c d e keyword ea eb ec ed ee h =
    ap (λ x. cond x None (cond (starts_with eqb (codes "linestart") run) (Some LineStart) (cond (starts_with eqb (codes "lineend") run) (Some LineEnd) (cond (starts_with eqb (codes "wordstart") run) (Some WordStart) (cond (starts_with eqb (codes "wordend") run) (Some WordEnd) None))))) ea
    ∙ ap (λ x. cond a None (cond x (Some LineStart) (cond (starts_with eqb (codes "lineend") run) (Some LineEnd) (cond (starts_with eqb (codes "wordstart") run) (Some WordStart) (cond (starts_with eqb (codes "wordend") run) (Some WordEnd) None))))) eb
    ∙ ap (λ x. cond a None (cond b (Some LineStart) (cond x (Some LineEnd) (cond (starts_with eqb (codes "wordstart") run) (Some WordStart) (cond (starts_with eqb (codes "wordend") run) (Some WordEnd) None))))) ec
    ∙ ap (λ x. cond a None (cond b (Some LineStart) (cond c (Some LineEnd) (cond x (Some WordStart) (cond (starts_with eqb (codes "wordend") run) (Some WordEnd) None))))) ed
    ∙ ap (λ x. cond a None (cond b (Some LineStart) (cond c (Some LineEnd) (cond d (Some WordStart) (cond x (Some WordEnd) None))))) ee
    ∙ h

long : (n : ℕ) → 5 ≤ n → nat_lt n 5 ≡ false
long n h = grind (arith, nat_tests)

keyword_complete : (name : List ℕ) (keyword : Keyword) → IsKeyword name keyword → keyword_of name ≡ Some keyword
keyword_complete name LineStart h =
    keyword_picked name false true _ _ _ LineStart (long (length name) h.0) (front_to name (codes "linestart") h.1) refl refl refl refl
keyword_complete name LineEnd h =
    let at : 4 < length name = omega arith in
    keyword_picked name false false true _ _ LineEnd (long (length name) h.0) (not_front name (codes "lineend") (codes "linestart") 4 at h.1 refl)
    (front_to name (codes "lineend") h.1) refl refl refl
keyword_complete name WordStart h =
    let first : 0 < length name = omega arith in
    keyword_picked name false false false true _ WordStart (long (length name) h.0) (not_front name (codes "wordstart") (codes "linestart") 0 first h.1 refl)
    (not_front name (codes "wordstart") (codes "lineend") 0 first h.1 refl) (front_to name (codes "wordstart") h.1) refl refl
keyword_complete name WordEnd h =
    let first : 0 < length name = omega arith in
    let at : 4 < length name = omega arith in
    keyword_picked name false false false false true WordEnd (long (length name) h.0) (not_front name (codes "wordend") (codes "linestart") 0 first h.1 refl)
    (not_front name (codes "wordend") (codes "lineend") 0 first h.1 refl) (not_front name (codes "wordend") (codes "wordstart") 4 at h.1 refl)
    (front_to name (codes "wordend") h.1) refl

-- names are letters
left : (a b : Bool) → (a && b) ≡ true → a ≡ true
left true b h = refl
left false b h = h

fronted : (name whole : List ℕ) → list_all is_ascii_alphabetic whole ≡ true → IsFront name whole → list_all is_ascii_alphabetic name ≡ true
fronted name whole h f =
    left (list_all is_ascii_alphabetic name) (list_all is_ascii_alphabetic f.0)
    (sym (list_all-append is_ascii_alphabetic name f.0) ∙ sym (ap (list_all is_ascii_alphabetic) f.1) ∙ h)

unit_letters : (name : List ℕ) (step : Step) → IsUnit name step → list_all is_ascii_alphabetic name ≡ true
unit_letters name Characters h = chosen h.1
  where
    chosen : IsFront name (codes "chars") ⊎ IsFront name (codes "indices") → list_all is_ascii_alphabetic name ≡ true
    chosen (inl f) = fronted name (codes "chars") refl f
    chosen (inr f) = fronted name (codes "indices") refl f
unit_letters name Lines h = fronted name (codes "lines") refl h.1

unit_some : (name : List ℕ) (step : Step) → IsUnit name step → 0 < length name
unit_some name Characters h = h.0
unit_some name Lines h = h.0

keyword_letters : (name : List ℕ) (keyword : Keyword) → IsKeyword name keyword → list_all is_ascii_alphabetic name ≡ true
keyword_letters name LineStart h = fronted name (codes "linestart") refl h.1
keyword_letters name LineEnd h = fronted name (codes "lineend") refl h.1
keyword_letters name WordStart h = fronted name (codes "wordstart") refl h.1
keyword_letters name WordEnd h = fronted name (codes "wordend") refl h.1

head_letter : (name rest : List ℕ) → 0 < length name → list_all is_ascii_alphabetic name ≡ true → is_ascii_alphabetic (head (name ++ rest)) ≡ true
head_letter [] rest h k = absurd (omega arith)
head_letter (c ∷ name) rest h k = left (is_ascii_alphabetic c) (list_all is_ascii_alphabetic name) k

letter_no_digit : (c : ℕ) → is_ascii_alphabetic c ≡ true → is_ascii_digit c ≡ false
letter_no_digit c h = grind (arith, nat_tests)

letter_no_space : (c : ℕ) → is_ascii_alphabetic c ≡ true → is_space c ≡ false
letter_no_space c h = grind (arith, nat_tests)

letter_no_sign : (c : ℕ) → is_ascii_alphabetic c ≡ true → ((c == 43) ≡ false) × ((c == 45) ≡ false)
letter_no_sign c h = (grind (arith, nat_tests), grind (arith, nat_tests))

-- spaces before what is no space
spaces_then : (n : ℕ) (t : List ℕ) → is_space (head t) ≡ false → (prefix_len is_space (spaces n ++ t) ≡ n) × (after_spaces (spaces n ++ t) ≡ t)
spaces_then n t h =
    let len : prefix_len is_space (spaces n ++ t) ≡ length (spaces n) = prefix_of is_space (spaces n) t (all n) (none_pass is_space t h) in
    (len ∙ many n, ap (λ k. drop k (spaces n ++ t)) len ∙ drop-append_seam (spaces n) t)
  where
    all : (n : ℕ) → list_all is_space (spaces n) ≡ true
    all zero = refl
    all (suc n) = all n

    many : (n : ℕ) → length (spaces n) ≡ n
    many zero = refl
    many (suc n) = ap (λ k. suc k) (many n)

-- `any` and spaces, or nothing, before a name that isn't `any`
any_then : (any name rest : List ℕ) → IsAny any → 0 < length name → list_all is_ascii_alphabetic name ≡ true → prefix_len is_ascii_alphabetic rest ≡ 0
    → bytes_eq name (codes "any") ≡ false → after_any (any ++ (name ++ rest)) ≡ name ++ rest
any_then any name rest (inl e) some letters stop other =
    let t = name ++ rest in
    let n : prefix_len is_ascii_alphabetic t ≡ length name = prefix_of is_ascii_alphabetic name rest letters stop in
    let run : take (prefix_len is_ascii_alphabetic t) t ≡ name = ap (λ k. take k t) n ∙ take-append_seam name rest in
    let no : bytes_eq (take (prefix_len is_ascii_alphabetic t) t) (codes "any") ≡ false = ap (λ x. bytes_eq x (codes "any")) run ∙ other in
    ap (λ x. after_any (x ++ t)) e ∙ ap (λ b. cond b (after_spaces (drop (prefix_len is_ascii_alphabetic t) t)) t) no
any_then any name rest (inr (n, e)) some letters stop other =
    let t = name ++ rest in
    let s = spaces (n + 1) ++ t in
    let whole : any ++ t ≡ codes "any" ++ s = ap (λ x. x ++ t) e ∙ append_assoc (codes "any") (spaces (n + 1)) t in
    let u = codes "any" ++ s in
    let gap : is_ascii_alphabetic (head s) ≡ false = ap (λ k. is_ascii_alphabetic (head (spaces k ++ t))) (add-one n) in
    let len : prefix_len is_ascii_alphabetic u ≡ 3 = prefix_of is_ascii_alphabetic (codes "any") s refl (none_pass is_ascii_alphabetic s gap) in
    let yes : bytes_eq (take (prefix_len is_ascii_alphabetic u) u) (codes "any") ≡ true = ap (λ k. bytes_eq (take k u) (codes "any")) len in
    ap after_any whole
    ∙ ap (λ b. cond b (after_spaces (drop (prefix_len is_ascii_alphabetic u) u)) u) yes
    ∙ ap (λ k. after_spaces (drop k u)) len
    ∙ (spaces_then (n + 1) t (letter_no_space (head t) (head_letter name rest some letters))).1

unit_not_any : (name : List ℕ) (step : Step) → unit_of name ≡ Some step → bytes_eq name (codes "any") ≡ false
unit_not_any name step h = by (bytes_eq name (codes "any")) refl
  where
    by : (b : Bool) → bytes_eq name (codes "any") ≡ b → bytes_eq name (codes "any") ≡ false
    by false e = e
    by true e = let k : unit_of (codes "any") ≡ Some step = ap unit_of (sym (bytes_true name (codes "any") e)) ∙ h in let f : None ≡ Some step = k in cc

keyword_not_any : (name : List ℕ) (keyword : Keyword) → keyword_of name ≡ Some keyword → bytes_eq name (codes "any") ≡ false
keyword_not_any name keyword h = by (bytes_eq name (codes "any")) refl
  where
    by : (b : Bool) → bytes_eq name (codes "any") ≡ b → bytes_eq name (codes "any") ≡ false
    by false e = e
    by true e = let k : keyword_of (codes "any") ≡ Some keyword = ap keyword_of (sym (bytes_true name (codes "any") e)) ∙ h in let f : None ≡ Some keyword = k in cc

unit_then : (sign : Sign) (k : ℕ) (name rest : List ℕ) (step : Step) → IsUnit name step → prefix_len is_ascii_alphabetic rest ≡ 0
    → with_unit sign k (name ++ rest) ≡ Some (counted_modifier sign k step, rest)
unit_then sign k name rest step u stop =
    let t = name ++ rest in
    let n : prefix_len is_ascii_alphabetic t ≡ length name = prefix_of is_ascii_alphabetic name rest (unit_letters name step u) stop in
    ap (λ i. option_map (λ step. (counted_modifier sign k step, drop i t)) (unit_of (take i t))) n
    ∙ ap (λ x. option_map (λ step. (counted_modifier sign k step, drop (length name) t)) (unit_of x)) (take-append_seam name rest)
    ∙ ap (option_map (λ step. (counted_modifier sign k step, drop (length name) t))) (unit_complete name step u)
    ∙ ap (λ r. Some (counted_modifier sign k step, r)) (drop-append_seam name rest)

keyword_then : (name rest : List ℕ) (keyword : Keyword) → IsKeyword name keyword → prefix_len is_ascii_alphabetic rest ≡ 0
    → with_keyword (name ++ rest) ≡ Some (To keyword, rest)
keyword_then name rest keyword u stop =
    let t = name ++ rest in
    let n : prefix_len is_ascii_alphabetic t ≡ length name = prefix_of is_ascii_alphabetic name rest (keyword_letters name keyword u) stop in
    let f : List ℕ → Keyword → Modifier × List ℕ = λ r keyword. (To keyword, r) in
    ap (λ i. option_map (f (drop i t)) (keyword_of (take i t))) n
    ∙ ap (λ x. option_map (f (drop (length name) t)) (keyword_of x)) (take-append_seam name rest)
    ∙ ap (option_map (f (drop (length name) t))) (keyword_complete name keyword u)
    ∙ ap (λ r. Some (To keyword, r)) (drop-append_seam name rest)

-- the first of `any` or a name is a letter
any_head : (any name rest : List ℕ) → IsAny any → 0 < length name → list_all is_ascii_alphabetic name ≡ true → is_ascii_alphabetic (head (any ++ (name ++ rest))) ≡ true
any_head any name rest (inl e) some letters = ap (λ x. is_ascii_alphabetic (head (x ++ (name ++ rest)))) e ∙ head_letter name rest some letters
any_head any name rest (inr (n, e)) some letters = ap (λ x. is_ascii_alphabetic (head (x ++ (name ++ rest)))) e

number_then : (sign : Sign) (digits any name rest : List ℕ) (after : ℕ) (step : Step) → IsNumber digits → IsAny any → IsUnit name step → prefix_len is_ascii_alphabetic rest ≡ 0
    → with_number sign (digits ++ (spaces after ++ (any ++ (name ++ rest)))) ≡ Some (counted_modifier sign (digits_value 10 digits) step, rest)
number_then sign digits any name rest after step number passed unit stop =
    let letters = unit_letters name step unit in
    let some = unit_some name step unit in
    let u = any ++ (name ++ rest) in
    let r = spaces after ++ u in
    let t = digits ++ r in
    let first = any_head any name rest passed some letters in
    let n : prefix_len is_ascii_digit t ≡ length digits =
    prefix_of is_ascii_digit digits r (digits_all digits number.1) (none_pass is_ascii_digit r (gap after u first)) in
    let zero_not : (length digits == 0) ≡ false = some_not_zero (length digits) number.0 in
    let v = digits_value 10 digits in
    ap (λ k. cond (k == 0) None (with_unit sign (digits_value 10 (take k t)) (after_any (after_spaces (drop k t))))) n
    ∙ ap (λ b. cond b None (with_unit sign (digits_value 10 (take (length digits) t)) (after_any (after_spaces (drop (length digits) t))))) zero_not
    ∙ ap (λ x. with_unit sign (digits_value 10 x) (after_any (after_spaces (drop (length digits) t)))) (take-append_seam digits r)
    ∙ ap (λ x. with_unit sign v (after_any (after_spaces x))) (drop-append_seam digits r)
    ∙ ap (λ x. with_unit sign v (after_any x)) (spaces_then after u (letter_no_space (head u) first)).1
    ∙ ap (with_unit sign v) (any_then any name rest passed some letters stop (unit_not_any name step (unit_complete name step unit)))
    ∙ unit_then sign v name rest step unit stop
  where
    gap : (n : ℕ) (u : List ℕ) → is_ascii_alphabetic (head u) ≡ true → is_ascii_digit (head (spaces n ++ u)) ≡ false
    gap zero u h = letter_no_digit (head u) h
    gap (suc n) u h = refl

digit_no_sign : (c : ℕ) → is_ascii_digit c ≡ true → ((c == 43) ≡ false) × ((c == 45) ≡ false)
digit_no_sign c h = (grind (arith, nat_tests), grind (arith, nat_tests))

digit_no_space : (c : ℕ) → is_ascii_digit c ≡ true → is_space c ≡ false
digit_no_space c h = grind (arith, nat_tests)

head_digit : (digits rest : List ℕ) → IsNumber digits → is_ascii_digit (head (digits ++ rest)) ≡ true
head_digit [] rest h = absurd (omega (arith, h.0))
head_digit (c ∷ digits) rest h = left (is_ascii_digit c) (list_all is_ascii_digit digits) (digits_all (c ∷ digits) h.1)

unsigned : (sign : Sign) (t : List ℕ) → 0 < length t → is_ascii_digit (head t) ≡ true → with_second_sign sign t ≡ with_number sign t
unsigned sign [] l h = absurd (omega arith)
unsigned sign (c ∷ t) l h =
    let s = digit_no_sign c h in
    ap (λ b. cond b (with_number sign t) (cond (c == 45) (with_number (turned sign) t) (with_number sign (c ∷ t)))) s.0
    ∙ ap (λ b. cond b (with_number (turned sign) t) (with_number sign (c ∷ t))) s.1

second_then : (sign : Sign) (second : Option Sign) (digits r : List ℕ) → IsNumber digits
    → with_second_sign sign (second_text second ++ (digits ++ r)) ≡ with_number (direction sign second) (digits ++ r)
second_then sign None digits r h =
    unsigned sign (digits ++ r) (omega (arith, h.0, length-append digits r)) (head_digit digits r h)
second_then sign (Some Plus) digits r h = refl
second_then sign (Some Minus) digits r h = refl

second_head : (second : Option Sign) (digits r : List ℕ) → IsNumber digits → is_space (head (second_text second ++ (digits ++ r))) ≡ false
second_head None digits r h = digit_no_space (head (digits ++ r)) (head_digit digits r h)
second_head (Some Plus) digits r h = refl
second_head (Some Minus) digits r h = refl

sign_head : (sign : Sign) (t : List ℕ) → is_space (head (sign_text sign ++ t)) ≡ false
sign_head Plus t = refl
sign_head Minus t = refl

at_sign : (spaced : Bool) (sign : Sign) (t : List ℕ) → modifier_at spaced (sign_text sign ++ t) ≡ with_second_sign sign (after_spaces t)
at_sign spaced Plus t = refl
at_sign spaced Minus t = refl

regroup : (a b c d e f g h r : List ℕ) → (a ++ (b ++ (c ++ (d ++ (e ++ (f ++ (g ++ h))))))) ++ r ≡ a ++ (b ++ (c ++ (d ++ (e ++ (f ++ (g ++ (h ++ r)))))))
regroup a b c d e f g h r = simp append_assoc

move_then : (front rest : List ℕ) (m : Modifier) → IsMove front m → prefix_len is_ascii_alphabetic rest ≡ 0 → first_modifier (front ++ rest) ≡ Some (m, rest)
move_then front rest m h stop =
    let tail = h.digits ++ (spaces h.after ++ (h.any ++ (h.name ++ rest))) in
    let v = second_text h.second ++ tail in
    let u = sign_text h.sign ++ (spaces h.between ++ v) in
    let t = spaces h.before ++ u in
    let whole : front ++ rest ≡ t =
    ap (λ x. x ++ rest) h.spelled ∙ regroup (spaces h.before) (sign_text h.sign) (spaces h.between) (second_text h.second) h.digits (spaces h.after) h.any h.name rest in
    let skip = (spaces_then h.before u (sign_head h.sign (spaces h.between ++ v))).1 in
    ap first_modifier whole
    ∙ ap (modifier_at (nat_lt 0 (prefix_len is_space t))) skip
    ∙ at_sign (nat_lt 0 (prefix_len is_space t)) h.sign (spaces h.between ++ v)
    ∙ ap (with_second_sign h.sign) (spaces_then h.between v (second_head h.second h.digits (spaces h.after ++ (h.any ++ (h.name ++ rest))) h.number)).1
    ∙ second_then h.sign h.second h.digits (spaces h.after ++ (h.any ++ (h.name ++ rest))) h.number
    ∙ number_then (direction h.sign h.second) h.digits h.any h.name rest h.after h.step h.number h.passed_over h.unit stop
    ∙ ap (λ x. Some (x, rest)) (sym h.means)

at_letter : (t : List ℕ) → 0 < length t → is_ascii_alphabetic (head t) ≡ true → modifier_at true t ≡ with_keyword (after_any t)
at_letter [] l h = absurd (omega arith)
at_letter (c ∷ t) l h =
    let s = letter_no_sign c h in
    ap (λ b. cond b (with_second_sign Plus (after_spaces t)) (cond (c == 45) (with_second_sign Minus (after_spaces t)) (with_keyword (after_any (c ∷ t))))) s.0
    ∙ ap (λ b. cond b (with_second_sign Minus (after_spaces t)) (with_keyword (after_any (c ∷ t)))) s.1

keyword_some : (name : List ℕ) (keyword : Keyword) → IsKeyword name keyword → 0 < length name
keyword_some name keyword h = omega (arith, h.0)

going_then : (front rest : List ℕ) (m : Modifier) → IsGoing front m → prefix_len is_ascii_alphabetic rest ≡ 0 → first_modifier (front ++ rest) ≡ Some (m, rest)
going_then front rest m h stop =
    let letters = keyword_letters h.name h.keyword h.word in
    let some = keyword_some h.name h.keyword h.word in
    let u = h.any ++ (h.name ++ rest) in
    let t = spaces (h.before + 1) ++ u in
    let first = any_head h.any h.name rest h.passed_over some letters in
    let whole : front ++ rest ≡ t = ap (λ x. x ++ rest) h.spelled ∙ regroup_going (spaces (h.before + 1)) h.any h.name rest in
    let skip = spaces_then (h.before + 1) u (letter_no_space (head u) first) in
    let spaced : nat_lt 0 (prefix_len is_space t) ≡ true = ap (nat_lt 0) skip.0 ∙ more h.before in
    let long : 0 < length u = omega (arith, some, length-append h.any (h.name ++ rest), length-append h.name rest) in
    ap first_modifier whole
    ∙ ap (modifier_at (nat_lt 0 (prefix_len is_space t))) skip.1
    ∙ ap (λ b. modifier_at b u) spaced
    ∙ at_letter u long first
    ∙ ap with_keyword (any_then h.any h.name rest h.passed_over some letters stop (keyword_not_any h.name h.keyword (keyword_complete h.name h.keyword h.word)))
    ∙ keyword_then h.name rest h.keyword h.word stop
    ∙ ap (λ x. Some (x, rest)) (sym h.means)
  where
    regroup_going : (a b c r : List ℕ) → (a ++ (b ++ c)) ++ r ≡ a ++ (b ++ (c ++ r))
    regroup_going a b c r = simp append_assoc

    more : (n : ℕ) → nat_lt 0 (n + 1) ≡ true
    more n = grind (arith, nat_tests)

modifier_then : (front rest : List ℕ) (m : Modifier) → IsModifier front m → prefix_len is_ascii_alphabetic rest ≡ 0 → first_modifier (front ++ rest) ≡ Some (m, rest)
modifier_then front rest m (inl h) stop = move_then front rest m h stop
modifier_then front rest m (inr h) stop = going_then front rest m h stop

-- no letter begins modifiers
spaces_head : (n : ℕ) (t : List ℕ) → is_ascii_alphabetic (head t) ≡ false → is_ascii_alphabetic (head (spaces n ++ t)) ≡ false
spaces_head zero t h = h
spaces_head (suc n) t h = refl

sign_no_letter : (sign : Sign) (t : List ℕ) → is_ascii_alphabetic (head (sign_text sign ++ t)) ≡ false
sign_no_letter Plus t = refl
sign_no_letter Minus t = refl

modifier_no_letter : (front rest : List ℕ) (m : Modifier) → IsModifier front m → is_ascii_alphabetic (head (front ++ rest)) ≡ false
modifier_no_letter front rest m (inl h) =
    let v = spaces h.between ++ (second_text h.second ++ (h.digits ++ (spaces h.after ++ (h.any ++ (h.name ++ rest))))) in
    ap (λ x. is_ascii_alphabetic (head x))
    (ap (λ x. x ++ rest) h.spelled ∙ regroup (spaces h.before) (sign_text h.sign) (spaces h.between) (second_text h.second) h.digits (spaces h.after) h.any h.name rest)
    ∙ spaces_head h.before (sign_text h.sign ++ v) (sign_no_letter h.sign v)
modifier_no_letter front rest m (inr h) =
    ap (λ x. is_ascii_alphabetic (head (x ++ rest))) (h.spelled ∙ ap (λ k. spaces k ++ (h.any ++ h.name)) (add-one h.before))

modifiers_no_letter : (t : List ℕ) (ms : List Modifier) → AreModifiers t ms → prefix_len is_ascii_alphabetic t ≡ 0
modifiers_no_letter t [] h = ap (prefix_len is_ascii_alphabetic) h.1 ∙ none h.0
  where
    none : (n : ℕ) → prefix_len is_ascii_alphabetic (spaces n) ≡ 0
    none zero = refl
    none (suc n) = refl
modifiers_no_letter t (m ∷ ms) h =
    ap (prefix_len is_ascii_alphabetic) h.4 ∙ none_pass is_ascii_alphabetic (h.0 ++ h.1) (modifier_no_letter h.0 h.1 m h.2)

not_blank : (t : List ℕ) (found : Modifier × List ℕ) → first_modifier t ≡ Some found → (length (after_spaces t) == 0) ≡ false
not_blank t found h = by (after_spaces t) refl
  where
    by : (u : List ℕ) → after_spaces t ≡ u → (length (after_spaces t) == 0) ≡ false
    by [] e = let f : None ≡ Some found = sym (ap (modifier_at (nat_lt 0 (prefix_len is_space t))) e) ∙ h in cc
    by (c ∷ u) e = ap (λ x. length x == 0) e ∙ some_not_zero (length (c ∷ u)) (omega arith)

only_blank : (n : ℕ) → (length (after_spaces (spaces n)) == 0) ≡ true
only_blank n = ap (λ x. length (after_spaces x) == 0) (sym (append-nil (spaces n))) ∙ ap (λ x. length x == 0) (spaces_then n [] refl).1

pub complete : (t : List ℕ) (ms : List Modifier) → AreModifiers t ms → modifiers_of t ≡ Some ms
complete t [] h = no_more t (ap (λ x. length (after_spaces x) == 0) h.1 ∙ only_blank h.0)
complete t (m ∷ ms) h =
    let stop = modifiers_no_letter h.1 ms h.3 in
    let first = ap first_modifier h.4 ∙ modifier_then h.0 h.1 m h.2 stop in
    next t m h.1 (not_blank t (m, h.1) first) first ∙ ap (option_map (λ others. m ∷ others)) (complete h.1 ms h.3)

-- a position or `end` that is read is spelled so
column_sound : (t l r : List ℕ) (line : ℕ) (fixed : Fixed) → IsNumber l → line ≡ digits_value 10 l → t ≡ l ++ 46 ∷ r → column_of line r ≡ Some fixed → IsFixed t fixed
column_sound t l r line fixed number value spelled h =
    by (bytes_eq r (codes "end")) (length r == 0) (nat_lt (prefix_len is_ascii_digit r) (length r)) refl refl refl h
  where
    by : (a b d : Bool) → bytes_eq r (codes "end") ≡ a → (length r == 0) ≡ b → nat_lt (prefix_len is_ascii_digit r) (length r) ≡ d
        → cond a (Some (LineEndOf line)) (cond (b || d) None (Some (Character line (digits_value 10 r)))) ≡ Some fixed → IsFixed t fixed
    by true b d ea eb ed e =
        let q : LineEndOf line ≡ fixed = cc in
        subst (IsFixed t) q (l, number, spelled ∙ ap (λ x. l ++ 46 ∷ x) (bytes_true r (codes "end") ea), value)
    by false true d ea eb ed e = cc
    by false false true ea eb ed e = cc
    by false false false ea eb ed e =
        let q : Character line (digits_value 10 r) ≡ fixed = cc in
        subst (IsFixed t) q (
          l,
          r,
          number,
          (positive (length r) eb, digits_whole r (at_least (prefix_len is_ascii_digit r) (length r) ed)),
          spelled ∙ sym (append_assoc l (codes ".") r),
          value,
          refl,
        )

position_sound : (t : List ℕ) (fixed : Fixed) → fixed_position_of t ≡ Some fixed → IsFixed t fixed
position_sound t fixed h = by (prefix_len is_ascii_digit t == 0) (drop (prefix_len is_ascii_digit t) t) refl refl h
  where
    by : (b : Bool) (u : List ℕ) → (prefix_len is_ascii_digit t == 0) ≡ b → drop (prefix_len is_ascii_digit t) t ≡ u
        → cond b None (after_line (digits_value 10 (take (prefix_len is_ascii_digit t) t)) u) ≡ Some fixed → IsFixed t fixed
    by true u eb eu e = cc
    by false [] eb eu e = cc
    by false (c ∷ r) eb eu e = split (c == 46)
        (λ f.
        let n = prefix_len is_ascii_digit t in
        column_sound t (take n t) r (digits_value 10 (take n t)) fixed
        (omega (arith, positive n eb, length-prefix_len is_ascii_digit t), digits_front t) refl
        (sym (take-append-drop n t) ∙ ap (λ x. take n t ++ x) eu ∙ ap (λ d. take n t ++ d ∷ r) (eq_of c 46 f))
        (rw f at e))
        (λ f. let k = rw f at e in cc)

pub fixed_sound : (t : List ℕ) (fixed : Fixed) → fixed_of t ≡ Some fixed → IsFixed t fixed
fixed_sound t fixed h = by (bytes_eq t (codes "end")) refl h
  where
    by : (b : Bool) → bytes_eq t (codes "end") ≡ b → cond b (Some End) (fixed_position_of t) ≡ Some fixed → IsFixed t fixed
    by true e h = let q : End ≡ fixed = cc in subst (IsFixed t) q (bytes_true t (codes "end") e)
    by false e h = position_sound t fixed h
