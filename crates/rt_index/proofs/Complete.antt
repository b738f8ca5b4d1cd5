-- What the grammar spells is read so; a place that is written.
use Rattle.std.proofs.Common.{◌≡◌, Bool, true, false, not, cond, ◌&&◌, ◌||◌, ◌==◌, nat_lt, nat_le, ℕ, ◌<◌, ◌≤◌, ◌^◌, List, [], ◌∷◌, ◌++◌, length, take, drop, Some, None, Ok, arith, ap, sym, ◌∙◌, refl, subst, append_assoc, append-nil}
use Rattle.std.specs.Prelude.{codes, bytes_eq, decimal}
use Rattle.std.proofs.lemmas.Bool.Decides.{nat_tests}
use Rattle.std.proofs.Math.Seq.{take-append_seam, drop-append_seam, take-length, drop-length}
use Rattle.std.proofs.lemmas.List.Folds.{list_all-append}
use Rattle.std.proofs.lemmas.List.{length-take}
use Rattle.std.proofs.lemmas.Fmt.{decimal_is_IsNumeral}
use Rattle.std.specs.List.{prefix_len, list_all}
use Rattle.std.specs.Char.{is_ascii_digit}
use Rattle.std.specs.Str.{all_ascii_digits}
use Rattle.std.specs.Str.Parse.{digits_value}
use Rattle.rt_stamps.specs.Places.{newlines, line_of, position_at, place_at}
use Rattle.rt_index.specs.declared.parts.Fixed.{Fixed}
use Rattle.rt_index.specs.declared.parts.Fixed.TheVariants.{Character, LineEndOf, End}
use Rattle.rt_index.specs.Grammar.{IsNumber, IsFixed}
use Rattle.rt_index.specs.Reading.{is_separator, token_length, fixed_of, fixed_position_of, after_line, column_of, modifiers_of}
use Rattle.rt_index.specs.Index.{moved_from, index_of, fixed_place}
use Rattle.rt_stamps.specs.declared.position.Position.{Position}
use Rattle.rt_stamps.specs.Places.{text_of_position}
use Rattle.rt_index.specs.Widget.{IndexedWidget, IsProper}
use Rattle.rt_stamps.specs.Places.{EndsWithNewline}
use Rattle.rt_index.proofs.Digits.{own}
use Rattle.rt_index.proofs.Places.{split, newlines_few, line_within, start_before, end_after}
use Rattle.rt_index.proofs.Spelling.{bytes_true}
use Rattle.rt_index.proofs.Hope.{fixed_same}

-- those that pass, before one that doesn't
pub prefix_of : (p : ℕ → Bool) (xs ys : List ℕ) → list_all p xs ≡ true → prefix_len p ys ≡ 0 → prefix_len p (xs ++ ys) ≡ length xs
prefix_of p [] ys h k = k
prefix_of p (c ∷ xs) ys h k = split (p c)
    (λ e. let i = prefix_of p xs ys (rw e at h) k in rw e (omega (arith, i)))
    (λ e. let f = rw e at h in cc)

pub digits_all : (ds : List ℕ) → all_ascii_digits ds ≡ true → list_all is_ascii_digit ds ≡ true
digits_all [] h = refl
digits_all (c ∷ ds) h = split (is_ascii_digit c)
    (λ e. let k = rw e at h in rw e (digits_all ds k))
    (λ e. let k = rw e at h in cc)

pub some_not_zero : (n : ℕ) → 0 < n → (n == 0) ≡ false
some_not_zero n h = grind (arith, nat_tests)

-- a text that begins with a digit isn't `end`
not_end : (t : List ℕ) (n : ℕ) → prefix_len is_ascii_digit t ≡ n → 0 < n → bytes_eq t (codes "end") ≡ false
not_end t n e h = by (bytes_eq t (codes "end")) refl
  where
    by : (b : Bool) → bytes_eq t (codes "end") ≡ b → bytes_eq t (codes "end") ≡ false
    by false f = f
    by true f =
        let z : prefix_len is_ascii_digit t ≡ 0 = ap (prefix_len is_ascii_digit) (bytes_true t (codes "end") f) in
        absurd (omega arith)

column_number : (line : ℕ) (c : List ℕ) → IsNumber c → column_of line c ≡ Some (Character line (digits_value 10 c))
column_number line c h =
    let all : prefix_len is_ascii_digit c ≡ length c =
    ap (prefix_len is_ascii_digit) (sym (append-nil c)) ∙ prefix_of is_ascii_digit c [] (digits_all c h.1) refl in
    let a = not_end c (length c) all h.0 in
    let b = some_not_zero (length c) h.0 in
    let d : nat_lt (prefix_len is_ascii_digit c) (length c) ≡ false = ap (λ n. nat_lt n (length c)) all ∙ same (length c) in
    by (bytes_eq c (codes "end")) (length c == 0) (nat_lt (prefix_len is_ascii_digit c) (length c)) a b d
  where
    same : (n : ℕ) → nat_lt n n ≡ false
    same n = grind (arith, nat_tests)

    by : (a b d : Bool) → a ≡ false → b ≡ false → d ≡ false
        → cond a (Some (LineEndOf line)) (cond (b || d) None (Some (Character line (digits_value 10 c)))) ≡ Some (Character line (digits_value 10 c))
    by false false false a b d = refl
    by true b d a k m = cc
    by false true d a k m = cc
    by false false true a k m = cc

-- digits and a dot
position_complete : (l rest : List ℕ) → IsNumber l → fixed_of (l ++ 46 ∷ rest) ≡ column_of (digits_value 10 l) rest
position_complete l rest h =
    let t = l ++ 46 ∷ rest in
    let n : prefix_len is_ascii_digit t ≡ length l = prefix_of is_ascii_digit l (46 ∷ rest) (digits_all l h.1) refl in
    let P : Bool → Type 0 = λ b. cond b (Some End) (fixed_position_of t) ≡ column_of (digits_value 10 l) rest in
    let Q : ℕ → Type 0 = λ k. cond (k == 0) None (after_line (digits_value 10 (take k t)) (drop k t)) ≡ column_of (digits_value 10 l) rest in
    let R : Bool → Type 0 = λ b. cond b None (after_line (digits_value 10 (take (length l) t)) (drop (length l) t)) ≡ column_of (digits_value 10 l) rest in
    let last : after_line (digits_value 10 (take (length l) t)) (drop (length l) t) ≡ column_of (digits_value 10 l) rest =
    ap (λ x. after_line (digits_value 10 x) (drop (length l) t)) (take-append_seam l (46 ∷ rest))
    ∙ ap (after_line (digits_value 10 l)) (drop-append_seam l (46 ∷ rest)) in
    subst P (sym (not_end t (length l) n h.0)) (subst Q (sym n) (subst R (sym (some_not_zero (length l) h.0)) last))

pub fixed_complete : (text : List ℕ) (fixed : Fixed) → IsFixed text fixed → fixed_of text ≡ Some fixed
fixed_complete text (Character line character) h =
    ap fixed_of (h.4 ∙ append_assoc h.0 (codes ".") h.1)
    ∙ position_complete h.0 h.1 h.2
    ∙ column_number (digits_value 10 h.0) h.1 h.3
    ∙ ap (λ n. Some (Character n (digits_value 10 h.1))) (sym h.5)
    ∙ ap (λ n. Some (Character line n)) (sym h.6)
fixed_complete text (LineEndOf line) h =
    ap fixed_of h.2 ∙ position_complete h.0 (codes "end") h.1 ∙ ap (λ n. Some (LineEndOf n)) (sym h.3)
fixed_complete text End h = ap fixed_of h

-- the place of the position of a place
pub place_back : (t : List ℕ) (p : ℕ) → EndsWithNewline t → p ≤ length t → place_at t (position_at t p) ≡ p
place_back t p ends h = by (nat_lt p (length t)) refl
  where
    lt_true : (a b : ℕ) → nat_lt a b ≡ true → a < b
    lt_true a b h = grind (arith, nat_tests)

    lt_false : (a b : ℕ) → nat_lt a b ≡ false → b ≤ a
    lt_false a b h = grind (arith, nat_tests)

    le_is : (a b : ℕ) → a ≤ b → nat_le a b ≡ true
    le_is a b h = grind (arith, nat_tests)

    le_not : (a b : ℕ) → b < a → nat_le a b ≡ false
    le_not a b h = grind (arith, nat_tests)

    by : (b : Bool) → nat_lt p (length t) ≡ b → place_at t (position_at t p) ≡ p
    by true e =
        let l = lt_true p (length t) e in
        let z = some_not_zero (line_of t p) (omega arith) in
        let f = le_is (line_of t p) (newlines t) (line_within p t ends l) in
        let s = start_before p t in
        let q = end_after p t ends l in
        rw (z, f) (omega (arith, s, q))
    by false e =
        let same : p ≡ length t = omega (arith, lt_false p (length t) e) in
        let all : newlines (take p t) ≡ newlines t = ap (λ n. newlines (take n t)) same ∙ ap newlines (take-length t) in
        let z = some_not_zero (line_of t p) (omega arith) in
        let f = le_not (line_of t p) (newlines t) (omega (arith, all)) in
        rw (z, f) (sym same)

-- a word without separators is its token
no_separator : (t : List ℕ) → list_all (λ c. not (is_separator c)) t ≡ true → token_length t ≡ length t
no_separator t h = ap (prefix_len (λ c. not (is_separator c))) (sym (append-nil t)) ∙ prefix_of (λ c. not (is_separator c)) t [] h refl

digit_in_token : (c : ℕ) → is_ascii_digit c ≡ true → not (is_separator c) ≡ true
digit_in_token c h = grind (arith, nat_tests)

digits_in_token : (ds : List ℕ) → all_ascii_digits ds ≡ true → list_all (λ c. not (is_separator c)) ds ≡ true
digits_in_token [] h = refl
digits_in_token (c ∷ ds) h = split (is_ascii_digit c)
    (λ e. let k = rw e at h in rw (digit_in_token c e) (digits_in_token ds k))
    (λ e. let k = rw e at h in cc)

both : (a b : Bool) → a ≡ true → b ≡ true → (a && b) ≡ true
both true b h k = k
both false b h k = cc

is_decimal : (n : ℕ) → n < 2 ^ 64 → IsNumber (decimal n)
is_decimal n h = ((decimal_is_IsNumeral n h).0.0, own.from (decimal n) (decimal_is_IsNumeral n h).0.1)

pub printed_fixed : (line c : ℕ) → line < 2 ^ 64 → c < 2 ^ 64 → fixed_of (decimal line ++ codes "." ++ decimal c) ≡ Some (Character line c)
printed_fixed line c h k =
    fixed_complete (decimal line ++ codes "." ++ decimal c) (Character line c)
    (decimal line, decimal c, is_decimal line h, is_decimal c k, refl, sym (decimal_is_IsNumeral line h).1, sym (decimal_is_IsNumeral c k).1)

pub printed_token : (line c : ℕ) → line < 2 ^ 64 → c < 2 ^ 64 → token_length (decimal line ++ codes "." ++ decimal c) ≡ length (decimal line ++ codes "." ++ decimal c)
printed_token line c h k =
    let p : ℕ → Bool = λ c. not (is_separator c) in
    let front : list_all p (decimal line ++ codes ".") ≡ true =
    list_all-append p (decimal line) (codes ".") ∙ both (list_all p (decimal line)) (list_all p (codes ".")) (digits_in_token (decimal line) (is_decimal line h).1) refl in
    no_separator (decimal line ++ codes "." ++ decimal c)
    (list_all-append p (decimal line ++ codes ".") (decimal c)
    ∙ both (list_all p (decimal line ++ codes ".")) (list_all p (decimal c)) front (digits_in_token (decimal c) (is_decimal c k).1))

abbrev printed : Position → List ℕ
printed p = decimal p.line ++ codes "." ++ decimal p.character

printed_index : (w : IndexedWidget) (place : ℕ) → IsProper w → place ≤ length w.text → index_of w (printed (position_at w.text place)) ≡ Ok place
printed_index w place proper h =
    let p = position_at w.text place in
    let word = printed p in
    let few = newlines_few (take place w.text) in
    let short : length (take place w.text) ≤ length w.text = omega (arith, length-take place w.text) in
    let bound = proper.bounded in
    let line : p.line < 2 ^ 64 = omega arith in
    let c : p.character < 2 ^ 64 = omega arith in
    let token = printed_token p.line p.character line c in
    let whole : take (token_length word) word ≡ word = ap (λ n. take n word) token ∙ take-length word in
    let rest : drop (token_length word) word ≡ [] = ap (λ n. drop n word) token ∙ drop-length word in
    fixed_same w word (Character p.line p.character) (ap fixed_of whole ∙ printed_fixed p.line p.character line c)
    ∙ ap (λ r. moved_from w.text (Ok (fixed_place w.text (Character p.line p.character))) (modifiers_of r)) rest
    ∙ ap Ok (place_back w.text place proper.newline h)

-- a position as it is written names its place
pub written_index : (w : IndexedWidget) (place : ℕ) → IsProper w → place ≤ length w.text → index_of w (text_of_position (position_at w.text place)) ≡ Ok place
written_index w place proper h =
    let p = position_at w.text place in
    let same : text_of_position p ≡ printed p = sym (append_assoc (decimal p.line) (codes ".") (decimal p.character)) in
    ap (index_of w) same ∙ printed_index w place proper h
