-- Numbers as they are kept say what the numbers say, since texts are shorter.
use Rattle.std.proofs.Common.{◌≡◌, Bool, true, false, cond, ◌==◌, nat_lt, nat_le, ℕ, ◌+◌, ◌-◌, ◌<◌, ◌≤◌, min, max, List, [], ◌∷◌, length, take, drop, map, Some, IfOk, Result, Ok, Err, arith, ap, sym, ◌∙◌, refl, length-drop, reverse}
use Rattle.std.proofs.lemmas.Bool.Decides.{nat_tests}
use Rattle.std.proofs.lemmas.List.Sums.{prefix_len-le-length}
use Rattle.std.proofs.lemmas.List.{length-take}
use Rattle.std.specs.Prelude.{slice_index}
use Rattle.std.specs.List.{prefix_len}
use Rattle.rt_stamps.specs.declared.fault.Fault.{Fault}
use Rattle.rt_stamps.specs.declared.limits.TheConstants.{MOST_CELLS}
use Rattle.rt_stamps.specs.Places.{newlines, line_of, line_start, position_at}
use Rattle.rt_index.specs.declared.parts.Fixed.{Fixed}
use Rattle.rt_index.specs.declared.parts.Fixed.TheVariants.{Character, LineEndOf, End}
use Rattle.rt_index.specs.declared.parts.Step.TheVariants.{Characters, Lines}
use Rattle.rt_index.specs.declared.parts.Keyword.{Keyword}
use Rattle.rt_index.specs.declared.parts.Keyword.TheVariants.{LineStart, LineEnd, WordStart, WordEnd}
use Rattle.rt_index.specs.declared.parts.Modifier.{Modifier}
use Rattle.rt_index.specs.declared.parts.Modifier.TheVariants.{Forward, Back, To}
use Rattle.rt_index.specs.Values.{character_place, line_end_place, lines_forward, lines_back, word_start, word_end, keyword_place, moved, all_moved}
use Rattle.rt_index.specs.Index.{fixed_place, moved_from}
use Rattle.rt_index.specs.Expression.{kept, kept_modifier, kept_fixed}
use Rattle.rt_index.specs.Characters.{is_word_character}
use Rattle.rt_index.proofs.Places.{split, newlines_few, start_within, end_within}
use Rattle.rt_index.proofs.Spelling.{lt_true, at_least}

-- places stay within the text
pub character_within : (t : List ℕ) (line c : ℕ) → character_place t line c ≤ length t
character_within t line c = split (line == 0)
    (λ e. rw e (omega arith))
    (λ e. rw e (split (nat_le line (newlines t))
    (λ f. rw f (omega (arith, end_within line t)))
    (λ f. rw f (omega arith))))

line_end_within : (t : List ℕ) (line : ℕ) → line_end_place t line ≤ length t
line_end_within t line = split (line == 0)
    (λ e. rw e (omega arith))
    (λ e. rw e (split (nat_lt (newlines t) line)
    (λ f. rw f (omega arith))
    (λ f. rw f (end_within line t))))

pub fixed_within : (t : List ℕ) (fixed : Fixed) → fixed_place t fixed ≤ length t
fixed_within t (Character line c) = character_within t line c
fixed_within t (LineEndOf line) = line_end_within t line
fixed_within t End = omega arith

forward_within : (t : List ℕ) (p k : ℕ) → lines_forward t p k ≤ length t
forward_within t p k = split (nat_lt p (length t))
    (λ e. rw e (character_within t (min (line_of t p + k) (newlines t)) (position_at t p).character))
    (λ e. rw e (omega arith))

back_within : (t : List ℕ) (p k : ℕ) → lines_back t p k ≤ length t
back_within t p k = split (nat_lt p (length t))
    (λ e. rw e (character_within t (max (line_of t p - k) 1) (position_at t p).character))
    (λ e. rw e (split (k == 0)
    (λ f. rw f (omega arith))
    (λ f. rw f (start_within (max (newlines t + 1 - k) 1) t))))

word_start_within : (t : List ℕ) (p : ℕ) → word_start t p ≤ p
word_start_within t p = by (is_word_character (slice_index t p))
  where
    by : (b : Bool) → cond b (p - prefix_len is_word_character (reverse (take p t))) p ≤ p
    by true = omega arith
    by false = omega arith

pub word_end_within : (t : List ℕ) (p : ℕ) → p < length t → word_end t p ≤ length t
word_end_within t p h = by (is_word_character (slice_index t p))
  where
    by : (b : Bool) → cond b (p + prefix_len is_word_character (drop p t)) (p + 1) ≤ length t
    by true = omega (arith, prefix_len-le-length is_word_character (drop p t), length-drop p t)
    by false = omega arith

keyword_within : (t : List ℕ) (p : ℕ) (keyword : Keyword) → p < length t → keyword_place t p keyword ≤ length t
keyword_within t p LineStart h = start_within (line_of t p) t
keyword_within t p LineEnd h = end_within (line_of t p) t
keyword_within t p WordStart h = omega (arith, word_start_within t p)
keyword_within t p WordEnd h = split (nat_lt (p + 1) (length t))
    (λ e. rw e (word_end_within t p h))
    (λ e. rw e (omega arith))

pub moved_within : (t : List ℕ) (p : ℕ) (m : Modifier) → p ≤ length t → moved t p m ≤ length t
moved_within t p (Forward k Characters) h = omega arith
moved_within t p (Back k Characters) h = omega arith
moved_within t p (Forward k Lines) h = forward_within t p k
moved_within t p (Back k Lines) h = back_within t p k
moved_within t p (To keyword) h = split (nat_lt p (length t))
    (λ e. rw e (keyword_within t p keyword (lt_true p (length t) e)))
    (λ e. rw e h)

-- kept numbers
kept_zero : (k : ℕ) → (kept k == 0) ≡ (k == 0)
kept_zero k = grind (arith, nat_tests)

kept_few : (k n : ℕ) → n ≤ MOST_CELLS → nat_le (kept k) n ≡ nat_le k n
kept_few k n h = grind (arith, nat_tests)

kept_many : (k n : ℕ) → n ≤ MOST_CELLS → nat_lt n (kept k) ≡ nat_lt n k
kept_many k n h = grind (arith, nat_tests)

kept_below : (k n : ℕ) → n ≤ MOST_CELLS → k ≤ n → kept k ≡ k
kept_below k n h l = omega arith

le_true : (a b : ℕ) → nat_le a b ≡ true → a ≤ b
le_true a b h = grind (arith, nat_tests)

character_kept : (t : List ℕ) (line c : ℕ) → length t ≤ MOST_CELLS → character_place t (kept line) (kept c) ≡ character_place t line c
character_kept t line c h =
    let few : newlines t ≤ MOST_CELLS = omega (arith, newlines_few t) in
    by (line == 0) (nat_le line (newlines t)) refl refl (kept_zero line) (kept_few line (newlines t) few)
  where
    by : (a b : Bool) → (line == 0) ≡ a → nat_le line (newlines t) ≡ b → (kept line == 0) ≡ (line == 0) → nat_le (kept line) (newlines t) ≡ nat_le line (newlines t)
        → character_place t (kept line) (kept c) ≡ character_place t line c
    by true b ea eb ka kb = let q = ka ∙ ea in rw (q, ea) refl
    by false false ea eb ka kb = let q = ka ∙ ea in let r = kb ∙ eb in rw (q, ea, r, eb) refl
    by false true ea eb ka kb =
        let q = ka ∙ ea in let r = kb ∙ eb in
        let same = kept_below line (newlines t) (omega (arith, newlines_few t)) (le_true line (newlines t) eb) in
        let e = end_within line t in
        rw (q, ea, r, eb, same) (omega arith)

line_end_kept : (t : List ℕ) (line : ℕ) → length t ≤ MOST_CELLS → line_end_place t (kept line) ≡ line_end_place t line
line_end_kept t line h =
    let few : newlines t ≤ MOST_CELLS = omega (arith, newlines_few t) in
    by (line == 0) (nat_lt (newlines t) line) refl refl (kept_zero line) (kept_many line (newlines t) few)
  where
    by : (a b : Bool) → (line == 0) ≡ a → nat_lt (newlines t) line ≡ b → (kept line == 0) ≡ (line == 0) → nat_lt (newlines t) (kept line) ≡ nat_lt (newlines t) line
        → line_end_place t (kept line) ≡ line_end_place t line
    by true b ea eb ka kb = let q = ka ∙ ea in rw (q, ea) refl
    by false true ea eb ka kb = let q = ka ∙ ea in let r = kb ∙ eb in rw (q, ea, r, eb) refl
    by false false ea eb ka kb =
        let q = ka ∙ ea in let r = kb ∙ eb in
        let same = kept_below line (newlines t) (omega (arith, newlines_few t)) (at_least (newlines t) line eb) in
        rw (q, ea, r, eb, same) refl

pub fixed_kept : (t : List ℕ) (fixed : Fixed) → length t ≤ MOST_CELLS → fixed_place t (kept_fixed fixed) ≡ fixed_place t fixed
fixed_kept t (Character line c) h = character_kept t line c h
fixed_kept t (LineEndOf line) h = line_end_kept t line h
fixed_kept t End h = refl

forward_kept : (t : List ℕ) (p k : ℕ) → length t ≤ MOST_CELLS → lines_forward t p (kept k) ≡ lines_forward t p k
forward_kept t p k h =
    let few : newlines t ≤ MOST_CELLS = omega (arith, newlines_few t) in
    let same : min (line_of t p + kept k) (newlines t) ≡ min (line_of t p + k) (newlines t) = omega arith in
    ap (λ line. cond (nat_lt p (length t)) (character_place t line (position_at t p).character) (length t)) same

back_kept : (t : List ℕ) (p k : ℕ) → length t ≤ MOST_CELLS → line_of t p ≤ MOST_CELLS + 1 → lines_back t p (kept k) ≡ lines_back t p k
back_kept t p k h l =
    let few : newlines t ≤ MOST_CELLS = omega (arith, newlines_few t) in
    let same : max (line_of t p - kept k) 1 ≡ max (line_of t p - k) 1 = omega arith in
    let last : max (newlines t + 1 - kept k) 1 ≡ max (newlines t + 1 - k) 1 = omega arith in
    ap (λ line. cond (nat_lt p (length t)) (character_place t line (position_at t p).character) (cond (kept k == 0) (length t) (line_start t (max (newlines t + 1 - kept k) 1)))) same
    ∙ ap (λ line. cond (nat_lt p (length t)) (character_place t (max (line_of t p - k) 1) (position_at t p).character) (cond (kept k == 0) (length t) (line_start t line))) last
    ∙ ap (λ b. cond (nat_lt p (length t)) (character_place t (max (line_of t p - k) 1) (position_at t p).character) (cond b (length t) (line_start t (max (newlines t + 1 - k) 1)))) (kept_zero k)

lines_most : (p : ℕ) (t : List ℕ) → length t ≤ MOST_CELLS → line_of t p ≤ MOST_CELLS + 1
lines_most p t h = omega (arith, newlines_few (take p t), length-take p t)

pub moved_kept : (t : List ℕ) (p : ℕ) (m : Modifier) → length t ≤ MOST_CELLS → p ≤ length t → moved t p (kept_modifier m) ≡ moved t p m
moved_kept t p (Forward k Characters) h l = omega arith
moved_kept t p (Back k Characters) h l = omega arith
moved_kept t p (Forward k Lines) h l = forward_kept t p k h
moved_kept t p (Back k Lines) h l = back_kept t p k h (lines_most p t h)
moved_kept t p (To keyword) h l = refl

all_kept : (t : List ℕ) (p : ℕ) (ms : List Modifier) → length t ≤ MOST_CELLS → p ≤ length t → all_moved t p (map kept_modifier ms) ≡ all_moved t p ms
all_kept t p [] h l = refl
all_kept t p (m ∷ ms) h l =
    ap (λ q. all_moved t q (map kept_modifier ms)) (moved_kept t p m h l) ∙ all_kept t (moved t p m) ms h (moved_within t p m l)

pub moved_from_kept : (t : List ℕ) (base : Result ℕ Fault) (ms : List Modifier) → length t ≤ MOST_CELLS → IfOk base (λ p. p ≤ length t)
    → moved_from t base (Some ms) ≡ moved_from t base (Some (map kept_modifier ms))
moved_from_kept t (Ok p) ms h l = ap Ok (sym (all_kept t p ms h l))
moved_from_kept t (Err fault) ms h l = refl
