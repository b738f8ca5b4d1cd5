-- What is read is spelled by the grammar.
use Rattle.std.proofs.Common.{◌≡◌, inl, inr, Bool, true, false, cond, ◌||◌, ℕ, zero, suc, ◌+◌, ◌-◌, ◌<◌, ◌≤◌, ◌==◌, nat_lt, List, [], ◌∷◌, ◌++◌, length, take, drop, Option, Some, None, arith, ap, sym, ◌∙◌, refl, subst, append_assoc, append-nil, take-append-drop}
use Rattle.std.specs.Prelude.{codes, bytes_eq, eqb}
use Rattle.std.proofs.Math.Numerals.{one-add}
use Rattle.std.proofs.lemmas.Bool.Decides.{nat_tests, Decides-eqb}
use Rattle.std.proofs.lemmas.List.{nil_from_length}
use Rattle.std.proofs.lemmas.List.Folds.{length-prefix_len}
use Rattle.std.proofs.lemmas.Slice.Eq.{starts_is, bytes_eq-Decides}
use Rattle.std.specs.List.{prefix_len, starts_with}
use Rattle.std.specs.Char.{is_ascii_digit, is_ascii_alphabetic}
use Rattle.std.specs.Str.Parse.{digits_value}
use Rattle.rt_index.specs.declared.parts.Sign.{Sign}
use Rattle.rt_index.specs.declared.parts.Sign.TheVariants.{Plus, Minus}
use Rattle.rt_index.specs.declared.parts.Step.{Step}
use Rattle.rt_index.specs.declared.parts.Step.TheVariants.{Characters, Lines}
use Rattle.rt_index.specs.declared.parts.Keyword.{Keyword}
use Rattle.rt_index.specs.declared.parts.Keyword.TheVariants.{LineStart, LineEnd, WordStart, WordEnd}
use Rattle.rt_index.specs.declared.parts.Modifier.{Modifier}
use Rattle.rt_index.specs.declared.parts.Modifier.TheVariants.{To}
use Rattle.rt_index.specs.Grammar.{spaces, IsNumber, sign_text, second_text, turned, direction, counted_modifier, IsAny, IsFront, IsUnit, IsKeyword, IsMove, IsGoing, IsModifier, AreModifiers}
use Rattle.rt_index.specs.Reading.{is_space, after_spaces, after_any, unit_of, keyword_of, with_unit, with_keyword, with_number, with_second_sign, modifier_at, first_modifier, modifiers_within, modifiers_of}
use Rattle.rt_index.proofs.Places.{split}
use Rattle.rt_index.proofs.Digits.{digits_front}
use Rattle.rt_index.proofs.Modifiers.{map_some, option_cases}

pub eq_of : (a b : ℕ) → (a == b) ≡ true → a ≡ b
eq_of a b h = grind (arith, nat_tests)

pub bytes_true : (a b : List ℕ) → bytes_eq a b ≡ true → a ≡ b
bytes_true a b h = (bytes_eq-Decides a b).0 h

-- nothing that passes follows those that pass
pub stops : (p : ℕ → Bool) (t : List ℕ) → prefix_len p (drop (prefix_len p t) t) ≡ 0
stops p [] = refl
stops p (c ∷ t) = let P : ℕ → Type 0 = λ n. prefix_len p (drop n (c ∷ t)) ≡ 0 in split (p c)
    (λ e. let q : prefix_len p (c ∷ t) ≡ suc (prefix_len p t) = rw e (one-add (prefix_len p t)) in subst P (sym q) (stops p t))
    (λ e. let q : prefix_len p (c ∷ t) ≡ 0 = rw e refl in subst P (sym q) q)

pub spaces_split : (t : List ℕ) → t ≡ spaces (prefix_len is_space t) ++ after_spaces t
spaces_split [] = refl
spaces_split (c ∷ t) = let P : ℕ → Type 0 = λ n. c ∷ t ≡ spaces n ++ drop n (c ∷ t) in split (c == 32)
    (λ e.
    let q : prefix_len is_space (c ∷ t) ≡ suc (prefix_len is_space t) = rw e (one-add (prefix_len is_space t)) in
    subst P (sym q) (ap (λ d. d ∷ t) (eq_of c 32 e) ∙ ap (λ r. 32 ∷ r) (spaces_split t)))
    (λ e. let q : prefix_len is_space (c ∷ t) ≡ 0 = rw e refl in subst P (sym q) refl)

pub front_of : (run whole : List ℕ) → starts_with eqb whole run ≡ true → IsFront run whole
front_of run whole h = (drop (length run) whole, (starts_is Decides-eqb whole run (starts_with eqb whole run) refl).0 h)

pub positive : (n : ℕ) → (n == 0) ≡ false → 0 < n
positive n h = grind (arith, nat_tests)

pub at_least : (n k : ℕ) → nat_lt n k ≡ false → k ≤ n
at_least n k h = grind (arith, nat_tests)

unit_sound : (run : List ℕ) (step : Step) → unit_of run ≡ Some step → IsUnit run step
unit_sound run step h =
    by (length run == 0) (starts_with eqb (codes "chars") run) (starts_with eqb (codes "indices") run) (starts_with eqb (codes "lines") run) refl refl refl refl h
  where
    by : (a b c d : Bool) → (length run == 0) ≡ a → starts_with eqb (codes "chars") run ≡ b → starts_with eqb (codes "indices") run ≡ c
        → starts_with eqb (codes "lines") run ≡ d → cond a None (cond (b || c) (Some Characters) (cond d (Some Lines) None)) ≡ Some step → IsUnit run step
    by true b c d ea eb ec ed e = cc
    by false true c d ea eb ec ed e =
        let q : Characters ≡ step = cc in subst (IsUnit run) q (positive (length run) ea, inl (front_of run (codes "chars") eb))
    by false false true d ea eb ec ed e =
        let q : Characters ≡ step = cc in subst (IsUnit run) q (positive (length run) ea, inr (front_of run (codes "indices") ec))
    by false false false true ea eb ec ed e =
        let q : Lines ≡ step = cc in subst (IsUnit run) q (positive (length run) ea, front_of run (codes "lines") ed)
    by false false false false ea eb ec ed e = cc

keyword_sound : (run : List ℕ) (keyword : Keyword) → keyword_of run ≡ Some keyword → IsKeyword run keyword
keyword_sound run keyword h =
    by (nat_lt (length run) 5) (starts_with eqb (codes "linestart") run) (starts_with eqb (codes "lineend") run) (starts_with eqb (codes "wordstart") run) (starts_with eqb (codes "wordend") run) refl refl refl refl refl h
  where
    by : (a b c d e : Bool) → nat_lt (length run) 5 ≡ a → starts_with eqb (codes "linestart") run ≡ b → starts_with eqb (codes "lineend") run ≡ c
        → starts_with eqb (codes "wordstart") run ≡ d → starts_with eqb (codes "wordend") run ≡ e
        → cond a None (cond b (Some LineStart) (cond c (Some LineEnd) (cond d (Some WordStart) (cond e (Some WordEnd) None)))) ≡ Some keyword → IsKeyword run keyword
    by true b c d e ea eb ec ed ee h = cc
    by false true c d e ea eb ec ed ee h =
        let q : LineStart ≡ keyword = cc in subst (IsKeyword run) q (at_least (length run) 5 ea, front_of run (codes "linestart") eb)
    by false false true d e ea eb ec ed ee h =
        let q : LineEnd ≡ keyword = cc in subst (IsKeyword run) q (at_least (length run) 5 ea, front_of run (codes "lineend") ec)
    by false false false true e ea eb ec ed ee h =
        let q : WordStart ≡ keyword = cc in subst (IsKeyword run) q (at_least (length run) 5 ea, front_of run (codes "wordstart") ed)
    by false false false false true ea eb ec ed ee h =
        let q : WordEnd ≡ keyword = cc in subst (IsKeyword run) q (at_least (length run) 5 ea, front_of run (codes "wordend") ee)
    by false false false false false ea eb ec ed ee h = cc

-- an `any` that letters follow
any_sound : (t : List ℕ) → 0 < prefix_len is_ascii_alphabetic (after_any t) → (any : List ℕ) × IsAny any × (t ≡ any ++ after_any t)
any_sound t h = by (bytes_eq (take (prefix_len is_ascii_alphabetic t) t) (codes "any")) refl h
  where
    by : (b : Bool) → bytes_eq (take (prefix_len is_ascii_alphabetic t) t) (codes "any") ≡ b
        → 0 < prefix_len is_ascii_alphabetic (cond b (after_spaces (drop (prefix_len is_ascii_alphabetic t) t)) t)
        → (any : List ℕ) × IsAny any × (t ≡ any ++ cond b (after_spaces (drop (prefix_len is_ascii_alphabetic t) t)) t)
    by false e p = ([], inl refl, refl)
    by true e p =
        let r = drop (prefix_len is_ascii_alphabetic t) t in
        let m = prefix_len is_space r in
        let P : ℕ → Type 0 = λ k. 0 < prefix_len is_ascii_alphabetic (drop k r) in
        split (m == 0)
        (λ z. let q = subst P (eq_of m 0 z) p in absurd (omega (arith, q, stops is_ascii_alphabetic t)))
        (λ z.
        let q : m - 1 + 1 ≡ m = omega (arith, positive m z) in (
          codes "any" ++ spaces m,
          inr (m - 1, ap (λ k. codes "any" ++ spaces k) (sym q)),
          sym (take-append-drop (prefix_len is_ascii_alphabetic t) t)
              ∙ ap (λ a. a ++ r) (bytes_true _ _ e)
              ∙ ap (λ a. codes "any" ++ a) (spaces_split r)
              ∙ sym (append_assoc (codes "any") (spaces m) (after_spaces r)),
        ))

record UnitAt (sign : Sign) (k : ℕ) (t : List ℕ) (m : Modifier) (rest : List ℕ) : Type 0 where
  name : List ℕ
  step : Step
  unit : IsUnit name step
  letters : 0 < prefix_len is_ascii_alphabetic t
  spelled : t ≡ name ++ rest
  means : m ≡ counted_modifier sign k step

unit_positive : (run : List ℕ) (step : Step) → IsUnit run step → 0 < length run
unit_positive run Characters h = h.0
unit_positive run Lines h = h.0

unit_at : (sign : Sign) (k : ℕ) (t : List ℕ) (m : Modifier) (rest : List ℕ) → with_unit sign k t ≡ Some (m, rest) → UnitAt sign k t m rest
unit_at sign k t m rest h =
    let n = prefix_len is_ascii_alphabetic t in
    let f : Step → Modifier × List ℕ = λ step. (counted_modifier sign k step, drop n t) in
    let got = map_some f (unit_of (take n t)) (m, rest) h in
    let u = unit_sound (take n t) got.0 got.1 in
    record {
      name = take n t;
      step = got.0;
      unit = u;
      letters = omega (arith, unit_positive (take n t) got.0 u, length-prefix_len is_ascii_alphabetic t);
      spelled = sym (take-append-drop n t) ∙ ap (λ r. take n t ++ r) (ap (λ x. x.1) got.2);
      means = sym (ap (λ x. x.0) got.2);
    }

record NumberAt (sign : Sign) (t : List ℕ) (m : Modifier) (rest : List ℕ) : Type 0 where
  digits : List ℕ
  after : ℕ
  any : List ℕ
  name : List ℕ
  step : Step
  number : IsNumber digits
  passed_over : IsAny any
  unit : IsUnit name step
  spelled : t ≡ digits ++ (spaces after ++ (any ++ (name ++ rest)))
  means : m ≡ counted_modifier sign (digits_value 10 digits) step

number_at : (sign : Sign) (t : List ℕ) (m : Modifier) (rest : List ℕ) → with_number sign t ≡ Some (m, rest) → NumberAt sign t m rest
number_at sign t m rest h = by (prefix_len is_ascii_digit t == 0) refl h
  where
    by : (b : Bool) → (prefix_len is_ascii_digit t == 0) ≡ b
        → cond b None (with_unit sign (digits_value 10 (take (prefix_len is_ascii_digit t) t)) (after_any (after_spaces (drop (prefix_len is_ascii_digit t) t)))) ≡ Some (m, rest) → NumberAt sign t m rest
    by true e h = cc
    by false e h =
        let k = prefix_len is_ascii_digit t in
        let r = drop k t in
        let u = unit_at sign (digits_value 10 (take k t)) (after_any (after_spaces r)) m rest h in
        let a = any_sound (after_spaces r) u.letters in
        record {
          digits = take k t;
          after = prefix_len is_space r;
          any = a.0;
          name = u.name;
          step = u.step;
          number = (omega (arith, positive k e, length-prefix_len is_ascii_digit t), digits_front t);
          passed_over = a.1;
          unit = u.unit;
          spelled =
              sym (take-append-drop k t)
              ∙ ap (λ x. take k t ++ x) (spaces_split r ∙ ap (λ x. spaces (prefix_len is_space r) ++ x) (a.2 ∙ ap (λ x. a.0 ++ x) u.spelled));
          means = u.means;
        }

record SecondAt (sign : Sign) (t : List ℕ) (m : Modifier) (rest : List ℕ) : Type 0 where
  second : Option Sign
  tail : List ℕ
  spelled : t ≡ second_text second ++ tail
  counts : NumberAt (direction sign second) tail m rest

second_at : (sign : Sign) (t : List ℕ) (m : Modifier) (rest : List ℕ) → with_second_sign sign t ≡ Some (m, rest) → SecondAt sign t m rest
second_at sign [] m rest h = cc
second_at sign (c ∷ t) m rest h = split (c == 43)
    (λ e. let k = rw e at h in record { second = Some Plus; tail = t; spelled = ap (λ d. d ∷ t) (eq_of c 43 e); counts = number_at sign t m rest k })
    (λ e. let k = rw e at h in split (c == 45)
    (λ f. let l = rw f at k in record { second = Some Minus; tail = t; spelled = ap (λ d. d ∷ t) (eq_of c 45 f); counts = number_at (turned sign) t m rest l })
    (λ f. let l = rw f at k in record { second = None; tail = c ∷ t; spelled = refl; counts = number_at sign (c ∷ t) m rest l }))

regroup : (a b c d e f g h r : List ℕ) → (a ++ (b ++ (c ++ (d ++ (e ++ (f ++ (g ++ h))))))) ++ r ≡ a ++ (b ++ (c ++ (d ++ (e ++ (f ++ (g ++ (h ++ r)))))))
regroup a b c d e f g h r = simp append_assoc

-- a modifier at the front of a text
abbrev pub HasModifier : List ℕ → Modifier → List ℕ → Type 0
HasModifier t m rest = (front : List ℕ) × IsModifier front m × (t ≡ front ++ rest)

move_at : (n : ℕ) (sign : Sign) (v : List ℕ) (m : Modifier) (rest : List ℕ) → with_second_sign sign (after_spaces v) ≡ Some (m, rest)
    → HasModifier (spaces n ++ (sign_text sign ++ v)) m rest
move_at n sign v m rest h =
    let s = second_at sign (after_spaces v) m rest h in
    let c = s.counts in
    let between = prefix_len is_space v in
    let front = spaces n ++ (sign_text sign ++ (spaces between ++ (second_text s.second ++ (c.digits ++ (spaces c.after ++ (c.any ++ c.name)))))) in
    let move : IsMove front m = record {
      before = n;
      sign = sign;
      between = between;
      second = s.second;
      digits = c.digits;
      after = c.after;
      any = c.any;
      name = c.name;
      step = c.step;
      number = c.number;
      passed_over = c.passed_over;
      unit = c.unit;
      spelled = refl;
      means = c.means;
    } in (
      front,
      inl move,
      ap (λ x. spaces n ++ (sign_text sign ++ x)) (spaces_split v ∙ ap (λ x. spaces between ++ x) (s.spelled ∙ ap (λ x. second_text s.second ++ x) c.spelled))
          ∙ sym (regroup (spaces n) (sign_text sign) (spaces between) (second_text s.second) c.digits (spaces c.after) c.any c.name rest),
    )

going_at : (n : ℕ) (u : List ℕ) (m : Modifier) (rest : List ℕ) → 0 < n → with_keyword (after_any u) ≡ Some (m, rest) → HasModifier (spaces n ++ u) m rest
going_at n u m rest pos h =
    let t = after_any u in
    let k = prefix_len is_ascii_alphabetic t in
    let f : Keyword → Modifier × List ℕ = λ keyword. (To keyword, drop k t) in
    let got = map_some f (keyword_of (take k t)) (m, rest) h in
    let w = keyword_sound (take k t) got.0 got.1 in
    let a = any_sound u (omega (arith, w.0, length-prefix_len is_ascii_alphabetic t)) in
    let q : n - 1 + 1 ≡ n = omega arith in
    let front = spaces n ++ (a.0 ++ take k t) in
    let going : IsGoing front m = record {
      before = n - 1;
      any = a.0;
      name = take k t;
      keyword = got.0;
      passed_over = a.1;
      word = w;
      spelled = ap (λ x. spaces x ++ (a.0 ++ take k t)) (sym q);
      means = sym (ap (λ x. x.0) got.2);
    } in (
      front,
      inr going,
      ap (λ x. spaces n ++ x) (a.2 ∙ ap (λ x. a.0 ++ x) (sym (take-append-drop k t) ∙ ap (λ x. take k t ++ x) (ap (λ x. x.1) got.2)))
          ∙ regroup_going (spaces n) a.0 (take k t) rest,
    )
  where
    regroup_going : (a b c r : List ℕ) → a ++ (b ++ (c ++ r)) ≡ (a ++ (b ++ c)) ++ r
    regroup_going a b c r = simp append_assoc

pub lt_true : (a b : ℕ) → nat_lt a b ≡ true → a < b
lt_true a b h = grind (arith, nat_tests)

at_sound : (n : ℕ) (u : List ℕ) (m : Modifier) (rest : List ℕ) → modifier_at (nat_lt 0 n) u ≡ Some (m, rest) → HasModifier (spaces n ++ u) m rest
at_sound n [] m rest h = cc
at_sound n (c ∷ v) m rest h = let P : ℕ → Type 0 = λ d. HasModifier (spaces n ++ (d ∷ v)) m rest in split (c == 43)
    (λ e. let k = rw e at h in subst P (sym (eq_of c 43 e)) (move_at n Plus v m rest k))
    (λ e. let k = rw e at h in split (c == 45)
    (λ f. let l = rw f at k in subst P (sym (eq_of c 45 f)) (move_at n Minus v m rest l))
    (λ f. let l = rw f at k in by (nat_lt 0 n) refl l))
  where
    by : (b : Bool) → nat_lt 0 n ≡ b → cond b (with_keyword (after_any (c ∷ v))) None ≡ Some (m, rest) → HasModifier (spaces n ++ (c ∷ v)) m rest
    by true e l = going_at n (c ∷ v) m rest (lt_true 0 n e) l
    by false e l = cc

pub first_sound : (t : List ℕ) (m : Modifier) (rest : List ℕ) → first_modifier t ≡ Some (m, rest) → HasModifier t m rest
first_sound t m rest h =
    let P : List ℕ → Type 0 = λ x. HasModifier x m rest in
    subst P (sym (spaces_split t)) (at_sound (prefix_len is_space t) (after_spaces t) m rest h)

only_spaces : (t : List ℕ) (ms : List Modifier) → (length (after_spaces t) == 0) ≡ true → Some [] ≡ Some ms → AreModifiers t ms
only_spaces t [] e h = (
  prefix_len is_space t,
  spaces_split t ∙ ap (λ x. spaces (prefix_len is_space t) ++ x) (nil_from_length (after_spaces t) (eq_of (length (after_spaces t)) 0 e)) ∙ append-nil (spaces (prefix_len is_space t)),
)
only_spaces t (m ∷ ms) e h = cc

within_sound : (n : ℕ) (t : List ℕ) (ms : List Modifier) → modifiers_within n t ≡ Some ms → AreModifiers t ms
within_sound zero t ms h = split (length (after_spaces t) == 0)
    (λ e. only_spaces t ms e (rw e at h))
    (λ e. let k = rw e at h in cc)
within_sound (suc n) t ms h = split (length (after_spaces t) == 0)
    (λ e. only_spaces t ms e (rw e at h))
    (λ e. let k = rw e at h in option_cases (first_modifier t)
    (λ f. let l = rw f at k in cc)
    (λ found f.
    let l = rw f at k in
    let g : List Modifier → List Modifier = λ others. found.0 ∷ others in
    let got = map_some g (modifiers_within n found.1) ms l in
    let here = first_sound t found.0 found.1 f in
    subst (AreModifiers t) got.2 (here.0, found.1, here.1, within_sound n found.1 got.0 got.1, here.2)))

-- the text is those modifiers
pub sound : (t : List ℕ) (ms : List Modifier) → modifiers_of t ≡ Some ms → AreModifiers t ms
sound t ms h = within_sound (length t) t ms h
