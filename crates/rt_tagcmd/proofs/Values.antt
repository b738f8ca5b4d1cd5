-- Text values, one after the other.
use Rattle.std.proofs.Common.{◌≡◌, ℕ, zero, suc, ◌+◌, ◌-◌, ◌<◌, ◌≤◌, min, ◌⊎◌, inl, inr, ◌==◌, ◌||◌, List, [], ◌∷◌, ◌++◌, length, filter, take, drop, get_or, true, false, refl, sym, ap, ◌∙◌, Bool, cond, arith, subst}
use Rattle.std.specs.Prelude.{encode_utf8, encode_utf8_all}
use Rattle.std.specs.List.{All, list_any, range_with_len}
use Rattle.std.specs.List.Sorted.{IsNonDecreasingBy}
use Rattle.std.proofs.lemmas.List.{append-nil, drop-drop, drop-take, take_more, get_or-drop, get_or-take}
use Rattle.std.proofs.lemmas.List.Elements.{All-cons, All-head, All-nil, All-tail}
use Rattle.std.proofs.lemmas.List.Folds.{list_any_at}
use Rattle.std.proofs.lemmas.Bool.{cases_lt}
use Rattle.std.proofs.lemmas.Str.{encodes-append}
use Rattle.std.proofs.lemmas.Map.Views.{any-filter_same}
use Rattle.rt_tagcmd.specs.declared.element.Key.TheVariants.{Text}
use Rattle.rt_tagcmd.specs.declared.stretch.DumpStretch.{DumpStretch}
use Rattle.rt_tagcmd.specs.Elements.{Placed, ends_text, element_at, is_at_place, text_values, values_up_to}
use Rattle.rt_tagcmd.specs.Stretches.{AreGathered, EndsWhere}
use Rattle.rt_tagcmd.proofs.Bools.{split}
use Rattle.rt_tagcmd.proofs.Placing.{at_is, at_isnt, is_at, isnt_at}
use Rattle.rt_stamps.specs.Places.{is_newline}
use Rattle.rt_text.specs.Ranges.{text_between}

-- PLACES THAT PASS A TEST

-- the first of them
first_end : (f : ℕ → Bool) (n a e : ℕ) → a ≤ e → e < a + n → ((k : ℕ) → a ≤ k → k < e → f k ≡ false) → f e ≡ true
    → filter f (range_with_len a n) ≡ e ∷ filter f (range_with_len (e + 1) (a + n - (e + 1)))
first_end f zero a e l h none t = absurd (omega arith)
first_end f (suc n) a e l h none t =
    split (a == e)
    (λ s.
    let same : a ≡ e = at_is a e s in
    let passes : f a ≡ true = ap f same ∙ t in
    let count : n ≡ a + suc n - (e + 1) = omega arith in
    ap (λ b. cond b (a ∷ filter f (range_with_len (a + 1) n)) (filter f (range_with_len (a + 1) n))) passes
    ∙ (λ i. same i ∷ filter f (range_with_len (same i + 1) (count i))))
    (λ s.
    let other : a < e = by_far (at_isnt a e s) l in
    let fails : f a ≡ false = none a (omega arith) other in
    let count : a + 1 + n - (e + 1) ≡ a + suc n - (e + 1) = omega arith in
    ap (λ b. cond b (a ∷ filter f (range_with_len (a + 1) n)) (filter f (range_with_len (a + 1) n))) fails
    ∙ first_end f n (a + 1) e (omega arith) (omega arith) (λ k m b. none k (omega arith) b) t
    ∙ ap (λ c. e ∷ filter f (range_with_len (e + 1) c)) count)
  where
    by_far : (a ≡ e → ⊥) → a ≤ e → a < e
    by_far k m = omega arith

filter_same : (f g : ℕ → Bool) (n a : ℕ) → ((k : ℕ) → a ≤ k → k < a + n → f k ≡ g k) → filter f (range_with_len a n) ≡ filter g (range_with_len a n)
filter_same f g zero a h = refl
filter_same f g (suc n) a h =
    let first : f a ≡ g a = h a (omega arith) (omega arith) in
    let rest = filter_same f g n (a + 1) (λ k l m. h k (omega arith) (omega arith)) in
    λ i. cond (first i) (a ∷ rest i) (rest i)

-- A TEXT VALUE

-- the text values left at a place
abbrev pub values_left : List ℕ → List Placed → ℕ → ℕ → List Placed
values_left text others to start = values_up_to text start (filter (ends_text text others to) (range_with_len (start + 1) (to - start)))

-- the first of them
pub values_step : (text : List ℕ) (others : List Placed) (to start end : ℕ) → start < to → EndsWhere (ends_text text others to) start end to
    → values_left text others to start ≡ element_at Text (encode_utf8_all (text_between text start end)) start ∷ values_left text others to end
values_step text others to start end b e =
    let behind : start < end = e.behind in
    let within : end ≤ to = e.within in
    let passes : ends_text text others to end ≡ true = ends_there e.passes in
    let found = first_end (ends_text text others to) (to - start) (start + 1) end (omega arith) (omega arith) (λ k l h. e.none_before k (omega arith) h) passes in
    let count : start + 1 + (to - start) - (end + 1) ≡ to - end = omega arith in
    ap (values_up_to text start) (found ∙ ap (λ c. end ∷ filter (ends_text text others to) (range_with_len (end + 1) c)) count)
  where
    or_true : (a c : Bool) → (a || c || true) ≡ true
    or_true true c = refl
    or_true false true = refl
    or_true false false = refl

    ends_there : (ends_text text others to end ≡ true) ⊎ (end ≡ to) → ends_text text others to end ≡ true
    ends_there (inl t) = t
    ends_there (inr s) = ap (λ c. is_newline (get_or text (end - 1) 0) || list_any (is_at_place end) others || c) (is_at end to s) ∙ or_true (is_newline (get_or text (end - 1) 0)) (list_any (is_at_place end) others)

-- at the stretch's end none are left
pub values_done : (text : List ℕ) (others : List Placed) (to start : ℕ) → to ≤ start → values_left text others to start ≡ []
values_done text others to start h =
    let none : to - start ≡ 0 = omega arith in
    ap (λ c. values_up_to text start (filter (ends_text text others to) (range_with_len (start + 1) c))) none

-- OTHER ELEMENTS

-- what stands at a place decides whether one stands there
any_at : (p : ℕ) (xs : List Placed) → list_any (is_at_place p) (filter (is_at_place p) xs) ≡ list_any (is_at_place p) xs
any_at p xs = any-filter_same (is_at_place p) (is_at_place p) true (λ k t. t) xs

-- so the elements of the stretch cut its text as all do
pub values_same : (s : DumpStretch) (text : List ℕ) (all others : List Placed) (from to : ℕ) → s.from ≤ from → to ≤ s.behind → AreGathered s all others → text_values text others from to ≡ text_values text all from to
values_same s text all others from to low high g =
    ap (values_up_to text from) (filter_same (ends_text text others to) (ends_text text all to) (to - from) (from + 1) (λ k l h. same k l h (k == to) refl))
  where
    either : (a b c : Bool) → (a || b || true) ≡ (a || c || true)
    either true b c = refl
    either false true true = refl
    either false true false = refl
    either false false true = refl
    either false false false = refl

    by_far : {k : ℕ} → (k ≡ to → ⊥) → from + 1 ≤ k → k < from + 1 + (to - from) → k < to
    by_far n l m = omega arith

    same : (k : ℕ) → from + 1 ≤ k → k < from + 1 + (to - from) → (b : Bool) → (k == to) ≡ b → ends_text text others to k ≡ ends_text text all to k
    same k l h true e =
        ap (λ c. is_newline (get_or text (k - 1) 0) || list_any (is_at_place k) others || c) e
        ∙ either (is_newline (get_or text (k - 1) 0)) (list_any (is_at_place k) others) (list_any (is_at_place k) all)
        ∙ sym (ap (λ c. is_newline (get_or text (k - 1) 0) || list_any (is_at_place k) all || c) e)
    same k l h false e =
        let before : k < to = by_far (at_isnt k to e) l h in
        let there : list_any (is_at_place k) others ≡ list_any (is_at_place k) all =
        sym (any_at k others) ∙ ap (list_any (is_at_place k)) (g.same k (omega arith) (omega arith)) ∙ any_at k all in
        ap (λ c. is_newline (get_or text (k - 1) 0) || c || k == to) there

-- THEIR PLACES

inside_from : (text : List ℕ) (f : ℕ → Bool) (from to n a start : ℕ) → from ≤ start → start < a → a + n ≤ to + 1
    → All (λ e. (from ≤ e.place) × (e.place < to)) (values_up_to text start (filter f (range_with_len a n)))
inside_from text f from to zero a start l b h = All-nil (λ e. (from ≤ e.place) × (e.place < to))
inside_from text f from to (suc n) a start l b h =
    split (f a)
    (λ t. subst (λ ends. All (λ e. (from ≤ e.place) × (e.place < to)) (values_up_to text start ends)) (sym (ap (λ c. cond c (a ∷ filter f (range_with_len (a + 1) n)) (filter f (range_with_len (a + 1) n))) t))
    (All-cons (λ e. (from ≤ e.place) × (e.place < to)) (element_at Text (encode_utf8_all (text_between text start a)) start) (values_up_to text a (filter f (range_with_len (a + 1) n)))
    (l, omega arith) (inside_from text f from to n (a + 1) a (omega arith) (omega arith) (omega arith))))
    (λ t. subst (λ ends. All (λ e. (from ≤ e.place) × (e.place < to)) (values_up_to text start ends)) (sym (ap (λ c. cond c (a ∷ filter f (range_with_len (a + 1) n)) (filter f (range_with_len (a + 1) n))) t))
    (inside_from text f from to n (a + 1) start l (omega arith) (omega arith)))

-- text values begin in their stretch
pub values_inside : (text : List ℕ) (others : List Placed) (from to : ℕ) → All (λ e. (from ≤ e.place) × (e.place < to)) (text_values text others from to)
values_inside text others from to = by (to - from) refl where
  by : (n : ℕ) → to - from ≡ n → All (λ e. (from ≤ e.place) × (e.place < to)) (values_up_to text from (filter (ends_text text others to) (range_with_len (from + 1) n)))
  by zero e = All-nil (λ e. (from ≤ e.place) × (e.place < to))
  by (suc n) e = inside_from text (ends_text text others to) from to (suc n) (from + 1) from (omega arith) (omega arith) (omega arith)

-- CHARACTERS OF A STRETCH

-- a part of the stretch's characters is a part of the text
pub part_of : (text : List ℕ) (from to start end : ℕ) → from ≤ start → start ≤ end → end ≤ to → take (end - start) (drop (start - from) (text_between text from to)) ≡ text_between text start end
part_of text from to start end a b c =
    let k = start - from in
    let whole : to - from ≡ k + (to - start) = omega arith in
    let place : from + k ≡ start = omega arith in
    ap (λ n. take (end - start) (drop k (take n (drop from text)))) whole
    ∙ ap (take (end - start)) (drop-take k (to - start) (drop from text))
    ∙ ap (λ v. take (end - start) (take (to - start) v)) (drop-drop k from text ∙ ap (λ n. drop n text) place)
    ∙ fewer (end - start) (to - start) (drop start text) (omega arith)
  where
    fewer : (n k : ℕ) (xs : List ℕ) → n ≤ k → take n (take k xs) ≡ take n xs
    fewer zero k xs h = refl
    fewer (suc n) zero xs h = absurd (omega arith)
    fewer (suc n) (suc k) [] h = refl
    fewer (suc n) (suc k) (x ∷ xs) h = ap (λ v. x ∷ v) (fewer n k xs (omega arith))

-- a part of the stretch's characters, as it is taken out
pub part_taken : (text chars : List ℕ) (from to start end : ℕ) → text_between text from to ≡ chars → from ≤ start → start ≤ end → end ≤ to → take (end - from - (start - from)) (drop (start - from) chars) ≡ text_between text start end
part_taken text chars from to start end e a b c =
    let count : end - from - (start - from) ≡ end - start = omega arith in
    (λ i. take (count i) (drop (start - from) (sym e i))) ∙ part_of text from to start end a b c

-- and so is one of them
pub char_of : (text : List ℕ) (from to k : ℕ) → from < k → k ≤ to → get_or (text_between text from to) (k - from - 1) 0 ≡ get_or text (k - 1) 0
char_of text from to k a b =
    let place : from + (k - from - 1) ≡ k - 1 = omega arith in
    get_or-take (to - from) (drop from text) (k - from - 1) 0 (omega arith) ∙ get_or-drop from text (k - from - 1) 0 ∙ ap (λ i. get_or text i 0) place

-- ENDS

none_stands : (p : ℕ) (es : List Placed) → All (λ e. e.place ≡ p → ⊥) es → list_any (is_at_place p) es ≡ false
none_stands p [] h = refl
none_stands p (e ∷ es) h =
    ap (λ b. b || list_any (is_at_place p) es) (isnt_at e.place p (All-head (λ e. e.place ≡ p → ⊥) e es h)) ∙ none_stands p es (All-tail (λ e. e.place ≡ p → ⊥) e es h)

-- the elements of a list part at an index: those before it stand up to a place, the others behind it
abbrev pub Parts : ℕ → List Placed → ℕ → Type 0
Parts place es i = ((k : ℕ) (d : Placed) → k < i → (get_or es k d).place ≤ place) × ((k : ℕ) (d : Placed) → i ≤ k → k < length es → place < (get_or es k d).place)

get_or_any : (es : List Placed) (i : ℕ) (d e : Placed) → i < length es → get_or es i d ≡ get_or es i e
get_or_any [] i d e l = absurd (omega arith)
get_or_any (x ∷ es) zero d e l = refl
get_or_any (x ∷ es) (suc i) d e l = get_or_any es i d e (omega arith)

-- the next element is the first of the others
pub next_stands : (place end i : ℕ) (other : Placed) (es : List Placed) → IsNonDecreasingBy (λ e. e.place) es → Parts place es i → i < length es → get_or es i other ≡ other → place < end
    → EndsWhere (λ p. list_any (is_at_place p) es) place (min other.place end) end
next_stands place end i other es rise parts l e b =
    let far : place < other.place = subst (λ (x : Placed). place < x.place) e (parts.1 i other (omega arith) l) in
    record {
      behind = omega arith;
      within = omega arith;
      none_before = λ k m h. none_stands k es (λ j d n. apart k j d m (omega arith) n);
      passes = ends (cases_lt end other.place);
    }
  where
    stands : list_any (is_at_place other.place) es ≡ true
    stands = list_any_at (is_at_place other.place) es i other l (ap (λ (x : Placed). x.place == other.place) e ∙ is_at other.place other.place refl)

    ends : (end < other.place) ⊎ (other.place ≤ end) → (list_any (is_at_place (min other.place end)) es ≡ true) ⊎ (min other.place end ≡ end)
    ends (inr m) = let same : min other.place end ≡ other.place = omega arith in inl (ap (λ p. list_any (is_at_place p) es) same ∙ stands)
    ends (inl m) = inr (omega arith)

    apart : (k j : ℕ) (d : Placed) → place < k → k < other.place → j < length es → (get_or es j d).place ≡ k → ⊥
    apart k j d m h n s = by (cases_lt j i)
      where
        by : (j < i) ⊎ (i ≤ j) → ⊥
        by (inl p) = let low : (get_or es j d).place ≤ place = parts.0 j d p in omega arith
        by (inr p) =
            let up : (get_or es i d).place ≤ (get_or es j d).place = rise i j d p n in
            let is : (get_or es i d).place ≡ other.place = ap (λ (x : Placed). x.place) (get_or_any es i d other l ∙ e) in
            omega arith

-- and there is none where no element stands behind the place
pub no_next : (place end i : ℕ) (es : List Placed) → Parts place es i → length es ≤ i → place < end → EndsWhere (λ p. list_any (is_at_place p) es) place end end
no_next place end i es parts l b = record {
  behind = b;
  within = omega arith;
  none_before = λ k m h. none_stands k es (λ j d n s. not_there k j d m n s);
  passes = inr refl;
}
  where
    not_there : (k j : ℕ) (d : Placed) → place < k → j < length es → (get_or es j d).place ≡ k → ⊥
    not_there k j d m n s = let low : (get_or es j d).place ≤ place = parts.0 j d (omega arith) in omega arith

-- a text value ends behind the next newline, or where the next element stands
pub text_ends : (text chars : List ℕ) (es : List Placed) (from to start next len : ℕ) → text_between text from to ≡ chars → from ≤ start → start < to
    → EndsWhere (λ p. list_any (is_at_place p) es) start next to → EndsWhere (λ k. is_newline (get_or chars (k - 1) 0)) (start - from) len (next - from)
    → EndsWhere (ends_text text es to) start (from + len) to
text_ends text chars es from to start next len e a b others line =
    let line_behind : start - from < len = line.behind in
    let line_within : len ≤ next - from = line.within in
    let next_behind : start < next = others.behind in
    let next_within : next ≤ to = others.within in
    record {
      behind = omega arith;
      within = omega arith;
      none_before = λ k m h. none k m (omega arith) (omega arith) (line.none_before (k - from) (omega arith) (omega arith)) (others.none_before k m (omega arith));
      passes = ends line.passes (omega arith) (omega arith);
    }
  where
    char_is : (k : ℕ) → from < k → k ≤ to → is_newline (get_or chars (k - from - 1) 0) ≡ is_newline (get_or text (k - 1) 0)
    char_is k m h = ap (λ c. is_newline (get_or c (k - from - 1) 0)) (sym e) ∙ ap is_newline (char_of text from to k m h)

    none : (k : ℕ) → start < k → k < to → from < k → is_newline (get_or chars (k - from - 1) 0) ≡ false → list_any (is_at_place k) es ≡ false → ends_text text es to k ≡ false
    none k m h l c o =
        let newline : is_newline (get_or text (k - 1) 0) ≡ false = sym (char_is k l (omega arith)) ∙ c in
        let last : (k == to) ≡ false = isnt_at k to (λ s. omega arith) in
        λ i. newline i || o i || last i

    back : from + len - from ≡ len
    back = omega arith

    or_second : (x y : Bool) → (x || true || y) ≡ true
    or_second true y = refl
    or_second false y = refl

    at_next : (list_any (is_at_place next) es ≡ true) ⊎ (next ≡ to) → from + len ≡ next → (ends_text text es to (from + len) ≡ true) ⊎ (from + len ≡ to)
    at_next (inl t) s =
        inl (ap (λ p. ends_text text es to p) s ∙ ap (λ c. is_newline (get_or text (next - 1) 0) || c || next == to) t ∙ or_second (is_newline (get_or text (next - 1) 0)) (next == to))
    at_next (inr t) s = inr (s ∙ t)

    next_is : len ≡ next - from → start < next → from + len ≡ next
    next_is t m = omega arith

    ends : (is_newline (get_or chars (len - 1) 0) ≡ true) ⊎ (len ≡ next - from) → from < from + len → from + len ≤ to → (ends_text text es to (from + len) ≡ true) ⊎ (from + len ≡ to)
    ends (inl t) m h =
        let newline : is_newline (get_or text (from + len - 1) 0) ≡ true =
        sym (char_is (from + len) m h) ∙ ap (λ k. is_newline (get_or chars (k - 1) 0)) back ∙ t in
        inl (ap (λ c. c || list_any (is_at_place (from + len)) es || from + len == to) newline)
    ends (inr t) m h = at_next others.passes (next_is t others.behind)

-- THEIR BYTES

-- one character more
pub bytes_more : (chars : List ℕ) (i c : ℕ) → i < length chars → get_or chars i c ≡ c → encode_utf8_all (take (i + 1) chars) ≡ encode_utf8_all (take i chars) ++ encode_utf8 c
bytes_more chars i c l e =
    ap encode_utf8_all (take_more chars i c l ∙ ap (λ x. take i chars ++ x ∷ []) e) ∙ encodes-append (take i chars) (c ∷ []) ∙ ap (λ v. encode_utf8_all (take i chars) ++ v) (append-nil (encode_utf8 c))
