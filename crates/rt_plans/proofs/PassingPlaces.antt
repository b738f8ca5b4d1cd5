-- The places of ranges whose characters pass a test, found by the nearest ones that pass and that don't.
use Rattle.std.proofs.Common.{◌≡◌, ℕ, zero, suc, ◌+◌, ◌<◌, ◌≤◌, List, [], ◌∷◌, ◌++◌, Bool, true, false, not, ◌&&◌, ◌||◌, length, min, refl, sym, ◌∙◌, ap, subst, arith, All, Option, Some, None}
use Rattle.std.specs.Prelude.{nat_le, nat_lt, option_map, slice_get, unwrap_or}
use Rattle.std.proofs.lemmas.Bool.{and_left, and_right, le-ltb, lt-leb}
use Rattle.std.proofs.lemmas.Bool.Decides.{nat_tests}
use Rattle.std.proofs.lemmas.List.Elements.{All-cons, All-head, All-nil, All-tail}
use Rattle.std.proofs.lemmas.List.Folds.{list_any-append}
use Rattle.rt_store.specs.Tagged.{Passes, next_place}
use Rattle.rt_store.proofs.Distinct.{split}
use Rattle.rt_store.proofs.Least.{least, no_next}
use Rattle.rt_plans.specs.declared.range.Range.{Range}
use Rattle.rt_plans.specs.Removals.{RangesFollow, is_covered, is_in}
use Rattle.rt_plans.specs.TagWrites.{passes_at}
use Rattle.rt_plans.proofs.WithinLaws.{less_from}

-- AT A PLACE

passes_from : {A : Type 0} (test : A → Bool) (cs : List A) (place : ℕ) → passes_at test cs place ≡ true → Passes test cs place
passes_from {A} test cs place h = by (slice_get cs place) h
  where
    by : (o : Option A) → unwrap_or (option_map test o) false ≡ true → option_map test o ≡ Some true
    by None h = absurd (cc h)
    by (Some c) h = ap Some h

fails_at : {A : Type 0} (test : A → Bool) (cs : List A) (place : ℕ) → (Passes test cs place → ⊥) → passes_at test cs place ≡ false
fails_at test cs place h = split (passes_at test cs place) (λ t. absurd (h (passes_from test cs place t))) (λ f. f)

-- what passes is there
pub passes_within : {A : Type 0} (test : A → Bool) (cs : List A) (place : ℕ) → passes_at test cs place ≡ true → place < length cs
passes_within test [] zero h = absurd (cc h)
passes_within test [] (suc place) h = absurd (cc h)
passes_within test (c ∷ cs) zero h = omega arith
passes_within test (c ∷ cs) (suc place) h = omega (arith, passes_within test cs place h)

-- what is there and doesn't pass one test passes the other
passes_other : {A : Type 0} (test other : A → Bool) (cs : List A) (place : ℕ) → ((c : A) → other c ≡ not (test c)) → place < length cs → (Passes other cs place → ⊥) → passes_at test cs place ≡ true
passes_other test other [] place h k f = absurd (omega (arith, k))
passes_other test other (c ∷ cs) zero h k f = split (test c) (λ t. t) (λ e. absurd (f (ap Some (h c ∙ ap not e))))
passes_other test other (c ∷ cs) (suc place) h k f = passes_other test other cs place h (omega (arith, k)) f

-- THE FIRST PLACES OF A RANGE THAT PASS

in_first : (range : Range) (place : ℕ) → place < range.from → is_in range place ≡ false
in_first range place h = and_left (nat_le range.from place) _ (lt-leb range.from place h)

in_last : (range : Range) (place : ℕ) → range.to ≤ place → is_in range place ≡ false
in_last range place h = and_right _ (nat_lt place range.to) (le-ltb place range.to h)

both_in : (range found : Range) (place : ℕ) → range.from ≤ found.from → found.to ≤ range.to → found.from ≤ place → place < found.to → is_in found place ≡ (is_in range place && true)
both_in range found place a b h k = grind (arith, nat_tests, a, b, h, k)

and_none : (b : Bool) → false ≡ (b && false)
and_none true = refl
and_none false = refl

no_from : (a b : ℕ) → nat_lt a b ≡ false → b ≤ a
no_from a b h = grind (arith, nat_tests)

-- places of a range up to the end of those that pass
pub found_places : (range found : Range) (passes : ℕ → Bool) → range.from ≤ found.from → found.to ≤ range.to
    → ((k : ℕ) → range.from ≤ k → k < found.from → passes k ≡ false) → ((k : ℕ) → found.from ≤ k → k < found.to → passes k ≡ true)
    → (place : ℕ) → place < found.to → is_in found place ≡ (is_in range place && passes place)
found_places range found passes a b f t place h = split (nat_lt place found.from)
    (λ e.
    let lt = less_from place found.from e in
    split (nat_lt place range.from)
    (λ u. in_first found place lt ∙ sym (and_left (is_in range place) (passes place) (in_first range place (less_from place range.from u))))
    (λ u. in_first found place lt ∙ and_none (is_in range place) ∙ ap (λ p. is_in range place && p) (sym (f place (no_from place range.from u) lt))))
    (λ e.
    let le = no_from place found.from e in
    both_in range found place a b le h ∙ ap (λ p. is_in range place && p) (sym (t place le h)))

-- no place of a range passes
pub no_places : (range : Range) (passes : ℕ → Bool) → ((k : ℕ) → range.from ≤ k → k < range.to → passes k ≡ false) → (place : ℕ) → (is_in range place && passes place) ≡ false
no_places range passes f place = split (nat_lt place range.from)
    (λ u. and_left (is_in range place) (passes place) (in_first range place (less_from place range.from u)))
    (λ u. split (nat_lt place range.to)
    (λ e. and_right (is_in range place) (passes place) (f place (no_from place range.from u) (less_from place range.to e)))
    (λ e. and_left (is_in range place) (passes place) (in_last range place (no_from place range.to e))))

module _ {A : Type 0} (test other : A → Bool) (cs : List A) where
  -- none from a place on
  pub none_from : (range : Range) → next_place test cs range.from ≡ None → (place : ℕ) → (is_in range place && passes_at test cs place) ≡ false
  none_from range h = no_places range (passes_at test cs) (λ k a b. fails_at test cs k (no_next test cs range.from k h a))

  -- none before the end
  pub none_till : (range : Range) (from : ℕ) → next_place test cs range.from ≡ Some from → range.to ≤ from → (place : ℕ) → (is_in range place && passes_at test cs place) ≡ false
  none_till range from h le =
      let l = least test cs range.from from h in
      no_places range (passes_at test cs) (λ k a b. fails_at test cs k (l.none_before k a (omega (arith, b, le))))

  -- the place at which they end
  pub record EndsAt (from end to : ℕ) : Type 0 where
    pub some : from < to
    pub within : to ≤ end
    pub none : (k : ℕ) → from ≤ k → k < to → Passes other cs k → ⊥

  clash : (place : ℕ) → ((c : A) → other c ≡ not (test c)) → Passes test cs place → Passes other cs place → ⊥
  clash place h p q = by (slice_get cs place) p q
    where
      not_both : (t o : Bool) → o ≡ not t → t ≡ true → o ≡ true → ⊥
      not_both true o e a b = let bad : false ≡ true = sym e ∙ b in cc
      not_both false o e a b = let bad : ⊥ = cc a in bad

      by : (o : Option A) → option_map test o ≡ Some true → option_map other o ≡ Some true → ⊥
      by None p q = cc p
      by (Some c) p q = not_both (test c) (other c) (h c) (cc p) (cc q)

  pub ends_before : (start from end to : ℕ) → ((c : A) → other c ≡ not (test c)) → next_place test cs start ≡ Some from → from < end → next_place other cs from ≡ Some to → EndsAt from end (min to end)
  ends_before start from end to h f lt t =
      let l = least test cs start from f in
      let m = least other cs from to t in
      let later : from < to = split (nat_lt from to) (λ e. less_from from to e) (λ e.
      let ge = no_from from to e in
      let le = m.from in
      let same : to ≡ from = omega (arith, ge, le) in
      absurd (clash from h l.passes (subst (Passes other cs) same m.passes))) in
      record { some = omega (arith, later, lt); within = omega arith; none = λ k a b. m.none_before k a (omega (arith, b)) }

  pub ends_last : (from end : ℕ) → from < end → next_place other cs from ≡ None → EndsAt from end end
  ends_last from end lt t = record { some = lt; within = omega arith; none = λ k a b. no_next other cs from k t a }

  pub first_places : (range : Range) (from to : ℕ) → ((c : A) → other c ≡ not (test c)) → range.to ≤ length cs → next_place test cs range.from ≡ Some from → EndsAt from range.to to
      → (place : ℕ) → place < to → is_in (record { from = from; to = to }) place ≡ (is_in range place && passes_at test cs place)
  first_places range from to h within f e =
      let l = least test cs range.from from f in
      let w = e.within in
      found_places range (record { from = from; to = to }) (passes_at test cs) l.from w
      (λ k a b. fails_at test cs k (l.none_before k a b)) (λ k a b. passes_other test other cs k h (omega (arith, b, w, within)) (e.none k a b))

-- THE PLACES SO FAR

or_none : (b : Bool) → (b || false) ≡ b
or_none true = refl
or_none false = refl

rest_in : (rest next : Range) (place : ℕ) → rest.from ≤ next.to → next.to ≤ place → is_in (record rest { from = next.to }) place ≡ is_in rest place
rest_in rest next place a h = grind (arith, nat_tests, a, h)

-- those found next and those of what is left
pub rest_places : (rest next : Range) (passes : ℕ → Bool) (place : ℕ) → rest.from ≤ next.to → (place < next.to → is_in next place ≡ (is_in rest place && passes place))
    → (is_in next place || (is_in (record rest { from = next.to }) place && passes place)) ≡ (is_in rest place && passes place)
rest_places rest next passes place a h = split (nat_lt place next.to)
    (λ e.
    let lt = less_from place next.to e in
    let none : (is_in (record rest { from = next.to }) place && passes place) ≡ false = and_left (is_in (record rest { from = next.to }) place) (passes place) (in_first (record rest { from = next.to }) place lt) in
    ap (λ b. is_in next place || b) none ∙ or_none (is_in next place) ∙ h lt)
    (λ e.
    let le = no_from place next.to e in
    ap (λ b. b || (is_in (record rest { from = next.to }) place && passes place)) (in_last next place le) ∙ ap (λ b. b && passes place) (rest_in rest next place a le))

or_assoc : (a b c : Bool) → (a || (b || c)) ≡ ((a || b) || c)
or_assoc true b c = refl
or_assoc false b c = refl

pub covered_more : (found : List Range) (next : Range) (place : ℕ) → is_covered (found ++ next ∷ []) place ≡ (is_covered found place || is_in next place)
covered_more found next place = list_any-append (λ range. is_in range place) found (next ∷ []) ∙ ap (λ b. is_covered found place || b) (or_none (is_in next place))

pub places_so_far : (found : List Range) (rest next : Range) (passes : ℕ → Bool) (place : ℕ) (old : Bool) → rest.from ≤ next.to → (place < next.to → is_in next place ≡ (is_in rest place && passes place))
    → (is_covered found place || (is_in rest place && passes place)) ≡ old → (is_covered (found ++ next ∷ []) place || (is_in (record rest { from = next.to }) place && passes place)) ≡ old
places_so_far found rest next passes place old a h k =
    let left = is_in (record rest { from = next.to }) place && passes place in
    ap (λ b. b || left) (covered_more found next place) ∙ sym (or_assoc (is_covered found place) (is_in next place) left)
    ∙ ap (λ b. is_covered found place || b) (rest_places rest next passes place a h) ∙ k

pub order_put : (found : List Range) (next : Range) (place : ℕ) → RangesFollow place found → All (λ range. range.to ≤ next.from) found → place ≤ next.from → next.from < next.to
    → RangesFollow place (found ++ next ∷ [])
order_put [] next place o e h k = (h, k, tt)
order_put (x ∷ xs) next place o e h k =
    let P : Range → Type 0 = λ range. range.to ≤ next.from in
    (o.0, o.1, order_put xs next x.to o.2 (All-tail P x xs e) (All-head P x xs e) k)

pub ends_put : (found : List Range) (next : Range) (end : ℕ) → All (λ range. range.to ≤ end) found → end ≤ next.to → All (λ range. range.to ≤ next.to) (found ++ next ∷ [])
ends_put [] next end e h = All-cons (λ range. range.to ≤ next.to) next [] (omega arith) (All-nil (λ range. range.to ≤ next.to))
ends_put (x ∷ xs) next end e h =
    let P : Range → Type 0 = λ range. range.to ≤ end in
    let first = All-head P x xs e in
    All-cons (λ range. range.to ≤ next.to) x (xs ++ next ∷ []) (omega (arith, first, h)) (ends_put xs next end (All-tail P x xs e) h)

pub ends_later : (found : List Range) (end later : ℕ) → All (λ range. range.to ≤ end) found → end ≤ later → All (λ range. range.to ≤ later) found
ends_later [] end later e h = All-nil (λ range. range.to ≤ later)
ends_later (x ∷ xs) end later e h =
    let P : Range → Type 0 = λ range. range.to ≤ end in
    let first = All-head P x xs e in
    All-cons (λ range. range.to ≤ later) x xs (omega (arith, first, h)) (ends_later xs end later (All-tail P x xs e) h)

-- SEVERAL RANGES

-- one range more
pub range_so_far : (old new range rest passes all : Bool) → new ≡ (old || (range && passes)) → (old || ((range || rest) && passes)) ≡ all → (new || (rest && passes)) ≡ all
range_so_far old new range rest passes all e h = ap (λ b. b || (rest && passes)) e ∙ by old range rest passes ∙ h
  where
    by : (o a b p : Bool) → ((o || (a && p)) || (b && p)) ≡ (o || ((a || b) && p))
    by true a b p = refl
    by false true true true = refl
    by false true true false = refl
    by false true false true = refl
    by false true false false = refl
    by false false b p = refl

-- a place in ranges of a text is one of the text
pub covered_within : (ranges : List Range) (n place : ℕ) → All (λ range. range.to ≤ n) ranges → is_covered ranges place ≡ true → place < n
covered_within [] n place h t = absurd (cc t)
covered_within (range ∷ ranges) n place h t =
    let P : Range → Type 0 = λ range. range.to ≤ n in
    let first = All-head P range ranges h in
    split (nat_lt place range.to)
    (λ e. let lt = less_from place range.to e in omega (arith, lt, first))
    (λ e. covered_within ranges n place (All-tail P range ranges h) (ap (λ b. b || is_covered ranges place) (sym (in_last range place (no_from place range.to e))) ∙ t))

-- where each character passes
pub passes_all : {A : Type 0} (test : A → Bool) (cs : List A) (place : ℕ) → ((c : A) → test c ≡ true) → place < length cs → passes_at test cs place ≡ true
passes_all test [] place h k = absurd (omega (arith, k))
passes_all test (c ∷ cs) zero h k = h c
passes_all test (c ∷ cs) (suc place) h k = passes_all test cs place h (omega (arith, k))
