-- Where characters stand before and after a removal.
use Rattle.std.proofs.Common.{◌≡◌, ℕ, zero, suc, ◌+◌, ◌-◌, ◌^◌, ◌<◌, ◌≤◌, List, [], ◌∷◌, Bool, true, false, cond, not, All, length, drop, get_or, map, refl, sym, ap, ◌∙◌, subst, arith, Some, nat_le, nat_lt}
use Rattle.std.specs.Prelude.{slice_get}
use Rattle.std.proofs.lemmas.Bool.{cond-false, cond-true, or_from}
use Rattle.std.proofs.lemmas.Bool.Decides.{nat_tests}
use Rattle.std.proofs.lemmas.List.{drop_all, drop_more}
use Rattle.rt_marks.specs.Marks.{place_left, place_removed}
use Rattle.rt_marks.proofs.Leaving.{place_kept, place_rising, place_then}
use Rattle.rt_stamps.specs.declared.limits.TheConstants.{MOST_CELLS}
use Rattle.rt_store.specs.declared.cell.Cell.{Cell}
use Rattle.rt_store.specs.Cells.{map_state, visible_of}
use Rattle.rt_store.proofs.Distinct.{split}
use Rattle.rt_plans.specs.declared.range.Range.{Range}
use Rattle.rt_plans.specs.Removals.{RangesFollow, gone_at, is_covered, is_in}
use Rattle.rt_plans.proofs.StampLaws.{before_all, in_after, order_weaker}

-- CHARACTERS THAT STAY

-- one place more
next_left : (removed : ℕ → Bool) (k : ℕ) (b : Bool) → removed k ≡ b → place_left removed (k + 1) ≡ place_left removed k + cond b 0 1
next_left removed k b e =
    let next : k + 1 ≡ suc k = omega arith in
    ap (place_left removed) next ∙ ap (λ x. place_left removed k + cond x 0 1) e

-- what stays of the cells from a place on
abbrev IsStaying : {T : Type 0} → (ℕ → Bool) → ℕ → List (Cell T) → List (Cell T) → Type 0
IsStaying removed k left cells = (q m : ℕ) → removed (k + q) ≡ false → place_left removed (k + q) ≡ place_left removed k + m → slice_get left m ≡ slice_get cells q

behind_gone : {T : Type 0} (removed : ℕ → Bool) (k : ℕ) (c : Cell T) (left cells : List (Cell T)) → removed k ≡ true → IsStaying removed (k + 1) left cells → IsStaying removed k left (c ∷ cells)
behind_gone removed k c left cells r ih zero m h e =
    let here : k ≡ k + 0 = omega arith in
    let at : removed k ≡ false = ap removed here ∙ h in
    absurd (cc (at, r))
behind_gone removed k c left cells r ih (suc j) m h e =
    let at : k + 1 + j ≡ k + suc j = omega arith in
    let n : place_left removed (k + 1) ≡ place_left removed k + 0 = next_left removed k true r in
    let back : place_left removed k + m ≡ place_left removed (k + 1) + m = omega (arith, n) in
    ih j m (ap removed at ∙ h) (ap (place_left removed) at ∙ e ∙ back)

behind_kept : {T : Type 0} (removed : ℕ → Bool) (k : ℕ) (c d : Cell T) (left cells : List (Cell T)) → removed k ≡ false → d ≡ c → IsStaying removed (k + 1) left cells → IsStaying removed k (d ∷ left) (c ∷ cells)
behind_kept removed k c d left cells r same ih zero m h e =
    let here : k + 0 ≡ k = omega arith in
    let at : place_left removed k ≡ place_left removed k + m = ap (place_left removed) (sym here) ∙ e in
    let none : m ≡ 0 = omega (arith, at) in
    ap (slice_get (d ∷ left)) none ∙ ap Some same
behind_kept removed k c d left cells r same ih (suc j) zero h e =
    let at : k + 1 + j ≡ k + suc j = omega arith in
    let n : place_left removed (k + 1) ≡ place_left removed k + 1 = next_left removed k false r in
    let more : place_left removed (k + 1) ≤ place_left removed (k + 1 + j) = place_rising removed (k + 1) (k + 1 + j) (omega arith) in
    let is : place_left removed (k + 1 + j) ≡ place_left removed k + 0 = ap (place_left removed) at ∙ e in
    absurd (omega (arith, n, more, is))
behind_kept removed k c d left cells r same ih (suc j) (suc m) h e =
    let at : k + 1 + j ≡ k + suc j = omega arith in
    let n : place_left removed (k + 1) ≡ place_left removed k + 1 = next_left removed k false r in
    let back : place_left removed k + suc m ≡ place_left removed (k + 1) + m = omega (arith, n) in
    ih j m (ap removed at ∙ h) (ap (place_left removed) at ∙ e ∙ back)

-- a character that stays comes to stand where as many stay before it
pub stays : {T : Type 0} (removed : ℕ → Bool) (k : ℕ) (cells : List (Cell T)) → IsStaying removed k (visible_of (gone_at removed k cells)) (visible_of cells)
stays removed k [] q m h e = refl
stays {T} removed k (c ∷ cs) q m h e =
    let here = gone_at removed k cs in
    let next = gone_at removed (k + 1) cs in
    let old : Cell T = record c { gone = removed k } in
    split c.gone
    (λ g.
    ap (λ l. slice_get (visible_of l) m) (cond-true c.gone (c ∷ here) (old ∷ next) g)
    ∙ ap (λ b. slice_get (cond (not b) (c ∷ visible_of here) (visible_of here)) m) g
    ∙ stays removed k cs q m h e
    ∙ sym (ap (λ b. slice_get (cond (not b) (c ∷ visible_of cs) (visible_of cs)) q) g))
    (λ g.
    ap (λ l. slice_get (visible_of l) m) (cond-false c.gone (c ∷ here) (old ∷ next) g)
    ∙ by (removed k) refl g (stays removed (k + 1) cs)
    ∙ sym (ap (λ b. slice_get (cond (not b) (c ∷ visible_of cs) (visible_of cs)) q) g))
  where
    by : (b : Bool) → removed k ≡ b → c.gone ≡ false → IsStaying removed (k + 1) (visible_of (gone_at removed (k + 1) cs)) (visible_of cs)
        → slice_get (cond (not b) (record c { gone = b } ∷ visible_of (gone_at removed (k + 1) cs)) (visible_of (gone_at removed (k + 1) cs))) m ≡ slice_get (c ∷ visible_of cs) q
    by true r g ih = behind_gone removed k c (visible_of (gone_at removed (k + 1) cs)) (visible_of cs) r ih q m h e
    by false r g ih =
        let same : record c { gone = false } ≡ c = λ i. record c { gone = sym g i } in
        behind_kept removed k c (record c { gone = false }) (visible_of (gone_at removed (k + 1) cs)) (visible_of cs) r same ih q m h e

-- what stays of all cells
pub stays_at : {T : Type 0} (removed : ℕ → Bool) (cells : List (Cell T)) (before place : ℕ) → removed before ≡ false → place_left removed before ≡ place
    → slice_get (visible_of (gone_at removed 0 cells)) place ≡ slice_get (visible_of cells) before
stays_at removed cells before place h e =
    let at : 0 + before ≡ before = omega arith in
    let start : place ≡ 0 + place = omega arith in
    stays removed 0 cells before place (ap removed at ∙ h) (ap (place_left removed) at ∙ e ∙ start)

-- states are shown of cells that are gone too
pub gone_shown : {S T : Type 0} (f : S → T) (removed : ℕ → Bool) (k : ℕ) (cells : List (Cell S)) → map (map_state f) (gone_at removed k cells) ≡ gone_at removed k (map (map_state f) cells)
gone_shown f removed k [] = refl
gone_shown f removed k (c ∷ cs) = by c.gone (gone_shown f removed k cs) (gone_shown f removed (k + 1) cs)
  where
    by : (b : Bool) → map (map_state f) (gone_at removed k cs) ≡ gone_at removed k (map (map_state f) cs) → map (map_state f) (gone_at removed (k + 1) cs) ≡ gone_at removed (k + 1) (map (map_state f) cs)
        → map (map_state f) (cond b (c ∷ gone_at removed k cs) (record c { gone = removed k } ∷ gone_at removed (k + 1) cs))
        ≡ cond b (map_state f c ∷ gone_at removed k (map (map_state f) cs)) (record (map_state f c) { gone = removed k } ∷ gone_at removed (k + 1) (map (map_state f) cs))
    by true x y = ap (λ l. map_state f c ∷ l) x
    by false x y = ap (λ l. record (map_state f c) { gone = removed k } ∷ l) y

-- THE PLACE BEFORE A REMOVAL

-- what is passed over of a range
abbrev pub passing : Range → ℕ → ℕ
passing range p = cond (nat_le range.from p) (p + (range.to - range.from)) p

abbrev pub before_of : List Range → ℕ → ℕ
before_of [] p = p
before_of (range ∷ ranges) p = before_of ranges (passing range p)

passing_grows : (range : Range) (p : ℕ) → p ≤ passing range p
passing_grows range p = by (nat_le range.from p)
  where
    by : (b : Bool) → p ≤ cond b (p + (range.to - range.from)) p
    by true = omega arith
    by false = omega arith

pub before_grows : (ranges : List Range) (p : ℕ) → p ≤ before_of ranges p
before_grows [] p = omega arith
before_grows (range ∷ ranges) p = omega (arith, passing_grows range p, before_grows ranges (passing range p))

pub passing_not : (range : Range) (p : ℕ) → p < range.from → passing range p ≡ p
passing_not range p h = cond-false (nat_le range.from p) (p + (range.to - range.from)) p (grind (arith, nat_tests, h))

pub passing_all : (range : Range) (p : ℕ) → range.from ≤ p → passing range p ≡ p + (range.to - range.from)
passing_all range p h = cond-true (nat_le range.from p) (p + (range.to - range.from)) p (grind (arith, nat_tests, h))

before_same : (start : ℕ) (ranges : List Range) (p : ℕ) → RangesFollow start ranges → p < start → before_of ranges p ≡ p
before_same start [] p h l = refl
before_same start (range ∷ ranges) p h l =
    ap (before_of ranges) (passing_not range p (omega (arith, h.0, l))) ∙ before_same range.to ranges p h.2 (omega (arith, h.0, h.1, l))

back_in : (range : Range) (p : ℕ) → range.from < range.to → place_removed range.from (range.to - range.from) (passing range p) ≡ p
back_in range p h = split (nat_le range.from p)
    (λ t. let l : range.from ≤ p = grind (arith, nat_tests, t) in
    ap (place_removed range.from (range.to - range.from)) (passing_all range p l) ∙ passed range.from range.to p h l)
    (λ f. let l : p < range.from = grind (arith, nat_tests, f) in
    ap (place_removed range.from (range.to - range.from)) (passing_not range p l) ∙ stayed range.from (range.to - range.from) p l)
  where
    passed : (from to p : ℕ) → from < to → from ≤ p → place_removed from (to - from) (p + (to - from)) ≡ p
    passed from to p h l = grind (arith, nat_tests, h, l)

    stayed : (from n p : ℕ) → p < from → place_removed from n p ≡ p
    stayed from n p l = grind (arith, nat_tests, l)

-- the character there comes to stand at the place
pub before_left : (start : ℕ) (ranges : List Range) (p : ℕ) → RangesFollow start ranges → place_left (is_covered ranges) (before_of ranges p) ≡ p
before_left start [] p h = place_kept (is_covered []) (λ q. refl) p
before_left start (range ∷ ranges) p h =
    sym (place_then (is_covered ranges) range.from range.to (λ q l. before_all range.to ranges q h.2 l) (before_of ranges (passing range p)))
    ∙ ap (place_removed range.from (range.to - range.from)) (before_left range.to ranges (passing range p) h.2)
    ∙ back_in range p h.1

-- and stays
pub before_free : (start : ℕ) (ranges : List Range) (p : ℕ) → RangesFollow start ranges → is_covered ranges (before_of ranges p) ≡ false
before_free start [] p h = refl
before_free start (range ∷ ranges) p h =
    or_from (is_in range (before_of ranges (passing range p))) _ first (before_free range.to ranges (passing range p) h.2)
  where
    out : (p : ℕ) → p < range.from → is_in range p ≡ false
    out p l = grind (arith, nat_tests, l)

    first : is_in range (before_of ranges (passing range p)) ≡ false
    first = split (nat_le range.from p)
        (λ t. let l : range.from ≤ p = grind (arith, nat_tests, t) in
        let more : passing range p ≤ before_of ranges (passing range p) = before_grows ranges (passing range p) in
        in_after range (before_of ranges (passing range p)) (omega (arith, passing_all range p l, more, h.1, l)))
        (λ f. let l : p < range.from = grind (arith, nat_tests, f) in
        let same : before_of ranges (passing range p) ≡ p = ap (before_of ranges) (passing_not range p l) ∙ before_same range.to ranges p h.2 (omega (arith, h.1, l)) in
        ap (is_in range) same ∙ out p l)

-- a place that comes to stand before another stands before it
pub before_within : (removed : ℕ → Bool) (p n m : ℕ) → place_left removed p ≡ m → m < place_left removed n → p < n
before_within removed p n m e l = split (nat_lt p n)
    (λ t. grind (arith, nat_tests, t))
    (λ f. let beyond : n ≤ p = grind (arith, nat_tests, f) in
    absurd (omega (arith, e, l, place_rising removed n p beyond)))

-- RANGES IN A LOOP

-- all ranges are passed
pub passed_all : (ranges : List Range) (i before place : ℕ) → length ranges ≤ i → before_of (drop i ranges) before ≡ before_of ranges place → before ≡ before_of ranges place
passed_all ranges i before place h e = sym (ap (λ l. before_of l before) (drop_all i ranges h)) ∙ e

-- the ranges from one on stand no earlier than what was passed over
pub passed_order : (ranges : List Range) (i p : ℕ) (d : Range) → i < length ranges → RangesFollow p (drop i ranges) → (n : ℕ) → n ≤ p + ((get_or ranges i d).to - (get_or ranges i d).from) → RangesFollow n (drop (i + 1) ranges)
passed_order ranges i p d h k n l =
    let o : RangesFollow p (get_or ranges i d ∷ drop (i + 1) ranges) = subst (RangesFollow p) (drop_more ranges i d h) k in
    order_weaker (get_or ranges i d).to n (drop (i + 1) ranges) (omega (arith, o.0, o.1, l)) o.2

-- one range more is passed
pub before_more : (ranges : List Range) (i p : ℕ) (d : Range) → i < length ranges → before_of (drop i ranges) p ≡ before_of (drop (i + 1) ranges) (passing (get_or ranges i d) p)
before_more ranges i p d h = ap (λ l. before_of l p) (drop_more ranges i d h)

pub left_small : (removed : ℕ → Bool) (p : ℕ) → place_left removed p ≤ p
left_small removed zero = omega arith
left_small removed (suc p) = by (removed p) (left_small removed p)
  where
    by : (b : Bool) → place_left removed p ≤ p → place_left removed p + cond b 0 1 ≤ suc p
    by true h = omega (arith, h)
    by false h = omega (arith, h)

-- a place of what is left and the ends of the ranges are few enough to add
pub all_fit_in : (ranges : List Range) (place n : ℕ) → place < place_left (is_covered ranges) n → All (λ range. range.to ≤ n) ranges → n ≤ MOST_CELLS → All (λ range. place + range.to ≤ 2 ^ 64 - 1) ranges
all_fit_in ranges place n h within few = λ k d lt. omega (arith, left_small (is_covered ranges) n, h, within k d lt, few)
