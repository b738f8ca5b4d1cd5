-- Lists of elements, place by place.
use Rattle.std.proofs.Common.{◌≡◌, ℕ, zero, suc, ◌+◌, ◌<◌, ◌≤◌, ◌==◌, ◌&&◌, nat_lt, not, List, [], ◌∷◌, ◌++◌, filter, true, false, refl, sym, ap, ◌∙◌, Bool, cond, arith}
use Rattle.std.specs.List.{All, range_with_len}
use Rattle.std.specs.List.Sorted.{IsNonDecreasingBy, IsStableByKey, ties}
use Rattle.std.specs.Ordering.{is_lt, nat_cmp}
use Rattle.std.specs.declared.cmp.Ordering.TheVariants.{Less, Equal, Greater}
use Rattle.std.proofs.lemmas.Bool.Decides.{nat_tests}
use Rattle.std.proofs.lemmas.List.Elements.{All-head, All-tail, filter_agree}
use Rattle.std.proofs.lemmas.List.Sorted.{IsNonDecreasingBy-drop}
use Rattle.rt_tagcmd.specs.declared.element.Key.TheVariants.{Text}
use Rattle.rt_tagcmd.specs.Elements.{Placed, by_place, element_at, is_at_place}
use Rattle.rt_tagcmd.proofs.Bools.{split}

-- AT ONE PLACE

pub is_at : (p q : ℕ) → p ≡ q → (p == q) ≡ true
is_at p q e = grind (arith, nat_tests)

pub isnt_at : (p q : ℕ) → (p ≡ q → ⊥) → (p == q) ≡ false
isnt_at p q e = grind (arith, nat_tests)

pub at_is : (p q : ℕ) → (p == q) ≡ true → p ≡ q
at_is p q e = grind (arith, nat_tests)

pub at_isnt : (p q : ℕ) → (p == q) ≡ false → p ≡ q → ⊥
at_isnt p q e = grind (arith, nat_tests)

-- an element that stands elsewhere isn't among those of a place
pub elsewhere : (p : ℕ) (e : Placed) (es : List Placed) → is_at_place p e ≡ false → filter (is_at_place p) (e ∷ es) ≡ filter (is_at_place p) es
elsewhere p e es f = ap (λ b. cond b (e ∷ filter (is_at_place p) es) (filter (is_at_place p) es)) f

pub here : (p : ℕ) (e : Placed) (es : List Placed) → is_at_place p e ≡ true → filter (is_at_place p) (e ∷ es) ≡ e ∷ filter (is_at_place p) es
here p e es t = ap (λ b. cond b (e ∷ filter (is_at_place p) es) (filter (is_at_place p) es)) t

none_at : (p : ℕ) (es : List Placed) → All (λ e. p < e.place) es → filter (is_at_place p) es ≡ []
none_at p [] h = refl
none_at p (e ∷ es) h =
    let far : p < e.place = All-head (λ e. p < e.place) e es h in
    elsewhere p e es (isnt_at e.place p (λ s. omega arith)) ∙ none_at p es (All-tail (λ e. p < e.place) e es h)

-- OVER A RANGE OF PLACES

-- lists that have the same at each place of a range
pub same_places : (n a : ℕ) (xs ys : List Placed) → ((p : ℕ) → a ≤ p → p < a + n → filter (is_at_place p) xs ≡ filter (is_at_place p) ys) → by_place (range_with_len a n) xs ≡ by_place (range_with_len a n) ys
same_places zero a xs ys h = refl
same_places (suc n) a xs ys h =
    let first : filter (is_at_place a) xs ≡ filter (is_at_place a) ys = h a (omega arith) (omega arith) in
    let rest = same_places n (a + 1) xs ys (λ p l k. h p (omega arith) (omega arith)) in
    λ i. first i ++ rest i

none_by_place : (ps : List ℕ) → by_place ps [] ≡ []
none_by_place [] = refl
none_by_place (p ∷ ps) = none_by_place ps

-- ELEMENTS WHOSE PLACES RISE

head_least : (y : Placed) (ys : List Placed) → IsNonDecreasingBy (λ e. e.place) (y ∷ ys) → All (λ e. y.place ≤ e.place) (y ∷ ys)
head_least y ys r k d h = r 0 k d (omega arith) h

-- they stand as they do place by place
pub spread : (n from : ℕ) (ys : List Placed) → IsNonDecreasingBy (λ e. e.place) ys → All (λ e. from ≤ e.place) ys → All (λ e. e.place < from + n) ys → ys ≡ by_place (range_with_len from n) ys
spread zero from [] r l h = refl
spread zero from (y ∷ ys) r l h =
    let low : from ≤ y.place = All-head (λ e. from ≤ e.place) y ys l in
    let high : y.place < from + zero = All-head (λ e. e.place < from + zero) y ys h in
    absurd (omega arith)
spread (suc n) from [] r l h = sym (none_by_place (range_with_len from (suc n)))
spread (suc n) from (y ∷ ys) r l h =
    let low : from ≤ y.place = All-head (λ e. from ≤ e.place) y ys l in
    let rest = range_with_len (from + 1) n in
    split (is_at_place from y)
    (λ t.
    let same : y.place ≡ from = at_is y.place from t in
    let more : ys ≡ filter (is_at_place from) ys ++ by_place rest ys =
    spread (suc n) from ys (IsNonDecreasingBy-drop (λ e. e.place) 1 (y ∷ ys) r) (All-tail (λ e. from ≤ e.place) y ys l) (All-tail (λ e. e.place < from + suc n) y ys h) in
    let others : by_place rest (y ∷ ys) ≡ by_place rest ys = same_places n (from + 1) (y ∷ ys) ys (λ p a b. elsewhere p y ys (isnt_at y.place p (λ s. omega arith))) in
    ap (λ v. y ∷ v) more ∙ (λ i. sym (here from y ys t) i ++ sym others i))
    (λ f.
    let far : from < y.place = by_far (at_isnt y.place from f) low in
    let none : filter (is_at_place from) (y ∷ ys) ≡ [] = none_at from (y ∷ ys) (λ k d b. further far (head_least y ys r k d b)) in
    let more : y ∷ ys ≡ by_place rest (y ∷ ys) = spread n (from + 1) (y ∷ ys) r (λ k d b. next far (head_least y ys r k d b)) (λ k d b. within (h k d b)) in
    more ∙ ap (λ v. v ++ by_place rest (y ∷ ys)) (sym none))
  where
    by_far : (y.place ≡ from → ⊥) → from ≤ y.place → from < y.place
    by_far e l = omega arith

    further : {q : ℕ} → from < y.place → y.place ≤ q → from < q
    further a b = omega arith

    next : {q : ℕ} → from < y.place → y.place ≤ q → from + 1 ≤ q
    next a b = omega arith

    within : {q : ℕ} → q < from + suc n → q < from + 1 + n
    within a = omega arith

-- A STABLE SORT

lt_is : (a b : Bool) → is_lt (cond a Less (cond b Equal Greater)) ≡ a
lt_is true b = refl
lt_is false true = refl
lt_is false false = refl

tie_is : (p q : ℕ) → (q == p) ≡ (not (nat_lt p q) && not (nat_lt q p))
tie_is p q = grind (arith, nat_tests)

-- it keeps what stands at each place
pub same_at : (xs ys : List Placed) → IsStableByKey (λ e. e.place) nat_cmp xs ys → (p : ℕ) → filter (is_at_place p) ys ≡ filter (is_at_place p) xs
same_at xs ys stable p =
    let test : Placed → Bool = λ e. ties (λ (x : Placed) (y : Placed). is_lt (nat_cmp x.place y.place)) (element_at Text [] p) e in
    let agree : (e : Placed) → is_at_place p e ≡ test e =
    λ e. tie_is p e.place ∙ (λ i. not (sym (lt_is (nat_lt p e.place) (p == e.place)) i) && not (sym (lt_is (nat_lt e.place p) (e.place == p)) i)) in
    filter_agree (is_at_place p) test agree ys ∙ stable (element_at Text [] p) ∙ sym (filter_agree (is_at_place p) test agree xs)
