-- Removals of characters here and there, as removals of ranges one after the other.
use Rattle.std.proofs.Common.{◌≡◌, ℕ, zero, suc, ◌+◌, ◌-◌, ◌<◌, ◌≤◌, ◌&&◌, ◌||◌, nat_lt, nat_le, List, [], ◌∷◌, map, option_map, true, false, refl, sym, ap, ◌∙◌, Bool, cond, arith}
use Rattle.std.specs.List.{AllByRecursion}
use Rattle.std.proofs.lemmas.Bool.Decides.{nat_tests}
use Rattle.rt_marks.specs.Marks.{Mark, comes_before, AreInOrder, HaveOwnNames, mark_of_name, with_mark, in_order, place_removed, mark_removed, marks_removed, place_left, mark_left, marks_left, is_within_or}
use Rattle.rt_marks.proofs.InOrder.{split, with_passing, with_here, with_comm, in_order_same, each_in_order}
use Rattle.rt_marks.proofs.Names.{named_in_order}
use Rattle.rt_marks.proofs.Moving.{moved, named_moved, own_moved}

-- places before all that are removed stay
left_low : (later : ℕ → Bool) (to : ℕ) → ((p : ℕ) → p < to → later p ≡ false) → (p : ℕ) → p ≤ to → place_left later p ≡ p
left_low later to h zero l = refl
left_low later to h (suc p) l =
    let more = left_low later to h p (omega (arith, l)) in
    let f = h p (omega (arith, l)) in
    rw f (omega (arith, more))

left_high : (later : ℕ → Bool) (to : ℕ) → ((p : ℕ) → p < to → later p ≡ false) → (p : ℕ) → to ≤ p → to ≤ place_left later p
left_high later to h zero l = l
left_high later to h (suc p) l =
    split (nat_lt p to)
    (λ t. let e : suc p ≡ to = grind (arith, nat_tests) in
    let same = left_low later to h (suc p) (omega (arith, e)) in omega (arith, same, e))
    (λ f. let more = left_high later to h p (grind (arith, nat_tests)) in omega (arith, more))

low : (from to p : ℕ) (x : Bool) → nat_lt p to ≡ true → x ≡ false → place_removed from (to - from) (p + cond x 0 1) ≡ place_removed from (to - from) p + cond ((nat_le from p && nat_lt p to) || x) 0 1
low from to p x h f = rw f (grind (arith, nat_tests))

high : (from to l p : ℕ) (x : Bool) → nat_lt p to ≡ false → to ≤ l → place_removed from (to - from) (l + cond x 0 1) ≡ place_removed from (to - from) l + cond ((nat_le from p && nat_lt p to) || x) 0 1
high from to l p true h k = grind (arith, nat_tests)
high from to l p false h k = grind (arith, nat_tests)

-- Characters that stand behind a range are removed first, and then the range.
pub place_then : (later : ℕ → Bool) (from to : ℕ) → ((p : ℕ) → p < to → later p ≡ false) → (p : ℕ) → place_removed from (to - from) (place_left later p) ≡ place_left (is_within_or from to later) p
place_then later from to h zero = grind (arith, nat_tests)
place_then later from to h (suc p) =
    let more = place_then later from to h p in
    let n = to - from in
    let then = ap (λ v. v + cond (is_within_or from to later p) 0 1) more in
    split (nat_lt p to)
    (λ t. let same = left_low later to h p (grind (arith, nat_tests)) in
    ap (λ v. place_removed from n (v + cond (later p) 0 1)) same
    ∙ low from to p (later p) t (h p (grind (arith, nat_tests)))
    ∙ ap (λ v. place_removed from n v + cond (is_within_or from to later p) 0 1) (sym same) ∙ then)
    (λ f. high from to (place_left later p) p (later p) f (left_high later to h p (grind (arith, nat_tests))) ∙ then)

-- MARKS

-- marks that are put in order before they are changed are put in order anew
with_then : (g : Mark → Mark) (m : Mark) (marks : List Mark) → in_order (map g (with_mark m marks)) ≡ with_mark (g m) (in_order (map g marks))
with_then g m [] = refl
with_then g m (x ∷ marks) =
    let more = with_then g m marks in
    split (comes_before x m)
    (λ t. ap (λ v. in_order (map g v)) (with_passing m x marks t) ∙ ap (with_mark (g x)) more ∙ with_comm (g x) (g m) (in_order (map g marks)))
    (λ f. ap (λ v. in_order (map g v)) (with_here m x marks f))

pub in_order_then : (g : Mark → Mark) (marks : List Mark) → in_order (map g (in_order marks)) ≡ in_order (map g marks)
in_order_then g [] = refl
in_order_then g (m ∷ marks) = with_then g m (in_order marks) ∙ ap (with_mark (g m)) (in_order_then g marks)

-- each mark is changed twice, as another change does at once
both_at_once : (f g k : Mark → Mark) → ((m : Mark) → g (f m) ≡ k m) → (marks : List Mark) → map g (map f marks) ≡ map k marks
both_at_once f g k h [] = refl
both_at_once f g k h (m ∷ marks) = λ i. h m i ∷ both_at_once f g k h marks i

pub marks_then : (later : ℕ → Bool) (from to : ℕ) → ((p : ℕ) → p < to → later p ≡ false) → (marks : List Mark) → marks_removed from (to - from) (marks_left later marks) ≡ marks_left (is_within_or from to later) marks
marks_then later from to h marks =
    let n = to - from in
    in_order_then (mark_removed from n) (map (mark_left later) marks)
    ∙ ap in_order (both_at_once (mark_left later) (mark_removed from n) (mark_left (is_within_or from to later)) (λ m. λ i. record m { place = place_then later from to h m.place i }) marks)

-- nothing is removed
pub place_kept : (removed : ℕ → Bool) → ((p : ℕ) → removed p ≡ false) → (p : ℕ) → place_left removed p ≡ p
place_kept removed h p = left_low removed p (λ q l. h q) p (omega arith)

pub marks_kept : (removed : ℕ → Bool) → ((p : ℕ) → removed p ≡ false) → (marks : List Mark) → AreInOrder marks → marks_left removed marks ≡ marks
marks_kept removed h marks o = ap in_order (each_kept marks) ∙ in_order_same marks o where
  each_kept : (marks : List Mark) → map (mark_left removed) marks ≡ marks
  each_kept [] = refl
  each_kept (m ∷ marks) = λ i. record m { place = place_kept removed h m.place i } ∷ each_kept marks i

-- a place that isn't behind another isn't behind it then
pub place_rising : (removed : ℕ → Bool) (p q : ℕ) → p ≤ q → place_left removed p ≤ place_left removed q
place_rising removed p zero l = let e : p ≡ 0 = omega (arith, l) in rw e (omega arith)
place_rising removed p (suc q) l =
    split (nat_le p q)
    (λ t. let more = place_rising removed p q (grind (arith, nat_tests)) in omega (arith, more))
    (λ f. let e : p ≡ suc q = grind (arith, nat_tests) in rw e (omega arith))

pub within_left : (removed : ℕ → Bool) (size : ℕ) (marks : List Mark) → AllByRecursion (λ m. m.place ≤ size) marks → AllByRecursion (λ m. m.place ≤ place_left removed size) (marks_left removed marks)
within_left removed size marks h = each_in_order (λ m. m.place ≤ place_left removed size) (map (mark_left removed) marks) (all marks h) where
  all : (marks : List Mark) → AllByRecursion (λ m. m.place ≤ size) marks → AllByRecursion (λ m. m.place ≤ place_left removed size) (map (mark_left removed) marks)
  all [] h = tt
  all (m ∷ marks) h = (place_rising removed m.place size h.0, all marks h.1)

pub named_left : (removed : ℕ → Bool) (q : List ℕ) (marks : List Mark) → HaveOwnNames marks → mark_of_name q (marks_left removed marks) ≡ option_map (mark_left removed) (mark_of_name q marks)
named_left removed q marks h =
    let to : Mark → ℕ = λ m. place_left removed m.place in
    named_in_order (map (moved to) marks) (own_moved to marks h) q ∙ named_moved to q marks
