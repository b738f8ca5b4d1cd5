-- Which tags a walk counts, and how often.
use Rattle.std.proofs.Common.{◌≡◌, ℕ, suc, ◌==◌, ◌+◌, ◌*◌, ◌%◌, ◌<◌, ◌&&◌, not, cond, List, ◌++◌, length, Bool, true, false, refl, sym, ap, subst, ◌∙◌, Option, arith}
use Rattle.std.proofs.lemmas.Bool.Decides.{Decides-eqb}
use Rattle.rt_tags.specs.declared.nodes.Setting.{Setting}
use Rattle.rt_tags.specs.declared.nodes.Node.{Node}
use Rattle.rt_tags.specs.SharedStates.{AreShared, IsThere, Tree, Empty, Branch, at_id, chosen, half, if_so, is_off, puts_on, setting_of}
use Rattle.rt_tags.specs.Borders.{beyond}
use Rattle.rt_tags.proofs.Walking.{times, times_alone, times_append}
use Rattle.rt_tags.proofs.OneId.{IsFull, full_below, none_from}
use Rattle.rt_tags.proofs.Settings.{by_parity, is_same, setting_below, setting_top, not_same, part_even, part_odd}
use Rattle.rt_tags.proofs.Places.{clash, split}

abbrev one_if : Bool → ℕ
one_if b = cond b 1 0

and_true : (a : Bool) → (a && true) ≡ a
and_true true = refl
and_true false = refl

and_false : (a : Bool) → (a && false) ≡ false
and_false true = refl
and_false false = refl

times_one : (b : Bool) (x y : ℕ) → times y (if_so b x) ≡ one_if (b && (x == y))
times_one true x y = times_alone x y
times_one false x y = refl

three : (xs ys zs : List ℕ) (y a b c : ℕ) → times y xs ≡ a → times y ys ≡ b → times y zs ≡ c → times y (xs ++ (ys ++ zs)) ≡ a + (b + c)
three xs ys zs y a b c e f g = times_append y xs (ys ++ zs) ∙ (ap (λ (v : ℕ). times y xs + v) (times_append y ys zs) ∙ (λ j. e j + (f j + g j)))

-- no number is listed that no tag stands for
never : (tree : Tree) (whole : ℕ → ℕ) (test : ℕ → Bool) (y : ℕ) → ((t : ℕ) → whole t ≡ y → ⊥) → times y (chosen whole test tree) ≡ 0
never Empty whole test y h = refl
never (Branch tag m o e) whole test y h =
    three (if_so (puts_on m && test (whole tag)) (whole tag)) (chosen (λ t. whole (2 * t + 1)) test o) (chosen (λ t. whole (2 * t)) test e) y 0 0 0
    (times_one (puts_on m && test (whole tag)) (whole tag) y ∙ ap one_if (ap (λ (b : Bool). (puts_on m && test (whole tag)) && b) (not_same (whole tag) y (h tag)) ∙ and_false (puts_on m && test (whole tag))))
    (never o (λ t. whole (2 * t + 1)) test y (λ t. h (2 * t + 1)))
    (never e (λ t. whole (2 * t)) test y (λ t. h (2 * t)))

off_none : (o : Tree) (t : ℕ) (b : Bool) → (IsThere o t → ⊥) → one_if (puts_on (setting_of o t) && b) ≡ 0
off_none o t b h = ap (λ (v : Option Setting). one_if (puts_on v && b)) (none_from (setting_of o t) h)

by_test : (a b : ℕ) → (a == b) ≡ true → a ≡ b
by_test a b h = (Decides-eqb a b).0 h

-- each tag that is on and passes the test is listed once
pub listed_once : (tree : Tree) → IsFull tree → (whole : ℕ → ℕ) (test : ℕ → Bool) → ((s t : ℕ) → whole s ≡ whole t → s ≡ t) → (t : ℕ) → times (whole t) (chosen whole test tree) ≡ one_if (puts_on (setting_of tree t) && test (whole t))
listed_once Empty full whole test inj t = refl
listed_once (Branch tag m o e) full whole test inj t =
    let one = if_so (puts_on m && test (whole tag)) (whole tag) in
    let odds = chosen (λ s. whole (2 * s + 1)) test o in
    let evens = chosen (λ s. whole (2 * s)) test e in
    let y = whole t in
    let first : times y one ≡ one_if ((puts_on m && test (whole tag)) && (whole tag == y)) = times_one (puts_on m && test (whole tag)) (whole tag) y in
    -- a part lists the tag as its half, if it is of the part
    let in_odds = λ (r : t % 2 ≡ 1).
    let k : 2 * half t + 1 ≡ t = omega arith in
    let a = listed_once o full.1 (λ s. whole (2 * s + 1)) test (λ s u q. let z : 2 * s + 1 ≡ 2 * u + 1 = inj (2 * s + 1) (2 * u + 1) q in omega arith) (half t) in
    subst (λ (x : ℕ). times (whole x) odds ≡ one_if (puts_on (setting_of o (half t)) && test (whole x))) k a in
    let in_evens = λ (r : t % 2 ≡ 0).
    let k : 2 * half t ≡ t = omega arith in
    let a = listed_once e full.2 (λ s. whole (2 * s)) test (λ s u q. let z : 2 * s ≡ 2 * u = inj (2 * s) (2 * u) q in omega arith) (half t) in
    subst (λ (x : ℕ). times (whole x) evens ≡ one_if (puts_on (setting_of e (half t)) && test (whole x))) k a in
    let no_odds = λ (r : t % 2 ≡ 0). never o (λ s. whole (2 * s + 1)) test y (λ s q. let z : 2 * s + 1 ≡ t = inj (2 * s + 1) t q in absurd (omega arith)) in
    let no_evens = λ (r : t % 2 ≡ 1). never e (λ s. whole (2 * s)) test y (λ s q. let z : 2 * s ≡ t = inj (2 * s) t q in absurd (omega arith)) in
    split (t == tag)
    (λ y1.
    let k : t ≡ tag = by_test t tag y1 in
    let here : times y one ≡ one_if (puts_on m && test y) =
    first ∙ ap one_if ((λ j. (puts_on m && test (whole (sym k j))) && (whole (sym k j) == y)) ∙ (ap (λ (b : Bool). (puts_on m && test y) && b) (is_same y y refl) ∙ and_true (puts_on m && test y))) in
    let no_o : times y odds ≡ 0 = by_parity t
    (λ r. in_odds r ∙ off_none o (half t) (test y) (λ is. let w : tag < 2 * half t + 1 = full.0.odd (half t) is in absurd (omega arith)))
    no_odds in
    let no_e : times y evens ≡ 0 = by_parity t
    no_evens
    (λ r. in_evens r ∙ off_none e (half t) (test y) (λ is. let w : tag < 2 * half t = full.0.even (half t) is in absurd (omega arith))) in
    let sum = three one odds evens y (one_if (puts_on m && test y)) 0 0 here no_o no_e in
    let left : one_if (puts_on m && test y) + (0 + 0) ≡ one_if (puts_on m && test y) = omega arith in
    sum ∙ (left ∙ ap (λ (v : Option Setting). one_if (puts_on v && test y)) (sym (setting_top tag m o e t k))))
    (λ n.
    let apart : t ≡ tag → ⊥ = λ k. clash (t == tag) (is_same t tag k) n in
    let here : times y one ≡ 0 =
    first ∙ ap one_if (ap (λ (b : Bool). (puts_on m && test (whole tag)) && b) (not_same (whole tag) y (λ q. apart (sym (inj tag t q)))) ∙ and_false (puts_on m && test (whole tag))) in
    let below = setting_below tag m o e t apart in
    by_parity t
    (λ r.
    let left : 0 + (one_if (puts_on (setting_of o (half t)) && test y) + 0) ≡ one_if (puts_on (setting_of o (half t)) && test y) = omega arith in
    three one odds evens y 0 (one_if (puts_on (setting_of o (half t)) && test y)) 0 here (in_odds r) (no_evens r)
    ∙ (left ∙ ap (λ (v : Option Setting). one_if (puts_on v && test y)) (sym (below ∙ part_odd o e t r))))
    (λ r.
    let left : 0 + (0 + one_if (puts_on (setting_of e (half t)) && test y)) ≡ one_if (puts_on (setting_of e (half t)) && test y) = omega arith in
    three one odds evens y 0 0 (one_if (puts_on (setting_of e (half t)) && test y)) here (no_odds r) (in_evens r)
    ∙ (left ∙ ap (λ (v : Option Setting). one_if (puts_on v && test y)) (sym (below ∙ part_even o e t r)))))

beyond_is : (a b : Bool) → one_if (a && not b) ≡ beyond a b
beyond_is true true = refl
beyond_is true false = refl
beyond_is false b = refl

pub beyond_once : (nodes : List Node) (here there : ℕ) → AreShared nodes → here < length nodes → (tag : ℕ)
    → times tag (chosen (λ t. t) (is_off (at_id nodes there)) (at_id nodes here)) ≡ beyond (puts_on (setting_of (at_id nodes here) tag)) (puts_on (setting_of (at_id nodes there) tag))
beyond_once nodes here there are w tag =
    listed_once (at_id nodes here) (full_below (suc here) here nodes are (omega arith) w) (λ t. t) (is_off (at_id nodes there)) (λ s t e. e) tag
    ∙ beyond_is (puts_on (setting_of (at_id nodes here) tag)) (puts_on (setting_of (at_id nodes there) tag))

whole : (t : ℕ) → t * 1 + 0 ≡ t
whole t = omega arith

pub beyond_whole : (nodes : List Node) (here there : ℕ) → AreShared nodes → here < length nodes → (tag : ℕ)
    → times tag (chosen (λ t. t * 1 + 0) (is_off (at_id nodes there)) (at_id nodes here)) ≡ beyond (puts_on (setting_of (at_id nodes here) tag)) (puts_on (setting_of (at_id nodes there) tag))
beyond_whole nodes here there are w tag = (λ j. times tag (chosen (λ t. whole t j) (is_off (at_id nodes there)) (at_id nodes here))) ∙ beyond_once nodes here there are w tag
