-- The last of some counts, moved to its place among the first.
use Rattle.std.proofs.Common.{◌≡◌, ℕ, zero, suc, ◌+◌, ◌<◌, ◌≤◌, List, [], ◌∷◌, length, get_or, drop, take, insert, refl, sym, ap, subst, ◌∙◌, arith}
use Rattle.std.specs.List.{sum_by}
use Rattle.std.proofs.lemmas.List.{drop_all, length-take-le, take-take}
use Rattle.std.proofs.lemmas.List.Edits.{length-insert}
use Rattle.std.proofs.lemmas.List.Sums.{sum_by-drop_more, sum_by-insert, sum_by-take-drop}
use Rattle.rt_tags.specs.declared.toggles.TagCount.{TagCount}
use Rattle.rt_tags.specs.ManyCounts.{ArePlaced}
use Rattle.rt_tags.specs.Toggles.{AreFrom, count_in}
use Rattle.rt_tags.proofs.Counts.{inserted, place}
use Rattle.rt_tags.proofs.ManyCounts.{empties, empty, full, not_there, own, own_is, parts, times}

front_insert : {A : Type 0} (n at : ℕ) (xs : List A) (x : A) → at ≤ n → n ≤ length xs → take (n + 1) (insert xs at x) ≡ insert (take n xs) at x
front_insert n zero xs x l w = let e : suc n ≡ n + 1 = omega arith in subst (λ (m : ℕ). take m (x ∷ xs) ≡ x ∷ take n xs) e refl
front_insert n (suc at) [] x l w = absurd (omega (arith, l, w))
front_insert zero (suc at) (y ∷ xs) x l w = absurd (omega (arith, l))
front_insert (suc n) (suc at) (y ∷ xs) x l w =
    let e : suc (n + 1) ≡ suc n + 1 = omega arith in
    subst (λ (m : ℕ). take m (y ∷ insert xs at x) ≡ y ∷ insert (take n xs) at x) e (ap (λ v. y ∷ v) (front_insert n at xs x (omega (arith, l)) (omega (arith, w))))

-- what all tell is what all but the last tell, and what the last tells
but_last : (f : TagCount → ℕ) (cs : List TagCount) (k : ℕ) (c : TagCount) → k + 1 ≡ length cs → c ≡ get_or cs k c → sum_by f cs ≡ sum_by f (take k cs) + f c
but_last f cs k c e is =
    let a = sum_by-take-drop f cs k in
    let b : sum_by f (drop k cs) ≡ f c + sum_by f (drop (k + 1) cs) = sum_by-drop_more f cs k c (omega (arith, e)) ∙ ap (λ d. f d + sum_by f (drop (k + 1) cs)) (sym is) in
    let z : sum_by f (drop (k + 1) cs) ≡ 0 = ap (sum_by f) (drop_all (k + 1) cs (omega (arith, e))) in
    omega (arith, a, b, z)

pub placed_last : (n k at : ℕ) (cs : List TagCount) (c : TagCount) → ArePlaced n cs → n ≤ k → k + 1 ≡ length cs → c ≡ get_or cs k c → at ≡ place c.tag (take n (take k cs)) → at ≤ n → ArePlaced (n + 1) (insert (take k cs) at c)
placed_last n k at cs c h l e is p w =
    let ys = take k cs in
    let len : length ys ≡ k = length-take-le k cs (omega (arith, e)) in
    let some : 0 < c.count = (
    let z : empties cs ≡ 0 = h.once.some in
    let s : empties cs ≡ empties ys + empty c = but_last empty cs k c e is in
    full c (omega (arith, z, s))) in
    let none : count_in c.tag ys ≡ 0 = (
    let m : times c.tag cs ≤ 1 = h.once.once c.tag in
    let s : times c.tag cs ≡ times c.tag ys + own c.tag c = but_last (own c.tag) cs k c e is in
    let o = own_is c.tag c refl in
    not_there c.tag ys (omega (arith, m, s, o))) in
    let none_first : count_in c.tag (take n ys) ≡ 0 = (let q = parts c.tag n ys in omega (arith, q, none)) in
    let first : AreFrom 0 (take n ys) = subst (AreFrom 0) (sym (take-take n k cs l)) h.order in
    record {
      within = (let g = length-insert ys at c (omega (arith, w, l, len)) in omega (arith, g, len, l));
      order = subst (AreFrom 0) (sym (front_insert n at ys c w (omega (arith, len, l)) ∙ ap (λ i. insert (take n ys) i c) p))
          (inserted c.tag 0 c.count (take n ys) first (omega arith) none_first some);
      once = record {
        once = λ tag. (
            let m : times tag cs ≤ 1 = h.once.once tag in
            let s : times tag cs ≡ times tag ys + own tag c = but_last (own tag) cs k c e is in
            let g : times tag (insert ys at c) ≡ times tag ys + own tag c = sum_by-insert (own tag) ys at c in
            omega (arith, m, s, g));
        some = (
            let z : empties cs ≡ 0 = h.once.some in
            let s : empties cs ≡ empties ys + empty c = but_last empty cs k c e is in
            let g : empties (insert ys at c) ≡ empties ys + empty c = sum_by-insert empty ys at c in
            omega (arith, z, s, g));
      };
    }
