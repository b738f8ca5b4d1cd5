-- How many tags two lists of counts have together.
use Rattle.std.proofs.Common.{◌≡◌, ℕ, ◌+◌, ◌==◌, ◌<◌, ◌≤◌, nat_lt, false, cond, List, [], ◌∷◌, length, insert, refl, ap, ◌∙◌, arith}
use Rattle.std.proofs.lemmas.Bool.{ltb-true, ltb-false}
use Rattle.std.proofs.lemmas.Bool.Decides.{Decides-eqb}
use Rattle.std.proofs.lemmas.List.Edits.{length-insert}
use Rattle.std.proofs.lemmas.List.Sums.{prefix_len-le-length, sum_by-cons}
use Rattle.rt_tags.specs.declared.toggles.TagCount.{TagCount}
use Rattle.rt_tags.specs.ManyCounts.{is_tag_before}
use Rattle.rt_tags.specs.Toggles.{AreFrom, count_in, more_tags}
use Rattle.rt_tags.proofs.Counts.{inserted, lacks, next, place, share, share_own, with_new}
use Rattle.rt_tags.proofs.Beyond.{within}
use Rattle.rt_tags.proofs.Places.{split}

step : (c : TagCount) (cs ds : List TagCount) → more_tags (c ∷ cs) ds ≡ lacks ds c + more_tags cs ds
step c cs ds = sum_by-cons (lacks ds) c cs

-- a tag that is greater than another has the same count beside that one
apart : (tag low n : ℕ) (ds : List TagCount) → tag < low → count_in low (insert ds (place tag ds) (record { tag = tag; count = n })) ≡ count_in low ds
apart tag low n ds l =
    let w = with_new tag n low (place tag ds) ds in
    let off : (tag == low) ≡ false = split (tag == low) (λ t. let same : tag ≡ low = (Decides-eqb tag low).0 t in absurd (omega (arith, same, l))) (λ f. f) in
    let z : cond (tag == low) n 0 ≡ 0 = ap (λ b. cond b n 0) off in
    omega (arith, w, z)

same_lack : (c : TagCount) (ds es : List TagCount) → count_in c.tag es ≡ count_in c.tag ds → lacks es c ≡ lacks ds c
same_lack c ds es e = ap (λ n. cond (n == 0) 1 0) e

still_more : (tag low n : ℕ) (cs ds : List TagCount) → tag < low → AreFrom low cs → more_tags cs (insert ds (place tag ds) (record { tag = tag; count = n })) ≡ more_tags cs ds
still_more tag low n [] ds l h = refl
still_more tag low n (c ∷ cs) ds l h =
    let es = insert ds (place tag ds) (record { tag = tag; count = n }) in
    let from : low ≤ c.tag = h.0 in
    let a = step c cs es in
    let b = step c cs ds in
    let s = same_lack c ds es (apart tag c.tag n ds (omega (arith, l, from))) in
    let r = still_more tag (c.tag + 1) n cs ds (omega (arith, l, from)) h.2 in
    omega (arith, a, b, s, r)

-- no more than there are tags
pub together : (n low : ℕ) (cs ds : List TagCount) → AreFrom low cs → AreFrom 0 ds → ((tag : ℕ) → n ≤ tag → count_in tag cs ≡ 0) → ((tag : ℕ) → n ≤ tag → count_in tag ds ≡ 0)
    → length ds + more_tags cs ds ≤ n
together n low [] ds h k none_here none_there = let w = within 0 n ds (omega arith) k none_there in omega (arith, w)
together n low (c ∷ cs) ds h k none_here none_there =
    let pos : 0 < c.count = h.1 in
    let own : share c.tag c ≡ c.count = share_own c.tag c refl in
    let e = next c.tag c cs in
    let less : c.tag < n = split (nat_lt c.tag n) (λ t. ltb-true _ _ t) (λ f. let z : count_in c.tag (c ∷ cs) ≡ 0 = none_here c.tag (ltb-false _ _ f) in absurd (omega (arith, z, e, own, pos))) in
    let rest_none : (tag : ℕ) → n ≤ tag → count_in tag cs ≡ 0 = λ tag more. let f = next tag c cs in let z : count_in tag (c ∷ cs) ≡ 0 = none_here tag more in omega (arith, f, z) in
    let s = step c cs ds in
    split (count_in c.tag ds == 0)
    (λ t. let none : count_in c.tag ds ≡ 0 = (Decides-eqb (count_in c.tag ds) 0).0 t in
    let one : lacks ds c ≡ 1 = ap (λ m. cond (m == 0) 1 0) none in
    let es = insert ds (place c.tag ds) (record { tag = c.tag; count = 1 }) in
    let longer : length es ≡ length ds + 1 = length-insert ds (place c.tag ds) (record { tag = c.tag; count = 1 }) (prefix_len-le-length (is_tag_before c.tag) ds) in
    let still = still_more c.tag (c.tag + 1) 1 cs ds (omega arith) h.2 in
    let order = inserted c.tag 0 1 ds k (omega arith) none (omega arith) in
    let off : (tag : ℕ) → n ≤ tag → count_in tag es ≡ 0 = λ tag more. apart c.tag tag 1 ds (omega (arith, less, more)) ∙ none_there tag more in
    let r = together n (c.tag + 1) cs es h.2 order rest_none off in
    omega (arith, s, one, longer, still, r))
    (λ f. let z : lacks ds c ≡ 0 = ap (λ b. cond b 1 0) f in
    let r = together n (c.tag + 1) cs ds h.2 k rest_none none_there in
    omega (arith, s, z, r))
