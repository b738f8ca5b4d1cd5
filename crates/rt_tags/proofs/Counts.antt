-- The counts of tags in order.
use Rattle.std.proofs.Common.{◌≡◌, ◌≢◌, ℕ, zero, suc, ◌+◌, ◌-◌, ◌==◌, ◌<◌, ◌≤◌, Bool, true, false, cond, List, [], ◌∷◌, length, get_or, drop, take, set, insert, remove, refl, sym, ap, subst, ◌∙◌, arith, eq-eqb, nat_lt}
use Rattle.std.specs.List.{prefix_len}
use Rattle.std.specs.List.Sorted.{IsPartitionedBy}
use Rattle.std.proofs.lemmas.Bool.{lt-ltb, le-ltb, ltb-true, ltb-false}
use Rattle.std.proofs.lemmas.Bool.Decides.{Decides-eqb}
use Rattle.std.proofs.lemmas.List.Sums.{sum_by-cons, sum_by-drop_more, sum_by-insert, sum_by-remove, sum_by-set, sum_by-take-drop}
use Rattle.rt_tags.specs.declared.toggles.TagCount.{TagCount}
use Rattle.rt_tags.specs.ManyCounts.{is_tag_before}
use Rattle.rt_tags.specs.Toggles.{AreFrom, HasRoomFor, TagCounts, count_in, more_tags}
use Rattle.rt_tags.proofs.Places.{split}

-- what an entry tells of a tag
abbrev pub share : ℕ → TagCount → ℕ
share tag c = cond (c.tag == tag) c.count 0

other : (a b : ℕ) → a ≢ b → (a == b) ≡ false
other a b ne = split (a == b) (λ t. absurd (ne ((Decides-eqb a b).0 t))) (λ f. f)

pub share_own : (tag : ℕ) (c : TagCount) → c.tag ≡ tag → share tag c ≡ c.count
share_own tag c e = ap (λ b. cond b c.count 0) (eq-eqb c.tag tag e)

pub share_other : (tag : ℕ) (c : TagCount) → c.tag ≢ tag → share tag c ≡ 0
share_other tag c ne = ap (λ b. cond b c.count 0) (other c.tag tag ne)

pub next : (tag : ℕ) (c : TagCount) (cs : List TagCount) → count_in tag (c ∷ cs) ≡ share tag c + count_in tag cs
next tag c cs = sum_by-cons (share tag) c cs

-- FROM A NUMBER ON

pub weaken : (low high : ℕ) (cs : List TagCount) → low ≤ high → AreFrom high cs → AreFrom low cs
weaken low high [] l h = tt
weaken low high (c ∷ cs) l h = (omega (arith, h.0), h.1, h.2)

pub none_below : (tag low : ℕ) (cs : List TagCount) → AreFrom low cs → tag < low → count_in tag cs ≡ 0
none_below tag low [] h l = refl
none_below tag low (c ∷ cs) h l =
    let s : share tag c ≡ 0 = share_other tag c (omega (arith, h.0)) in
    let r : count_in tag cs ≡ 0 = none_below tag (c.tag + 1) cs h.2 (omega (arith, h.0)) in
    next tag c cs ∙ omega (arith, s, r)

later : (low : ℕ) (cs : List TagCount) → AreFrom low cs → (j : ℕ) (d : TagCount) → j < length cs → low ≤ (get_or cs j d).tag
later low [] h j d k = absurd (omega (arith, k))
later low (c ∷ cs) h zero d k = h.0
later low (c ∷ cs) h (suc j) d k = let r = later (c.tag + 1) cs h.2 j d (omega (arith, k)) in omega (arith, r, h.0)

-- they are parted by a tag
pub parted : (tag low : ℕ) (cs : List TagCount) → AreFrom low cs → IsPartitionedBy (is_tag_before tag) cs
parted tag low [] s i j d h k e = absurd (omega (arith, k))
parted tag low (c ∷ cs) s zero zero d h k e = e
parted tag low (c ∷ cs) s zero (suc j) d h k e =
    let l : (get_or cs j d).tag < tag = ltb-true _ _ e in
    let r : c.tag + 1 ≤ (get_or cs j d).tag = later (c.tag + 1) cs s.2 j d (omega (arith, k)) in
    lt-ltb c.tag tag (omega (arith, l, r))
parted tag low (c ∷ cs) s (suc i) zero d h k e = absurd (omega (arith, h))
parted tag low (c ∷ cs) s (suc i) (suc j) d h k e = parted tag (c.tag + 1) cs s.2 i j d (omega (arith, h)) (omega (arith, k)) e

-- THE COUNT OF A TAG

abbrev pub place : ℕ → List TagCount → ℕ
place tag cs = prefix_len (is_tag_before tag) cs

grow : (n : ℕ) → 1 + n ≡ suc n
grow n = omega arith

-- the place is in front of a greater tag, at the tag or behind a lesser one
pub place_next : (tag : ℕ) (c : TagCount) (cs : List TagCount) → c.tag < tag → place tag (c ∷ cs) ≡ suc (place tag cs)
place_next tag c cs l = ap (λ b. cond b (1 + place tag cs) 0) (lt-ltb c.tag tag l) ∙ grow (place tag cs)

pub place_here : (tag : ℕ) (c : TagCount) (cs : List TagCount) → tag ≤ c.tag → place tag (c ∷ cs) ≡ 0
place_here tag c cs l = ap (λ b. cond b (1 + place tag cs) 0) (le-ltb c.tag tag l)

pub by_order : {A : Type 0} (a b : ℕ) → (a < b → A) → (a ≡ b → A) → (b < a → A) → A
by_order a b f g h =
    split (nat_lt a b) (λ t. f (ltb-true a b t))
    (λ n. split (nat_lt b a) (λ t. h (ltb-true b a t)) (λ m. let x = ltb-false a b n in let y = ltb-false b a m in g (omega (arith, x, y))))

-- a tag that has a count stands at its place
pub record Stands (tag : ℕ) (cs : List TagCount) : Type 0 where
  pub within : place tag cs < length cs
  pub is : (d : TagCount) → get_or cs (place tag cs) d ≡ record { tag = tag; count = count_in tag cs }

pub stands : (tag low : ℕ) (cs : List TagCount) → AreFrom low cs → 0 < count_in tag cs → Stands tag cs
stands tag low [] h l = absurd (omega (arith, l))
stands tag low (c ∷ cs) h l =
    by_order c.tag tag
    (λ less. let z : share tag c ≡ 0 = share_other tag c (omega (arith, less)) in
    let all : count_in tag (c ∷ cs) ≡ count_in tag cs = next tag c cs ∙ omega (arith, z) in
    let r = stands tag (c.tag + 1) cs h.2 (omega (arith, l, all)) in
    let p = place_next tag c cs less in
    record { within = omega (arith, p, r.within); is = λ d. ap (λ i. get_or (c ∷ cs) i d) p ∙ r.is d ∙ ap (λ n. record { tag = tag; count = n }) (sym all) })
    (λ same. let z : share tag c ≡ c.count = share_own tag c same in
    let none : count_in tag cs ≡ 0 = none_below tag (c.tag + 1) cs h.2 (omega (arith, same)) in
    let all : c.count ≡ count_in tag (c ∷ cs) = sym (next tag c cs ∙ omega (arith, z, none)) in
    let p = place_here tag c cs (omega (arith, same)) in
    record { within = omega (arith, p); is = λ d. ap (λ i. get_or (c ∷ cs) i d) p ∙ ap (λ t. record { tag = t; count = c.count }) same ∙ ap (λ n. record { tag = tag; count = n }) all })
    (λ more. let z : count_in tag (c ∷ cs) ≡ 0 = none_below tag (tag + 1) (c ∷ cs) ((omega (arith, more)), h.1, h.2) (omega arith) in
    absurd (omega (arith, l, z)))

-- each entry tells the count of its tag
pub tells : (low i : ℕ) (cs : List TagCount) (d e : TagCount) → AreFrom low cs → i < length cs → (get_or cs i e).count ≡ count_in (get_or cs i d).tag cs
tells low i [] d e h l = absurd (omega (arith, l))
tells low zero (c ∷ cs) d e h l =
    let own : share c.tag c ≡ c.count = share_own c.tag c refl in
    let none : count_in c.tag cs ≡ 0 = none_below c.tag (c.tag + 1) cs h.2 (omega arith) in
    sym (next c.tag c cs ∙ omega (arith, own, none))
tells low (suc i) (c ∷ cs) d e h l =
    let t = (get_or cs i d).tag in
    let more : c.tag + 1 ≤ t = later (c.tag + 1) cs h.2 i d (omega (arith, l)) in
    let none : share t c ≡ 0 = share_other t c (omega (arith, more)) in
    let r : (get_or cs i e).count ≡ count_in t cs = tells (c.tag + 1) i cs d e h.2 (omega (arith, l)) in
    sym (next t c cs ∙ omega (arith, none, r))

pub tells_none : (tag : ℕ) (cs : List TagCount) (at : ℕ) (d : TagCount) → AreFrom 0 cs → at ≡ place tag cs → (at < length cs → (get_or cs at d).tag ≢ tag) → 0 ≡ count_in tag cs
tells_none tag cs at d h p ne =
    split (nat_lt 0 (count_in tag cs))
    (λ t. let s = stands tag 0 cs h (ltb-true _ _ t) in
    absurd (ne (omega (arith, p, s.within)) (ap (λ i. (get_or cs i d).tag) p ∙ ap (λ c. c.tag) (s.is d))))
    (λ f. let z = ltb-false _ _ f in omega (arith, z))

-- CHANGES

-- one entry more, at its tag's place
pub inserted : (tag low n : ℕ) (cs : List TagCount) → AreFrom low cs → low ≤ tag → count_in tag cs ≡ 0 → 0 < n → AreFrom low (insert cs (place tag cs) (record { tag = tag; count = n }))
inserted tag low n [] h l z pos = (l, pos, tt)
inserted tag low n (c ∷ cs) h l z pos =
    let sum : share tag c + count_in tag cs ≡ 0 = sym (next tag c cs) ∙ z in
    by_order c.tag tag
    (λ less. let r = inserted tag (c.tag + 1) n cs h.2 (omega (arith, less)) (omega (arith, sum)) pos in
    rw (place_next tag c cs less) (h.0, h.1, r))
    (λ same. let own : share tag c ≡ c.count = share_own tag c same in let pos : 0 < c.count = h.1 in absurd (omega (arith, own, sum, pos)))
    (λ more. rw (place_here tag c cs (omega (arith, more))) (l, pos, ((omega (arith, more)), h.1, h.2)))

-- an entry with another count
pub changed : (low i : ℕ) (cs : List TagCount) (new d : TagCount) → AreFrom low cs → i < length cs → new.tag ≡ (get_or cs i d).tag → 0 < new.count → AreFrom low (set cs i new)
changed low i [] new d h l e pos = absurd (omega (arith, l))
changed low zero (c ∷ cs) new d h l e pos = (omega (arith, e, h.0), pos, subst (λ t. AreFrom (t + 1) cs) (sym e) h.2)
changed low (suc i) (c ∷ cs) new d h l e pos = (h.0, h.1, changed (c.tag + 1) i cs new d h.2 (omega (arith, l)) e pos)

-- an entry less
pub removed : (low i : ℕ) (cs : List TagCount) → AreFrom low cs → AreFrom low (remove cs i)
removed low zero [] h = tt
removed low (suc i) [] h = tt
removed low zero (c ∷ cs) h = weaken low (c.tag + 1) cs (omega (arith, h.0)) h.2
removed low (suc i) (c ∷ cs) h = (h.0, h.1, removed (c.tag + 1) i cs h.2)

-- what becomes of the count of any tag
pub with_new : (tag n t at : ℕ) (cs : List TagCount) → count_in t (insert cs at (record { tag = tag; count = n })) ≡ count_in t cs + cond (tag == t) n 0
with_new tag n t at cs = sum_by-insert (share t) cs at (record { tag = tag; count = n })

pub with_set : (tag m t : ℕ) (cs : List TagCount) (d : TagCount) → Stands tag cs → count_in t (set cs (place tag cs) (record { tag = tag; count = m })) + cond (tag == t) (count_in tag cs) 0 ≡ count_in t cs + cond (tag == t) m 0
with_set tag m t cs d s =
    ap (λ c. count_in t (set cs (place tag cs) (record { tag = tag; count = m })) + share t c) (sym (s.is d))
    ∙ sum_by-set (share t) cs (place tag cs) (record { tag = tag; count = m }) d s.within

pub with_more : (tag n t : ℕ) (cs : List TagCount) (d : TagCount) → Stands tag cs → count_in t (set cs (place tag cs) (record { tag = tag; count = count_in tag cs + n })) ≡ count_in t cs + cond (tag == t) n 0
with_more tag n t cs d s = by (tag == t) (with_set tag (count_in tag cs + n) t cs d s)
  where
    by : (b : Bool) → count_in t (set cs (place tag cs) (record { tag = tag; count = count_in tag cs + n })) + cond b (count_in tag cs) 0 ≡ count_in t cs + cond b (count_in tag cs + n) 0 → count_in t (set cs (place tag cs) (record { tag = tag; count = count_in tag cs + n })) ≡ count_in t cs + cond b n 0
    by true e = omega (arith, e)
    by false e = omega (arith, e)

pub with_less : (tag n t : ℕ) (cs : List TagCount) (d : TagCount) → Stands tag cs → n ≤ count_in tag cs → count_in t cs ≡ count_in t (set cs (place tag cs) (record { tag = tag; count = count_in tag cs - n })) + cond (tag == t) n 0
with_less tag n t cs d s l = by (tag == t) (with_set tag (count_in tag cs - n) t cs d s)
  where
    by : (b : Bool) → count_in t (set cs (place tag cs) (record { tag = tag; count = count_in tag cs - n })) + cond b (count_in tag cs) 0 ≡ count_in t cs + cond b (count_in tag cs - n) 0 → count_in t cs ≡ count_in t (set cs (place tag cs) (record { tag = tag; count = count_in tag cs - n })) + cond b n 0
    by true e = omega (arith, e, l)
    by false e = omega (arith, e)

pub with_none : (tag t : ℕ) (cs : List TagCount) (d : TagCount) → Stands tag cs → count_in t cs ≡ count_in t (remove cs (place tag cs)) + cond (tag == t) (count_in tag cs) 0
with_none tag t cs d s =
    sym (ap (λ c. count_in t (remove cs (place tag cs)) + share t c) (sym (s.is d)) ∙ sum_by-remove (share t) cs (place tag cs) d s.within)

-- THE SAME AT A PLACE THAT WAS FOUND

pub set_at : (tag at m : ℕ) (cs : List TagCount) → AreFrom 0 cs → at ≡ place tag cs → Stands tag cs → 0 < m → AreFrom 0 (set cs at (record { tag = tag; count = m }))
set_at tag at m cs h p s pos =
    let d : TagCount = record { tag = tag; count = m } in
    changed 0 at cs d d h (omega (arith, p, s.within)) (sym (ap (λ i. (get_or cs i d).tag) p ∙ ap (λ c. c.tag) (s.is d))) pos

pub more_at : (tag n t at now : ℕ) (cs : List TagCount) → at ≡ place tag cs → now ≡ count_in tag cs → Stands tag cs → count_in t (set cs at (record { tag = tag; count = now + n })) ≡ count_in t cs + cond (tag == t) n 0
more_at tag n t at now cs p e s =
    ap (λ i. count_in t (set cs i (record { tag = tag; count = now + n }))) p
    ∙ ap (λ m. count_in t (set cs (place tag cs) (record { tag = tag; count = m + n }))) e
    ∙ with_more tag n t cs (record { tag = tag; count = n }) s

pub less_at : (tag n t at now : ℕ) (cs : List TagCount) → at ≡ place tag cs → now ≡ count_in tag cs → Stands tag cs → n ≤ now → count_in t cs ≡ count_in t (set cs at (record { tag = tag; count = now - n })) + cond (tag == t) n 0
less_at tag n t at now cs p e s l =
    with_less tag n t cs (record { tag = tag; count = n }) s (omega (arith, l, e))
    ∙ ap (λ v. v + cond (tag == t) n 0) (sym (ap (λ i. count_in t (set cs i (record { tag = tag; count = now - n }))) p ∙ ap (λ m. count_in t (set cs (place tag cs) (record { tag = tag; count = m - n }))) e))

pub none_at : (tag n t at now : ℕ) (cs : List TagCount) → at ≡ place tag cs → now ≡ count_in tag cs → Stands tag cs → now ≡ n → count_in t cs ≡ count_in t (remove cs at) + cond (tag == t) n 0
none_at tag n t at now cs p e s l =
    with_none tag t cs (record { tag = tag; count = n }) s
    ∙ ap (λ v. v + cond (tag == t) (count_in tag cs) 0) (sym (ap (λ i. count_in t (remove cs i)) p))
    ∙ ap (λ v. count_in t (remove cs at) + cond (tag == t) v 0) (sym e ∙ l)

-- ONE BY ONE

-- whether a tag has no count
abbrev pub lacks : List TagCount → TagCount → ℕ
lacks cs c = cond (count_in c.tag cs == 0) 1 0

-- the count that is added next
pub next_count : (t i : ℕ) (cs : List TagCount) (c : TagCount) → i < length cs → c ≡ get_or cs i c → count_in t (drop i cs) ≡ cond (c.tag == t) c.count 0 + count_in t (drop (i + 1) cs)
next_count t i cs c l e = sum_by-drop_more (share t) cs i c l ∙ ap (λ d. share t d + count_in t (drop (i + 1) cs)) (sym e)

next_more : (i : ℕ) (cs there : List TagCount) (c : TagCount) → i < length cs → c ≡ get_or cs i c → more_tags (drop i cs) there ≡ lacks there c + more_tags (drop (i + 1) cs) there
next_more i cs there c l e = sum_by-drop_more (lacks there) cs i c l ∙ ap (λ d. lacks there d + more_tags (drop (i + 1) cs) there) (sym e)

-- a tag that has no count had none
pub had_none : (tag i : ℕ) (now first cs : List TagCount) → count_in tag now + count_in tag (drop i cs) ≡ count_in tag first + count_in tag cs → count_in tag now ≡ 0 → count_in tag first ≡ 0
had_none tag i now first cs e z = let parts : count_in tag (take i cs) + count_in tag (drop i cs) ≡ count_in tag cs = sum_by-take-drop (share tag) cs i in omega (arith, e, z, parts)

pub still_room : (i : ℕ) (now first : TagCounts) (cs : List TagCount) (c : TagCount) → i < length cs → c ≡ get_or cs i c → count_in c.tag now.counts + count_in c.tag (drop i cs) ≡ count_in c.tag first.counts + count_in c.tag cs → length now.counts + more_tags (drop i cs) first.counts ≤ length first.counts + more_tags cs first.counts → now.capacity ≡ first.capacity → HasRoomFor (more_tags cs first.counts) first → count_in c.tag now.counts ≡ 0 → HasRoomFor 1 now
still_room i now first cs c l e sum few same room z =
    let none : count_in c.tag first.counts ≡ 0 = had_none c.tag i now.counts first.counts cs sum z in
    let one : lacks first.counts c ≡ 1 = ap (λ n. cond (n == 0) 1 0) none in
    let more : more_tags (drop i cs) first.counts ≡ lacks first.counts c + more_tags (drop (i + 1) cs) first.counts = next_more i cs first.counts c l e in
    omega (arith, one, more, few, same, room)

pub still_few : (i : ℕ) (new now first : TagCounts) (cs : List TagCount) (c : TagCount) → i < length cs → c ≡ get_or cs i c → count_in c.tag now.counts + count_in c.tag (drop i cs) ≡ count_in c.tag first.counts + count_in c.tag cs → length now.counts + more_tags (drop i cs) first.counts ≤ length first.counts + more_tags cs first.counts → length new.counts ≤ length now.counts + cond (count_in c.tag now.counts == 0) 1 0 → length new.counts + more_tags (drop (i + 1) cs) first.counts ≤ length first.counts + more_tags cs first.counts
still_few i new now first cs c l e sum few longer =
    let more : more_tags (drop i cs) first.counts ≡ lacks first.counts c + more_tags (drop (i + 1) cs) first.counts = next_more i cs first.counts c l e in
    split (count_in c.tag now.counts == 0)
    (λ t. let none : count_in c.tag first.counts ≡ 0 = had_none c.tag i now.counts first.counts cs sum ((Decides-eqb (count_in c.tag now.counts) 0).0 t) in
    let one : lacks first.counts c ≡ 1 = ap (λ n. cond (n == 0) 1 0) none in
    let most : cond (count_in c.tag now.counts == 0) 1 0 ≡ 1 = ap {A = Bool} {B = ℕ} (λ b. cond b 1 0) t in
    omega (arith, one, most, more, few, longer))
    (λ f. let least : cond (count_in c.tag now.counts == 0) 1 0 ≡ 0 = ap {A = Bool} {B = ℕ} (λ b. cond b 1 0) f in
    omega (arith, least, more, few, longer))
