-- Counts of many tags: those behind the ones in order, and what others leave of counts.
use Rattle.std.proofs.Common.{◌≡◌, ◌≢◌, ℕ, zero, suc, ◌+◌, ◌-◌, ◌==◌, ◌<◌, ◌≤◌, nat_lt, Bool, true, false, not, cond, List, [], ◌∷◌, ◌++◌, length, map, filter, get_or, drop, take, set, refl, sym, ap, subst, ◌∙◌, arith, eq-eqb}
use Rattle.std.specs.List.{count_by}
use Rattle.std.specs.List.Sorted.{IsNonDecreasingBy, IsPermutation}
use Rattle.std.proofs.lemmas.Bool.{ltb-true, ltb-false}
use Rattle.std.proofs.lemmas.Bool.Decides.{Decides-eqb}
use Rattle.std.proofs.lemmas.List.{drop-set-lt, drop_more, get_or-take, get_or_at, length-append, length-map, length-set, length-take-le, take-append-le, take_all}
use Rattle.std.proofs.Math.Seq.{take-set-lt}
use Rattle.std.proofs.lemmas.List.Sorted.{sum_by-IsPermutation}
use Rattle.std.proofs.lemmas.List.Sums.{sum_by-append, sum_by-cons, sum_by-set, sum_by-take-drop}
use Rattle.rt_tags.specs.declared.toggles.TagCount.{TagCount}
use Rattle.rt_tags.specs.ManyCounts.{AreTagsOnce, ArePlaced, lessened}
use Rattle.rt_tags.specs.Toggles.{AreFrom, count_in}
use Rattle.rt_tags.proofs.Counts.{more_at, next, next_count, none_below, place, set_at, share, share_other, share_own, stands, tells, weaken}
use Rattle.rt_tags.proofs.Places.{split}

-- EACH TAG ONCE

abbrev pub own : ℕ → TagCount → ℕ
own tag c = cond (c.tag == tag) 1 0

abbrev pub empty : TagCount → ℕ
empty c = cond (c.count == 0) 1 0

-- how often a tag stands among counts, and how many of them are none
abbrev pub times : ℕ → List TagCount → ℕ
times tag cs = count_by (λ c. c.tag == tag) cs

abbrev pub empties : List TagCount → ℕ
empties cs = count_by (λ c. c.count == 0) cs

times_next : (tag : ℕ) (c : TagCount) (cs : List TagCount) → times tag (c ∷ cs) ≡ own tag c + times tag cs
times_next tag c cs = sum_by-cons (own tag) c cs

empties_next : (c : TagCount) (cs : List TagCount) → empties (c ∷ cs) ≡ empty c + empties cs
empties_next c cs = sum_by-cons empty c cs

pub own_is : (tag : ℕ) (c : TagCount) → c.tag ≡ tag → own tag c ≡ 1
own_is tag c e = ap {A = Bool} {B = ℕ} (λ b. cond b 1 0) (eq-eqb c.tag tag e)

own_not : (tag : ℕ) (c : TagCount) → c.tag ≢ tag → own tag c ≡ 0
own_not tag c ne = ap {A = Bool} {B = ℕ} (λ b. cond b 1 0) (split (c.tag == tag) (λ t. absurd (ne ((Decides-eqb c.tag tag).0 t))) (λ f. f))

empty_not : (c : TagCount) → 0 < c.count → empty c ≡ 0
empty_not c pos = ap {A = Bool} {B = ℕ} (λ b. cond b 1 0) (split (c.count == 0) (λ t. let z : c.count ≡ 0 = (Decides-eqb c.count 0).0 t in absurd (omega (arith, z, pos))) (λ f. f))

pub full : (c : TagCount) → empty c ≡ 0 → 0 < c.count
full c e =
    split (nat_lt 0 c.count) (λ t. ltb-true 0 c.count t)
    (λ f. let le = ltb-false 0 c.count f in
    let one : empty c ≡ 1 = ap {A = Bool} {B = ℕ} (λ b. cond b 1 0) (eq-eqb c.count 0 (omega (arith, le))) in
    absurd (omega (arith, one, e)))

times_below : (tag low : ℕ) (cs : List TagCount) → AreFrom low cs → tag < low → times tag cs ≡ 0
times_below tag low [] h l = refl
times_below tag low (c ∷ cs) h l =
    let o : own tag c ≡ 0 = own_not tag c (omega (arith, h.0, l)) in
    let r : times tag cs ≡ 0 = times_below tag (c.tag + 1) cs h.2 (omega (arith, h.0, l)) in
    times_next tag c cs ∙ omega (arith, o, r)

times_most : (tag low : ℕ) (cs : List TagCount) → AreFrom low cs → times tag cs ≤ 1
times_most tag low [] h = omega arith
times_most tag low (c ∷ cs) h =
    let e = times_next tag c cs in
    split (c.tag == tag)
    (λ t. let same : c.tag ≡ tag = (Decides-eqb c.tag tag).0 t in
    let o = own_is tag c same in
    let r : times tag cs ≡ 0 = times_below tag (c.tag + 1) cs h.2 (omega (arith, same)) in
    omega (arith, e, o, r))
    (λ f. let o : own tag c ≡ 0 = ap {A = Bool} {B = ℕ} (λ b. cond b 1 0) f in
    let r : times tag cs ≤ 1 = times_most tag (c.tag + 1) cs h.2 in
    omega (arith, e, o, r))

no_empties : (low : ℕ) (cs : List TagCount) → AreFrom low cs → empties cs ≡ 0
no_empties low [] h = refl
no_empties low (c ∷ cs) h =
    let o : empty c ≡ 0 = empty_not c h.1 in
    let r : empties cs ≡ 0 = no_empties (c.tag + 1) cs h.2 in
    empties_next c cs ∙ omega (arith, o, r)

pub placed : (n : ℕ) (cs : List TagCount) → n ≡ length cs → AreFrom 0 cs → ArePlaced n cs
placed n cs e h = record {
  within = omega (arith, e);
  order = subst (AreFrom 0) (sym (take_all n cs (omega (arith, e)))) h;
  once = record { once = λ tag. times_most tag 0 cs h; some = no_empties 0 cs h };
}

-- a tag without a count doesn't stand there
absent : (tag : ℕ) (cs : List TagCount) → empties cs ≡ 0 → count_in tag cs ≡ 0 → times tag cs ≡ 0
absent tag [] z e = refl
absent tag (c ∷ cs) z e =
    let sum : empty c + empties cs ≡ 0 = sym (empties_next c cs) ∙ z in
    let parts : share tag c + count_in tag cs ≡ 0 = sym (next tag c cs) ∙ e in
    let pos : 0 < c.count = full c (omega (arith, sum)) in
    let ne : c.tag ≢ tag = λ s. let o = share_own tag c s in omega (arith, o, parts, pos) in
    let o : own tag c ≡ 0 = own_not tag c ne in
    let r : times tag cs ≡ 0 = absent tag cs (omega (arith, sum)) (omega (arith, parts)) in
    times_next tag c cs ∙ omega (arith, o, r)

-- and one that doesn't stand there has no count
pub not_there : (tag : ℕ) (cs : List TagCount) → times tag cs ≡ 0 → count_in tag cs ≡ 0
not_there tag [] z = refl
not_there tag (c ∷ cs) z =
    let sum : own tag c + times tag cs ≡ 0 = sym (times_next tag c cs) ∙ z in
    let ne : c.tag ≢ tag = λ s. let o = own_is tag c s in omega (arith, o, sum) in
    let off : share tag c ≡ 0 = share_other tag c ne in
    let r : count_in tag cs ≡ 0 = not_there tag cs (omega (arith, sum)) in
    next tag c cs ∙ omega (arith, off, r)

pushed : (c : TagCount) (cs : List TagCount) → AreTagsOnce cs → count_in c.tag cs ≡ 0 → 0 < c.count → AreTagsOnce (cs ++ c ∷ [])
pushed c cs h z pos = record {
  once = λ tag.
      let e : times tag (cs ++ c ∷ []) ≡ times tag cs + times tag (c ∷ []) = sum_by-append (own tag) cs (c ∷ []) in
      let f : times tag (c ∷ []) ≡ own tag c + 0 = times_next tag c [] in
      let m : times tag cs ≤ 1 = h.once tag in
      split (c.tag == tag)
      (λ t. let same : c.tag ≡ tag = (Decides-eqb c.tag tag).0 t in
      let o = own_is tag c same in
      let n : times tag cs ≡ 0 = subst (λ x. times x cs ≡ 0) same (absent c.tag cs h.some z) in
      omega (arith, e, f, o, n))
      (λ x. let o : own tag c ≡ 0 = ap {A = Bool} {B = ℕ} (λ b. cond b 1 0) x in omega (arith, e, f, o, m));
  some = (
      let e : empties (cs ++ c ∷ []) ≡ empties cs + empties (c ∷ []) = sum_by-append empty cs (c ∷ []) in
      let f : empties (c ∷ []) ≡ empty c + 0 = empties_next c [] in
      let o : empty c ≡ 0 = empty_not c pos in
      let s : empties cs ≡ 0 = h.some in
      omega (arith, e, f, o, s));
}

changed : (i : ℕ) (cs : List TagCount) (new d : TagCount) → AreTagsOnce cs → i < length cs → (get_or cs i d).tag ≡ new.tag → 0 < new.count → AreTagsOnce (set cs i new)
changed i cs new d h l e pos = record {
  once = λ tag.
      let s : times tag (set cs i new) + own tag (get_or cs i d) ≡ times tag cs + own tag new = sum_by-set (own tag) cs i new d l in
      let o : own tag (get_or cs i d) ≡ own tag new = ap {A = ℕ} {B = ℕ} (λ t. cond (t == tag) 1 0) e in
      let m : times tag cs ≤ 1 = h.once tag in
      omega (arith, s, o, m);
  some = (
      let s : empties (set cs i new) + empty (get_or cs i d) ≡ empties cs + empty new = sum_by-set empty cs i new d l in
      let o : empty new ≡ 0 = empty_not new pos in
      let z : empties cs ≡ 0 = h.some in
      omega (arith, s, o, z));
}

-- SORTED

other_first : (tag : ℕ) (cs : List TagCount) (d : TagCount) → times tag cs ≡ 0 → 0 < length cs → (get_or cs 0 d).tag ≢ tag
other_first tag [] d z l = absurd (omega (arith, l))
other_first tag (c ∷ cs) d z l = λ s. let e = times_next tag c cs in let o = own_is tag c s in omega (arith, e, o, z)

rising : (low : ℕ) (cs : List TagCount) → IsNonDecreasingBy (λ c. c.tag) cs → AreTagsOnce cs → ((d : TagCount) → 0 < length cs → low ≤ (get_or cs 0 d).tag) → AreFrom low cs
rising low [] up h first = tt
rising low (c ∷ cs) up h first =
    let e = empties_next c cs in
    let s : empties (c ∷ cs) ≡ 0 = h.some in
    let t = times_next c.tag c cs in
    let o = own_is c.tag c refl in
    let m : times c.tag (c ∷ cs) ≤ 1 = h.once c.tag in
    let none : times c.tag cs ≡ 0 = omega (arith, t, o, m) in
    let rest : AreTagsOnce cs = record {
      once = λ tag. (let e = times_next tag c cs in let m : times tag (c ∷ cs) ≤ 1 = h.once tag in omega (arith, e, m));
      some = omega (arith, e, s);
    } in (
      first c (omega arith),
      full c (omega (arith, e, s)),
      rising (c.tag + 1) cs (λ i j d a b. up (suc i) (suc j) d (omega (arith, a)) (omega (arith, b))) rest
          (λ d l. let ne : (get_or cs 0 d).tag ≢ c.tag = other_first c.tag cs d none l in
          let le : c.tag ≤ (get_or cs 0 d).tag = up 0 1 d (omega arith) (omega (arith, l)) in
          omega (arith, ne, le)),
    )

pub sorted : (xs ys : List TagCount) → AreTagsOnce xs → IsPermutation xs ys → IsNonDecreasingBy (λ c. c.tag) ys → AreFrom 0 ys
sorted xs ys h p up =
    let once : AreTagsOnce ys = record {
      once = λ tag. (let e : times tag ys ≡ times tag xs = sum_by-IsPermutation (own tag) xs ys p in let m : times tag xs ≤ 1 = h.once tag in omega (arith, e, m));
      some = (let e : empties ys ≡ empties xs = sum_by-IsPermutation empty xs ys p in let s : empties xs ≡ 0 = h.some in omega (arith, e, s));
    } in
    rising 0 ys up once (λ d l. omega arith)

pub counts_sorted : (t : ℕ) (xs ys : List TagCount) → IsPermutation xs ys → count_in t ys ≡ count_in t xs
counts_sorted t xs ys p = sum_by-IsPermutation (share t) xs ys p

-- ONE COUNT MORE, BEHIND OR AT ITS PLACE

pub parts : (t n : ℕ) (cs : List TagCount) → count_in t (take n cs) + count_in t (drop n cs) ≡ count_in t cs
parts t n cs = sum_by-take-drop (share t) cs n

pub placed_behind : (n : ℕ) (c : TagCount) (cs : List TagCount) → ArePlaced n cs → count_in c.tag cs ≡ 0 → 0 < c.count → ArePlaced n (cs ++ c ∷ [])
placed_behind n c cs h z pos = record {
  within = (let l = length-append cs (c ∷ []) in omega (arith, l, h.within));
  order = subst (AreFrom 0) (sym (take-append-le n cs (c ∷ []) h.within)) h.order;
  once = pushed c cs h.once z pos;
}

pub with_behind : (t : ℕ) (c : TagCount) (cs : List TagCount) → count_in t (cs ++ c ∷ []) ≡ count_in t cs + cond (c.tag == t) c.count 0
with_behind t c cs =
    let e : count_in t (cs ++ c ∷ []) ≡ count_in t cs + count_in t (c ∷ []) = sum_by-append (share t) cs (c ∷ []) in
    let f : count_in t (c ∷ []) ≡ share t c + 0 = next t c [] in
    omega (arith, e, f)

pub same_first : (t n : ℕ) (c : TagCount) (cs : List TagCount) → n ≤ length cs → count_in t (take n (cs ++ c ∷ [])) ≡ count_in t (take n cs)
same_first t n c cs l = ap (count_in t) (take-append-le n cs (c ∷ []) l)

module _ (n tag at now : ℕ) (cs : List TagCount) (h : ArePlaced n cs) (p : at ≡ place tag (take n cs)) (e : now ≡ count_in tag (take n cs)) (some : 0 < now) where
  pub stands_at : at < n
  stands_at =
      let s = stands tag 0 (take n cs) h.order (omega (arith, e, some)) in
      let l = length-take-le n cs h.within in
      omega (arith, s.within, l, p)

  pub placed_there : (m : ℕ) → 0 < m → ArePlaced n (set cs at (record { tag = tag; count = m }))
  placed_there m pos =
      let s = stands tag 0 (take n cs) h.order (omega (arith, e, some)) in
      let l : at < n = stands_at in
      let d : TagCount = record { tag = tag; count = m } in
      record {
        within = (let g = length-set cs at d in omega (arith, g, h.within));
        order = subst (AreFrom 0) (sym (take-set-lt n cs at d l)) (set_at tag at m (take n cs) h.order p s pos);
        once = changed at cs d d h.once (omega (arith, l, h.within)) (ap (λ c. c.tag) (sym (get_or-take n cs at d l) ∙ ap (λ i. get_or (take n cs) i d) p ∙ s.is d)) pos;
      }

  pub first_there : (t more : ℕ) → count_in t (take n (set cs at (record { tag = tag; count = now + more }))) ≡ count_in t (take n cs) + cond (tag == t) more 0
  first_there t more =
      let s = stands tag 0 (take n cs) h.order (omega (arith, e, some)) in
      ap (count_in t) (take-set-lt n cs at (record { tag = tag; count = now + more }) stands_at) ∙ more_at tag more t at now (take n cs) p e s

  pub with_there : (t more : ℕ) → count_in t (set cs at (record { tag = tag; count = now + more })) ≡ count_in t cs + cond (tag == t) more 0
  with_there t more =
      let d : TagCount = record { tag = tag; count = now + more } in
      let a = first_there t more in
      let b : count_in t (drop n (set cs at d)) ≡ count_in t (drop n cs) = ap (count_in t) (drop-set-lt n cs at d stands_at) in
      let x = parts t n (set cs at d) in
      let y = parts t n cs in
      omega (arith, a, b, x, y)

-- ONE BY ONE FROM OTHERS

-- the next of others in order has a count, and it is all that they have of its tag
pub some_next : (low i : ℕ) (cs : List TagCount) (d : TagCount) → AreFrom low cs → i < length cs → 0 < (get_or cs i d).count
some_next low i [] d h l = absurd (omega (arith, l))
some_next low zero (c ∷ cs) d h l = h.1
some_next low (suc i) (c ∷ cs) d h l = some_next (c.tag + 1) i cs d h.2 (omega (arith, l))

pub all_next : (i : ℕ) (cs : List TagCount) (c : TagCount) → AreFrom 0 cs → i < length cs → c ≡ get_or cs i c → count_in c.tag cs ≤ count_in c.tag (drop i cs)
all_next i cs c h l e =
    let all : c.count ≡ count_in c.tag cs = ap (λ d. d.count) e ∙ tells 0 i cs c c h l ∙ ap (λ d. count_in d.tag cs) (sym e) in
    let n = next_count c.tag i cs c l e in
    let o : share c.tag c ≡ c.count = share_own c.tag c refl in
    omega (arith, all, n, o)

-- so it doesn't stand behind
pub none_behind : (t n total rest first : ℕ) (now : List TagCount) → count_in t now + rest ≡ first + total → total ≤ rest → first ≤ count_in t (take n now) → count_in t (drop n now) ≡ 0
none_behind t n total rest first now e l f = let p = parts t n now in omega (arith, e, l, f, p)

-- WHAT OTHERS LEAVE

abbrev pub left : List TagCount → List TagCount → List TagCount
left others cs = filter (λ c. nat_lt 0 c.count) (map (lessened others) cs)

pub left_from : (low : ℕ) (others cs : List TagCount) → AreFrom low cs → AreFrom low (left others cs)
left_from low others [] h = tt
left_from low others (c ∷ cs) h =
    let rest : AreFrom (c.tag + 1) (left others cs) = left_from (c.tag + 1) others cs h.2 in
    split (nat_lt 0 (c.count - count_in c.tag others))
    (λ t. subst (AreFrom low) (sym (ap (λ b. cond b (lessened others c ∷ left others cs) (left others cs)) t)) (h.0, ltb-true 0 (c.count - count_in c.tag others) t, rest))
    (λ f. subst (AreFrom low) (sym (ap (λ b. cond b (lessened others c ∷ left others cs) (left others cs)) f)) (weaken low (c.tag + 1) (left others cs) (omega (arith, h.0)) rest))

share_none : (t : ℕ) (c : TagCount) → c.count ≡ 0 → share t c ≡ 0
share_none t c z = split (c.tag == t) (λ e. ap (λ b. cond b c.count 0) e ∙ z) (λ f. ap (λ b. cond b c.count 0) f)

left_next : (t : ℕ) (others : List TagCount) (c : TagCount) (cs : List TagCount) → count_in t (left others (c ∷ cs)) ≡ share t (lessened others c) + count_in t (left others cs)
left_next t others c cs =
    split (nat_lt 0 (c.count - count_in c.tag others))
    (λ b. ap (λ b. count_in t (cond b (lessened others c ∷ left others cs) (left others cs))) b ∙ next t (lessened others c) (left others cs))
    (λ b. let z = ltb-false 0 (c.count - count_in c.tag others) b in
    let none : share t (lessened others c) ≡ 0 = share_none t (lessened others c) (omega (arith, z)) in
    ap (λ b. count_in t (cond b (lessened others c ∷ left others cs) (left others cs))) b ∙ omega (arith, none))

pub left_count : (t low : ℕ) (others cs : List TagCount) → AreFrom low cs → count_in t others ≤ count_in t cs → count_in t cs ≡ count_in t (left others cs) + count_in t others
left_count t low others [] h le = omega (arith, le)
left_count t low others (c ∷ cs) h le =
    let e = next t c cs in
    let f = left_next t others c cs in
    split (c.tag == t)
    (λ x. let same : c.tag ≡ t = (Decides-eqb c.tag t).0 x in
    let all : share t c ≡ c.count = share_own t c same in
    let less : share t (lessened others c) ≡ c.count - count_in c.tag others = share_own t (lessened others c) same in
    let sub : count_in c.tag others ≡ count_in t others = ap (λ v. count_in v others) same in
    let none : count_in t cs ≡ 0 = none_below t (c.tag + 1) cs h.2 (omega (arith, same)) in
    let none_left : count_in t (left others cs) ≡ 0 = none_below t (c.tag + 1) (left others cs) (left_from (c.tag + 1) others cs h.2) (omega (arith, same)) in
    omega (arith, e, f, all, less, sub, none, none_left, le))
    (λ x. let none : share t c ≡ 0 = ap (λ b. cond b c.count 0) x in
    let none_left : share t (lessened others c) ≡ 0 = ap (λ b. cond b (c.count - count_in c.tag others) 0) x in
    let r : count_in t cs ≡ count_in t (left others cs) + count_in t others = left_count t (c.tag + 1) others cs h.2 (omega (arith, e, none, le)) in
    omega (arith, e, f, none, none_left, r))

-- a count that is still as it was holds what is taken off
pub enough_at : (i : ℕ) (others first now : List TagCount) (d : TagCount) → AreFrom 0 first → i < length first → ((t : ℕ) → count_in t others ≤ count_in t first)
    → now ≡ map (lessened others) (take i first) ++ drop i first → count_in (get_or now i d).tag others ≤ (get_or now i d).count
enough_at i others first now d h l le e =
    let same : get_or now i d ≡ get_or first i d =
    ap (λ v. get_or v i d) (e ∙ ap (λ v. map (lessened others) (take i first) ++ v) (drop_more first i d l))
    ∙ get_or_at (map (lessened others) (take i first)) (get_or first i d) (drop (i + 1) first) d i (length-map (take i first) (lessened others) ∙ length-take-le i first (omega (arith, l))) in
    let count : (get_or first i d).count ≡ count_in (get_or first i d).tag first = tells 0 i first d d h l in
    let enough : count_in (get_or first i d).tag others ≤ count_in (get_or first i d).tag first = le (get_or first i d).tag in
    subst (λ c. count_in c.tag others ≤ c.count) (sym same) (omega (arith, count, enough))

-- ROOM

-- the others than those of a tag
abbrev but : ℕ → List TagCount → List TagCount
but n cs = filter (λ c. not (c.tag == n)) cs

but_is : (n : ℕ) (c : TagCount) (cs : List TagCount) → (c.tag == n) ≡ true → but n (c ∷ cs) ≡ but n cs
but_is n c cs t = ap (λ b. cond (not b) (c ∷ but n cs) (but n cs)) t

but_not : (n : ℕ) (c : TagCount) (cs : List TagCount) → (c.tag == n) ≡ false → but n (c ∷ cs) ≡ c ∷ but n cs
but_not n c cs f = ap (λ b. cond (not b) (c ∷ but n cs) (but n cs)) f

but_length : (n : ℕ) (cs : List TagCount) → length cs ≡ times n cs + length (but n cs)
but_length n [] = refl
but_length n (c ∷ cs) =
    let e = times_next n c cs in
    let r : length cs ≡ times n cs + length (but n cs) = but_length n cs in
    split (c.tag == n)
    (λ t. let o : own n c ≡ 1 = ap {A = Bool} {B = ℕ} (λ b. cond b 1 0) t in let l = ap length (but_is n c cs t) in omega (arith, e, r, o, l))
    (λ f. let o : own n c ≡ 0 = ap {A = Bool} {B = ℕ} (λ b. cond b 1 0) f in let l = ap length (but_not n c cs f) in omega (arith, e, r, o, l))

but_fewer : (t n : ℕ) (cs : List TagCount) → times t (but n cs) ≤ times t cs
but_fewer t n [] = omega arith
but_fewer t n (c ∷ cs) =
    let e = times_next t c cs in
    let r : times t (but n cs) ≤ times t cs = but_fewer t n cs in
    split (c.tag == n)
    (λ x. let l = ap (times t) (but_is n c cs x) in omega (arith, e, r, l))
    (λ x. let l = ap (times t) (but_not n c cs x) in let f = times_next t c (but n cs) in omega (arith, e, r, l, f))

but_none : (n : ℕ) (cs : List TagCount) → times n (but n cs) ≡ 0
but_none n [] = refl
but_none n (c ∷ cs) =
    let r : times n (but n cs) ≡ 0 = but_none n cs in
    split (c.tag == n)
    (λ x. ap (times n) (but_is n c cs x) ∙ r)
    (λ x. let o : own n c ≡ 0 = ap {A = Bool} {B = ℕ} (λ b. cond b 1 0) x in
    let l = ap (times n) (but_not n c cs x) in
    let f = times_next n c (but n cs) in
    omega (arith, r, o, l, f))

fits : (n : ℕ) (cs : List TagCount) → ((t : ℕ) → times t cs ≤ 1) → ((t : ℕ) → n ≤ t → times t cs ≡ 0) → length cs ≤ n
fits zero [] most none = omega arith
fits zero (c ∷ cs) most none =
    let z : times c.tag (c ∷ cs) ≡ 0 = none c.tag (omega arith) in
    let e = times_next c.tag c cs in
    let o = own_is c.tag c refl in
    absurd (omega (arith, z, e, o))
fits (suc n) cs most none =
    let rest : length (but n cs) ≤ n = fits n (but n cs)
    (λ t. let a = but_fewer t n cs in let m : times t cs ≤ 1 = most t in omega (arith, a, m))
    (λ t more. split (nat_lt n t)
    (λ x. let l = ltb-true n t x in let a = but_fewer t n cs in let z : times t cs ≡ 0 = none t (omega (arith, l)) in omega (arith, a, z))
    (λ x. let l = ltb-false n t x in let same : n ≡ t = omega (arith, l, more) in ap (λ x. times x (but n cs)) (sym same) ∙ but_none n cs)) in
    let e = but_length n cs in
    let m : times n cs ≤ 1 = most n in
    omega (arith, rest, e, m)

-- one tag more than those that have counts is at most all tags
pub room_once : (n tag : ℕ) (cs : List TagCount) → AreTagsOnce cs → ((t : ℕ) → n ≤ t → count_in t cs ≡ 0) → tag < n → count_in tag cs ≡ 0 → length cs < n
room_once n tag cs h none l z =
    let d : TagCount = record { tag = tag; count = 1 } in
    let all : suc (length cs) ≤ n = fits n (d ∷ cs)
    (λ t. let e = times_next t d cs in
    let m : times t cs ≤ 1 = h.once t in
    split (tag == t)
    (λ x. let o : own t d ≡ 1 = ap {A = Bool} {B = ℕ} (λ b. cond b 1 0) x in
    let a : times t cs ≡ 0 = subst (λ v. times v cs ≡ 0) ((Decides-eqb tag t).0 x) (absent tag cs h.some z) in
    omega (arith, e, o, a))
    (λ x. let o : own t d ≡ 0 = ap {A = Bool} {B = ℕ} (λ b. cond b 1 0) x in omega (arith, e, o, m)))
    (λ t more. let e = times_next t d cs in
    let o : own t d ≡ 0 = own_not t d (omega (arith, l, more)) in
    let a : times t cs ≡ 0 = absent t cs h.some (none t more) in
    omega (arith, e, o, a)) in
    omega (arith, all)
