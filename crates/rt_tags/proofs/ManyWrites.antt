-- Writes that come into a state at once: what they leave, and what goes into the parts.
use Rattle.std.proofs.Common.{◌≡◌, ℕ, zero, suc, ◌==◌, ◌+◌, ◌%◌, ◌<◌, ◌≤◌, ◌&&◌, List, [], ◌∷◌, map, filter, length, get_or, drop, take, Bool, true, false, not, cond, refl, sym, ap, subst, ◌∙◌, arith, Option, Some, None, is_some}
use Rattle.std.specs.List.{AllByRecursion}
use Rattle.std.proofs.lemmas.Bool.Decides.{Decides-eqb}
use Rattle.std.proofs.lemmas.List.{drop_more}
use Rattle.rt_tags.specs.declared.nodes.Setting.{Setting}
use Rattle.rt_tags.specs.declared.states.TagEntry.{TagEntry}
use Rattle.rt_tags.specs.ManyWrites.{goes_into, halved, newer_setting, part_writes, setting_after}
use Rattle.rt_tags.specs.SharedStates.{half, is_setting_kept}
use Rattle.rt_tags.proofs.Places.{clash, split}
use Rattle.rt_tags.proofs.Settings.{is_same, not_same, same_tests}

-- WHAT WRITES LEAVE

newer_some : (m : Option Setting) (e : TagEntry) → is_some (newer_setting m e) ≡ true
newer_some None e = refl
newer_some (Some m) e = by (is_setting_kept (Some m) e.writer)
  where
    by : (b : Bool) → is_some (cond b (Some m) (Some (record { writer = e.writer; on = e.on }))) ≡ true
    by true = refl
    by false = refl

-- a setting that is there stays there
stays_some : (writes : List TagEntry) (t : ℕ) (m : Option Setting) → is_some m ≡ true → is_some (setting_after writes t m) ≡ true
stays_some [] t m h = h
stays_some (e ∷ writes) t m h = stays_some writes t (cond (e.tag == t) (newer_setting m e) m) (by (e.tag == t))
  where
    by : (b : Bool) → is_some (cond b (newer_setting m e) m) ≡ true
    by true = newer_some m e
    by false = h

-- a tag that is written is there
pub listed_some : (writes : List TagEntry) (i : ℕ) (d : TagEntry) (m : Option Setting) → i < length writes → is_some (setting_after writes (get_or writes i d).tag m) ≡ true
listed_some [] i d m l = absurd (omega (arith, l))
listed_some (e ∷ writes) zero d m l =
    stays_some writes e.tag (cond (e.tag == e.tag) (newer_setting m e) m) (ap (λ b. is_some (cond b (newer_setting m e) m)) (is_same e.tag e.tag refl) ∙ newer_some m e)
listed_some (e ∷ writes) (suc i) d m l = listed_some writes i d (cond (e.tag == (get_or writes i d).tag) (newer_setting m e) m) (omega (arith, l))

-- the next write
pub left_next : (t i : ℕ) (writes : List TagEntry) (e : TagEntry) (m : Option Setting) → i < length writes → e ≡ get_or writes i e → setting_after (drop i writes) t m ≡ setting_after (drop (i + 1) writes) t (cond (e.tag == t) (newer_setting m e) m)
left_next t i writes e m l is =
    ap (λ v. setting_after v t m) (drop_more writes i e l)
    ∙ ap (λ (x : TagEntry). setting_after (drop (i + 1) writes) t (cond (x.tag == t) (newer_setting m x) m)) (sym is)

-- what is so of each tag that is written, and of a tag that is there, is so of each that is there afterwards
pub there_after : (P : ℕ → Type 0) (writes : List TagEntry) (t : ℕ) (m : Option Setting) → AllByRecursion (λ e. P e.tag) writes → (is_some m ≡ true → P t) → is_some (setting_after writes t m) ≡ true → P t
there_after P [] t m all h is = h is
there_after P (e ∷ writes) t m all h is =
    there_after P writes t (cond (e.tag == t) (newer_setting m e) m) all.1 (λ k. split (e.tag == t)
    (λ y. subst P ((Decides-eqb e.tag t).0 y) all.0)
    (λ n. h (sym (ap (λ b. is_some (cond b (newer_setting m e) m)) n) ∙ k))) is

-- THE LEAST

pub least_next : (i : ℕ) (writes : List TagEntry) (a b : ℕ) (e : TagEntry) → i < length writes → e ≡ get_or writes i e → b ≤ a → b ≤ e.tag → AllByRecursion (λ e. a ≤ e.tag) (take i writes) → AllByRecursion (λ e. b ≤ e.tag) (take (i + 1) writes)
least_next i [] a b e l is le own h = absurd (omega (arith, l))
least_next zero (x ∷ writes) a b e l is le own h = (subst (λ (y : TagEntry). b ≤ y.tag) is own, tt)
least_next (suc i) (x ∷ writes) a b e l is le own h =
    let s : suc (i + 1) ≡ suc i + 1 = omega arith in
    let first : a ≤ x.tag = h.0 in
    subst (λ (n : ℕ). AllByRecursion (λ e. b ≤ e.tag) (take n (x ∷ writes))) s (omega (arith, le, first), least_next i writes a b e (omega (arith, l)) is le own h.1)

-- WHAT GOES INTO A PART

pub part_next : (r top i : ℕ) (writes : List TagEntry) (e : TagEntry) → i < length writes → e ≡ get_or writes i e → part_writes r top (drop i writes) ≡ cond (goes_into r top e) (halved e ∷ part_writes r top (drop (i + 1) writes)) (part_writes r top (drop (i + 1) writes))
part_next r top i writes e l is =
    ap (part_writes r top) (drop_more writes i e l)
    ∙ (ap (λ (x : TagEntry). part_writes r top (x ∷ drop (i + 1) writes)) (sym is) ∙ part_cons r top e (drop (i + 1) writes))
  where
    part_cons : (r top : ℕ) (e : TagEntry) (rest : List TagEntry) → part_writes r top (e ∷ rest) ≡ cond (goes_into r top e) (halved e ∷ part_writes r top rest) (part_writes r top rest)
    part_cons r top e rest = by (goes_into r top e)
      where
        by : (b : Bool) → map halved (cond b (e ∷ filter (goes_into r top) rest) (filter (goes_into r top) rest)) ≡ cond b (halved e ∷ part_writes r top rest) (part_writes r top rest)
        by true = refl
        by false = refl

-- the tags of a part stand for the other tags of its remainder
into_is : (r top t : ℕ) (e : TagEntry) → t % 2 ≡ r → (t ≡ top → ⊥) → e.tag ≡ t → goes_into r top e ≡ true
into_is r top t e odd ne same =
    let a : (e.tag % 2 == r) ≡ true = is_same (e.tag % 2) r (ap (λ (x : ℕ). x % 2) same ∙ odd) in
    let b : (e.tag == top) ≡ false = not_same e.tag top (λ z. ne (sym same ∙ z)) in
    λ j. a j && not (b j)

into_odd : (r top : ℕ) (e : TagEntry) → goes_into r top e ≡ true → e.tag % 2 ≡ r
into_odd r top e h = split (e.tag % 2 == r) (λ y. (Decides-eqb (e.tag % 2) r).0 y) (λ n. absurd (clash (goes_into r top e) h (ap (λ b. b && not (e.tag == top)) n)))

into_other : (r top : ℕ) (e : TagEntry) → goes_into r top e ≡ true → e.tag ≡ top → ⊥
into_other r top e h z = split (e.tag % 2 == r)
    (λ y. clash (goes_into r top e) h ((λ j. y j && not (is_same e.tag top z j))))
    (λ n. clash (goes_into r top e) h (ap (λ b. b && not (e.tag == top)) n))

part_in : (r top : ℕ) (e : TagEntry) (writes : List TagEntry) → goes_into r top e ≡ true → part_writes r top (e ∷ writes) ≡ halved e ∷ part_writes r top writes
part_in r top e writes y = ap (λ b. map halved (cond b (e ∷ filter (goes_into r top) writes) (filter (goes_into r top) writes))) y

part_out : (r top : ℕ) (e : TagEntry) (writes : List TagEntry) → goes_into r top e ≡ false → part_writes r top (e ∷ writes) ≡ part_writes r top writes
part_out r top e writes n = ap (λ b. map halved (cond b (e ∷ filter (goes_into r top) writes) (filter (goes_into r top) writes))) n

pub part_after : (r top t : ℕ) (writes : List TagEntry) (m : Option Setting) → t % 2 ≡ r → (t ≡ top → ⊥) → setting_after (part_writes r top writes) (half t) m ≡ setting_after writes t m
part_after r top t [] m odd ne = refl
part_after r top t (e ∷ writes) m odd ne =
    split (goes_into r top e)
    (λ y.
    let k = into_odd r top e y in
    let tests : (half e.tag == half t) ≡ (e.tag == t) = same_tests (half e.tag) (half t) e.tag t (λ z. omega (arith, z, k, odd)) (λ z. ap half z) in
    ap (λ v. setting_after v (half t) m) (part_in r top e writes y)
    ∙ (ap (λ (b : Bool). setting_after (part_writes r top writes) (half t) (cond b (newer_setting m e) m)) tests
    ∙ part_after r top t writes (cond (e.tag == t) (newer_setting m e) m) odd ne))
    (λ n.
    let other : (e.tag == t) ≡ false = not_same e.tag t (λ z. clash (goes_into r top e) (into_is r top t e odd ne z) n) in
    ap (λ v. setting_after v (half t) m) (part_out r top e writes n)
    ∙ (part_after r top t writes m odd ne
    ∙ ap (λ (b : Bool). setting_after writes t (cond b (newer_setting m e) m)) (sym other)))

-- what is so of the tags is so of those of a part, by their whole numbers
pub part_every : (P Q : ℕ → Type 0) (r top : ℕ) → ((t : ℕ) → t % 2 ≡ r → (t ≡ top → ⊥) → P t → Q (half t)) → (writes : List TagEntry) → AllByRecursion (λ e. P e.tag) writes → AllByRecursion (λ e. Q e.tag) (part_writes r top writes)
part_every P Q r top f [] all = tt
part_every P Q r top f (e ∷ writes) all =
    let rest = part_every P Q r top f writes all.1 in
    split (goes_into r top e)
    (λ y. subst (AllByRecursion (λ e. Q e.tag)) (sym (part_in r top e writes y)) (f e.tag (into_odd r top e y) (into_other r top e y) all.0, rest))
    (λ n. subst (AllByRecursion (λ e. Q e.tag)) (sym (part_out r top e writes n)) rest)

most : (r top : ℕ) (writes : List TagEntry) → length (part_writes r top writes) ≤ length writes
most r top [] = omega arith
most r top (e ∷ writes) =
    let rest = most r top writes in
    split (goes_into r top e)
    (λ y. let l = ap length (part_in r top e writes y) in omega (arith, rest, l))
    (λ n. let l = ap length (part_out r top e writes n) in omega (arith, rest, l))

-- a part has fewer writes where the tag on top is written
pub fewer : (r top : ℕ) (writes : List TagEntry) (m : Option Setting) → is_some m ≡ false → is_some (setting_after writes top m) ≡ true → length (part_writes r top writes) < length writes
fewer r top [] m off is = absurd (clash (is_some m) is off)
fewer r top (e ∷ writes) m off is =
    split (e.tag == top)
    (λ y.
    let z : e.tag ≡ top = (Decides-eqb e.tag top).0 y in
    let out : goes_into r top e ≡ false = split (goes_into r top e) (λ k. absurd (into_other r top e k z)) (λ n. n) in
    let l = ap length (part_out r top e writes out) in
    let rest = most r top writes in
    omega (arith, l, rest))
    (λ n.
    let rest = fewer r top writes m off (sym (ap (λ (b : Bool). is_some (setting_after writes top (cond b (newer_setting m e) m))) n) ∙ is) in
    split (goes_into r top e)
    (λ k. let l = ap length (part_in r top e writes k) in omega (arith, rest, l))
    (λ k. let l = ap length (part_out r top e writes k) in omega (arith, rest, l)))

into_one : (top : ℕ) (e : TagEntry) → goes_into 1 top e ≡ true → goes_into 0 top e ≡ true → ⊥
into_one top e a b = let x = into_odd 1 top e a in let y = into_odd 0 top e b in omega (arith, x, y)

both_most : (top : ℕ) (writes : List TagEntry) → length (part_writes 1 top writes) + length (part_writes 0 top writes) ≤ length writes
both_most top [] = omega arith
both_most top (e ∷ writes) =
    let rest = both_most top writes in
    split (goes_into 1 top e)
    (λ y.
    let a = ap length (part_in 1 top e writes y) in
    let b = ap length (part_out 0 top e writes (split (goes_into 0 top e) (λ z. absurd (into_one top e y z)) (λ n. n))) in
    omega (arith, rest, a, b))
    (λ n.
    let a = ap length (part_out 1 top e writes n) in
    split (goes_into 0 top e)
    (λ y. let b = ap length (part_in 0 top e writes y) in omega (arith, rest, a, b))
    (λ z. let b = ap length (part_out 0 top e writes z) in omega (arith, rest, a, b)))

-- and both parts have fewer together
pub both_fewer : (top : ℕ) (writes : List TagEntry) (m : Option Setting) → is_some m ≡ false → is_some (setting_after writes top m) ≡ true → length (part_writes 1 top writes) + length (part_writes 0 top writes) < length writes
both_fewer top [] m off is = absurd (clash (is_some m) is off)
both_fewer top (e ∷ writes) m off is =
    split (e.tag == top)
    (λ y.
    let z : e.tag ≡ top = (Decides-eqb e.tag top).0 y in
    let out = λ (r : ℕ). ap length (part_out r top e writes (split (goes_into r top e) (λ k. absurd (into_other r top e k z)) (λ n. n))) in
    let a = out 1 in
    let b = out 0 in
    let rest = both_most top writes in
    omega (arith, a, b, rest))
    (λ n.
    let rest = both_fewer top writes m off (sym (ap (λ (b : Bool). is_some (setting_after writes top (cond b (newer_setting m e) m))) n) ∙ is) in
    split (goes_into 1 top e)
    (λ y.
    let a = ap length (part_in 1 top e writes y) in
    let b = ap length (part_out 0 top e writes (split (goes_into 0 top e) (λ z. absurd (into_one top e y z)) (λ n. n))) in
    omega (arith, rest, a, b))
    (λ k.
    let a = ap length (part_out 1 top e writes k) in
    split (goes_into 0 top e)
    (λ y. let b = ap length (part_in 0 top e writes y) in omega (arith, rest, a, b))
    (λ z. let b = ap length (part_out 0 top e writes z) in omega (arith, rest, a, b))))
