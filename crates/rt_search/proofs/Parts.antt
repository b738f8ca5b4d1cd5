-- Lines of what stands at the places of a stretch.
use Rattle.std.proofs.Common.{◌≡◌, ℕ, zero, suc, ◌+◌, ◌-◌, ◌<◌, ◌≤◌, List, [], ◌∷◌, Bool, true, false, cond, length, refl, sym, ap, ◌∙◌, arith, add-one, take, drop}
use Rattle.rt_stamps.specs.Places.{is_newline, newlines, after_newlines, line_of, line_start}
use Rattle.rt_lines.specs.declared.stretch.Stretch.{Stretch}
use Rattle.rt_lines.specs.Stretches.{part}

-- TAKING AND DROPPING

pub take_less : {A : Type 0} (n m : ℕ) (xs : List A) → n ≤ m → take n (take m xs) ≡ take n xs
take_less zero m xs h = refl
take_less (suc n) zero xs h = absurd (omega arith)
take_less (suc n) (suc m) [] h = refl
take_less (suc n) (suc m) (x ∷ xs) h = ap (λ v. x ∷ v) (take_less n m xs (omega arith))

of_none : {A : Type 0} (k : ℕ) → ◌≡◌ {A = List A} [] (take k [])
of_none zero = refl
of_none (suc k) = refl

pub drop_take : {A : Type 0} (p n : ℕ) (xs : List A) → drop p (take n xs) ≡ take (n - p) (drop p xs)
drop_take zero n xs = let e : n ≡ n - 0 = omega arith in ap (λ k. take k xs) e
drop_take (suc p) zero [] = let e : 0 ≡ 0 - suc p = omega arith in ap (λ k. take k []) e
drop_take (suc p) zero (x ∷ xs) = let e : 0 ≡ 0 - suc p = omega arith in ap (λ k. take k (drop p xs)) e
drop_take (suc p) (suc n) [] = of_none (suc n - suc p)
drop_take (suc p) (suc n) (x ∷ xs) = let e : n - p ≡ suc n - suc p = omega arith in drop_take p n xs ∙ ap (λ k. take k (drop p xs)) e

drop_both : {A : Type 0} (a b : ℕ) (xs : List A) → drop b (drop a xs) ≡ drop (a + b) xs
drop_both zero b xs = let e : b ≡ 0 + b = omega arith in ap (λ k. drop k xs) e
drop_both (suc a) zero [] = let e : suc (a + 0) ≡ suc a + 0 = omega arith in ap (λ k. drop k []) e
drop_both (suc a) (suc b) [] = let e : suc (a + suc b) ≡ suc a + suc b = omega arith in ap (λ k. drop k []) e
drop_both (suc a) b (x ∷ xs) = let e : suc (a + b) ≡ suc a + b = omega arith in drop_both a b xs ∙ ap (λ k. drop k (x ∷ xs)) e

-- what a part has from a place on
pub part_from : {A : Type 0} (stretch : Stretch) (place n : ℕ) (xs : List A) → stretch.begin + place + n ≤ stretch.end
    → take n (drop place (part stretch xs)) ≡ take n (drop (stretch.begin + place) xs)
part_from stretch place n xs h =
    ap (take n) (drop_take place (stretch.end - stretch.begin) (drop stretch.begin xs))
    ∙ take_less n (stretch.end - stretch.begin - place) (drop place (drop stretch.begin xs)) (omega (arith, h))
    ∙ ap (take n) (drop_both stretch.begin place xs)

-- LINES

more_by : (b : Bool) (n m d : ℕ) → n ≡ m + d → cond b (n + 1) n ≡ cond b (m + 1) m + d
more_by true n m d h = omega (arith, h)
more_by false n m d h = h

-- newlines before a place, and from there up to another
newlines_on : (b p : ℕ) (t : List ℕ) → newlines (take (b + p) t) ≡ newlines (take b t) + newlines (take p (drop b t))
newlines_on zero p t = let e : 0 + p ≡ p = omega arith in rw e (omega arith)
newlines_on (suc b) p [] = let e : suc b + p ≡ suc (b + p) = omega arith in rw e (nothing p)
  where
    nothing : (p : ℕ) → 0 ≡ 0 + newlines (take p [])
    nothing zero = refl
    nothing (suc p) = refl
newlines_on (suc b) p (c ∷ t) = let e : suc b + p ≡ suc (b + p) = omega arith in rw e (more_by (is_newline c) _ _ _ (newlines_on b p t))

pub newlines_in : (stretch : Stretch) (p : ℕ) (t : List ℕ) → stretch.begin + p ≤ stretch.end
    → newlines (take (stretch.begin + p) t) ≡ newlines (take stretch.begin t) + newlines (take p (part stretch t))
newlines_in stretch p t h =
    newlines_on stretch.begin p t
    ∙ ap (λ v. newlines (take stretch.begin t) + newlines v) (sym (take_less p (stretch.end - stretch.begin) (drop stretch.begin t) (omega (arith, h))))

-- the place behind some newlines of a text from a place on
behind_by : (c b m r : ℕ) (t : List ℕ) (n : Bool) → is_newline c ≡ n → after_newlines m t - b ≡ r → (m ≡ 0 → r ≡ 0)
    → after_newlines (cond n (m + 1) m) (c ∷ t) - suc b ≡ r
behind_by c b m r t true e h z = rw (add-one m, e) (omega (arith, h))
behind_by c b zero r t false e h z = omega (arith, z refl)
behind_by c b (suc m) r t false e h z = rw e (omega (arith, h))

none_there : (b p : ℕ) (t : List ℕ) → newlines (take (b + p) t) ≡ 0 → after_newlines (newlines (take p (drop b t))) (drop b t) ≡ 0
none_there b p t h =
    let none : newlines (take p (drop b t)) ≡ 0 = omega (arith, h, newlines_on b p t) in
    ap (λ k. after_newlines k (drop b t)) none

behind : (b p : ℕ) (t : List ℕ) → after_newlines (newlines (take (b + p) t)) t - b ≡ after_newlines (newlines (take p (drop b t))) (drop b t)
behind zero p t = let e : 0 + p ≡ p = omega arith in rw e (omega arith)
behind (suc b) p [] = let e : suc b + p ≡ suc (b + p) = omega arith in rw e (nothing p)
  where
    nothing : (p : ℕ) → 0 - suc b ≡ after_newlines (newlines (take p [])) []
    nothing zero = omega arith
    nothing (suc p) = omega arith
behind (suc b) p (c ∷ t) = let e : suc b + p ≡ suc (b + p) = omega arith in rw e (behind_by c b (newlines (take (b + p) t)) _ t (is_newline c) refl (behind b p t) (none_there b p t))

-- a part that has a place has the newlines before it
kept_by : (c n k : ℕ) (t : List ℕ) (b : Bool) → is_newline c ≡ b → after_newlines k (take n t) ≡ after_newlines k t
    → after_newlines (cond b (k + 1) k) (take (suc n) (c ∷ t)) ≡ after_newlines (cond b (k + 1) k) (c ∷ t)
kept_by c n k t true e h = rw (add-one k, e) (ap (λ v. v + 1) h)
kept_by c n zero t false e h = refl
kept_by c n (suc k) t false e h = rw e (ap (λ v. v + 1) h)

kept : (p n : ℕ) (t : List ℕ) → p ≤ n → after_newlines (newlines (take p t)) (take n t) ≡ after_newlines (newlines (take p t)) t
kept zero n t h = refl
kept (suc p) zero t h = absurd (omega arith)
kept (suc p) (suc n) [] h = refl
kept (suc p) (suc n) (c ∷ t) h = kept_by c n (newlines (take p t)) t (is_newline c) refl (kept p n t (omega arith))

-- where the line of a place begins
pub start_in : (stretch : Stretch) (p : ℕ) (t : List ℕ) → stretch.begin + p ≤ stretch.end
    → line_start t (line_of t (stretch.begin + p)) - stretch.begin ≡ line_start (part stretch t) (line_of (part stretch t) p)
start_in stretch p t h =
    let less : (k : ℕ) → k + 1 - 1 ≡ k = λ k. omega arith in
    let within : p ≤ stretch.end - stretch.begin = omega (arith, h) in
    let u = drop stretch.begin t in
    let n = stretch.end - stretch.begin in
    ap (λ k. after_newlines k t - stretch.begin) (less (newlines (take (stretch.begin + p) t)))
    ∙ behind stretch.begin p t
    ∙ sym (kept p n u within)
    ∙ ap (λ v. after_newlines (newlines v) (take n u)) (sym (take_less p n u within))
    ∙ ap (λ k. after_newlines k (take n u)) (sym (less (newlines (take p (take n u)))))
