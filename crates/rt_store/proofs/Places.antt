-- The place of new cells, by recursion over the stamps; it is before the final newline.
use Rattle.std.proofs.Common.{◌≡◌, ℕ, suc, ◌+◌, ◌<◌, Bool, true, false, ◌⊎◌, inl, inr, refl, sym, subst, ap, ◌∙◌, arith, Some, None, List, [], ◌∷◌, ◌++◌, cond, length, drop, take}
use native.Mathlib.Numerals.{unary_clauses}
use Rattle.std.specs.Prelude.{IsSome, IsTrue, take_while, unwrap_or, nat_lt}
use Rattle.std.specs.List.{position_or_len, prefix_len}
use Rattle.std.proofs.lemmas.Bool.{lt-ltb}
use Rattle.std.proofs.lemmas.List.{length-append, take-append-drop}
use Rattle.rt_stamps.specs.declared.stamp.Stamp.{Stamp}
use Rattle.rt_stamps.specs.declared.stamp.TheConstants.{FINAL, ROOT}
use Rattle.rt_stamps.specs.Stamps.{is_before, is_same}
use Rattle.rt_stamps.proofs.Order.{before_asym, same_refl, same_sym}
use Rattle.rt_store.specs.declared.cell.Cell.{Cell}
use Rattle.rt_store.specs.Cells.{EndsFinal, IsPlaced, StandsBefore, cells_from, final_cell, map_state, put_at, skip_from, stamps_of}
use Rattle.rt_store.specs.Spans.{is_among}
use Rattle.rt_store.proofs.Distinct.{split}

-- how many directly following stamps are greater than a new one
abbrev pub past : Stamp → List Stamp → ℕ
past new [] = 0
past new (s ∷ stamps) = cond (is_before new s) (suc (past new stamps)) 0

-- that, from behind the left element on
abbrev pub past_after : Stamp → Stamp → List Stamp → ℕ
past_after left new [] = 0
past_after left new (s ∷ stamps) = cond (is_same s left) (suc (past new stamps)) (suc (past_after left new stamps))

-- the first place after the left element whose stamp isn't greater
abbrev pub after_skip : Stamp → Stamp → List Stamp → ℕ
after_skip left new stamps = cond (is_same left ROOT) (past new stamps) (past_after left new stamps)

pub past_is : {T : Type 0} (new : Stamp) (cells : List (Cell T)) → length (take_while (λ cell. is_before new cell.stamp) cells) ≡ past new (stamps_of cells)
past_is new [] = refl
past_is new (x ∷ xs) = split (is_before new x.stamp)
    (λ e. rw e (ap (λ n. length (take n (x ∷ xs))) (one_more (prefix_len (λ cell. is_before new cell.stamp) xs)) ∙ ap suc (past_is new xs)))
    (λ e. rw e refl)
  where
    one_more : (n : ℕ) → 1 + n ≡ suc n
    one_more n = omega arith

pub found_within : {T : Type 0} (left : Stamp) (cells : List (Cell T)) → is_among (stamps_of cells) left ≡ true → position_or_len (λ cell. is_same cell.stamp left) cells < length cells
found_within left [] h = absurd (cc h)
found_within left (x ∷ xs) h = split (is_same x.stamp left)
    (λ e. rw e (omega arith))
    (λ e. let i = found_within left xs (grind (arith, h, e)) in rw e (omega arith))

after_is : {T : Type 0} (left new : Stamp) (cells : List (Cell T)) → is_among (stamps_of cells) left ≡ true
    → position_or_len (λ cell. is_same cell.stamp left) cells + 1 + length (take_while (λ cell. is_before new cell.stamp) (drop (position_or_len (λ cell. is_same cell.stamp left) cells + 1) cells))
    ≡ past_after left new (stamps_of cells)
after_is left new [] h = absurd (cc h)
after_is {T} left new (x ∷ xs) h = split (is_same x.stamp left)
    (λ e. rw e (omega (arith, past_is new xs)))
    (λ e. rw e (further (position_or_len (λ cell. is_same cell.stamp left) xs) (after_is left new xs (grind (arith, h, e)))))
  where
    further : (m : ℕ) → m + 1 + length (take_while (λ cell. is_before new cell.stamp) (drop (m + 1) xs)) ≡ past_after left new (stamps_of xs)
        → 1 + m + 1 + length (take_while (λ cell. is_before new cell.stamp) (drop (1 + m + 1) (x ∷ xs))) ≡ suc (past_after left new (stamps_of xs))
    further m i =
        let k : 1 + m + 1 ≡ suc (m + 1) = omega arith in
        let j : length (take_while (λ cell. is_before new cell.stamp) (drop (1 + m + 1) (x ∷ xs))) ≡ length (take_while (λ cell. is_before new cell.stamp) (drop (m + 1) xs))
        = ap (λ n. length (take_while (λ cell. is_before new cell.stamp) (drop n (x ∷ xs)))) k in
        omega (arith, i, j)

found_is : (n m : ℕ) → n < m → unwrap_or (cond (nat_lt n m) (Some n) None) 0 ≡ n
found_is n m h = rw (lt-ltb n m h) refl

-- past an element and all cells directly behind it that have greater stamps
pub skip_is : {T : Type 0} (cells : List (Cell T)) (left new : Stamp) → (is_among (stamps_of cells) left ≡ true) ⊎ (left ≡ ROOT) → skip_from cells left new ≡ after_skip left new (stamps_of cells)
skip_is cells left new k = split (is_same left ROOT)
    (λ e. rw e (omega (arith, past_is new cells)))
    (λ e. elim k [
      | inl i ↦ rw e (
          ap (λ n. n + 1 + length (take_while (λ cell. is_before new cell.stamp) (drop (n + 1) cells))) (found_is (position_or_len (λ cell. is_same cell.stamp left) cells) (length cells) (found_within left cells i))
          ∙ after_is left new cells i)
      | inr i ↦ absurd (let f : is_same left ROOT ≡ true = rw i (same_refl ROOT) in cc (e, f))
    ])

-- BEFORE THE LAST CELL

pub past_short : {T : Type 0} (new : Stamp) (front : List (Cell T)) (x : Cell T) → is_before new x.stamp ≡ false → past new (stamps_of (front ++ x ∷ [])) < length (front ++ x ∷ [])
past_short new [] x h = rw h (omega arith)
past_short new (y ∷ ys) x h = split (is_before new y.stamp)
    (λ e. rw e (let i = past_short new ys x h in omega arith))
    (λ e. rw e (omega arith))

pub after_short : {T : Type 0} (left new : Stamp) (front : List (Cell T)) (x : Cell T) → is_before new x.stamp ≡ false → is_same x.stamp left ≡ false → is_among (stamps_of (front ++ x ∷ [])) left ≡ true
    → past_after left new (stamps_of (front ++ x ∷ [])) < length (front ++ x ∷ [])
after_short left new [] x h n m = absurd (cc (n, m))
after_short left new (y ∷ ys) x h n m = split (is_same y.stamp left)
    (λ e. rw e (let i = past_short new ys x h in omega arith))
    (λ e. rw e (let i = after_short left new ys x h n (grind (arith, m, e)) in omega arith))

pub skip_short : {T : Type 0} (left new : Stamp) (front : List (Cell T)) (x : Cell T) → is_before new x.stamp ≡ false → is_same x.stamp left ≡ false
    → (is_among (stamps_of (front ++ x ∷ [])) left ≡ true) ⊎ (left ≡ ROOT) → skip_from (front ++ x ∷ []) left new < length (front ++ x ∷ [])
skip_short left new front x h n k =
    rw (skip_is (front ++ x ∷ []) left new k)
    (split (is_same left ROOT)
    (λ e. rw e (past_short new front x h))
    (λ e. rw e (after_short left new front x h n (elim k [ inl i ↦ i | inr i ↦ absurd (let f : is_same left ROOT ≡ true = rw i (same_refl ROOT) in cc (e, f)) ]))))

pub found_short : {T : Type 0} (left : Stamp) (front : List (Cell T)) (x : Cell T) → is_same x.stamp left ≡ false → is_among (stamps_of (front ++ x ∷ [])) left ≡ true
    → position_or_len (λ cell. is_same cell.stamp left) (front ++ x ∷ []) + 1 < length (front ++ x ∷ [])
found_short left [] x n m = absurd (cc (n, m))
found_short left (y ∷ ys) x n m = split (is_same y.stamp left)
    (λ e. rw e (omega (arith, length-append ys (x ∷ []))))
    (λ e. rw e (let i = found_short left ys x n (grind (arith, m, e)) in omega arith))

pub stands_by : (n m : ℕ) (b : Bool) → n + 1 < m → (IsSome (cond (nat_lt n m) (Some n) None) ⊎ IsTrue b) × (cond b 0 (unwrap_or (cond (nat_lt n m) (Some n) None) 0 + 1) < m)
stands_by n m true h = (inr refl, omega arith)
stands_by n m false h = rw (lt-ltb n m (omega arith)) (inl refl, h)

pub stands : {T : Type 0} (left : Stamp) (front : List (Cell T)) (x : Cell T) → is_same x.stamp left ≡ false → (is_among (stamps_of (front ++ x ∷ [])) left ≡ true) ⊎ (left ≡ ROOT) → StandsBefore (front ++ x ∷ []) left
stands {T} left front x n k = elim k [
  | inl i ↦ stands_by (position_or_len (λ cell. is_same cell.stamp left) (front ++ x ∷ [])) (length (front ++ x ∷ [])) (is_same left ROOT) (found_short left front x n i)
  | inr e ↦ subst (StandsBefore (front ++ x ∷ [])) (sym e) (inr refl, omega (arith, length-append front (x ∷ [])))
]

-- BEFORE THE FINAL NEWLINE

last_tail : {T : Type 0} (x y : Cell T) (xs : List (Cell T)) → EndsFinal (x ∷ y ∷ xs) → EndsFinal (y ∷ xs)
last_tail x y xs h = simp unary_clauses (simp unary_clauses at h)

-- cells with their last one apart, which is the final newline
pub record IsLast {T : Type 0} (cells front : List (Cell T)) (last : Cell T) : Type 0 where
  pub is : cells ≡ front ++ last ∷ []
  pub stamp : last.stamp ≡ FINAL
  pub ch : last.ch ≡ 10
  pub gone : last.gone ≡ false

pub final_last : {T : Type 0} (cells : List (Cell T)) → EndsFinal cells → (front : List (Cell T)) × (last : Cell T) × IsLast cells front last
final_last [] h = let bad : ⊥ = cc in absurd bad
final_last (x ∷ []) h =
    let e : map_state (λ _. final_cell.state) x ≡ final_cell = cc in
    ([], x, record { is = refl; stamp = ap (λ (cell : Cell ℕ). cell.stamp) e; ch = ap (λ (cell : Cell ℕ). cell.ch) e; gone = ap (λ (cell : Cell ℕ). cell.gone) e })
final_last (x ∷ y ∷ xs) h =
    let (front, last, l) = final_last (y ∷ xs) (last_tail x y xs h) in
    (x ∷ front, last, record { is = ap (λ cells. x ∷ cells) l.is; stamp = l.stamp; ch = l.ch; gone = l.gone })

pub placed : {T : Type 0} (cells : List (Cell T)) (left new : Stamp) → EndsFinal cells → (is_among (stamps_of cells) left ≡ true) ⊎ (left ≡ ROOT) → is_same left FINAL ≡ false → is_before FINAL new ≡ true → IsPlaced cells left new
placed {T} cells left new h k n above =
    let (front, last, l) = final_last cells h in
    let apart : is_same last.stamp left ≡ false = ap (λ s. is_same s left) l.stamp ∙ same_sym FINAL left ∙ n in
    let least : is_before new last.stamp ≡ false = ap (is_before new) l.stamp ∙ before_asym FINAL new above in
    let among : (is_among (stamps_of (front ++ last ∷ [])) left ≡ true) ⊎ (left ≡ ROOT) = subst (λ (cells : List (Cell T)). (is_among (stamps_of cells) left ≡ true) ⊎ (left ≡ ROOT)) l.is k in
    subst (λ (cells : List (Cell T)). IsPlaced cells left new) (sym l.is)
    (record {
      stands = stands left front last apart among;
      above = above;
      within = skip_short left new front last least apart among;
    })

-- LENGTHS

pub length_from : {T : Type 0} (count site : ℕ) (state : T) (text : List ℕ) → length (cells_from count site state text) ≡ length text
length_from count site state [] = refl
length_from count site state (c ∷ cs) = ap suc (length_from (count + 1) site state cs)

pub length_put : {X : Type 0} (n : ℕ) (new xs : List X) → length (put_at n new xs) ≡ length xs + length new
length_put n new xs =
    let a = length-append (take n xs) (new ++ drop n xs) in
    let b = length-append new (drop n xs) in
    let c : length (take n xs) + length (drop n xs) ≡ length xs = sym (length-append (take n xs) (drop n xs)) ∙ ap length (take-append-drop n xs) in
    omega (arith, a, b, c)
