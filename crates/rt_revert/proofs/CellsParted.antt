-- Cells on both sides of one that a stamp names.
use Rattle.std.proofs.Common.{append_assoc, drop, subst, take-append-drop, ◌≤◌, ◌≡◌, ◌∙◌, suc, ◌+◌, ◌||◌, Bool, true, false, List, [], ◌∷◌, ◌++◌, cond, length, not, refl, sym, ap, arith, take, Some}
use Rattle.std.specs.Prelude.{option_map, unwrap_or}
use Rattle.std.proofs.lemmas.Bool.{or_from, or_parts}
use Rattle.rt_stamps.specs.declared.stamp.Stamp.{Stamp}
use Rattle.rt_stamps.specs.Stamps.{is_same}
use Rattle.rt_stamps.proofs.Order.{same_from_true, same_refl, same_sym}
use Rattle.rt_store.specs.declared.cell.Cell.{Cell}
use Rattle.rt_store.specs.Cells.{AreDistinct, after_element, position_of, stamps_of, visible_before, visible_of}
use Rattle.rt_store.specs.Spans.{is_among}
use Rattle.rt_store.proofs.Distinct.{distinct_more, first_apart, others_distinct, split}
use Rattle.rt_store.proofs.Nearest.{position_cons}
use Rattle.rt_plans.specs.DocValue.{put_after}
use Rattle.rt_revert.specs.Portions.{visible_before_stamp}

-- the cells in front of the first one with a stamp, and those behind it
pub record IsParted {T : Type 0} (cells : List (Cell T)) (s : Stamp) (front : List (Cell T)) (x : Cell T) (rest : List (Cell T)) : Type 0 where
  pub is : cells ≡ front ++ x ∷ rest
  pub stamp : x.stamp ≡ s
  pub apart : is_among (stamps_of front) s ≡ false

pub parted : {T : Type 0} (cells : List (Cell T)) (s : Stamp) → is_among (stamps_of cells) s ≡ true
    → (front : List (Cell T)) × (x : Cell T) × (rest : List (Cell T)) × IsParted cells s front x rest
parted [] s h = absurd (cc h)
parted {T} (c ∷ cs) s h = split (is_same c.stamp s)
    (λ e. ([], c, cs, record { is = refl; stamp = same_from_true c.stamp s e; apart = refl }))
    (λ e.
    let q = parted cs s (sym (ap (λ b. b || is_among (stamps_of cs) s) e) ∙ h) in
    let w = q.3 in
    (c ∷ q.0, q.1, q.2, record { is = ap (λ l. c ∷ l) w.is; stamp = w.stamp; apart = or_from (is_same c.stamp s) _ e w.apart }))

pub found_behind : {T : Type 0} (pre post : List (Cell T)) (x : Cell T) → is_among (stamps_of pre) x.stamp ≡ false → position_of (pre ++ x ∷ post) x.stamp ≡ Some (length pre)
found_behind {T} [] post x n = position_cons (λ (cell : Cell T). is_same cell.stamp x.stamp) x post ∙ ap (λ b. cond b (Some 0) (option_map suc (position_of post x.stamp))) (same_refl x.stamp)
found_behind {T} (p ∷ pre) post x n =
    let apart = or_parts (is_same p.stamp x.stamp) (is_among (stamps_of pre) x.stamp) n in
    position_cons (λ (cell : Cell T). is_same cell.stamp x.stamp) p (pre ++ x ∷ post)
    ∙ ap (λ b. cond b (Some 0) (option_map suc (position_of (pre ++ x ∷ post) x.stamp))) apart.0
    ∙ ap (option_map suc) (found_behind pre post x apart.1)

pub take_front : {X : Type 0} (pre post : List X) → take (length pre) (pre ++ post) ≡ pre
take_front [] post = refl
take_front (p ∷ pre) post = ap (λ l. p ∷ l) (take_front pre post)

pub among_both : {T : Type 0} (xs ys : List (Cell T)) (s : Stamp) → is_among (stamps_of (xs ++ ys)) s ≡ (is_among (stamps_of xs) s || is_among (stamps_of ys) s)
among_both [] ys s = refl
among_both (x ∷ xs) ys s = ap (λ b. is_same x.stamp s || b) (among_both xs ys s) ∙ sym (or_assoc (is_same x.stamp s) (is_among (stamps_of xs) s) (is_among (stamps_of ys) s))
  where
    or_assoc : (a b d : Bool) → ((a || b) || d) ≡ (a || (b || d))
    or_assoc true b d = refl
    or_assoc false b d = refl

-- how many visible cells stand before a cell, with one more in front
pub place_first : {T : Type 0} (c : Cell T) (cs : List (Cell T)) (s : Stamp) → is_same c.stamp s ≡ true → visible_before_stamp (c ∷ cs) s ≡ 0
place_first {T} c cs s e =
    ap (λ o. unwrap_or (option_map (visible_before (c ∷ cs)) o) 0) (position_cons (λ (cell : Cell T). is_same cell.stamp s) c cs ∙ ap (λ b. cond b (Some 0) (option_map suc (position_of cs s))) e)

pub place_next : {T : Type 0} (c : Cell T) (cs : List (Cell T)) (s : Stamp) → is_same c.stamp s ≡ false → is_among (stamps_of cs) s ≡ true → visible_before_stamp (c ∷ cs) s ≡ cond c.gone 0 1 + visible_before_stamp cs s
place_next {T} c cs s e a =
    let q = parted cs s a in
    let w = q.3 in
    let n : is_among (stamps_of q.0) q.1.stamp ≡ false = ap (is_among (stamps_of q.0)) w.stamp ∙ w.apart in
    let found : position_of cs s ≡ Some (length q.0) = (λ i. position_of (w.is i) (sym w.stamp i)) ∙ found_behind q.0 q.2 q.1 n in
    ap (λ o. unwrap_or (option_map (visible_before (c ∷ cs)) o) 0) (position_cons (λ (cell : Cell T). is_same cell.stamp s) c cs ∙ ap (λ b. cond b (Some 0) (option_map suc (position_of cs s))) e ∙ ap (option_map suc) found)
    ∙ one_more c.gone (visible_of (take (length q.0) cs))
    ∙ ap (λ o. cond c.gone 0 1 + unwrap_or (option_map (visible_before cs) o) 0) (sym found)
  where
    one_more : (b : Bool) (vs : List (Cell T)) → length (cond (not b) (c ∷ vs) vs) ≡ cond b 0 1 + length vs
    one_more true vs = omega arith
    one_more false vs = omega arith

-- A NEW CELL

distinct_in : {T : Type 0} (pre post : List (Cell T)) (x : Cell T) → AreDistinct (pre ++ post) → is_among (stamps_of (pre ++ post)) x.stamp ≡ false → AreDistinct (pre ++ x ∷ post)
distinct_in [] post x d n = distinct_more x.stamp (stamps_of post) n d
distinct_in (p ∷ pre) post x d n =
    let apart = or_parts (is_same p.stamp x.stamp) (is_among (stamps_of (pre ++ post)) x.stamp) n in
    let first = first_apart p.stamp (stamps_of (pre ++ post)) d in
    let sides = or_parts (is_among (stamps_of pre) p.stamp) (is_among (stamps_of post) p.stamp) (sym (among_both pre post p.stamp) ∙ first) in
    let none : is_among (stamps_of (pre ++ x ∷ post)) p.stamp ≡ false =
    among_both pre (x ∷ post) p.stamp ∙ or_from (is_among (stamps_of pre) p.stamp) _ sides.0 (or_from (is_same x.stamp p.stamp) _ (same_sym x.stamp p.stamp ∙ apart.0) sides.1) in
    distinct_more p.stamp (stamps_of (pre ++ x ∷ post)) none (distinct_in pre post x (others_distinct p.stamp (stamps_of (pre ++ post)) d) apart.1)

-- cells with one more behind an element, in two parts
parts : {T : Type 0} (cells : List (Cell T)) (left : Stamp) (x : Cell T) → put_after cells left (x ∷ []) ≡ take (after_element cells left) cells ++ x ∷ drop (after_element cells left) cells
parts cells left x = append_assoc (take (after_element cells left) cells) (x ∷ []) (drop (after_element cells left) cells)

pub put_distinct : {T : Type 0} (cells : List (Cell T)) (left : Stamp) (x : Cell T) → AreDistinct cells → is_among (stamps_of cells) x.stamp ≡ false → AreDistinct (put_after cells left (x ∷ []))
put_distinct {T} cells left x d n =
    let at = after_element cells left in
    let whole : take at cells ++ drop at cells ≡ cells = take-append-drop at cells in
    subst AreDistinct (sym (parts cells left x))
    (distinct_in (take at cells) (drop at cells) x (subst AreDistinct (sym whole) d) (ap (λ (l : List (Cell T)). is_among (stamps_of l) x.stamp) whole ∙ n))

pub put_among : {T : Type 0} (cells : List (Cell T)) (left : Stamp) (x : Cell T) (s : Stamp) → is_among (stamps_of (put_after cells left (x ∷ []))) s ≡ (is_same x.stamp s || is_among (stamps_of cells) s)
put_among {T} cells left x s =
    let at = after_element cells left in
    let pre = take at cells in
    let post = drop at cells in
    ap (λ (l : List (Cell T)). is_among (stamps_of l) s) (parts cells left x) ∙ among_both pre (x ∷ post) s
    ∙ swap (is_among (stamps_of pre) s) (is_same x.stamp s) (is_among (stamps_of post) s)
    ∙ ap (λ b. is_same x.stamp s || b) (sym (among_both pre post s) ∙ ap (λ (l : List (Cell T)). is_among (stamps_of l) s) (take-append-drop at cells))
  where
    swap : (a b d : Bool) → (a || (b || d)) ≡ (b || (a || d))
    swap true true d = refl
    swap true false d = refl
    swap false b d = refl

-- the place of a new cell
pub new_place : {T : Type 0} (cells : List (Cell T)) (left : Stamp) (x : Cell T) → after_element cells left ≤ length cells → is_among (stamps_of cells) x.stamp ≡ false
    → unwrap_or (option_map (visible_before (put_after cells left (x ∷ []))) (position_of (put_after cells left (x ∷ [])) x.stamp)) 0 ≡ visible_before cells (after_element cells left)
new_place {T} cells left x le n =
    let at = after_element cells left in
    let pre = take at cells in
    let post = drop at cells in
    let whole : pre ++ post ≡ cells = take-append-drop at cells in
    let apart : is_among (stamps_of pre) x.stamp ≡ false =
    (or_parts (is_among (stamps_of pre) x.stamp) (is_among (stamps_of post) x.stamp) (sym (among_both pre post x.stamp) ∙ ap (λ (l : List (Cell T)). is_among (stamps_of l) x.stamp) whole ∙ n)).0 in
    ap (λ (l : List (Cell T)). unwrap_or (option_map (visible_before l) (position_of l x.stamp)) 0) (parts cells left x)
    ∙ ap (λ o. unwrap_or (option_map (visible_before (pre ++ x ∷ post)) o) 0) (found_behind pre post x apart)
    ∙ ap (λ (l : List (Cell T)). length (visible_of l)) (take_front pre (x ∷ post))
