-- What reverting does to a text it does to the portion of its cells that a working copy has.
use Rattle.std.proofs.Common.{◌≡◌, ◌∙◌, ℕ, suc, ◌+◌, ◌&&◌, ◌||◌, not, Bool, true, false, List, [], ◌∷◌, ◌++◌, cond, drop, filter, length, refl, sym, ap, append_assoc, arith, take, take-append-drop, take_while, Some, None}
use Rattle.std.specs.Prelude.{option_and_then, option_map, unwrap_or}
use Rattle.std.proofs.lemmas.Bool.{cond-false, cond-true, or_from, or_parts}
use Rattle.std.proofs.lemmas.List.{append-nil, length-append}
use Rattle.std.proofs.lemmas.List.Elements.{filter-append}
use Rattle.std.proofs.lemmas.List.Sums.{take_while-cons}
use Rattle.rt_stamps.specs.declared.stamp.Stamp.{Stamp}
use Rattle.rt_stamps.specs.declared.stamp.TheConstants.{ROOT}
use Rattle.rt_stamps.specs.Stamps.{is_same}
use Rattle.rt_stamps.proofs.Order.{same_from_true, same_refl}
use Rattle.rt_store.specs.declared.cell.Cell.{Cell}
use Rattle.rt_store.specs.Cells.{after_element, cell_of, position_of, stamps_of, visible_before, visible_of}
use Rattle.rt_store.specs.Spans.{is_among}
use Rattle.rt_store.proofs.Distinct.{split}
use Rattle.rt_plans.specs.DocValue.{put_after}
use Rattle.rt_plans.proofs.InsertDraftLaws.{put_behind}
use Rattle.rt_revert.specs.Portions.{only, others_before, visible_before_stamp}
use Rattle.rt_revert.specs.Reverting.{gone_cell_of}
use Rattle.rt_revert.proofs.CellsParted.{among_both, found_behind, parted, take_front}

-- CELLS THAT A COPY HAS

pub only_has : {T : Type 0} (has : Stamp → Bool) (c : Cell T) (cs : List (Cell T)) → has c.stamp ≡ true → only has (c ∷ cs) ≡ c ∷ only has cs
only_has has c cs e = cond-true (has c.stamp) (c ∷ only has cs) (only has cs) e

pub only_not : {T : Type 0} (has : Stamp → Bool) (c : Cell T) (cs : List (Cell T)) → has c.stamp ≡ false → only has (c ∷ cs) ≡ only has cs
only_not has c cs e = cond-false (has c.stamp) (c ∷ only has cs) (only has cs) e

pub only_append : {T : Type 0} (has : Stamp → Bool) (xs ys : List (Cell T)) → only has (xs ++ ys) ≡ only has xs ++ only has ys
only_append {T} has xs ys = filter-append (λ (c : Cell T). has c.stamp) xs ys

other_stamp : (has : Stamp → Bool) (t s : Stamp) → has t ≡ false → has s ≡ true → is_same t s ≡ false
other_stamp has t s n h = split (is_same t s) (λ e. let same : t ≡ s = same_from_true t s e in absurd (let x = ap has same in cc (x, n, h))) (λ e. e)

pub only_among : {T : Type 0} (has : Stamp → Bool) (cells : List (Cell T)) (s : Stamp) → has s ≡ true → is_among (stamps_of (only has cells)) s ≡ is_among (stamps_of cells) s
only_among has [] s h = refl
only_among {T} has (c ∷ cs) s h = split (has c.stamp)
    (λ e. ap (λ (l : List (Cell T)). is_among (stamps_of l) s) (only_has has c cs e) ∙ ap (λ b. is_same c.stamp s || b) (only_among has cs s h))
    (λ e. ap (λ (l : List (Cell T)). is_among (stamps_of l) s) (only_not has c cs e) ∙ only_among has cs s h
    ∙ sym (ap (λ b. b || is_among (stamps_of cs) s) (other_stamp has c.stamp s e h)))

-- no cell that a text hasn't
pub only_none : {T : Type 0} (has : Stamp → Bool) (cells : List (Cell T)) (s : Stamp) → is_among (stamps_of cells) s ≡ false → is_among (stamps_of (only has cells)) s ≡ false
only_none has [] s n = refl
only_none {T} has (c ∷ cs) s n =
    let p = or_parts (is_same c.stamp s) (is_among (stamps_of cs) s) n in
    split (has c.stamp)
    (λ e. ap (λ (l : List (Cell T)). is_among (stamps_of l) s) (only_has has c cs e) ∙ or_from (is_same c.stamp s) _ p.0 (only_none has cs s p.1))
    (λ e. ap (λ (l : List (Cell T)). is_among (stamps_of l) s) (only_not has c cs e) ∙ only_none has cs s p.1)

only_cell : {T : Type 0} (has : Stamp → Bool) (cells : List (Cell T)) (s : Stamp) → has s ≡ true → cell_of (only has cells) s ≡ cell_of cells s
only_cell has [] s h = refl
only_cell {T} has (c ∷ cs) s h = split (has c.stamp)
    (λ e. ap (λ (l : List (Cell T)). cell_of l s) (only_has has c cs e) ∙ ap (λ o. cond (is_same c.stamp s) (Some c) o) (only_cell has cs s h))
    (λ e. ap (λ (l : List (Cell T)). cell_of l s) (only_not has c cs e) ∙ only_cell has cs s h
    ∙ sym (cond-false (is_same c.stamp s) (Some c) (cell_of cs s) (other_stamp has c.stamp s e h)))

pub only_gone_cell : {T : Type 0} (has : Stamp → Bool) (cells : List (Cell T)) (s : Stamp) → has s ≡ true → gone_cell_of (only has cells) s ≡ gone_cell_of cells s
only_gone_cell {T} has cells s h = ap (option_and_then (λ (cell : Cell T). cond cell.gone (Some cell) None)) (only_cell has cells s h)

-- CELLS THAT A COPY HASN'T

abbrev pub is_other : {T : Type 0} → (Stamp → Bool) → Cell T → Bool
is_other has cell = not cell.gone && not (has cell.stamp)

-- all visible ones
abbrev pub others : {T : Type 0} → (Stamp → Bool) → List (Cell T) → ℕ
others {T} has cells = length (filter (λ (cell : Cell T). is_other has cell) cells)

has_no_other : {T : Type 0} (has : Stamp → Bool) (c : Cell T) → has c.stamp ≡ true → is_other has c ≡ false
has_no_other has c e = by c.gone (has c.stamp) e
  where
    by : (a b : Bool) → b ≡ true → (not a && not b) ≡ false
    by true true e = refl
    by false true e = refl
    by a false e = absurd (cc e)

pub before_cons : {T : Type 0} (has : Stamp → Bool) (c : Cell T) (cs : List (Cell T)) (s : Stamp) → others_before has (c ∷ cs) s
    ≡ length (filter (λ (cell : Cell T). is_other has cell) (cond (not (is_same c.stamp s)) (c ∷ take_while (λ (cell : Cell T). not (is_same cell.stamp s)) cs) []))
before_cons {T} has c cs s = ap (λ l. length (filter (λ (cell : Cell T). is_other has cell) l)) (take_while-cons (λ (cell : Cell T). not (is_same cell.stamp s)) c cs)

pub others_parted : {T : Type 0} (has : Stamp → Bool) (front : List (Cell T)) (x : Cell T) (rest : List (Cell T)) → is_among (stamps_of front) x.stamp ≡ false
    → others_before has (front ++ x ∷ rest) x.stamp ≡ others has front
others_parted {T} has [] x rest n =
    before_cons has x rest x.stamp
    ∙ ap (λ b. length (filter (λ (cell : Cell T). is_other has cell) (cond (not b) (x ∷ take_while (λ (cell : Cell T). not (is_same cell.stamp x.stamp)) rest) []))) (same_refl x.stamp)
others_parted {T} has (c ∷ front) x rest n =
    let p = or_parts (is_same c.stamp x.stamp) (is_among (stamps_of front) x.stamp) n in
    let before = take_while (λ (cell : Cell T). not (is_same cell.stamp x.stamp)) (front ++ x ∷ rest) in
    before_cons has c (front ++ x ∷ rest) x.stamp
    ∙ ap (λ b. length (filter (λ (cell : Cell T). is_other has cell) (cond (not b) (c ∷ before) []))) p.0
    ∙ one_more (is_other has c) (filter (λ (cell : Cell T). is_other has cell) before) (filter (λ (cell : Cell T). is_other has cell) front) (others_parted has front x rest p.1)
  where
    one_more : (b : Bool) (xs ys : List (Cell T)) → length xs ≡ length ys → length (cond b (c ∷ xs) xs) ≡ length (cond b (c ∷ ys) ys)
    one_more true xs ys e = ap suc e
    one_more false xs ys e = e

others_append : {T : Type 0} (has : Stamp → Bool) (xs : List (Cell T)) (x : Cell T) → has x.stamp ≡ true → others has (xs ++ x ∷ []) ≡ others has xs
others_append {T} has xs x e =
    ap length (filter-append (λ (cell : Cell T). is_other has cell) xs (x ∷ []))
    ∙ ap (λ b. length (filter (λ (cell : Cell T). is_other has cell) xs ++ cond b (x ∷ []) [])) (has_no_other has x e)
    ∙ ap length (append-nil (filter (λ (cell : Cell T). is_other has cell) xs))

-- how many are visible: those of the copy, and the others
pub visible_parts : {T : Type 0} (has : Stamp → Bool) (cells : List (Cell T)) → length (visible_of cells) ≡ length (visible_of (only has cells)) + others has cells
visible_parts has [] = refl
visible_parts {T} has (c ∷ cs) =
    by c.gone (has c.stamp) (visible_of cs) (visible_of (only has cs)) (filter (λ (cell : Cell T). is_other has cell) cs) (visible_parts has cs)
    ∙ ap (λ n. n + others has (c ∷ cs)) (sym (inside (has c.stamp) (only has cs)))
  where
    inside : (b : Bool) (os : List (Cell T)) → length (visible_of (cond b (c ∷ os) os)) ≡ length (cond b (cond (not c.gone) (c ∷ visible_of os) (visible_of os)) (visible_of os))
    inside true os = refl
    inside false os = refl

    by : (a b : Bool) (vs os fs : List (Cell T)) → length vs ≡ length os + length fs
        → length (cond (not a) (c ∷ vs) vs) ≡ length (cond b (cond (not a) (c ∷ os) os) os) + length (cond (not a && not b) (c ∷ fs) fs)
    by true true vs os fs h = h
    by true false vs os fs h = h
    by false true vs os fs h = omega (arith, h)
    by false false vs os fs h = omega (arith, h)

-- WHERE A CELL STANDS

place_behind : {T : Type 0} (front : List (Cell T)) (x : Cell T) (rest : List (Cell T)) → is_among (stamps_of front) x.stamp ≡ false → visible_before_stamp (front ++ x ∷ rest) x.stamp ≡ length (visible_of front)
place_behind {T} front x rest n =
    ap (λ o. unwrap_or (option_map (visible_before (front ++ x ∷ rest)) o) 0) (found_behind front rest x n)
    ∙ ap (λ (l : List (Cell T)). length (visible_of l)) (take_front front (x ∷ rest))

-- the cells of the copy on both sides
only_parted : {T : Type 0} (has : Stamp → Bool) (front : List (Cell T)) (x : Cell T) (rest : List (Cell T)) → has x.stamp ≡ true → only has (front ++ x ∷ rest) ≡ only has front ++ x ∷ only has rest
only_parted has front x rest e = only_append has front (x ∷ rest) ∙ ap (λ l. only has front ++ l) (only_has has x rest e)

pub place_law : {T : Type 0} (has : Stamp → Bool) (cells : List (Cell T)) (s : Stamp) → has s ≡ true → is_among (stamps_of cells) s ≡ true
    → visible_before_stamp cells s ≡ visible_before_stamp (only has cells) s + others_before has cells s
place_law {T} has cells s h a =
    let q = parted cells s a in
    let front = q.0 in
    let x = q.1 in
    let rest = q.2 in
    let w = q.3 in
    let hx : has x.stamp ≡ true = ap has w.stamp ∙ h in
    let n : is_among (stamps_of front) x.stamp ≡ false = ap (is_among (stamps_of front)) w.stamp ∙ w.apart in
    let none : is_among (stamps_of (only has front)) x.stamp ≡ false = only_none has front x.stamp n in
    let ours : visible_before_stamp (only has (front ++ x ∷ rest)) x.stamp ≡ length (visible_of (only has front)) =
    ap (λ (l : List (Cell T)). visible_before_stamp l x.stamp) (only_parted has front x rest hx) ∙ place_behind (only has front) x (only has rest) none in
    let all : visible_before_stamp (front ++ x ∷ rest) x.stamp ≡ visible_before_stamp (only has (front ++ x ∷ rest)) x.stamp + others_before has (front ++ x ∷ rest) x.stamp =
    omega (arith, place_behind front x rest n, ours, others_parted has front x rest n, visible_parts has front) in
    (λ i. visible_before_stamp (w.is i) (sym w.stamp i)) ∙ all ∙ (λ i. visible_before_stamp (only has (sym w.is i)) (w.stamp i) + others_before has (sym w.is i) (w.stamp i))

-- A CELL MORE

put_first : {T : Type 0} (cells : List (Cell T)) (s : Stamp) (new : List (Cell T)) → is_same s ROOT ≡ true → put_after cells s new ≡ new ++ cells
put_first {T} cells s new e = ap (λ n. take n cells ++ new ++ drop n cells) (cond-true (is_same s ROOT) 0 (unwrap_or (position_of cells s) 0 + 1) e)

pub only_put : {T : Type 0} (has : Stamp → Bool) (cells : List (Cell T)) (s : Stamp) (new : List (Cell T)) → has s ≡ true → is_among (stamps_of cells) s ≡ true → only has new ≡ new
    → only has (put_after cells s new) ≡ put_after (only has cells) s new
only_put {T} has cells s new h a k = split (is_same s ROOT)
    (λ e. ap (only has) (put_first cells s new e) ∙ only_append has new cells ∙ ap (λ l. l ++ only has cells) k ∙ sym (put_first (only has cells) s new e))
    (λ e.
    let q = parted cells s a in
    let front = q.0 in
    let x = q.1 in
    let rest = q.2 in
    let w = q.3 in
    let hx : has x.stamp ≡ true = ap has w.stamp ∙ h in
    let n : is_among (stamps_of front) x.stamp ≡ false = ap (is_among (stamps_of front)) w.stamp ∙ w.apart in
    let root : is_same x.stamp ROOT ≡ false = ap (λ (t : Stamp). is_same t ROOT) w.stamp ∙ e in
    let one : only has (front ++ x ∷ []) ≡ only has front ++ x ∷ [] = only_parted has front x [] hx in
    let all : only has (put_after (front ++ x ∷ rest) x.stamp new) ≡ put_after (only has (front ++ x ∷ rest)) x.stamp new =
    ap (only has) (put_behind front x rest new root n)
    ∙ only_append has ((front ++ x ∷ []) ++ new) rest
    ∙ ap (λ l. l ++ only has rest) (only_append has (front ++ x ∷ []) new ∙ (λ i. one i ++ k i))
    ∙ sym (put_behind (only has front) x (only has rest) new root (only_none has front x.stamp n))
    ∙ ap (λ l. put_after l x.stamp new) (sym (only_parted has front x rest hx)) in
    (λ i. only has (put_after (w.is i) (sym w.stamp i) new)) ∙ all ∙ (λ i. put_after (only has (sym w.is i)) (w.stamp i) new))

-- where it comes to stand
after_found : {T : Type 0} (front : List (Cell T)) (x : Cell T) (rest : List (Cell T)) → is_same x.stamp ROOT ≡ false → is_among (stamps_of front) x.stamp ≡ false
    → after_element (front ++ x ∷ rest) x.stamp ≡ length (front ++ x ∷ [])
after_found {T} front x rest root n =
    cond-false (is_same x.stamp ROOT) 0 (unwrap_or (position_of (front ++ x ∷ rest) x.stamp) 0 + 1) root
    ∙ omega (arith, ap (λ o. unwrap_or o 0) (found_behind front rest x n), length-append front (x ∷ []))

visible_behind : {T : Type 0} (front : List (Cell T)) (x : Cell T) (rest : List (Cell T)) → is_same x.stamp ROOT ≡ false → is_among (stamps_of front) x.stamp ≡ false
    → visible_before (front ++ x ∷ rest) (after_element (front ++ x ∷ rest) x.stamp) ≡ length (visible_of (front ++ x ∷ []))
visible_behind {T} front x rest root n =
    (λ i. visible_before (sym (append_assoc front (x ∷ []) rest) i) (after_found front x rest root n i))
    ∙ ap (λ (l : List (Cell T)). length (visible_of l)) (take_front (front ++ x ∷ []) rest)

pub spot_law : {T : Type 0} (has : Stamp → Bool) (cells : List (Cell T)) (s : Stamp) → has s ≡ true → is_among (stamps_of cells) s ≡ true
    → visible_before cells (after_element cells s) ≡ visible_before (only has cells) (after_element (only has cells) s) + cond (is_same s ROOT) 0 (others_before has cells s)
spot_law {T} has cells s h a = split (is_same s ROOT)
    (λ e.
    let first : (xs : List (Cell T)) → visible_before xs (after_element xs s) ≡ 0 = λ xs. ap (visible_before xs) (cond-true (is_same s ROOT) 0 (unwrap_or (position_of xs s) 0 + 1) e) in
    omega (arith, first cells, first (only has cells), cond-true (is_same s ROOT) 0 (others_before has cells s) e))
    (λ e.
    let q = parted cells s a in
    let front = q.0 in
    let x = q.1 in
    let rest = q.2 in
    let w = q.3 in
    let hx : has x.stamp ≡ true = ap has w.stamp ∙ h in
    let n : is_among (stamps_of front) x.stamp ≡ false = ap (is_among (stamps_of front)) w.stamp ∙ w.apart in
    let root : is_same x.stamp ROOT ≡ false = ap (λ (t : Stamp). is_same t ROOT) w.stamp ∙ e in
    let one : only has (front ++ x ∷ []) ≡ only has front ++ x ∷ [] = only_parted has front x [] hx in
    let ours : visible_before (only has (front ++ x ∷ rest)) (after_element (only has (front ++ x ∷ rest)) x.stamp) ≡ length (visible_of (only has (front ++ x ∷ []))) =
    ap (λ (l : List (Cell T)). visible_before l (after_element l x.stamp)) (only_parted has front x rest hx)
    ∙ visible_behind (only has front) x (only has rest) root (only_none has front x.stamp n)
    ∙ ap (λ (l : List (Cell T)). length (visible_of l)) (sym one) in
    let all : visible_before (front ++ x ∷ rest) (after_element (front ++ x ∷ rest) x.stamp)
    ≡ visible_before (only has (front ++ x ∷ rest)) (after_element (only has (front ++ x ∷ rest)) x.stamp) + others_before has (front ++ x ∷ rest) x.stamp =
    omega (arith, visible_behind front x rest root n, ours, others_parted has front x rest n, visible_parts has (front ++ x ∷ []), others_append has front x hx) in
    (λ i. visible_before (w.is i) (after_element (w.is i) (sym w.stamp i))) ∙ all
    ∙ (λ i. visible_before (only has (sym w.is i)) (after_element (only has (sym w.is i)) (w.stamp i)) + others_before has (sym w.is i) (w.stamp i))
    ∙ ap (λ n. visible_before (only has cells) (after_element (only has cells) s) + n) (sym (cond-false (is_same s ROOT) 0 (others_before has cells s) e)))

-- the others before each cell, with one more cell that the copy has
others_skip : {T : Type 0} (has : Stamp → Bool) (xs ys : List (Cell T)) (y : Cell T) (t : Stamp) → has y.stamp ≡ true → is_same y.stamp t ≡ false
    → others_before has (xs ++ y ∷ ys) t ≡ others_before has (xs ++ ys) t
others_skip {T} has [] ys y t h n =
    let test = λ (cell : Cell T). is_other has cell in
    let before = take_while (λ (cell : Cell T). not (is_same cell.stamp t)) ys in
    before_cons has y ys t ∙ ap (λ b. length (filter test (cond (not b) (y ∷ before) []))) n ∙ ap (λ b. length (cond b (y ∷ filter test before) (filter test before))) (has_no_other has y h)
others_skip {T} has (x ∷ xs) ys y t h n =
    let before = take_while (λ (cell : Cell T). not (is_same cell.stamp t)) (xs ++ y ∷ ys) in
    let after = take_while (λ (cell : Cell T). not (is_same cell.stamp t)) (xs ++ ys) in
    before_cons has x (xs ++ y ∷ ys) t ∙ one_more (is_same x.stamp t) before after (others_skip has xs ys y t h n) ∙ sym (before_cons has x (xs ++ ys) t)
  where
    length_more : (b : Bool) (us vs : List (Cell T)) → length us ≡ length vs → length (cond b (x ∷ us) us) ≡ length (cond b (x ∷ vs) vs)
    length_more true us vs e = ap suc e
    length_more false us vs e = e

    one_more : (a : Bool) (us vs : List (Cell T)) → length (filter (λ (cell : Cell T). is_other has cell) us) ≡ length (filter (λ (cell : Cell T). is_other has cell) vs)
        → length (filter (λ (cell : Cell T). is_other has cell) (cond (not a) (x ∷ us) [])) ≡ length (filter (λ (cell : Cell T). is_other has cell) (cond (not a) (x ∷ vs) []))
    one_more true us vs e = refl
    one_more false us vs e = length_more (is_other has x) (filter (λ (cell : Cell T). is_other has cell) us) (filter (λ (cell : Cell T). is_other has cell) vs) e

put_parts : {T : Type 0} (cells : List (Cell T)) (s : Stamp) (y : Cell T) → put_after cells s (y ∷ []) ≡ take (after_element cells s) cells ++ y ∷ drop (after_element cells s) cells
put_parts cells s y = append_assoc (take (after_element cells s) cells) (y ∷ []) (drop (after_element cells s) cells)

pub others_put : {T : Type 0} (has : Stamp → Bool) (cells : List (Cell T)) (s : Stamp) (y : Cell T) (t : Stamp) → has y.stamp ≡ true → is_same y.stamp t ≡ false
    → others_before has (put_after cells s (y ∷ [])) t ≡ others_before has cells t
others_put {T} has cells s y t h n =
    let at = after_element cells s in
    ap (λ (l : List (Cell T)). others_before has l t) (put_parts cells s y) ∙ others_skip has (take at cells) (drop at cells) y t h n
    ∙ ap (λ (l : List (Cell T)). others_before has l t) (take-append-drop at cells)

-- and before that cell
pub others_new : {T : Type 0} (has : Stamp → Bool) (cells : List (Cell T)) (s : Stamp) (y : Cell T) → has s ≡ true → is_among (stamps_of cells) s ≡ true → is_among (stamps_of cells) y.stamp ≡ false
    → others_before has (put_after cells s (y ∷ [])) y.stamp ≡ cond (is_same s ROOT) 0 (others_before has cells s)
others_new {T} has cells s y h a fresh = split (is_same s ROOT)
    (λ e. ap (λ (l : List (Cell T)). others_before has l y.stamp) (put_first cells s (y ∷ []) e) ∙ others_parted has [] y cells refl ∙ sym (cond-true (is_same s ROOT) 0 (others_before has cells s) e))
    (λ e.
    let q = parted cells s a in
    let front = q.0 in
    let x = q.1 in
    let rest = q.2 in
    let w = q.3 in
    let hx : has x.stamp ≡ true = ap has w.stamp ∙ h in
    let n : is_among (stamps_of front) x.stamp ≡ false = ap (is_among (stamps_of front)) w.stamp ∙ w.apart in
    let root : is_same x.stamp ROOT ≡ false = ap (λ (t : Stamp). is_same t ROOT) w.stamp ∙ e in
    let whole : is_among (stamps_of ((front ++ x ∷ []) ++ rest)) y.stamp ≡ false =
    ap (λ (l : List (Cell T)). is_among (stamps_of l) y.stamp) (append_assoc front (x ∷ []) rest ∙ sym w.is) ∙ fresh in
    let none : is_among (stamps_of (front ++ x ∷ [])) y.stamp ≡ false = (or_parts _ (is_among (stamps_of rest) y.stamp) (sym (among_both (front ++ x ∷ []) rest y.stamp) ∙ whole)).0 in
    let all : others_before has (put_after (front ++ x ∷ rest) x.stamp (y ∷ [])) y.stamp ≡ others_before has (front ++ x ∷ rest) x.stamp =
    ap (λ (l : List (Cell T)). others_before has l y.stamp) (put_behind front x rest (y ∷ []) root n ∙ append_assoc (front ++ x ∷ []) (y ∷ []) rest)
    ∙ others_parted has (front ++ x ∷ []) y rest none ∙ others_append has front x hx ∙ sym (others_parted has front x rest n) in
    (λ i. others_before has (put_after (w.is i) (sym w.stamp i) (y ∷ [])) y.stamp) ∙ all ∙ (λ i. others_before has (sym w.is i) (w.stamp i))
    ∙ sym (cond-false (is_same s ROOT) 0 (others_before has cells s) e))
