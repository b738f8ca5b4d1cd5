-- The positions of cells that are named, in order, and what stands there.
use Rattle.std.proofs.Common.{All, ◌⊎◌, inl, inr, ◌≡◌, ◌∙◌, ℕ, zero, suc, ◌+◌, ◌-◌, ◌<◌, ◌≤◌, ◌==◌, ◌||◌, Bool, true, false, List, [], ◌∷◌, ◌++◌, cond, get_or, length, map, refl, sym, ap, subst, arith, take, Option, Some, None}
use Rattle.std.specs.Prelude.{option_map, slice_get, unwrap_or}
use Rattle.std.proofs.lemmas.Bool.{cond-false, or_from, or_left, or_parts}
use Rattle.std.proofs.lemmas.Bool.Decides.{nat_tests}
use Rattle.std.proofs.lemmas.List.Folds.{list_any-append}
use Rattle.std.proofs.lemmas.List.{length-append}
use Rattle.std.proofs.lemmas.List.Elements.{All-cons}
use Rattle.std.proofs.lemmas.Option.{slice_get_cases}
use Rattle.std.specs.List.{dedup, dedup_from, slice_index}
use Rattle.std.specs.List.Sorted.{IsStrictlyIncreasing}
use Rattle.rt_stamps.specs.declared.stamp.Stamp.{Stamp}
use Rattle.rt_stamps.specs.declared.stamp.TheConstants.{FINAL, ROOT}
use Rattle.rt_stamps.specs.Stamps.{is_same}
use Rattle.rt_stamps.proofs.Order.{same_from_true, same_refl, same_sym}
use Rattle.rt_store.specs.declared.cell.Cell.{Cell}
use Rattle.rt_store.specs.Cells.{AreDistinct, EndsFinal, after_element, position_of, skip_from, stamps_of}
use Rattle.rt_store.specs.Spans.{is_among}
use Rattle.rt_store.specs.Written.{AreBelowNext}
use Rattle.rt_store.proofs.Distinct.{first_apart, others_distinct, split}
use Rattle.rt_store.proofs.Nearest.{position_cons}
use Rattle.rt_store.proofs.Places.{final_last}
use Rattle.rt_plans.proofs.CellLaws.{skip_from_newest}
use Rattle.rt_revert.specs.Named.{AreAt, has_position, is_one_at}
use Rattle.rt_revert.specs.Portions.{only}
use Rattle.rt_revert.proofs.CellsParted.{among_both, found_behind, parted}

-- WHAT STANDS AT A POSITION

-- a test of the cell at a position
abbrev at_cell : {T : Type 0} → (Stamp → Bool) → List (Cell T) → ℕ → Bool
at_cell {T} test cells at = unwrap_or (option_map (λ (cell : Cell T). test cell.stamp) (slice_get cells at)) false

pub stands_more : {T : Type 0} (xs ys : List Stamp) (cells : List (Cell T)) (at : ℕ) → is_one_at (xs ++ ys) cells at ≡ (is_one_at xs cells at || is_one_at ys cells at)
stands_more {T} xs ys cells at = by (slice_get cells at)
  where
    by : (o : Option (Cell T)) → unwrap_or (option_map (λ (cell : Cell T). is_among (xs ++ ys) cell.stamp) o) false
        ≡ (unwrap_or (option_map (λ (cell : Cell T). is_among xs cell.stamp) o) false || unwrap_or (option_map (λ (cell : Cell T). is_among ys cell.stamp) o) false)
    by None = refl
    by (Some c) = list_any-append (λ s. is_same s c.stamp) xs ys

pub stands_none : {T : Type 0} (cells : List (Cell T)) (at : ℕ) → is_one_at [] cells at ≡ false
stands_none {T} cells at = by (slice_get cells at)
  where
    by : (o : Option (Cell T)) → unwrap_or (option_map (λ (cell : Cell T). is_among [] cell.stamp) o) false ≡ false
    by None = refl
    by (Some c) = refl

or_nothing : (b : Bool) → (b || false) ≡ b
or_nothing true = refl
or_nothing false = refl

pub nowhere : {T : Type 0} (s : Stamp) (cells : List (Cell T)) (at : ℕ) → is_among (stamps_of cells) s ≡ false → is_one_at (s ∷ []) cells at ≡ false
nowhere s [] at n = refl
nowhere s (c ∷ cs) zero n = ap (λ b. b || false) (same_sym s c.stamp ∙ (or_parts (is_same c.stamp s) (is_among (stamps_of cs) s) n).0)
nowhere s (c ∷ cs) (suc at) n = nowhere s cs at (or_parts (is_same c.stamp s) (is_among (stamps_of cs) s) n).1

pub no_position : {T : Type 0} (cells : List (Cell T)) (s : Stamp) → position_of cells s ≡ None → is_among (stamps_of cells) s ≡ false
no_position [] s h = refl
no_position {T} (c ∷ cs) s h = by (is_same c.stamp s) (position_of cs s) refl refl (sym (position_cons (λ (cell : Cell T). is_same cell.stamp s) c cs) ∙ h) (no_position cs s)
  where
    by : (b : Bool) (o : Option ℕ) → is_same c.stamp s ≡ b → position_of cs s ≡ o → cond b (Some 0) (option_map suc (position_of cs s)) ≡ None
        → (position_of cs s ≡ None → is_among (stamps_of cs) s ≡ false) → is_among (stamps_of (c ∷ cs)) s ≡ false
    by true o e f k r = absurd (cc k)
    by false None e f k r = or_from (is_same c.stamp s) _ e (r f)
    by false (Some n) e f k r = absurd (let x : option_map suc (Some n) ≡ None = ap (option_map suc) (sym f) ∙ k in cc x)

pub stands_alone : {T : Type 0} (cells : List (Cell T)) (s : Stamp) (p at : ℕ) → AreDistinct cells → position_of cells s ≡ Some p → (p == at) ≡ is_one_at (s ∷ []) cells at
stands_alone [] s p at d h = absurd (cc h)
stands_alone {T} (c ∷ cs) s p at d h =
    by (is_same c.stamp s) (position_of cs s) at refl refl (sym (position_cons (λ (cell : Cell T). is_same cell.stamp s) c cs) ∙ h)
    (λ q n f. stands_alone cs s q n (others_distinct c.stamp (stamps_of cs) d) f)
  where
    first : (n : ℕ) → (0 == suc n) ≡ false
    first n = grind (arith, nat_tests)

    later : (q : ℕ) → (suc q == 0) ≡ false
    later q = grind (arith, nat_tests)

    both : (q n : ℕ) → (suc q == suc n) ≡ (q == n)
    both q n = grind (arith, nat_tests)

    here : (0 == 0) ≡ true
    here = grind (arith, nat_tests)

    by : (b : Bool) (o : Option ℕ) (n : ℕ) → is_same c.stamp s ≡ b → position_of cs s ≡ o → cond b (Some 0) (option_map suc (position_of cs s)) ≡ Some p
        → ((q m : ℕ) → position_of cs s ≡ Some q → (q == m) ≡ is_one_at (s ∷ []) cs m) → (p == n) ≡ is_one_at (s ∷ []) (c ∷ cs) n
    by true o zero e f k r =
        let z : 0 ≡ p = cc k in
        ap (λ m. m == 0) (sym z) ∙ here ∙ sym (or_left (is_same s c.stamp) false (same_sym s c.stamp ∙ e))
    by true o (suc n) e f k r =
        let z : 0 ≡ p = cc k in
        let same : c.stamp ≡ s = same_from_true c.stamp s e in
        ap (λ m. m == suc n) (sym z) ∙ first n ∙ sym (nowhere s cs n (ap (is_among (stamps_of cs)) (sym same) ∙ first_apart c.stamp (stamps_of cs) d))
    by false None n e f k r = absurd (let x : option_map suc None ≡ Some p = ap (option_map suc) (sym f) ∙ k in cc x)
    by false (Some q) zero e f k r =
        let x : option_map suc (Some q) ≡ Some p = ap (option_map suc) (sym f) ∙ k in
        let z : suc q ≡ p = cc x in
        ap (λ m. m == 0) (sym z) ∙ later q ∙ sym (ap (λ b. b || false) (same_sym s c.stamp ∙ e))
    by false (Some q) (suc n) e f k r =
        let x : option_map suc (Some q) ≡ Some p = ap (option_map suc) (sym f) ∙ k in
        let z : suc q ≡ p = cc x in
        ap (λ m. m == suc n) (sym z) ∙ both q n ∙ r q n f

-- the first of the cells with a stamp
pub found_here : {T : Type 0} (cells : List (Cell T)) (p : ℕ) (c : Cell T) → slice_get cells p ≡ Some c → is_among (stamps_of (take p cells)) c.stamp ≡ false → position_of cells c.stamp ≡ Some p
found_here [] p c h n = absurd (cc h)
found_here {T} (x ∷ xs) zero c h n =
    let same : x ≡ c = cc h in
    position_cons (λ (cell : Cell T). is_same cell.stamp c.stamp) x xs
    ∙ ap (λ b. cond b (Some 0) (option_map suc (position_of xs c.stamp))) (ap (λ (y : Cell T). is_same y.stamp c.stamp) same ∙ same_refl c.stamp)
found_here {T} (x ∷ xs) (suc p) c h n =
    let q = or_parts (is_same x.stamp c.stamp) (is_among (stamps_of (take p xs)) c.stamp) n in
    position_cons (λ (cell : Cell T). is_same cell.stamp c.stamp) x xs
    ∙ ap (λ b. cond b (Some 0) (option_map suc (position_of xs c.stamp))) q.0
    ∙ ap (option_map suc) (found_here xs p c h q.1)

pub found_none : {T : Type 0} (cells : List (Cell T)) (s : Stamp) → is_among (stamps_of cells) s ≡ false → position_of cells s ≡ None
found_none [] s n = refl
found_none {T} (x ∷ xs) s n =
    let q = or_parts (is_same x.stamp s) (is_among (stamps_of xs) s) n in
    position_cons (λ (cell : Cell T). is_same cell.stamp s) x xs ∙ ap (λ b. cond b (Some 0) (option_map suc (position_of xs s))) q.0 ∙ ap (option_map suc) (found_none xs s q.1)

-- POSITIONS IN ORDER

-- they rise, from one on
abbrev pub Rise : ℕ → List ℕ → Type 0
Rise low [] = Unit {0}
Rise low (p ∷ ps) = (low ≤ p) × Rise (p + 1) ps

rise_from : (ps : List ℕ) (p : ℕ) → IsStrictlyIncreasing (p ∷ ps) → Rise (p + 1) ps
rise_from [] p h = tt
rise_from (q ∷ ps) p h =
    let less : p < q = h 0 (omega arith) in (
      omega (arith, less),
      rise_from ps q (λ k lt.
          let next : suc k + 1 ≡ suc (k + 1) = omega arith in
          subst (λ n. slice_index (p ∷ q ∷ ps) (suc k) < slice_index (p ∷ q ∷ ps) n) next (h (suc k) (omega (arith, lt)))),
    )

pub rising : (ps : List ℕ) → IsStrictlyIncreasing ps → Rise 0 ps
rising [] h = tt
rising (p ∷ ps) h = (omega arith, rise_from ps p h)

below : (low : ℕ) (ps : List ℕ) (at : ℕ) → Rise low ps → at < low → has_position ps at ≡ false
below low [] at h lt = refl
below low (p ∷ ps) at h lt =
    let apart : (p == at) ≡ false = grind (arith, nat_tests, h.0, lt) in
    or_from (p == at) _ apart (below (p + 1) ps at h.1 (omega (arith, h.0, lt)))

is_first : (p : ℕ) (ps : List ℕ) → has_position (p ∷ ps) p ≡ true
is_first p ps = or_left (p == p) _ (grind (arith, nat_tests))

pub same_rising : (m n : ℕ) (ps qs : List ℕ) → Rise m ps → Rise n qs → ((at : ℕ) → has_position ps at ≡ has_position qs at) → ps ≡ qs
same_rising m n [] [] h k e = refl
same_rising m n [] (q ∷ qs) h k e = absurd (let x : false ≡ true = e q ∙ is_first q qs in cc x)
same_rising m n (p ∷ ps) [] h k e = absurd (let x : false ≡ true = sym (e p) ∙ is_first p ps in cc x)
same_rising m n (p ∷ ps) (q ∷ qs) h k e =
    let not_less : p < q → ⊥ = λ lt. let apart : (q == p) ≡ false = grind (arith, nat_tests, lt) in
    let x : false ≡ true = sym (or_from (q == p) _ apart (below (q + 1) qs p k.1 (omega (arith, lt)))) ∙ sym (e p) ∙ is_first p ps in cc x in
    let not_more : q < p → ⊥ = λ lt. let apart : (p == q) ≡ false = grind (arith, nat_tests, lt) in
    let x : false ≡ true = sym (or_from (p == q) _ apart (below (p + 1) ps q h.1 (omega (arith, lt)))) ∙ e q ∙ is_first q qs in cc x in
    let same : p ≡ q = omega (arith, not_less, not_more) in
    let rest : (at : ℕ) → has_position ps at ≡ has_position qs at = λ at. split (p == at)
    (λ f.
    let one : p ≡ at = grind (arith, nat_tests, f) in
    below (p + 1) ps at h.1 (omega (arith, one)) ∙ sym (below (q + 1) qs at k.1 (omega (arith, one, same))))
    (λ f. ap (λ b. b || has_position ps at) (sym f) ∙ e at ∙ ap (λ b. b || has_position qs at) (ap (λ x. x == at) (sym same) ∙ f)) in
    λ i. same i ∷ same_rising (p + 1) (q + 1) ps qs h.1 k.1 rest i

-- each once
kept_from : (k : ℕ) (ps : List ℕ) (at : ℕ) → has_position (dedup_from (λ x y. x == y) k ps) at ≡ has_position (k ∷ ps) at
kept_from k [] at = refl
kept_from k (p ∷ ps) at = split (p == k)
    (λ e.
    let same : p ≡ k = grind (arith, nat_tests, e) in
    ap (λ b. has_position (cond b (dedup_from (λ x y. x == y) k ps) (k ∷ dedup_from (λ x y. x == y) p ps)) at) e ∙ kept_from k ps at
    ∙ twice (k == at) (has_position ps at) ∙ ap (λ x. (k == at) || ((x == at) || has_position ps at)) (sym same))
    (λ e. ap (λ b. has_position (cond b (dedup_from (λ x y. x == y) k ps) (k ∷ dedup_from (λ x y. x == y) p ps)) at) e ∙ ap (λ b. (k == at) || b) (kept_from p ps at))
  where
    twice : (a b : Bool) → (a || b) ≡ (a || (a || b))
    twice true b = refl
    twice false b = refl

pub kept_once : (ps : List ℕ) (at : ℕ) → has_position (dedup (λ x y. x == y) ps) at ≡ has_position ps at
kept_once [] at = refl
kept_once (p ∷ ps) at = kept_from p ps at

-- THE POSITIONS OF SOME CELLS

abbrev pub positions_where : {T : Type 0} → (Stamp → Bool) → ℕ → List (Cell T) → List ℕ
positions_where has k [] = []
positions_where has k (c ∷ cs) = cond (has c.stamp) (k ∷ positions_where has (k + 1) cs) (positions_where has (k + 1) cs)

where_rise : {T : Type 0} (has : Stamp → Bool) (k low : ℕ) (cells : List (Cell T)) → low ≤ k → Rise low (positions_where has k cells)
where_rise has k low [] le = tt
where_rise {T} has k low (c ∷ cs) le = by (has c.stamp) (where_rise has (k + 1) (k + 1) cs (omega arith)) (where_rise has (k + 1) low cs (omega arith))
  where
    by : (b : Bool) → Rise (k + 1) (positions_where has (k + 1) cs) → Rise low (positions_where has (k + 1) cs) → Rise low (cond b (k ∷ positions_where has (k + 1) cs) (positions_where has (k + 1) cs))
    by true h n = (le, h)
    by false h n = n

where_holds : {T : Type 0} (has : Stamp → Bool) (k : ℕ) (cells : List (Cell T)) (at : ℕ) → has_position (positions_where has k cells) (k + at) ≡ at_cell has cells at
where_holds has k [] at = refl
where_holds {T} has k (c ∷ cs) zero =
    by (has c.stamp)
  where
    apart : has_position (positions_where has (k + 1) cs) (k + 0) ≡ false
    apart = below (k + 1) (positions_where has (k + 1) cs) (k + 0) (where_rise has (k + 1) (k + 1) cs (omega arith)) (omega arith)

    here : (k == (k + 0)) ≡ true
    here = grind (arith, nat_tests)

    by : (b : Bool) → has_position (cond b (k ∷ positions_where has (k + 1) cs) (positions_where has (k + 1) cs)) (k + 0) ≡ b
    by true = or_left (k == (k + 0)) _ here
    by false = apart
where_holds {T} has k (c ∷ cs) (suc at) = by (has c.stamp) ∙ ap (has_position (positions_where has (k + 1) cs)) next ∙ where_holds has (k + 1) cs at
  where
    next : k + suc at ≡ k + 1 + at
    next = omega arith

    apart : (k == (k + suc at)) ≡ false
    apart = grind (arith, nat_tests)

    by : (b : Bool) → has_position (cond b (k ∷ positions_where has (k + 1) cs) (positions_where has (k + 1) cs)) (k + suc at) ≡ has_position (positions_where has (k + 1) cs) (k + suc at)
    by true = ap (λ d. d || has_position (positions_where has (k + 1) cs) (k + suc at)) apart
    by false = refl

where_stand : {X : Type 0} (has : Stamp → Bool) (k : ℕ) (all cells : List (Cell X)) → ((j : ℕ) → slice_get all (k + j) ≡ slice_get cells j) → AreAt all (positions_where has k cells) (only has cells)
where_stand has k all [] h = refl
where_stand {X} has k all (c ∷ cs) h = by (has c.stamp) (where_stand has (k + 1) all cs (λ j. ap (slice_get all) (omega arith) ∙ h (suc j)))
  where
    first : slice_get all k ≡ Some c
    first = ap (slice_get all) (omega arith) ∙ h 0

    by : (b : Bool) → AreAt all (positions_where has (k + 1) cs) (only has cs) → AreAt all (cond b (k ∷ positions_where has (k + 1) cs) (positions_where has (k + 1) cs)) (cond b (c ∷ only has cs) (only has cs))
    by true r = λ i. first i ∷ r i
    by false r = r

-- positions in order that are those of some stamps
pub named_stand : {T : Type 0} (stamps : List Stamp) (cells : List (Cell T)) (ps : List ℕ) → IsStrictlyIncreasing ps → ((at : ℕ) → has_position ps at ≡ is_one_at stamps cells at)
    → AreAt cells ps (only (is_among stamps) cells)
named_stand stamps cells ps r h =
    let same : ps ≡ positions_where (is_among stamps) 0 cells =
    same_rising 0 0 ps (positions_where (is_among stamps) 0 cells) (rising ps r) (where_rise (is_among stamps) 0 0 cells (omega arith))
    (λ at. h at ∙ sym (where_holds (is_among stamps) 0 cells at) ∙ ap (has_position (positions_where (is_among stamps) 0 cells)) (omega arith)) in
    subst (λ (l : List ℕ). AreAt cells l (only (is_among stamps) cells)) (sym same) (where_stand (is_among stamps) 0 cells cells (λ j. ap (slice_get cells) (omega arith)))

-- POSITIONS THAT ARE ADDED

held_more : (ps qs : List ℕ) (at : ℕ) → has_position (ps ++ qs) at ≡ (has_position ps at || has_position qs at)
held_more ps qs at = list_any-append (λ p. p == at) ps qs

or_three : (a b d : Bool) → ((a || b) || d) ≡ (a || (b || d))
or_three true b d = refl
or_three false b d = refl

pub held_step : {T : Type 0} (old new : List ℕ) (here rest : List Stamp) (cells : List (Cell T)) (at : ℕ) → has_position new at ≡ (has_position old at || is_one_at here cells at)
    → (has_position new at || is_one_at rest cells at) ≡ (has_position old at || is_one_at (here ++ rest) cells at)
held_step old new here rest cells at h =
    ap (λ b. b || is_one_at rest cells at) h ∙ or_three (has_position old at) (is_one_at here cells at) (is_one_at rest cells at)
    ∙ ap (λ b. has_position old at || b) (sym (stands_more here rest cells at))

pub held_last : {T : Type 0} (ps : List ℕ) (cells : List (Cell T)) (at : ℕ) → has_position ps at ≡ (has_position ps at || is_one_at [] cells at)
held_last ps cells at = sym (ap (λ b. has_position ps at || b) (stands_none cells at) ∙ or_nothing (has_position ps at))

-- one position
pub held_one : {T : Type 0} (cells : List (Cell T)) (p : ℕ) (s : Stamp) (at : ℕ) → AreDistinct cells → position_of cells s ≡ Some p → has_position (p ∷ []) at ≡ is_one_at (s ∷ []) cells at
held_one cells p s at d h = or_nothing (p == at) ∙ stands_alone cells s p at d h

pub held_found : {T : Type 0} (cells : List (Cell T)) (ps qs : List ℕ) (p : ℕ) (s : Stamp) (at : ℕ) → AreDistinct cells → position_of cells s ≡ Some p → qs ≡ ps ++ p ∷ []
    → has_position qs at ≡ (has_position ps at || is_one_at (s ∷ []) cells at)
held_found cells ps qs p s at d h e = ap (λ l. has_position l at) e ∙ held_more ps (p ∷ []) at ∙ ap (λ b. has_position ps at || b) (held_one cells p s at d h)

pub held_none : {T : Type 0} (cells : List (Cell T)) (ps : List ℕ) (s : Stamp) (at : ℕ) → position_of cells s ≡ None → has_position ps at ≡ (has_position ps at || is_one_at (s ∷ []) cells at)
held_none cells ps s at h = sym (ap (λ b. has_position ps at || b) (nowhere s cells at (no_position cells s h)) ∙ or_nothing (has_position ps at))

-- a cell is none of those in front of it
distinct_front : {T : Type 0} (front : List (Cell T)) (x : Cell T) (rest : List (Cell T)) → AreDistinct (front ++ x ∷ rest) → is_among (stamps_of front) x.stamp ≡ false
distinct_front [] x rest d = refl
distinct_front (p ∷ front) x rest d =
    let first : is_among (stamps_of (front ++ x ∷ rest)) p.stamp ≡ false = first_apart p.stamp (stamps_of (front ++ x ∷ rest)) d in
    let sides = or_parts (is_among (stamps_of front) p.stamp) _ (sym (among_both front (x ∷ rest) p.stamp) ∙ first) in
    let apart : is_same x.stamp p.stamp ≡ false = (or_parts (is_same x.stamp p.stamp) _ sides.1).0 in
    or_from (is_same p.stamp x.stamp) _ (same_sym p.stamp x.stamp ∙ apart) (distinct_front front x rest (others_distinct p.stamp (stamps_of (front ++ x ∷ rest)) d))

-- the final newline is the last
pub final_position : {T : Type 0} (cells : List (Cell T)) → AreDistinct cells → EndsFinal cells → position_of cells FINAL ≡ Some (length cells - 1)
final_position {T} cells d e =
    let q = final_last cells e in
    let w = q.2 in
    let apart : is_among (stamps_of q.0) q.1.stamp ≡ false = distinct_front q.0 q.1 [] (subst AreDistinct w.is d) in
    let at : length q.0 ≡ length cells - 1 = omega (arith, ap length w.is, length-append q.0 (q.1 ∷ [])) in
    (λ i. position_of (w.is i) (sym w.stamp i)) ∙ found_behind q.0 [] q.1 apart ∙ ap Some at

-- one more position was passed
pub none_more : {T : Type 0} (cells : List (Cell T)) (p : ℕ) (c : Cell T) (s : Stamp) → slice_get cells p ≡ Some c → is_same c.stamp s ≡ false → is_among (stamps_of (take p cells)) s ≡ false
    → is_among (stamps_of (take (p + 1) cells)) s ≡ false
none_more [] p c s h n k = absurd (cc h)
none_more {T} (x ∷ xs) zero c s h n k = let same : x ≡ c = cc h in or_from (is_same x.stamp s) false (ap (λ (y : Cell T). is_same y.stamp s) same ∙ n) refl
none_more {T} (x ∷ xs) (suc p) c s h n k =
    let next : suc p + 1 ≡ suc (p + 1) = omega arith in
    let q = or_parts (is_same x.stamp s) (is_among (stamps_of (take p xs)) s) k in
    ap (λ m. is_among (stamps_of (take m (x ∷ xs))) s) next ∙ or_from (is_same x.stamp s) _ q.0 (none_more xs p c s h n q.1)

-- positions in order that cells hold
pub stand_within : {X : Type 0} (all xs : List X) (ps : List ℕ) → AreAt all ps xs → All (λ p. p < length all) ps
stand_within all xs [] h = λ k d lt. absurd (omega arith)
stand_within all [] (p ∷ ps) h = absurd (cc h)
stand_within {X} all (x ∷ xs) (p ∷ ps) h =
    let first : slice_get all p ≡ Some x = cc h in
    let rest : map (slice_get all) ps ≡ map Some xs = cc h in
    All-cons (λ (q : ℕ). q < length all) p ps (inside (slice_get_cases all p).1 first) (stand_within all xs ps rest)
  where
    inside : ((y : X) × (p < length all) × (slice_get all p ≡ Some y) × (get_or all p y ≡ y)) ⊎ ((length all ≤ p) × (slice_get all p ≡ None)) → slice_get all p ≡ Some x → p < length all
    inside (inl y) f = y.1
    inside (inr y) f = absurd (let g = y.1 in cc (g, f))

-- a position that the store tells by what would stand behind
pub skipped : {T : Type 0} (cells : List (Cell T)) (s newest : Stamp) (n : ℕ) → n ≡ skip_from cells s newest → AreBelowNext (newest.count - 1) cells → 0 < newest.count
    → is_same s ROOT ≡ false → is_among (stamps_of cells) s ≡ true → Some (n - 1) ≡ position_of cells s
skipped {T} cells s newest n e older lt root a =
    let q = parted cells s a in
    let w = q.3 in
    let apart : is_among (stamps_of q.0) q.1.stamp ≡ false = ap (is_among (stamps_of q.0)) w.stamp ∙ w.apart in
    let found : position_of cells s ≡ Some (length q.0) = (λ i. position_of (w.is i) (sym w.stamp i)) ∙ found_behind q.0 q.2 q.1 apart in
    let count : newest.count ≡ newest.count - 1 + 1 = omega (arith, lt) in
    let behind : after_element cells s ≡ length q.0 + 1 =
    cond-false (is_same s ROOT) 0 (unwrap_or (position_of cells s) 0 + 1) root ∙ ap (λ o. unwrap_or o 0 + 1) found in
    let at : n - 1 ≡ length q.0 = omega (arith, e, skip_from_newest (newest.count - 1) cells s newest count older, behind) in
    ap Some at ∙ sym found
