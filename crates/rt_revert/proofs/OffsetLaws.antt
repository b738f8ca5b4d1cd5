-- Offsets that are set, and the places that they give.
use Rattle.std.proofs.Common.{◌≡◌, ◌∙◌, ℕ, zero, suc, ◌+◌, ◌-◌, ◌<◌, ◌≤◌, ◌&&◌, ◌||◌, ◌==◌, Bool, true, false, List, [], ◌∷◌, cond, get_or, length, map, refl, sym, ap, subst, arith, take, Option, Some, None}
use Rattle.std.specs.Prelude.{IfSome, nat_le, option_map, slice_get, unwrap_or}
use Rattle.std.proofs.lemmas.Bool.Decides.{nat_tests}
use Rattle.std.proofs.lemmas.Option.{get_or_from_slice_get}
use Rattle.rt_stamps.specs.declared.limits.TheConstants.{MOST_CELLS}
use Rattle.rt_stamps.specs.declared.stamp.Span.{Span}
use Rattle.rt_stamps.specs.declared.stamp.Stamp.{Stamp}
use Rattle.rt_stamps.specs.declared.stamp.TheConstants.{FINAL, ROOT}
use Rattle.rt_stamps.specs.Stamps.{is_same}
use Rattle.rt_stamps.proofs.Order.{same_from_true, same_sym}
use Rattle.rt_store.specs.declared.cell.Cell.{Cell}
use Rattle.rt_store.specs.Cells.{position_of, stamps_of, visible_before}
use Rattle.rt_store.specs.Spans.{is_among}
use Rattle.rt_store.proofs.Distinct.{split}
use Rattle.rt_spans.specs.Shown.{SpanMapValue, is_in_span, value_of}
use Rattle.rt_plans.specs.Removals.{cells_at, stamps_at}
use Rattle.rt_revert.specs.Plans.{AreUpTo, IsUpTo}
use Rattle.rt_revert.specs.Portions.{AreSmall, offset_behind, offset_of, visible_before_stamp}
use Rattle.rt_revert.proofs.CellsParted.{among_both}
use Rattle.rt_revert.proofs.Copied.{taken}
use Rattle.rt_revert.proofs.WorkCells.{place_within}

-- the span of one stamp
abbrev pub span_at : Stamp → Span
span_at t = record { site = t.site; first = t.count; last = t.count }

pub one_span : (t s : Stamp) → is_in_span (span_at t) s ≡ is_same s t
one_span t s = by s.count t.count s.site t.site
  where
    by : (m n a b : ℕ) → ((a == b) && (nat_le n m && nat_le m n)) ≡ ((m == n) && (a == b))
    by m n a b = grind (arith, nat_tests)

pub set_offset : (old new : SpanMapValue ℕ) (t : Stamp) (v : ℕ) → ((s : Stamp) → value_of new s ≡ cond (is_in_span (span_at t) s) (Some v) (value_of old s))
    → (s : Stamp) → offset_of new s ≡ cond (is_same s t) v (offset_of old s)
set_offset old new t v h s =
    ap (λ o. unwrap_or o 0) (h s) ∙ by (is_in_span (span_at t) s) ∙ ap (λ b. cond b v (offset_of old s)) (one_span t s)
  where
    by : (b : Bool) → unwrap_or (cond b (Some v) (value_of old s)) 0 ≡ cond b v (offset_of old s)
    by true = refl
    by false = refl

pub offset_kept : (old new : SpanMapValue ℕ) → ((s : Stamp) → value_of new s ≡ value_of old s) → (s : Stamp) → offset_of new s ≡ offset_of old s
offset_kept old new h s = ap (λ o. unwrap_or o 0) (h s)

pub set_small : (old new : SpanMapValue ℕ) (t : Stamp) (v : ℕ) → ((s : Stamp) → offset_of new s ≡ cond (is_same s t) v (offset_of old s)) → v ≤ MOST_CELLS → AreSmall old → AreSmall new
set_small old new t v h le k s = subst (λ n. n ≤ MOST_CELLS) (sym (h s)) (by (is_same s t))
  where
    by : (b : Bool) → cond b v (offset_of old s) ≤ MOST_CELLS
    by true = le
    by false = k s

pub behind_small : (offsets : SpanMapValue ℕ) (left : Stamp) → AreSmall offsets → offset_behind offsets left ≤ MOST_CELLS
behind_small offsets left h = by (is_same left ROOT)
  where
    by : (b : Bool) → cond b 0 (offset_of offsets left) ≤ MOST_CELLS
    by true = omega arith
    by false = h left

-- a place is one of the cells
pub place_small : {T : Type 0} (cells : List (Cell T)) (s : Stamp) → visible_before_stamp cells s ≤ length cells
place_small {T} cells s = by (option_map (visible_before cells) (position_of cells s)) (place_within cells s)
  where
    by : (o : Option ℕ) → IfSome o (λ place. place < length cells) → unwrap_or o 0 ≤ length cells
    by None h = omega arith
    by (Some n) h = omega (arith, h)

-- the count of a cell at a position
pub counted : {T : Type 0} (count : ℕ) (cells : List (Cell T)) (p : ℕ) (c : Cell T) → p < length cells → slice_get cells p ≡ Some c → AreUpTo count cells → 1 ≤ count → c.stamp.count ≤ count
counted {T} count cells p c lt e h le =
    let same : get_or cells p c ≡ c = get_or_from_slice_get cells p c c e in
    let up : IsUpTo count c.stamp = subst (λ (x : Cell T). IsUpTo count x.stamp) same (h p c lt) in
    split (is_same c.stamp FINAL)
    (λ f. let n : c.stamp.count ≡ 1 = ap (λ (t : Stamp). t.count) (same_from_true c.stamp FINAL f) in omega (arith, n, le))
    (λ f. up f)

-- one cell more is known
pub among_next : {T : Type 0} (cells : List (Cell T)) (p : ℕ) (c : Cell T) (s : Stamp) → slice_get cells p ≡ Some c
    → is_among (stamps_of (take (p + 1) cells)) s ≡ (is_among (stamps_of (take p cells)) s || is_same c.stamp s)
among_next {T} cells p c s e =
    ap (λ (l : List (Cell T)). is_among (stamps_of l) s) (taken cells p c e) ∙ among_both (take p cells) (c ∷ []) s
    ∙ ap (λ b. is_among (stamps_of (take p cells)) s || b) (or_nothing (is_same c.stamp s))
  where
    or_nothing : (b : Bool) → (b || false) ≡ b
    or_nothing true = refl
    or_nothing false = refl

pub offsets_next : {S T : Type 0} (whole : List (Cell S)) (cells : List (Cell T)) (p : ℕ) (c : Cell T) (old new : SpanMapValue ℕ) → slice_get cells p ≡ Some c
    → ((s : Stamp) → offset_of new s ≡ cond (is_same s c.stamp) (visible_before_stamp whole c.stamp - visible_before_stamp cells c.stamp) (offset_of old s))
    → ((s : Stamp) → is_among (stamps_of (take p cells)) s ≡ true → offset_of old s ≡ visible_before_stamp whole s - visible_before_stamp cells s)
    → (s : Stamp) → is_among (stamps_of (take (p + 1) cells)) s ≡ true → offset_of new s ≡ visible_before_stamp whole s - visible_before_stamp cells s
offsets_next whole cells p c old new e h k s a = split (is_same s c.stamp)
    (λ f.
    let same : s ≡ c.stamp = same_from_true s c.stamp f in
    h s ∙ ap (λ b. cond b (visible_before_stamp whole c.stamp - visible_before_stamp cells c.stamp) (offset_of old s)) f ∙ (λ i. visible_before_stamp whole (sym same i) - visible_before_stamp cells (sym same i)))
    (λ f.
    let apart : is_same c.stamp s ≡ false = same_sym c.stamp s ∙ f in
    h s ∙ ap (λ b. cond b (visible_before_stamp whole c.stamp - visible_before_stamp cells c.stamp) (offset_of old s)) f
    ∙ k s (sym (or_nothing (is_among (stamps_of (take p cells)) s)) ∙ ap (λ b. is_among (stamps_of (take p cells)) s || b) (sym apart) ∙ sym (among_next cells p c s e) ∙ a))
  where
    or_nothing : (b : Bool) → (b || false) ≡ b
    or_nothing true = refl
    or_nothing false = refl

pub take_past : {X : Type 0} (n : ℕ) (xs : List X) → length xs ≤ n → take n xs ≡ xs
take_past zero [] le = refl
take_past (suc n) [] le = refl
take_past zero (x ∷ xs) le = absurd (omega (arith, le))
take_past (suc n) (x ∷ xs) le = ap (λ l. x ∷ l) (take_past n xs (omega (arith, le)))

-- all of them are known
pub offsets_all : {S T : Type 0} (whole : List (Cell S)) (cells : List (Cell T)) (p : ℕ) (offsets : SpanMapValue ℕ) → length cells ≤ p
    → ((s : Stamp) → is_among (stamps_of (take p cells)) s ≡ true → offset_of offsets s ≡ visible_before_stamp whole s - visible_before_stamp cells s)
    → (s : Stamp) → is_among (stamps_of cells) s ≡ true → offset_of offsets s ≡ visible_before_stamp whole s - visible_before_stamp cells s
offsets_all {S} {T} whole cells p offsets le h s a = h s (ap (λ (l : List (Cell T)). is_among (stamps_of l) s) (take_past p cells le) ∙ a)

-- what stands at one of many positions
pub stood : {X : Type 0} (all : List X) (ps : List ℕ) (xs : List X) (i p : ℕ) (x : X) → map (slice_get all) ps ≡ map Some xs → i < length ps → p ≡ get_or ps i p → slice_get all p ≡ Some x
    → slice_get xs i ≡ Some x
stood all [] xs i p x h lt e f = absurd (omega (arith, lt))
stood all (q ∷ ps) [] i p x h lt e f = absurd (cc h)
stood all (q ∷ ps) (y ∷ xs) zero p x h lt e f =
    let first : slice_get all q ≡ Some y = cc h in
    sym first ∙ ap (slice_get all) (sym e) ∙ f
stood all (q ∷ ps) (y ∷ xs) (suc i) p x h lt e f =
    let rest : map (slice_get all) ps ≡ map Some xs = cc h in
    stood all ps xs i p x rest (omega (arith, lt)) e f

pub stood_length : {X : Type 0} (all : List X) (ps : List ℕ) (xs : List X) → map (slice_get all) ps ≡ map Some xs → length xs ≡ length ps
stood_length all [] [] h = refl
stood_length all [] (y ∷ xs) h = absurd (cc h)
stood_length all (q ∷ ps) [] h = absurd (cc h)
stood_length all (q ∷ ps) (y ∷ xs) h = let rest : map (slice_get all) ps ≡ map Some xs = cc h in ap suc (stood_length all ps xs rest)

-- the stamps of the cells at places
pub chosen_stamps : {T : Type 0} (places : ℕ → Bool) (p : ℕ) (cells : List (Cell T)) → stamps_of (cells_at places p cells) ≡ stamps_at places p cells
chosen_stamps places p [] = refl
chosen_stamps {T} places p (c ∷ cs) = by c.gone (places p) (chosen_stamps places p cs) (chosen_stamps places (p + 1) cs)
  where
    by : (g b : Bool) → stamps_of (cells_at places p cs) ≡ stamps_at places p cs → stamps_of (cells_at places (p + 1) cs) ≡ stamps_at places (p + 1) cs
        → stamps_of (cond g (cells_at places p cs) (cond b (c ∷ cells_at places (p + 1) cs) (cells_at places (p + 1) cs)))
        ≡ cond g (stamps_at places p cs) (cond b (c.stamp ∷ stamps_at places (p + 1) cs) (stamps_at places (p + 1) cs))
    by true b h k = h
    by false true h k = ap (λ l. c.stamp ∷ l) k
    by false false h k = k
