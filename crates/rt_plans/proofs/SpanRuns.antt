-- The stamps of a run of visible cells, as a span.
use Rattle.std.proofs.Common.{◌≡◌, ℕ, zero, suc, ◌+◌, ◌-◌, ◌≤◌, List, [], ◌∷◌, ◌++◌, Bool, true, false, ◌||◌, take, drop, refl, sym, ◌∙◌, ap, subst, arith, add-one, Some}
use Rattle.std.proofs.lemmas.List.{drop-drop, take_all}
use Rattle.std.specs.Prelude.{option_map, slice_get}
use Rattle.std.specs.List.{list_all}
use Rattle.std.proofs.lemmas.Bool.{and_from, and_parts}
use Rattle.std.proofs.lemmas.Bool.Decides.{nat_tests}
use Rattle.rt_stamps.specs.declared.stamp.Span.{Span}
use Rattle.rt_stamps.specs.declared.stamp.Stamp.{Stamp}
use Rattle.rt_stamps.specs.Stamps.{is_same}
use Rattle.rt_store.specs.declared.cell.Cell.{Cell}
use Rattle.rt_store.specs.declared.cell.CellRun.{CellRun}
use Rattle.rt_store.specs.Cells.{AreDistinct, GoOnTo, cell_of, is_in_span, position_of, stamps_of, visible_before, visible_of}
use Rattle.rt_store.specs.Spans.{is_among, is_in_spans, is_span, next_stamp}
use Rattle.rt_lines.proofs.Parts.{get_drop}
use Rattle.rt_rga.specs.NamedRuns.{IsCellRun, span_of_run}
use Rattle.rt_rga.proofs.PlaceRuns.{cell_along}
use Rattle.rt_rga.proofs.RemovedPlaces.{found_visible}
use Rattle.rt_stamps.specs.Spans.{span_of}

-- the stamps of a stamp's site from its count on, so many behind it
abbrev pub span_from : Stamp → ℕ → Span
span_from first m = record { site = first.site; first = first.count; last = first.count + m }

-- cells have stamps that follow one another, up to one so far behind the first
abbrev pub GoOn : {T : Type 0} → Stamp → ℕ → List (Cell T) → Type 0
GoOn {T} first m cells = (n : ℕ) → n ≤ m → (cell : Cell T) × (slice_get cells n ≡ Some cell) × (cell.stamp ≡ record { count = first.count + n; site = first.site })

one_only : (first s : Stamp) → is_in_span (span_from first 0) s ≡ (is_same first s || false)
one_only first s = grind (arith, nat_tests)

one_first : (first s : Stamp) (m : ℕ) → is_in_span (span_from first (suc m)) s ≡ (is_same first s || is_in_span (span_from (next_stamp first) m) s)
one_first first s m = grind (arith, nat_tests)

-- the span has just their stamps
pub spans_run : {T : Type 0} (m : ℕ) (cells : List (Cell T)) (first s : Stamp) → GoOn first m cells → is_in_span (span_from first m) s ≡ is_among (stamps_of (take (suc m) cells)) s
spans_run m [] first s h = let (cell, there, is) = h 0 (omega arith) in absurd (cc there)
spans_run {T} zero (c ∷ cs) first s h =
    let (cell, there, is) = h 0 (omega arith) in
    let same : c ≡ cell = cc there in
    let at : first.count + 0 ≡ first.count = omega arith in
    let stamp : c.stamp ≡ first = ap (λ (x : Cell T). x.stamp) same ∙ is ∙ ap (λ n. record { count = n; site = first.site }) at in
    one_only first s ∙ ap (λ (x : Stamp). is_same x s || false) (sym stamp)
spans_run {T} (suc m) (c ∷ cs) first s h =
    let (cell, there, is) = h 0 (omega arith) in
    let same : c ≡ cell = cc there in
    let at : first.count + 0 ≡ first.count = omega arith in
    let stamp : c.stamp ≡ first = ap (λ (x : Cell T). x.stamp) same ∙ is ∙ ap (λ n. record { count = n; site = first.site }) at in
    let rest : GoOn (next_stamp first) m cs = λ n le.
    let (other, its, goes) = h (suc n) (omega (arith, le)) in
    let further : first.count + suc n ≡ first.count + 1 + n = omega arith in
    (other, its, goes ∙ ap (λ n. record { count = n; site = first.site }) further) in
    one_first first s m ∙ (λ i. is_same (sym stamp i) s || spans_run m cs (next_stamp first) s rest i)

-- where a run of visible cells begins
run_place : (cells : List (Cell ℕ)) (place position : ℕ) (first : Cell ℕ) → AreDistinct cells → slice_get (visible_of cells) place ≡ Some first → position_of cells first.stamp ≡ Some position
    → visible_before cells position ≡ place
run_place cells place position first distinct there here =
    let f = found_visible cells place first distinct there in
    let at : Some (visible_before cells position) ≡ Some place = sym (ap (option_map (visible_before cells)) here) ∙ f.at in
    cc at

-- its cells follow one another from there on
run_on : (cells : List (Cell ℕ)) (place : ℕ) (run : CellRun) → AreDistinct cells → slice_get (visible_of cells) place ≡ Some run.cell → IsCellRun cells run
    → GoOn run.cell.stamp (run.last - run.cell.stamp.count) (drop place (visible_of cells))
run_on cells place run distinct there r = λ n few.
    let le = r.forward in
    let shown = (found_visible cells place run.cell distinct there).shown in
    let here = run_place cells place r.on.position run.cell distinct there r.on.here in
    let (other, its, on) = cell_along cells run distinct r shown n (omega (arith, few, le)) in
    (other, get_drop (visible_of cells) place n ∙ ap (λ p. slice_get (visible_of cells) (p + n)) (sym here) ∙ its, on.stamp)

run_spans : (cells : List (Cell ℕ)) (place : ℕ) (run : CellRun) (s : Stamp) → AreDistinct cells → slice_get (visible_of cells) place ≡ Some run.cell → IsCellRun cells run
    → is_in_span (span_of_run run) s ≡ is_among (stamps_of (take (run.last - run.cell.stamp.count + 1) (drop place (visible_of cells)))) s
run_spans cells place run s distinct there r =
    let le = r.forward in
    let m = run.last - run.cell.stamp.count in
    let last : run.last ≡ run.cell.stamp.count + m = omega (arith, le) in
    ap (λ l. is_in_span (record { site = run.cell.stamp.site; first = run.cell.stamp.count; last = l }) s) last
    ∙ spans_run m (drop place (visible_of cells)) run.cell.stamp s (run_on cells place run distinct there r)
    ∙ ap (λ n. is_among (stamps_of (take n (drop place (visible_of cells)))) s) (sym (add-one m))

-- a run of cells from a visible one on
pub run_named : (cells : List (Cell ℕ)) (place : ℕ) (cell : Cell ℕ) (run : CellRun) (s : Stamp) → AreDistinct cells → slice_get (visible_of cells) place ≡ Some cell
    → Some run.cell ≡ cell_of cells cell.stamp → GoOnTo cells run.cell run.last → cell.stamp.count ≤ run.last
    → is_in_span (record { site = cell.stamp.site; first = cell.stamp.count; last = run.last }) s ≡ is_among (stamps_of (take (run.last - cell.stamp.count + 1) (drop place (visible_of cells)))) s
run_named cells place cell run s distinct there found on le =
    let f = found_visible cells place cell distinct there in
    let some : Some cell ≡ Some run.cell = sym (found ∙ f.found) in
    let same : cell ≡ run.cell = cc some in
    subst
    (λ (x : Cell ℕ). is_in_span (record { site = x.stamp.site; first = x.stamp.count; last = run.last }) s ≡ is_among (stamps_of (take (run.last - x.stamp.count + 1) (drop place (visible_of cells)))) s)
    (sym same)
    (run_spans cells place run s distinct (there ∙ some)
    (record { cell = sym (found ∙ ap (λ (x : Cell ℕ). cell_of cells x.stamp) same); forward = subst (λ (x : Cell ℕ). x.stamp.count ≤ run.last) same le; on = on }))

-- a visible cell alone
pub one_named : (cells : List (Cell ℕ)) (place : ℕ) (cell : Cell ℕ) (s : Stamp) → slice_get (visible_of cells) place ≡ Some cell
    → is_in_span (span_of cell.stamp) s ≡ is_among (stamps_of (take (cell.stamp.count - cell.stamp.count + 1) (drop place (visible_of cells)))) s
one_named cells place cell s there =
    let count = cell.stamp.count in
    let goes : GoOn cell.stamp 0 (drop place (visible_of cells)) = λ n few.
    let z : n ≡ 0 = omega (arith, few) in
    let at : place + n ≡ place = omega (arith, z) in
    let same : count ≡ count + n = omega (arith, z) in
    (cell, get_drop (visible_of cells) place n ∙ ap (slice_get (visible_of cells)) at ∙ there, ap (λ k. record { count = k; site = cell.stamp.site }) same) in
    let last : count ≡ count + 0 = omega arith in
    let one : 1 ≡ count - count + 1 = omega arith in
    ap (λ l. is_in_span (record { site = cell.stamp.site; first = count; last = l }) s) last
    ∙ spans_run 0 (drop place (visible_of cells)) cell.stamp s goes
    ∙ ap (λ n. is_among (stamps_of (take n (drop place (visible_of cells)))) s) one

-- STAMPS IN PARTS

take_parts : {X : Type 0} (m n : ℕ) (xs : List X) → take (m + n) xs ≡ take m xs ++ take n (drop m xs)
take_parts zero n xs = let on : zero + n ≡ n = omega arith in ap (λ k. take k xs) on
take_parts (suc m) n [] = take_all (suc m + n) [] (omega arith) ∙ sym (take_all n [] (omega arith))
take_parts (suc m) n (x ∷ xs) = let on : suc m + n ≡ suc (m + n) = omega arith in ap (λ k. take k (x ∷ xs)) on ∙ ap (λ l. x ∷ l) (take_parts m n xs)

or_assoc : (a b c : Bool) → (a || (b || c)) ≡ ((a || b) || c)
or_assoc true b c = refl
or_assoc false b c = refl

pub among_both : {T : Type 0} (xs ys : List (Cell T)) (s : Stamp) → is_among (stamps_of (xs ++ ys)) s ≡ (is_among (stamps_of xs) s || is_among (stamps_of ys) s)
among_both [] ys s = refl
among_both (x ∷ xs) ys s = ap (λ b. is_same x.stamp s || b) (among_both xs ys s) ∙ or_assoc (is_same x.stamp s) (is_among (stamps_of xs) s) (is_among (stamps_of ys) s)

pub among_append : (xs ys : List Stamp) (s : Stamp) → is_among (xs ++ ys) s ≡ (is_among xs s || is_among ys s)
among_append [] ys s = refl
among_append (x ∷ xs) ys s = ap (λ b. is_same x s || b) (among_append xs ys s) ∙ or_assoc (is_same x s) (is_among xs s) (is_among ys s)

-- one span more, behind others
pub held_more : (spans : List Span) (span : Span) (s : Stamp) → is_in_spans (spans ++ span ∷ []) s ≡ (is_in_spans spans s || is_in_span span s)
held_more [] span s = by (is_in_span span s)
  where
    by : (b : Bool) → (b || false) ≡ b
    by true = refl
    by false = refl
held_more (x ∷ spans) span s = ap (λ b. is_in_span x s || b) (held_more spans span s) ∙ or_assoc (is_in_span x s) (is_in_spans spans s) (is_in_span span s)

-- the cells between two places, first those of a run
pub run_and_rest : {T : Type 0} (cs : List (Cell T)) (from to k : ℕ) (s : Stamp) → from + k ≤ to
    → is_among (stamps_of (take (to - from) (drop from cs))) s ≡ (is_among (stamps_of (take k (drop from cs))) s || is_among (stamps_of (take (to - (from + k)) (drop (from + k) cs))) s)
run_and_rest cs from to k s h =
    let n = to - (from + k) in
    let parts : to - from ≡ k + n = omega (arith, h) in
    ap (λ m. is_among (stamps_of (take m (drop from cs))) s) parts
    ∙ ap (λ l. is_among (stamps_of l) s) (take_parts k n (drop from cs) ∙ ap (λ l. take k (drop from cs) ++ take n l) (drop-drop k from cs))
    ∙ among_both (take k (drop from cs)) (take n (drop (from + k) cs)) s

-- spans so far, one more, and what is left
pub so_far : (spans : List Span) (span : Span) (s : Stamp) (run left all old : Bool) → is_in_span span s ≡ run → all ≡ (run || left) → is_in_spans spans s || all ≡ old → is_in_spans (spans ++ span ∷ []) s || left ≡ old
so_far spans span s run left all old e h k =
    ap (λ b. b || left) (held_more spans span s ∙ ap (λ b. is_in_spans spans s || b) e) ∙ sym (or_assoc (is_in_spans spans s) run left) ∙ ap (λ b. is_in_spans spans s || b) (sym h) ∙ k

-- stamps so far, more of them, and what is left
pub more_so_far : (a b old : Bool) (run left all : List Stamp) (s : Stamp) → b ≡ (a || is_among run s) → all ≡ run ++ left → a || is_among all s ≡ old → b || is_among left s ≡ old
more_so_far a b old run left all s e h k =
    ap (λ b. b || is_among left s) e ∙ sym (or_assoc a (is_among run s) (is_among left s)) ∙ ap (λ b. a || b) (sym (ap (λ l. is_among l s) h ∙ among_append run left s)) ∙ k

pub forward_more : (spans : List Span) (span : Span) → list_all is_span spans ≡ true → is_span span ≡ true → list_all is_span (spans ++ span ∷ []) ≡ true
forward_more [] span h k = and_from (is_span span) _ k refl
forward_more (x ∷ spans) span h k = let p = and_parts (is_span x) (list_all is_span spans) h in and_from (is_span x) _ p.0 (forward_more spans span p.1 k)
