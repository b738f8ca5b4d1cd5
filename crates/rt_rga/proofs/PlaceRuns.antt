-- The places of a run of cells, and the longest runs of places.
use Rattle.std.proofs.Common.{◌≡◌, ℕ, zero, suc, ◌+◌, ◌-◌, ◌<◌, ◌≤◌, List, [], ◌∷◌, ◌++◌, Bool, true, false, not, cond, ◌&&◌, ◌||◌, length, drop, get_or, drop-cons, refl, sym, subst, ◌∙◌, ap, arith, add-one, All, Option, Some, None, take}
use Rattle.std.specs.Prelude.{min, nat_le, nat_lt, if◌then◌else◌, option_map, slice_get, unwrap_or}
use Rattle.std.specs.Cmp.{both_ways}
use Rattle.std.specs.Ordering.{nat_cmp, is_lt}
use Rattle.std.proofs.lemmas.Bool.{and_from, and_parts, leb-true, leb-false}
use Rattle.std.proofs.lemmas.Bool.Decides.{nat_tests}
use Rattle.std.proofs.lemmas.List.{drop_all}
use Rattle.std.proofs.lemmas.List.Elements.{All-head, All-tail}
use Rattle.rt_stamps.specs.Spans.{each_next, is_in_span}
use Rattle.rt_store.specs.declared.cell.Cell.{Cell}
use Rattle.rt_store.specs.declared.cell.CellRun.{CellRun}
use Rattle.rt_store.specs.Cells.{AreDistinct, GoOnTo, GoesOn, cell_of, position_of, visible_before, visible_of}
use Rattle.rt_store.proofs.Finding.{visible_there}
use Rattle.rt_store.proofs.Positions.{get_within, position_at, run_found}
use Rattle.rt_rga.specs.declared.taken.PlaceRun.{PlaceRun}
use Rattle.rt_rga.specs.NamedRuns.{IsBelow, IsCellRun, fall, names_at, span_of_run}
use Rattle.rt_rga.specs.Taken.{AreFallingRuns, is_in_run, is_in_runs}
use Rattle.rt_rga.proofs.NamedRuns.{behind}
use Rattle.rt_rga.proofs.RemovedPlaces.{found_visible}

-- THE PLACES OF A RUN

seen_step : {T : Type 0} (b : Bool) (x : Cell T) (xs ys : List (Cell T)) (n : ℕ) → length xs ≡ length ys + n → length (cond b (x ∷ xs) xs) ≡ length (cond b (x ∷ ys) ys) + n
seen_step true x xs ys n h = omega (arith, h)
seen_step false x xs ys n h = h

-- one visible cell more
seen_more : {T : Type 0} (cells : List (Cell T)) (n : ℕ) (cell : Cell T) → slice_get cells n ≡ Some cell → cell.gone ≡ false → visible_before cells (suc n) ≡ visible_before cells n + 1
seen_more [] n cell h k = absurd (cc h)
seen_more {T} (x ∷ xs) zero cell h k =
    let same : x ≡ cell = cc h in
    let shown : x.gone ≡ false = ap (λ (c : Cell T). c.gone) same ∙ k in
    ap (λ b. length (cond (not b) (x ∷ visible_of (take 0 xs)) (visible_of (take 0 xs)))) shown
seen_more (x ∷ xs) (suc n) cell h k = seen_step (not x.gone) x (visible_of (take (suc n) xs)) (visible_of (take n xs)) 1 (seen_more xs n cell h k)

-- the cells of a run of visible ones stand at places that follow one another
seen_along : (cells : List (Cell ℕ)) (first : Cell ℕ) (last n : ℕ) (on : GoOnTo cells first last) → first.gone ≡ false → first.stamp.count + n ≤ last
    → visible_before cells (on.position + n) ≡ visible_before cells on.position + n
seen_along cells first last zero on shown le =
    let a : on.position + 0 ≡ on.position = omega arith in
    let b : visible_before cells on.position ≡ visible_before cells on.position + 0 = omega arith in
    ap (visible_before cells) a ∙ b
seen_along cells first last (suc n) on shown le =
    let (cell, there, goes) = on.each n (omega (arith, le)) in
    let a : on.position + suc n ≡ suc (on.position + n) = omega arith in
    let more = seen_more cells (on.position + n) cell there (goes.gone ∙ shown) in
    let before = seen_along cells first last n on shown (omega (arith, le)) in
    let b : visible_before cells (on.position + n) + 1 ≡ visible_before cells on.position + suc n = omega (arith, before) in
    ap (visible_before cells) a ∙ more ∙ b

module _ (cells : List (Cell ℕ)) (run : CellRun) (distinct : AreDistinct cells) (r : IsCellRun cells run) (shown : run.cell.gone ≡ false) where
  abbrev first : ℕ
  first = visible_before cells r.on.position

  -- the cell so far behind the first one
  pub cell_along : (n : ℕ) → run.cell.stamp.count + n ≤ run.last → (cell : Cell ℕ) × (slice_get (visible_of cells) (first + n) ≡ Some cell) × GoesOn run.cell n cell
  cell_along n le =
      let (cell, there, goes) = r.on.each n le in (
        cell,
        ap (slice_get (visible_of cells)) (sym (seen_along cells run.cell run.last n r.on shown le)) ∙ visible_there cells (r.on.position + n) cell there (goes.gone ∙ shown),
        goes,
      )

  pub run_within : first + (run.last - run.cell.stamp.count) < length (visible_of cells)
  run_within =
      let (cell, there, goes) = cell_along (run.last - run.cell.stamp.count) (let f = r.forward in omega (arith, f)) in
      get_within (visible_of cells) (first + (run.last - run.cell.stamp.count)) cell there

  abbrev places : PlaceRun
  places = record { from = first; to = first + (run.last - run.cell.stamp.count) + 1 }

  named_in : (cell : Cell ℕ) (n : ℕ) → GoesOn run.cell n cell → run.cell.stamp.count + n ≤ run.last → is_in_span (span_of_run run) cell.stamp ≡ true
  named_in cell n goes le = ap (is_in_span (span_of_run run)) goes.stamp ∙ by
    where
      by : is_in_span (span_of_run run) (record { count = run.cell.stamp.count + n; site = run.cell.stamp.site }) ≡ true
      by = grind (arith, nat_tests, le)

  in_run : (place : ℕ) → is_in_runs (places ∷ []) place ≡ true → names_at (span_of_run run ∷ []) cells place ≡ true
  in_run place t =
      let from : first ≤ place = grind (arith, nat_tests, t) in
      let to : place < first + (run.last - run.cell.stamp.count) + 1 = grind (arith, nat_tests, t) in
      let n = place - first in
      let le : run.cell.stamp.count + n ≤ run.last = (let f = r.forward in omega (arith, from, to, f)) in
      let (cell, there, goes) = cell_along n le in
      let at : first + n ≡ place = omega (arith, from) in
      ap (λ o. unwrap_or (option_map (λ (c : Cell ℕ). is_in_span (span_of_run run) c.stamp || false) o) false) (ap (slice_get (visible_of cells)) (sym at) ∙ there)
      ∙ ap (λ b. b || false) (named_in cell n goes le)

  at_place : (place : ℕ) (cell : Cell ℕ) → slice_get (visible_of cells) place ≡ Some cell → is_in_span (span_of_run run) cell.stamp ≡ true → is_in_runs (places ∷ []) place ≡ true
  at_place place cell e t =
      let b = behind (span_of_run run) cell.stamp t in
      let n = cell.stamp.count - run.cell.stamp.count in
      let (other, there, goes) = r.on.each n b.within in
      let at : position_of cells other.stamp ≡ Some (r.on.position + n) = position_at cells (r.on.position + n) other distinct there in
      let same : other.stamp ≡ cell.stamp = goes.stamp ∙ sym b.is in
      let f = found_visible cells place cell distinct e in
      let is : Some (visible_before cells (r.on.position + n)) ≡ Some place = sym (ap (option_map (visible_before cells)) (ap (position_of cells) (sym same) ∙ at)) ∙ f.at in
      let here : visible_before cells (r.on.position + n) ≡ place = cc is in
      let along = seen_along cells run.cell run.last n r.on shown b.within in
      let w = b.within in
      let is_at : place ≡ first + n = sym here ∙ along in
      let le : n ≤ run.last - run.cell.stamp.count = omega (arith, w) in
      grind (arith, nat_tests, is_at, le)

  in_places : (place : ℕ) → names_at (span_of_run run ∷ []) cells place ≡ true → is_in_runs (places ∷ []) place ≡ true
  in_places place t = by (slice_get (visible_of cells) place) refl t
    where
      by : (o : Option (Cell ℕ)) → slice_get (visible_of cells) place ≡ o → unwrap_or (option_map (λ cell. is_in_span (span_of_run run) cell.stamp || false) o) false ≡ true → is_in_runs (places ∷ []) place ≡ true
      by None e t = absurd (cc t)
      by (Some c) e t = at_place place c e (plain (is_in_span (span_of_run run) c.stamp) t)
        where
          plain : (b : Bool) → (b || false) ≡ true → b ≡ true
          plain true h = refl
          plain false h = h

  -- the places of the run are those of the visible cells that its span names
  pub run_places : (place : ℕ) → is_in_runs (places ∷ []) place ≡ names_at (span_of_run run ∷ []) cells place
  run_places place = both_ways _ _ (in_run place) (in_places place)

-- no visible cell is one of a run of gone ones
pub gone_places : (cells : List (Cell ℕ)) (run : CellRun) (place : ℕ) → AreDistinct cells → IsCellRun cells run → run.cell.gone ≡ true → false ≡ names_at (span_of_run run ∷ []) cells place
gone_places cells run place distinct r gone = by (slice_get (visible_of cells) place) refl
  where
    none : (cell : Cell ℕ) → slice_get (visible_of cells) place ≡ Some cell → (b : Bool) → is_in_span (span_of_run run) cell.stamp ≡ b → false ≡ (b || false)
    none cell e false t = refl
    none cell e true t =
        let f = found_visible cells place cell distinct e in
        let b = behind (span_of_run run) cell.stamp t in
        let (other, there, goes) = run_found cells run.cell run.last (cell.stamp.count - run.cell.stamp.count) distinct r.on b.within in
        let same : Some cell ≡ Some other = sym f.found ∙ ap (cell_of cells) b.is ∙ there in
        let is : cell ≡ other = cc same in
        let bad : false ≡ true = sym f.shown ∙ ap (λ (c : Cell ℕ). c.gone) is ∙ goes.gone ∙ gone in
        absurd (cc bad)

    by : (o : Option (Cell ℕ)) → slice_get (visible_of cells) place ≡ o → false ≡ unwrap_or (option_map (λ cell. is_in_span (span_of_run run) cell.stamp || false) o) false
    by None e = refl
    by (Some c) e = none c e (is_in_span (span_of_run run) c.stamp) refl

-- LONGEST RUNS

-- Falling runs after one that is still open: those that reach to its beginning are of it.
abbrev pub joined_from : PlaceRun → List PlaceRun → List PlaceRun
joined_from run [] = run ∷ []
joined_from run (next ∷ runs) = if nat_le run.from next.to then joined_from (record { from = min run.from next.from; to = run.to }) runs else run ∷ joined_from next runs

longer : (end : ℕ) (run next : PlaceRun) → IsBelow end run → IsBelow end next → nat_le next.to run.to ≡ true → IsBelow end (record { from = min run.from next.from; to = run.to })
longer end run next h n l =
    let a = h.0 in
    let b = n.0 in
    (grind (arith, nat_tests, a, b, l), h.1)

still_fall : (run next : PlaceRun) (runs : List PlaceRun) → nat_le next.to run.to ≡ true → fall (next ∷ runs) ≡ true → fall (record { from = min run.from next.from; to = run.to } ∷ runs) ≡ true
still_fall run next [] l d = refl
still_fall run next (more ∷ runs) l d =
    let further = and_parts (nat_le more.to next.to) (fall (more ∷ runs)) d in
    let f = further.0 in
    let both : nat_le more.to run.to ≡ true = grind (arith, nat_tests, l, f) in
    and_from _ _ both further.1

longer_has : (from to a b place : ℕ) (rest : Bool) → b ≤ to → from ≤ b → a < b → from < to
    → (nat_le (min from a) place && nat_lt place to || rest) ≡ (nat_le from place && nat_lt place to || ((nat_le a place && nat_lt place b) || rest))
longer_has from to a b place true h k l m = grind (arith, nat_tests, h, k, l, m)
longer_has from to a b place false h k l m = grind (arith, nat_tests, h, k, l, m)

-- their places are those of the first one and of the falling ones
pub joined_have : (end : ℕ) (run : PlaceRun) (runs : List PlaceRun) (place : ℕ) → IsBelow end run → All (IsBelow end) runs → fall (run ∷ runs) ≡ true
    → is_in_runs (joined_from run runs) place ≡ (is_in_run run place || is_in_runs runs place)
joined_have end run [] place h k f = refl
joined_have end run (next ∷ runs) place h k f =
    let down = and_parts (nat_le next.to run.to) (fall (next ∷ runs)) f in
    let n = All-head (IsBelow end) next runs k in
    let rest = All-tail (IsBelow end) next runs k in
    elim (nat_le run.from next.to) as
    (λ b. nat_le run.from next.to ≡ b
    → is_in_runs (cond b (joined_from (record { from = min run.from next.from; to = run.to }) runs) (run ∷ joined_from next runs)) place
    ≡ (is_in_run run place || (is_in_run next place || is_in_runs runs place))) [
      | true ↦ λ e. joined_have end (record { from = min run.from next.from; to = run.to }) runs place (longer end run next h n down.0) rest (still_fall run next runs down.0 down.1)
          ∙ longer_has run.from run.to next.from next.to place (is_in_runs runs place) (leb-true _ _ down.0) (leb-true _ _ e) n.0 h.0
      | false ↦ λ e. ap (λ b. is_in_run run place || b) (joined_have end next runs place n rest down.1)
    ]
    refl

-- and between one and the next lies a place
pub joined_fall : (below end : ℕ) (run : PlaceRun) (runs : List PlaceRun) → IsBelow below run → run.to < end → All (IsBelow below) runs → fall (run ∷ runs) ≡ true → AreFallingRuns end (joined_from run runs)
joined_fall below end run [] h l k f = (h.0, l, tt)
joined_fall below end run (next ∷ runs) h l k f =
    let down = and_parts (nat_le next.to run.to) (fall (next ∷ runs)) f in
    let n = All-head (IsBelow below) next runs k in
    let rest = All-tail (IsBelow below) next runs k in
    elim (nat_le run.from next.to) as
    (λ b. nat_le run.from next.to ≡ b
    → AreFallingRuns end (cond b (joined_from (record { from = min run.from next.from; to = run.to }) runs) (run ∷ joined_from next runs))) [
      | true ↦ λ e. joined_fall below end (record { from = min run.from next.from; to = run.to }) runs (longer below run next h n down.0) l rest (still_fall run next runs down.0 down.1)
      | false ↦ λ e. (h.0, l, joined_fall below run.from next runs n (leb-false _ _ e) rest down.1)
    ]
    refl

-- THE LOOP

-- the runs from one on, by that one
by_next : (run : PlaceRun) (others : List PlaceRun) (i : ℕ) (next : PlaceRun) (b : Bool) → i < length others → next ≡ get_or others i next → nat_le run.from next.to ≡ b
    → joined_from run (drop i others) ≡ cond b (joined_from (record { from = min run.from next.from; to = run.to }) (drop (i + 1) others)) (run ∷ joined_from next (drop (i + 1) others))
by_next run others i next b h is e =
    let front : drop i others ≡ next ∷ drop (i + 1) others = drop-cons others i next h ∙ (λ j. sym is j ∷ drop (sym (add-one i) j) others) in
    ap (joined_from run) front
    ∙ ap (λ c. cond c (joined_from (record { from = min run.from next.from; to = run.to }) (drop (i + 1) others)) (run ∷ joined_from next (drop (i + 1) others))) e

test_passes : (a b : ℕ) → a ≤ b → nat_le a b ≡ true
test_passes a b h = grind (arith, nat_tests)

test_fails : (a b : ℕ) → b < a → nat_le a b ≡ false
test_fails a b h = grind (arith, nat_tests)

pub goes_on : (run : PlaceRun) (others : List PlaceRun) (i : ℕ) (next : PlaceRun) → i < length others → next ≡ get_or others i next → run.from ≤ next.to
    → joined_from run (drop i others) ≡ joined_from (record { from = min run.from next.from; to = run.to }) (drop (i + 1) others)
goes_on run others i next h is l = by_next run others i next true h is (test_passes run.from next.to l)

pub ends : (run : PlaceRun) (others : List PlaceRun) (i : ℕ) (next : PlaceRun) → i < length others → next ≡ get_or others i next → next.to < run.from
    → joined_from run (drop i others) ≡ run ∷ joined_from next (drop (i + 1) others)
ends run others i next h is l = by_next run others i next false h is (test_fails run.from next.to l)

-- when all are taken
pub all_joined : (run : PlaceRun) (runs done all : List PlaceRun) (i : ℕ) → length runs ≤ i → done ++ joined_from run (drop i runs) ≡ all → done ++ run ∷ [] ≡ all
all_joined run runs done all i h e = ap (λ rest. done ++ joined_from run rest) (sym (drop_all i runs h)) ∙ e

-- what is joined has just the places of the falling runs
pub all_have : (end : ℕ) (runs others joined : List PlaceRun) (first : PlaceRun) (place : ℕ) → runs ≡ first ∷ others → fall runs ≡ true → All (IsBelow end) runs → joined ≡ joined_from first others
    → is_in_runs joined place ≡ is_in_runs runs place
all_have end runs others joined first place p f h e =
    let all = subst (All (IsBelow end)) p h in
    ap (λ rs. is_in_runs rs place) e
    ∙ joined_have end first others place (All-head (IsBelow end) first others all) (All-tail (IsBelow end) first others all) (ap fall (sym p) ∙ f)
    ∙ ap (λ rs. is_in_runs rs place) (sym p)

pub all_fall : (below end : ℕ) (runs others joined : List PlaceRun) (first : PlaceRun) → runs ≡ first ∷ others → fall runs ≡ true → All (IsBelow below) runs
    → ((place : ℕ) → is_in_runs runs place ≡ true → place + 1 < end) → joined ≡ joined_from first others → AreFallingRuns end joined
all_fall below end runs others joined first p f h k e =
    let all = subst (All (IsBelow below)) p h in
    let one = All-head (IsBelow below) first others all in
    let from = one.0 in
    let is : is_in_run first (first.to - 1) ≡ true = grind (arith, nat_tests, from) in
    let less = k (first.to - 1) (ap (λ rs. is_in_runs rs (first.to - 1)) p ∙ ap (λ b. b || is_in_runs others (first.to - 1)) is) in
    subst (AreFallingRuns end) (sym e) (joined_fall below end first others one (omega (arith, from, less)) (All-tail (IsBelow below) first others all) (ap fall (sym p) ∙ f))

-- SORTED RUNS

each_next_from : {X : Type 0} (r : X → X → Bool) (xs : List X) → ((k : ℕ) (d : X) → suc k < length xs → r (get_or xs k d) (get_or xs (suc k) d) ≡ true) → each_next r xs ≡ true
each_next_from r [] h = refl
each_next_from r (x ∷ []) h = refl
each_next_from r (x ∷ y ∷ xs) h =
    let rest : each_next r (y ∷ xs) ≡ true = each_next_from r (y ∷ xs) (λ k d l. h (suc k) d (omega arith)) in
    and_from (r x y) _ (h 0 x (omega arith)) rest

no_less : (a b : ℕ) → is_lt (nat_cmp a b) ≡ false → nat_le b a ≡ true
no_less a b h = grind (arith, nat_tests)

-- runs that are sorted from the one that ends last on
pub sorted_fall : (xs : List PlaceRun) → ((k : ℕ) (d : PlaceRun) → 0 ≤ k → k + 1 < length xs → is_lt (nat_cmp (get_or xs k d).to (get_or xs (k + 1) d).to) ≡ false) → fall xs ≡ true
sorted_fall xs h = each_next_from (λ run next. nat_le next.to run.to) xs (λ k d l.
    let e : k + 1 ≡ suc k = add-one k in
    no_less (get_or xs k d).to (get_or xs (suc k) d).to (ap (λ n. is_lt (nat_cmp (get_or xs k d).to (get_or xs n d).to)) (sym e) ∙ h k d (omega arith) (omega arith)))
