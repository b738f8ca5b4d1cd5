-- Runs of cells that spans name, and what holds of each cell of one.
use Rattle.std.proofs.Common.{◌≡◌, ℕ, ◌+◌, ◌-◌, ◌<◌, ◌≤◌, Bool, true, false, refl, sym, ap, ◌∙◌, arith, All, Option, Some, None, List, [], ◌∷◌, ◌++◌, ◌&&◌, ◌||◌, cond, filter, length, subst}
use Rattle.std.specs.Prelude.{option_map, slice_get, unwrap_or}
use Rattle.std.proofs.lemmas.Bool.Decides.{nat_tests}
use Rattle.std.proofs.lemmas.List.Elements.{All-append, All-cons, All-head, All-nil, All-tail}
use Rattle.rt_stamps.specs.declared.stamp.Span.{Span}
use Rattle.rt_stamps.specs.declared.stamp.Stamp.{Stamp}
use Rattle.rt_stamps.specs.Spans.{is_in_span}
use Rattle.rt_store.specs.declared.cell.Cell.{Cell}
use Rattle.rt_store.specs.declared.cell.CellRun.{CellRun}
use Rattle.rt_store.specs.Cells.{AreDistinct, GoesOn, cell_of, stamps_of, visible_of}
use Rattle.rt_store.specs.Spans.{is_among, is_in_spans}
use Rattle.rt_store.proofs.Distinct.{split}
use Rattle.rt_store.proofs.Finding.{stamp_held}
use Rattle.rt_store.proofs.Positions.{among_at, get_within, run_found}
use Rattle.std.specs.Option.{is_some}
use Rattle.rt_rga.specs.NamedRuns.{IsCellRun, names_at, span_of_run, spans_of_runs}
use Rattle.rt_rga.proofs.RemovedPlaces.{visible_from}

-- CELLS OF A RUN

-- how far a stamp of a span is behind the first one
pub record IsBehind (span : Span) (stamp : Stamp) (n : ℕ) : Type 0 where
  pub is : stamp ≡ record { count = span.first + n; site = span.site }
  pub within : span.first + n ≤ span.last

pub behind : (span : Span) (stamp : Stamp) → is_in_span span stamp ≡ true → IsBehind span stamp (stamp.count - span.first)
behind span stamp h =
    let site : stamp.site ≡ span.site = grind (arith, nat_tests, h) in
    let from : span.first ≤ stamp.count = grind (arith, nat_tests, h) in
    let to : stamp.count ≤ span.last = grind (arith, nat_tests, h) in
    let count : stamp.count ≡ span.first + (stamp.count - span.first) = omega (arith, from) in
    record { is = λ i. record { count = count i; site = site i }; within = omega (arith, from, to) }

-- the cell of a stamp in a run's span goes on from the first one
pub of_run : (cells : List (Cell ℕ)) (run : CellRun) (cell : Cell ℕ) → AreDistinct cells → IsCellRun cells run → cell_of cells cell.stamp ≡ Some cell
    → is_in_span (span_of_run run) cell.stamp ≡ true → GoesOn run.cell (cell.stamp.count - run.cell.stamp.count) cell
of_run cells run cell distinct r found h =
    let b = behind (span_of_run run) cell.stamp h in
    let n = cell.stamp.count - run.cell.stamp.count in
    let (other, there, on) = run_found cells run.cell run.last n distinct r.on b.within in
    let same : Some cell ≡ Some other = sym found ∙ ap (cell_of cells) b.is ∙ there in
    let is : cell ≡ other = cc same in
    subst (GoesOn run.cell n) (sym is) on

-- PLACES THAT SPANS NAME

-- spans that name the same of the cells name the same places
pub names_alike : {T : Type 0} (a b : List Span) (cells : List (Cell T)) → ((stamp : Stamp) → is_among (stamps_of cells) stamp ≡ true → is_in_spans a stamp ≡ is_in_spans b stamp)
    → (place : ℕ) → names_at a cells place ≡ names_at b cells place
names_alike {T} a b cells alike place = by (slice_get (visible_of cells) place) refl
  where
    by : (o : Option (Cell T)) → slice_get (visible_of cells) place ≡ o
        → unwrap_or (option_map (λ cell. is_in_spans a cell.stamp) o) false ≡ unwrap_or (option_map (λ cell. is_in_spans b cell.stamp) o) false
    by None e = refl
    by (Some c) e =
        let (n, v) = visible_from cells place c e in
        alike c.stamp (among_at cells n c v.there)

-- what one span names and what the others name
pub names_more : {T : Type 0} (span : Span) (spans : List Span) (cells : List (Cell T)) (place : ℕ) → names_at (span ∷ spans) cells place ≡ (names_at (span ∷ []) cells place || names_at spans cells place)
names_more {T} span spans cells place = by (slice_get (visible_of cells) place)
  where
    one : (b c : Bool) → (b || c) ≡ ((b || false) || c)
    one true c = refl
    one false c = refl

    by : (o : Option (Cell T)) → unwrap_or (option_map (λ cell. is_in_spans (span ∷ spans) cell.stamp) o) false
        ≡ (unwrap_or (option_map (λ cell. is_in_spans (span ∷ []) cell.stamp) o) false || unwrap_or (option_map (λ cell. is_in_spans spans cell.stamp) o) false)
    by None = refl
    by (Some c) = one (is_in_span span c.stamp) (is_in_spans spans c.stamp)

pub none_named : {T : Type 0} (cells : List (Cell T)) (place : ℕ) → names_at [] cells place ≡ false
none_named {T} cells place = by (slice_get (visible_of cells) place)
  where
    by : (o : Option (Cell T)) → unwrap_or (option_map (λ cell. is_in_spans [] cell.stamp) o) false ≡ false
    by None = refl
    by (Some c) = refl

-- a place that is named is one of the visible text
pub named_within : {T : Type 0} (spans : List Span) (cells : List (Cell T)) (place : ℕ) → names_at spans cells place ≡ true → place < length (visible_of cells)
named_within {T} spans cells place h = by (slice_get (visible_of cells) place) refl h
  where
    by : (o : Option (Cell T)) → slice_get (visible_of cells) place ≡ o → unwrap_or (option_map (λ cell. is_in_spans spans cell.stamp) o) false ≡ true → place < length (visible_of cells)
    by None e t = absurd (cc t)
    by (Some c) e t = get_within (visible_of cells) place c e

-- THE RUNS OF A SPAN

-- where no cell has a stamp, its span names none
pub none_there : (cells : List (Cell ℕ)) (stamp other : Stamp) → cell_of cells stamp ≡ None → is_among (stamps_of cells) other ≡ true
    → is_in_span (record { site = stamp.site; first = stamp.count; last = stamp.count }) other ≡ false
none_there cells stamp other none among = split (is_in_span (record { site = stamp.site; first = stamp.count; last = stamp.count }) other)
    (λ t.
    let site : other.site ≡ stamp.site = grind (arith, nat_tests, t) in
    let from : stamp.count ≤ other.count = grind (arith, nat_tests, t) in
    let to : other.count ≤ stamp.count = grind (arith, nat_tests, t) in
    let count : other.count ≡ stamp.count = omega (arith, from, to) in
    let is : other ≡ stamp = λ i. record { count = count i; site = site i } in
    let held : false ≡ true = ap is_some (sym none) ∙ stamp_held cells stamp ∙ ap (is_among (stamps_of cells)) (sym is) ∙ among in
    absurd (cc held))
    (λ f. f)

or_false : (b c : Bool) → c ≡ false → b ≡ (b || c)
or_false true c h = refl
or_false false c h = sym h

pub none_more : (runs : List CellRun) (cells : List (Cell ℕ)) (stamp other : Stamp) → cell_of cells stamp ≡ None → is_among (stamps_of cells) other ≡ true
    → is_in_spans (spans_of_runs runs) other ≡ (is_in_spans (spans_of_runs runs) other || is_in_span (record { site = stamp.site; first = stamp.count; last = stamp.count }) other)
none_more runs cells stamp other none among = or_false _ _ (none_there cells stamp other none among)

-- one run more
pub one_more : (runs : List CellRun) (run : CellRun) (other : Stamp) → is_in_spans (spans_of_runs (runs ++ run ∷ [])) other ≡ (is_in_spans (spans_of_runs runs) other || is_in_span (span_of_run run) other)
one_more [] run other = by (is_in_span (span_of_run run) other)
  where
    by : (b : Bool) → (b || false) ≡ (false || b)
    by true = refl
    by false = refl
one_more (r ∷ runs) run other =
    ap (λ b. is_in_span (span_of_run r) other || b) (one_more runs run other)
    ∙ by (is_in_span (span_of_run r) other) (is_in_spans (spans_of_runs runs) other) (is_in_span (span_of_run run) other)
  where
    by : (a b c : Bool) → (a || (b || c)) ≡ ((a || b) || c)
    by true b c = refl
    by false b c = refl

pub runs_more : (cells : List (Cell ℕ)) (runs : List CellRun) (run : CellRun) → All (IsCellRun cells) runs → IsCellRun cells run → All (IsCellRun cells) (runs ++ run ∷ [])
runs_more cells runs run h r = All-append (IsCellRun cells) runs (run ∷ []) h (All-cons (IsCellRun cells) run [] r (All-nil (IsCellRun cells)))

-- a stamp of a span is in its first part or in the rest
pub span_parted : (b : Bool) (site count to last : ℕ) (s : Stamp) → count ≤ to → to ≤ last
    → ((b || is_in_span (record { site = site; first = count; last = to }) s) || is_in_span (record { site = site; first = to + 1; last = last }) s)
    ≡ (b || is_in_span (record { site = site; first = count; last = last }) s)
span_parted true site count to last s h k = refl
span_parted false site count to last s h k = grind (arith, nat_tests, h, k)

-- a span that ends before it begins has no stamp
pub span_of_none : (b : Bool) (site first last : ℕ) (s : Stamp) → last < first → (b || is_in_span (record { site = site; first = first; last = last }) s) ≡ b
span_of_none true site first last s h = refl
span_of_none false site first last s h = grind (arith, nat_tests, h)

-- what one more span of a list names
pub spans_parted : (b : Bool) (span : Span) (spans : List Span) (s : Stamp) → ((b || is_in_span span s) || is_in_spans spans s) ≡ (b || is_in_spans (span ∷ spans) s)
spans_parted true span spans s = refl
spans_parted false span spans s = refl

-- STATES AND TESTS

-- the cells of runs whose first ones pass a test are those of the runs that pass it, where it asks for what a run has in common
pub passing : (test : Cell ℕ → Bool) (cells : List (Cell ℕ)) (runs : List CellRun) (cell : Cell ℕ) → ((a b : Cell ℕ) → a.state ≡ b.state → test a ≡ test b)
    → AreDistinct cells → All (IsCellRun cells) runs → cell_of cells cell.stamp ≡ Some cell
    → is_in_spans (spans_of_runs (filter (λ run. test run.cell) runs)) cell.stamp ≡ (is_in_spans (spans_of_runs runs) cell.stamp && test cell)
passing test cells [] cell alike distinct rs found = refl
passing test cells (run ∷ runs) cell alike distinct rs found =
    let rest = passing test cells runs cell alike distinct (All-tail (IsCellRun cells) run runs rs) found in
    let of : is_in_span (span_of_run run) cell.stamp ≡ true → test run.cell ≡ test cell = λ t.
    alike run.cell cell (sym (of_run cells run cell distinct (All-head (IsCellRun cells) run runs rs) found t).state) in
    by (is_in_span (span_of_run run) cell.stamp) (test run.cell) refl of rest
  where
    by : (here passes : Bool) → is_in_span (span_of_run run) cell.stamp ≡ here → (here ≡ true → passes ≡ test cell)
        → is_in_spans (spans_of_runs (filter (λ run. test run.cell) runs)) cell.stamp ≡ (is_in_spans (spans_of_runs runs) cell.stamp && test cell)
        → is_in_spans (spans_of_runs (cond passes (run ∷ filter (λ run. test run.cell) runs) (filter (λ run. test run.cell) runs))) cell.stamp
        ≡ ((here || is_in_spans (spans_of_runs runs) cell.stamp) && test cell)
    by true true e of rest = ap (λ b. b || is_in_spans (spans_of_runs (filter (λ run. test run.cell) runs)) cell.stamp) e ∙ of refl
    by true false e of rest = rest ∙ nothing (is_in_spans (spans_of_runs runs) cell.stamp) (test cell) (sym (of refl)) ∙ of refl
      where
        nothing : (a b : Bool) → b ≡ false → (a && b) ≡ false
        nothing true b h = h
        nothing false b h = refl
    by false true e of rest = ap (λ b. b || is_in_spans (spans_of_runs (filter (λ run. test run.cell) runs)) cell.stamp) e ∙ rest
    by false false e of rest = rest
