use Rattle.std.proofs.Common.{◌≡◌, ◌∙◌, ℕ, ap, length, subst, sym, List, All}
use Rattle.std.proofs.lemmas.Result.{IfOk-weaker}
use Rattle.rt_ops.specs.Operations.{Delete}
use Rattle.rt_store.specs.declared.cell.CellRun.{CellRun}
use Rattle.rt_store.specs.Cells.{visible_of}
use Rattle.rt_rga.specs.NamedRuns.{IsCellRun, names_at, spans_of_runs}
use Rattle.rt_rga.specs.Taken.{takes_away}
use Rattle.rt_rga.proofs.NamedRuns.{names_alike}
use Rattle.rt_rga.proofs.RemovedPlaces.{taken_before}
use Rattle.rt_rga.proofs.removed.runs_in.Goals as goal

pub places_of-requires-clause-runs : goal.places_of-requires-clause-runs
places_of-requires-clause-runs g c = subst (All (IsCellRun (g.S.TextStore.list c.args.store.now))) (sym c.deref.ensures.value) c.in_ok-runs.ensures.runs

pub returns-clause-removed : goal.returns-clause-removed
returns-clause-removed g c =
    let cells = g.S.TextStore.list c.args.store.now in
    let spans = c.args.spans.now in
    let same : (place : ℕ) → names_at (spans_of_runs c.deref.result.now) cells place ≡ takes_away (Delete spans) cells place = λ place.
    ap (λ (runs : List CellRun). names_at (spans_of_runs runs) cells place) c.deref.ensures.value
    ∙ names_alike (spans_of_runs c.in_ok-runs.runs.items) spans cells c.in_ok-runs.ensures.named place in
    IfOk-weaker c.places_of.result _ _ (λ places h place. h place ∙ same place) c.places_of.ensures.places

pub returns-clause-runs : goal.returns-clause-runs
returns-clause-runs g c =
    let cells = g.S.TextStore.list c.args.store.now in
    let spans = c.args.spans.now in
    let ends = g.met.S.TextStore.ends c.args.store.now in
    let same : (place : ℕ) → names_at (spans_of_runs c.deref.result.now) cells place ≡ takes_away (Delete spans) cells place = λ place.
    ap (λ (runs : List CellRun). names_at (spans_of_runs runs) cells place) c.deref.ensures.value
    ∙ names_alike (spans_of_runs c.in_ok-runs.runs.items) spans cells c.in_ok-runs.ensures.named place in
    IfOk-weaker c.places_of.result _ _ (λ places h. h (length (visible_of cells)) (λ place t. taken_before cells (Delete spans) place ends c.requires.stays (sym (same place) ∙ t))) c.places_of.ensures.falling
