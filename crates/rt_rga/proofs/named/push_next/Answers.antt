use Rattle.std.proofs.Common.{◌≡◌, ◌∙◌, ◌||◌, ℕ, ap, arith, sym, subst, All, List}
use Rattle.rt_stamps.specs.declared.stamp.Stamp.{Stamp}
use Rattle.rt_stamps.specs.Spans.{is_in_span}
use Rattle.rt_store.specs.declared.cell.Cell.{Cell}
use Rattle.rt_store.specs.declared.cell.CellRun.{CellRun}
use Rattle.rt_store.specs.Cells.{GoOnTo, cell_of}
use Rattle.rt_store.specs.Spans.{is_in_spans}
use Rattle.std.proofs.Common.{◌≤◌, Some}
use Rattle.rt_rga.specs.NamedRuns.{IsCellRun, spans_of_runs}
use Rattle.rt_store.proofs.Positions.{found_stamp}
use Rattle.rt_rga.proofs.NamedRuns.{none_more, one_more, runs_more}
use Rattle.rt_rga.proofs.named.push_next.Goals as goal

pub returns-in-None-clause-named : goal.returns-in-None-clause-named
returns-in-None-clause-named g c = λ other among. none_more c.args.runs.now.items (g.S.TextStore.list c.args.store.now) c.args.stamp other (sym c.in-None.ensures.cell) among

is_run : (cells : List (Cell ℕ)) (stamp : Stamp) (run : CellRun) → Some run.cell ≡ cell_of cells stamp → stamp.count ≤ run.last → GoOnTo cells run.cell run.last → IsCellRun cells run
is_run cells stamp run found le on =
    let same = found_stamp cells stamp run.cell (sym found) in
    let count : run.cell.stamp.count ≡ stamp.count = ap (λ (s : Stamp). s.count) same in
    record { cell = ap (cell_of cells) same ∙ sym found; forward = omega (arith, count, le); on = on }

pub returns-in_ok-push-in-Some-clause-runs : goal.returns-in_ok-push-in-Some-clause-runs
returns-in_ok-push-in-Some-clause-runs g c =
    let list = g.S.TextStore.list c.args.store.now in
    let e = c.in-Some.ensures in
    subst (All (IsCellRun list)) (sym c.in_ok-push-in-Some.ensures.items)
    (runs_more list c.args.runs.now.items c.in-Some.run' c.requires.runs (is_run list c.args.stamp c.in-Some.run' e.cell e.last.0 e.run))

pub returns-in_ok-push-in-Some-clause-named : goal.returns-in_ok-push-in-Some-clause-named
returns-in_ok-push-in-Some-clause-named g c = λ other among.
    let list = g.S.TextStore.list c.args.store.now in
    let run = c.in-Some.run' in
    let old = c.args.runs.now.items in
    let same = found_stamp list c.args.stamp run.cell (sym c.in-Some.ensures.cell) in
    ap (λ (items : List CellRun). is_in_spans (spans_of_runs items) other) c.in_ok-push-in-Some.ensures.items
    ∙ one_more old run other
    ∙ ap (λ (s : Stamp). is_in_spans (spans_of_runs old) other || is_in_span (record { site = s.site; first = s.count; last = run.last }) other) same
