use Rattle.std.proofs.Common.{◌≡◌, length, sym, ap, ◌∙◌, arith}
use Rattle.std.proofs.lemmas.List.{take_all}
use Rattle.rt_oplog.specs.Kept.{is_earlier}
use Rattle.rt_oplog.specs.Runs.{places_in, places_of, places_to}
use Rattle.rt_oplog.proofs.InRuns.{few_places}
use Rattle.rt_oplog.proofs.InParts as parts
use Rattle.rt_oplog.proofs.Places.{leading_le}
use Rattle.rt_oplog.proofs.runs.ops_before.Goals as goal

pub run_before-requires : goal.run_before-requires
run_before-requires c =
    parts.falling_part places_of c.args.ops.now.rows c.args.runs.now c.runs_before-run.result c.index-runs-run.result (omega (arith, c.if-run-runs.true)) c.index-runs-run.is c.requires.falling

pub returns-then-run-runs-clause-place : goal.returns-then-run-runs-clause-place
returns-then-run-runs-clause-place c =
    let runs = c.args.runs.now in
    let p = is_earlier c.args.ops.now.rows c.args.stamp in
    let front : c.count-front.result ≡ places_to runs c.runs_before-run.result = c.count-front.ensures in
    let whole = parts.leading_at places_of p runs c.runs_before-run.result c.index-runs-run.result c.runs_before-run.ensures.runs (omega (arith, c.if-run-runs.true)) c.index-runs-run.is in
    omega (arith, front, whole, c.run_before.ensures.place)

pub returns-then-run-runs-clause-within : goal.returns-then-run-runs-clause-within
returns-then-run-runs-clause-within c =
    let runs = c.args.runs.now in
    let p = is_earlier c.args.ops.now.rows c.args.stamp in
    let front : c.count-front.result ≡ places_to runs c.runs_before-run.result = c.count-front.ensures in
    let whole = parts.leading_at places_of p runs c.runs_before-run.result c.index-runs-run.result c.runs_before-run.ensures.runs (omega (arith, c.if-run-runs.true)) c.index-runs-run.is in
    omega (arith, front, whole, c.run_before.ensures.place, leading_le p (places_in runs))

pub overflow_add-result : goal.overflow_add-result
overflow_add-result c =
    let runs = c.args.runs.now in
    let p = is_earlier c.args.ops.now.rows c.args.stamp in
    let front : c.count-front.result ≡ places_to runs c.runs_before-run.result = c.count-front.ensures in
    let whole = parts.leading_at places_of p runs c.runs_before-run.result c.index-runs-run.result c.runs_before-run.ensures.runs (omega (arith, c.if-run-runs.true)) c.index-runs-run.is in
    omega (arith, front, whole, c.run_before.ensures.place, leading_le p (places_in runs), few_places runs, c.requires.few)

pub returns-else-run-runs-clause-place : goal.returns-else-run-runs-clause-place
returns-else-run-runs-clause-place c =
    let runs = c.args.runs.now in
    let p = is_earlier c.args.ops.now.rows c.args.stamp in
    let i = c.runs_before-run.result in
    let front : c.count-front.result ≡ places_to runs i = c.count-front.ensures in
    let all = parts.leading_none places_of p runs (omega (arith, c.runs_before-run.ensures.runs, c.runs_before-run.ensures.within, c.if-run-runs.false)) in
    front ∙ ap (λ rs. length (places_in rs)) (take_all i runs (omega (arith, c.if-run-runs.false))) ∙ sym all
