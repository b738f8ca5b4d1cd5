use Rattle.rt_rows.specs.Places.{HasPlace, op_at}
use Rattle.rt_rows.specs.declared.rows.RowPlace.{RowPlace}
use Rattle.std.proofs.Common.{◌≡◌, ◌∙◌, ◌+◌, ◌||◌, true, ap, drop, sym}
use Rattle.std.specs.List.{list_any}
use Rattle.rt_oplog.specs.Logs.{clash}
use Rattle.rt_oplog.specs.Runs.{places_in, places_of}
use Rattle.rt_oplog.proofs.Passing.{any_part}
use Rattle.rt_oplog.proofs.InParts.{all_part, log_part}
use Rattle.rt_oplog.proofs.log.any_clash.Goals as goal

pub any_clash_at-requires-clause-within : goal.any_clash_at-requires-clause-within
any_clash_at-requires-clause-within c =
    all_part places_of (HasPlace c.args.ops.now.rows) c.args.runs.now c.loop-run.run-index c.run-item.result c.loop-run-test.true c.run-item.is c.requires.within

pub any_clash_at-requires-clause-log : goal.any_clash_at-requires-clause-log
any_clash_at-requires-clause-log c =
    log_part places_of c.args.ops.now.rows c.args.runs.now c.loop-run.run-index c.run-item.result c.loop-run-test.true c.run-item.is c.requires.log

pub returns-then-any_clash_at : goal.returns-then-any_clash_at
returns-then-any_clash_at c =
    let runs = c.args.runs.now in
    let i = c.loop-run.run-index in
    let q = λ (place : RowPlace). clash c.args.op.now (op_at c.args.ops.now.rows place) in
    let here = sym c.any_clash_at.ensures ∙ c.if-any_clash_at.true in
    let all : list_any q (places_in runs) ≡ true = sym c.loop-run.invariant ∙ any_part places_of q runs i c.run-item.result c.loop-run-test.true c.run-item.is ∙ ap (λ b. b || list_any q (places_in (drop (i + 1) runs))) here in
    sym all

pub loop-run-preserved : goal.loop-run-preserved
loop-run-preserved c =
    let runs = c.args.runs.now in
    let i = c.loop-run.run-index in
    let q = λ (place : RowPlace). clash c.args.op.now (op_at c.args.ops.now.rows place) in
    let here = sym c.any_clash_at.ensures ∙ c.if-any_clash_at.false in
    sym (any_part places_of q runs i c.run-item.result c.loop-run-test.true c.run-item.is ∙ ap (λ b. b || list_any q (places_in (drop (i + 1) runs))) here) ∙ c.loop-run.invariant
