use Rattle.std.proofs.Common.{◌∙◌, ◌+◌, ◌++◌, ap, arith, drop, length, sym, subst}
use Rattle.rt_rga.specs.declared.tagging.StateRun.{StateRun}
use Rattle.rt_rga.specs.Runs.{put_back_in_any}
use Rattle.rt_rga.proofs.StateRuns.{attached, runs, extended_more, begun_more, runs_end, held_runs, few_runs, given_runs, AreRunStates}
use Rattle.rt_rga.proofs.tagging.state_runs.Goals as goal
use Rattle.rt_rga.proofs.tagging.state_runs.Goals.{then-goes_on, else-goes_on+in_ok-push}

pub loop-cell-preserved : goal.loop-cell-preserved
loop-cell-preserved c =
    let others = c.in-Some.others.now in
    let i = c.loop-cell.cell-index in
    let done = c.loop-cell.runs.items in
    let rest = runs (drop (i + 1) others) in
    let run : StateRun = record { span = c.loop-cell.span; state = c.loop-cell.state } in
    elim c.if-goes_on.branch [
      | then-goes_on w ↦ (λ j. (w.runs-is j).items ++ attached (record { span = w.span-is j; state = w.state-is j }) rest)
          ∙ sym (extended_more done run others i c.cell-item.result c.loop-cell-test.true c.cell-item.is (sym c.goes_on.ensures ∙ w.if-goes_on.true)) ∙ c.loop-cell.invariant
      | else-goes_on+in_ok-push w ↦ (λ j. (w.runs-is j).items ++ attached (record { span = w.span-is j; state = w.state-is j }) rest)
          ∙ (λ j. w.in_ok-push.ensures.items j ++ attached (record { span = w.of-span-else-goes_on.ensures j; state = w.state-is 1 }) rest)
          ∙ sym (begun_more done run others i c.cell-item.result c.loop-cell-test.true c.cell-item.is (sym c.goes_on.ensures ∙ w.if-goes_on.false)) ∙ c.loop-cell.invariant
    ]

pub returns-clause-ok : goal.returns-clause-ok
returns-clause-ok c = λ cell.
    let all = runs_end c.push-2.new.self.items c.loop-cell.runs.items (record { span = c.loop-cell.span; state = c.loop-cell.state }) c.in-Some.others.now c.args.cells.now c.loop-cell.cell-index c.in_ok-push-2.ensures.items (omega arith) c.loop-cell.invariant in
    ap (λ l. put_back_in_any l cell) all ∙ held_runs c.args.cells.now cell

pub returns-clause-few : goal.returns-clause-few
returns-clause-few c =
    let all = runs_end c.push-2.new.self.items c.loop-cell.runs.items (record { span = c.loop-cell.span; state = c.loop-cell.state }) c.in-Some.others.now c.args.cells.now c.loop-cell.cell-index c.in_ok-push-2.ensures.items (omega arith) c.loop-cell.invariant in
    omega (arith, ap length all, few_runs c.args.cells.now)

pub returns-clause-given : goal.returns-clause-given
returns-clause-given c = λ table h.
    let all = runs_end c.push-2.new.self.items c.loop-cell.runs.items (record { span = c.loop-cell.span; state = c.loop-cell.state }) c.in-Some.others.now c.args.cells.now c.loop-cell.cell-index c.in_ok-push-2.ensures.items (omega arith) c.loop-cell.invariant in
    subst (AreRunStates table) (sym all) (given_runs table c.args.cells.now h)
