use Rattle.std.proofs.Common.{◌+◌, All, List, refl, subst, sym, take}
use Rattle.std.specs.Prelude.{IfSome}
use Rattle.rt_store.specs.declared.cell.CellRun.{CellRun}
use Rattle.rt_tags.specs.States.{IsState, Write, write_at}
use Rattle.rt_tags.proofs.Listing.{keeps_both}
use Rattle.std.proofs.lemmas.Result.{err_from_is_err_and}
use Rattle.std.proofs.lemmas.List.{take_all}
use Rattle.rt_rga.specs.declared.tagging.StateRun.{StateRun}
use Rattle.rt_rga.specs.Runs.{IsStateChange}
use Rattle.rt_rga.proofs.TagWrites.{AreWritten, change_later, given_more, same_write, written_more}
use Rattle.rt_rga.proofs.tagging.written_runs.Goals as goal

pub state_with-requires-clause-before : goal.state_with-requires-clause-before
state_with-requires-clause-before c =
    let given : IsState c.args.states.now c.run-item.result.cell.state = subst (λ (x : CellRun). IsState c.args.states.now x.cell.state) (sym c.run-item.is) (c.requires.states c.loop-run.run-index c.run-item.result c.loop-run-test.true) in
    (c.loop-run.invariant.ids.states c.run-item.result.cell.state given).0

pub state_with-requires-clause-tag : goal.state_with-requires-clause-tag
state_with-requires-clause-tag c = (c.loop-run.invariant.ids.tags c.args.tag c.requires.tag).0

pub state_with-requires-clause-last : goal.state_with-requires-clause-last
state_with-requires-clause-last c =
    subst (λ (w : Write). IfSome c.loop-run.last (IsStateChange c.loop-run.states w))
    (same_write c.args.states.now c.loop-run.states c.args.tag c.args.writer c.args.on c.loop-run.invariant.ids c.requires.tag) c.loop-run.invariant.last

pub loop-run-preserved : goal.loop-run-preserved
loop-run-preserved c =
    let old = c.args.states.now in
    let now = c.loop-run.states in
    let new = c.state_with.new.states in
    let item = c.run-item.result in
    let given : IsState old item.cell.state = subst (λ (x : CellRun). IsState old x.cell.state) (sym c.run-item.is) (c.requires.states c.loop-run.run-index item c.loop-run-test.true) in
    record {
      written = subst (AreWritten old new (write_at old c.args.tag c.args.writer c.args.on) (take (c.loop-run.run-index + 1) c.args.runs.now)) (sym c.in_ok-push.ensures.items)
          (written_more old now new c.loop-run.more.items c.args.runs.now c.loop-run.run-index item c.args.tag c.args.writer c.args.on c.in_ok-state.state
          c.loop-run-test.true c.run-item.is c.loop-run.invariant.ids c.state_with.ensures.ids c.loop-run.invariant.given c.requires.tag given c.in_ok-state.ensures.state c.loop-run.invariant.written);
      given = subst (All (λ (run : StateRun). IsState new run.state)) (sym c.in_ok-push.ensures.items)
          (given_more now new c.loop-run.more.items _ c.state_with.ensures.ids c.loop-run.invariant.given c.in_ok-state.ensures.given);
      last = change_later old now new c.args.tag c.args.writer c.args.on (record { before = item.cell.state; after = c.in_ok-state.state })
          c.loop-run.invariant.ids c.state_with.ensures.ids c.requires.tag (c.loop-run.invariant.ids.states item.cell.state given).0 c.in_ok-state.ensures.given c.in_ok-state.ensures.state;
      ids = keeps_both old now new c.loop-run.invariant.ids c.state_with.ensures.ids;
    }

-- What a call that fails leaves: its fault, and what was given out keeps its meaning.
pub returns-in_err-state : goal.returns-in_err-state
returns-in_err-state c =
    let (y, is, gives) = err_from_is_err_and c.from_residual.result c.from_residual.ensures.1 in
    rw (is, gives) (record { spans = tt; states = tt; given = tt; ids = keeps_both c.args.states.now c.loop-run.states c.state_with.new.states c.loop-run.invariant.ids c.state_with.ensures.ids; fault = c.in_err-state.ensures.fault })

pub returns-in_err-push : goal.returns-in_err-push
returns-in_err-push c =
    let (y, is, gives) = err_from_is_err_and c.from_residual-in_err-push.result c.from_residual-in_err-push.ensures.1 in
    rw (is, gives) (record { spans = tt; states = tt; given = tt; ids = keeps_both c.args.states.now c.loop-run.states c.state_with.new.states c.loop-run.invariant.ids c.state_with.ensures.ids; fault = refl })

pub returns : goal.returns
returns c =
    let old = c.args.states.now in
    let new = c.loop-run.states in
    let w = write_at old c.args.tag c.args.writer c.args.on in
    let all = subst (λ (runs : List CellRun). AreWritten old new w runs c.loop-run.more.items) (take_all c.loop-run.run-index c.args.runs.now c.loop-run-test.false) c.loop-run.invariant.written in
    record { spans = all.spans; states = all.states; given = c.loop-run.invariant.given; ids = c.loop-run.invariant.ids; fault = tt }
