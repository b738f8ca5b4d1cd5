use Rattle.std.proofs.Common.{◌≡◌, ◌∙◌, ◌++◌, ◌∷◌, [], cond, ap, append-nil, subst, sym}
use Rattle.rt_store.specs.declared.cell.CellRun.{CellRun}
use Rattle.rt_tags.specs.States.{IsState, write_at}
use Rattle.rt_tags.proofs.Listing.{keeps_both}
use Rattle.rt_rga.specs.NamedRuns.{changes_kept}
use Rattle.rt_rga.proofs.TagWrites.{change_later}
use Rattle.rt_rga.proofs.RetaggedPlaces.{changes_later, filter_more}
use Rattle.rt_rga.proofs.retagged.changed_runs.Goals.{then-do_differ+in_ok-push, else-do_differ}
use Rattle.rt_rga.proofs.retagged.changed_runs.Goals as goal

pub state_with-requires-clause-before : goal.state_with-requires-clause-before
state_with-requires-clause-before c =
    let given : IsState c.args.states.now c.run-item.result.cell.state = subst (λ (x : CellRun). IsState c.args.states.now x.cell.state) (sym c.run-item.is) (c.requires.states c.loop-run.run-index c.run-item.result c.loop-run-test.true) in
    (c.loop-run.invariant.ids.states c.run-item.result.cell.state given).0

pub loop-run-preserved : goal.loop-run-preserved
loop-run-preserved c =
    let old = c.args.states.now in
    let now = c.loop-run.states in
    let new = c.state_with.new.states in
    let item = c.run-item.result in
    let done = c.loop-run.changed.items in
    let given : IsState old item.cell.state = subst (λ (x : CellRun). IsState old x.cell.state) (sym c.run-item.is) (c.requires.states c.loop-run.run-index item c.loop-run-test.true) in
    let differs : c.do_differ.result ≡ changes_kept old (write_at old c.args.tag c.args.writer c.args.on) item.cell = c.do_differ.ensures
    ∙ changes_later old now new item.cell c.args.tag c.args.writer c.args.on c.in_ok-after.after c.loop-run.invariant.ids c.state_with.ensures.ids c.requires.tag given c.in_ok-after.ensures.state in
    let grown : c.if-do_differ.changed.items ≡ done ++ cond c.do_differ.result (item ∷ []) [] = elim c.if-do_differ.branch [
      | then-do_differ+in_ok-push w ↦ (λ j. (w.changed-is j).items) ∙ w.in_ok-push.ensures.items ∙ ap (λ b. done ++ cond b (item ∷ []) []) (sym w.if-do_differ.true)
      | else-do_differ w ↦ (λ j. (w.changed-is j).items) ∙ sym (append-nil done) ∙ ap (λ b. done ++ cond b (item ∷ []) []) (sym w.if-do_differ.false)
    ] in
    record {
      changed = grown ∙ filter_more (λ (run : CellRun). changes_kept old (write_at old c.args.tag c.args.writer c.args.on) run.cell) done c.args.runs.now c.loop-run.run-index item c.do_differ.result c.loop-run-test.true c.run-item.is differs c.loop-run.invariant.changed;
      last = change_later old now new c.args.tag c.args.writer c.args.on (record { before = item.cell.state; after = c.in_ok-after.after })
          c.loop-run.invariant.ids c.state_with.ensures.ids c.requires.tag (c.loop-run.invariant.ids.states item.cell.state given).0 c.in_ok-after.ensures.given c.in_ok-after.ensures.state;
      ids = keeps_both old now new c.loop-run.invariant.ids c.state_with.ensures.ids;
    }
