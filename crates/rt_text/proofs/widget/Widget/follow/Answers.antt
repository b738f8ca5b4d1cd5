use Rattle.std.proofs.Common.{◌∙◌, ◌-◌, ◌≤◌, [], ap, arith, get_or, length, refl, subst, sym}
use Rattle.std.proofs.lemmas.List.{take_all}
use Rattle.rt_rga.specs.declared.taken.PlaceRun.{PlaceRun}
use Rattle.rt_rga.specs.Taken.{AreFallingRuns, is_in_runs}
use Rattle.rt_text.specs.Owned.{widget_value}
use Rattle.rt_text.specs.Widgets.{widget_inserted, widget_without, widget_removed}
use Rattle.rt_text.proofs.FollowingLaws.{own_follow, run_forward}
use Rattle.rt_text.proofs.MarkLaws.{own_kept}
use Rattle.rt_text.proofs.widget.Widget.follow.Goals as goal

pub loop-run-init : goal.loop-run-init
loop-run-init c = c.inserted.ensures ∙ sym (own_kept (is_in_runs []) (widget_inserted c.args.change.now.place c.args.change.now.inserted (widget_value c.args.self.now)) (λ p. refl))

pub overflow_sub-run : goal.overflow_sub-run
overflow_sub-run c =
    run_forward c.requires.runs.0 c.deref-run-items.result.now c.loop-run.run-index (record { from = 0; to = 0 }) c.loop-run-test.true
    (subst (AreFallingRuns c.requires.runs.0) (sym c.deref-run-items.ensures.value) c.requires.runs.1)

pub loop-run-preserved : goal.loop-run-preserved
loop-run-preserved c =
    let end = c.requires.runs.0 in
    let runs = c.deref-run-items.result.now in
    let i = c.loop-run.run-index in
    let falling = subst (AreFallingRuns end) (sym c.deref-run-items.ensures.value) c.requires.runs.1 in
    let d : PlaceRun = record { from = 0; to = 0 } in
    let run : PlaceRun = get_or runs i d in
    c.removed.ensures ∙ ap (widget_removed run.from (run.to - run.from)) c.loop-run.invariant
    ∙ own_follow end runs i d (widget_inserted c.args.change.now.place c.args.change.now.inserted (widget_value c.args.self.now)) c.loop-run-test.true falling

pub returns : goal.returns
returns c =
    let runs = c.deref-run-items.result.now in
    let past : length runs ≤ c.loop-run.run-index = omega arith in
    c.loop-run.invariant
    ∙ ap (λ r. widget_without (is_in_runs r) (widget_inserted c.args.change.now.place c.args.change.now.inserted (widget_value c.args.self.now))) (take_all c.loop-run.run-index runs past ∙ c.deref-run-items.ensures.value)
