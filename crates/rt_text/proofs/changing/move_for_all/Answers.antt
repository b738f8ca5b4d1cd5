use Rattle.std.proofs.Common.{◌≡◌, ◌∙◌, ◌<◌, ◌^◌, ◌-◌, ◌+◌, suc, arith, length, drop, sym, ap, subst}
use Rattle.rt_revert.specs.Plans.{marks_after}
use Rattle.rt_text.proofs.ChangedMarks.{HaveRoom, change_here, changed_room, changes_from, left_more, less_room}
use Rattle.rt_text.proofs.changing.move_for_all.Goals as goal

pub move_for-requires-clause-change : goal.move_for-requires-clause-change
move_for-requires-clause-change c =
    change_here c.args.changes.now c.loop-change.change-index c.change-item.result (omega arith) c.change-item.is c.requires.changes

pub move_for-requires-clause-fits : goal.move_for-requires-clause-fits
move_for-requires-clause-fits c =
    let i = c.loop-change.change-index in
    let changes = c.args.changes.now in
    let within : i < length changes = omega arith in
    less_room 1 (length (drop i changes)) (2 ^ 64 - 1) c.loop-change.marks (omega (arith, left_more changes i c.change-item.result within c.change-item.is)) c.loop-change.invariant.fits

pub loop-change-preserved : goal.loop-change-preserved
loop-change-preserved c =
    let i = c.loop-change.change-index in
    let changes = c.args.changes.now in
    let change = c.change-item.result in
    let within : i < length changes = omega arith in
    let from = changes_from changes i change within c.change-item.is in
    let more : length (drop i changes) ≡ suc (length (drop (i + 1) changes)) = left_more changes i change within c.change-item.is in
    let n = length (drop (i + 1) changes) in
    let most = 2 ^ 64 - 1 in
    record {
      marks = ap (marks_after (drop (i + 1) changes)) c.move_for.ensures ∙ sym (ap (λ l. marks_after l c.loop-change.marks) from) ∙ c.loop-change.invariant.marks;
      fits = subst (HaveRoom n most) (sym c.move_for.ensures)
          (changed_room change n most c.loop-change.marks (subst (λ k. HaveRoom k most c.loop-change.marks) more c.loop-change.invariant.fits));
    }
