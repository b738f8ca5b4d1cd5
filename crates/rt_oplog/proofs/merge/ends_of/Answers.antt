use Rattle.rt_rows.specs.Places.{HasPlace, op_at}
use Rattle.std.proofs.Common.{◌≡◌, ◌≤◌, ◌<◌, ◌∙◌, ℕ, arith, ap, subst, sym, inr, refl, get_or, max, cond, ◌==◌, inl}
use Rattle.std.proofs.lemmas.List.{take_all}
use Rattle.std.proofs.lemmas.Result.{err_from_is_err_and}
use Rattle.rt_stamps.specs.declared.limits.TheConstants.{GREATEST_COUNT}
use Rattle.rt_ops.specs.Operations.{last_count}
use Rattle.rt_ops.specs.Views.{operation_in}
use Rattle.rt_oplog.specs.Ends.{end_in}
use Rattle.rt_oplog.specs.Kept.{IsLogInRows}
use Rattle.rt_oplog.proofs.Pushes.{sound_last}
use Rattle.rt_oplog.proofs.Places.{at_has}
use Rattle.rt_oplog.proofs.Merges.{within_at, kept_step, clash_step, kept_none}
use Rattle.rt_oplog.proofs.merge.ends_of.Goals as goal

pub loop-place-init : goal.loop-place-init
loop-place-init c = kept_none c.args.ops.now.rows c.new-ends.result c.new-ends.ensures

pub returns-then-op-get : goal.returns-then-op-get
returns-then-op-get c =
    let ops = c.args.ops.now.rows in
    let order = c.args.order.now in
    let i = c.loop-place.place-index in
    let fits = within_at (HasPlace ops) i order c.loop-place-test.true c.requires.within in
    let read = sym c.op_in-op.ensures.is in
    let below : (operation_in c.op_in-op.result).prev < end_in c.loop-place.ends (operation_in c.op_in-op.result).site =
    omega (arith, c.get.ensures, c.if-op-get.true, ap (end_in c.loop-place.ends) c.site.ensures) in
    inr (refl, clash_step ops order i c.loop-place.ends (operation_in c.op_in-op.result) c.loop-place-test.true read c.requires.falling c.loop-place.invariant below)

pub last_count-requires : goal.last_count-requires
last_count-requires c =
    let ops = c.args.ops.now.rows in
    let order = c.args.order.now in
    let i = c.loop-place.place-index in
    let fits = within_at (HasPlace ops) i order c.loop-place-test.true c.requires.within in
    let read = sym c.op_in-op.ensures.is in
    let last = sound_last (op_at ops (get_or order i (record { row = 0; at = 0 }))) (c.requires.sound (op_at ops (get_or order i (record { row = 0; at = 0 }))) (at_has ops order i (record { row = 0; at = 0 }) c.loop-place-test.true)) in
    subst (λ o. last_count o ≤ GREATEST_COUNT) (sym read) last

pub loop-place-preserved : goal.loop-place-preserved
loop-place-preserved c =
    let ops = c.args.ops.now.rows in
    let order = c.args.order.now in
    let i = c.loop-place.place-index in
    let op = (operation_in c.op_in-op.result) in
    let ends = c.loop-place.ends in
    let fits = within_at (HasPlace ops) i order c.loop-place-test.true c.requires.within in
    let read = sym c.op_in-op.ensures.is in
    let past : end_in ends op.site ≤ op.prev = omega (arith, c.get.ensures, c.if-op-get.false, ap (end_in ends) c.site.ensures) in
    let raised : (s : ℕ) → end_in c.raise.new.self s ≡ cond (op.site == s) (max (last_count op) (end_in ends s)) (end_in ends s) = λ s. c.raise.ensures.ends s ∙ rw (c.site-in-loop-place.ensures, c.last_count.ensures, c.in_ok-reserve.ensures.same s) refl in
    kept_step ops order i ends c.raise.new.self op c.loop-place-test.true read c.requires.within c.requires.falling c.requires.sound c.loop-place.invariant past raised

pub returns : goal.returns
returns c = subst (λ xs. IsLogInRows c.args.ops.now.rows xs c.loop-place.ends) (take_all _ _ (omega arith)) c.loop-place.invariant

pub returns-in_err-reserve : goal.returns-in_err-reserve
returns-in_err-reserve c =
    let (y, is, gives) = err_from_is_err_and c.from_residual.result c.from_residual.ensures.1 in
    rw (is, gives) (inl refl)

pub op_in-op-requires : goal.op_in-op-requires
op_in-op-requires c = within_at (HasPlace c.args.ops.now.rows) c.loop-place.place-index c.args.order.now c.loop-place-test.true c.requires.within
