use Rattle.std.proofs.Common.{◌≡◌, ◌==◌, true, false, arith, ap, get_or}
use Rattle.std.specs.Prelude.{not}
use Rattle.std.proofs.lemmas.Bool.Decides.{nat_tests}
use Rattle.rt_oplog.specs.declared.ends.SiteEnd.{SiteEnd}
use Rattle.rt_oplog.specs.Ends.{is_of_another}
use Rattle.rt_oplog.proofs.AtHand.{leading_step, leading_stop, leading_past}
use Rattle.rt_oplog.proofs.ends.place_of.Goals as goal

pub returns-then-recent-at-clause-place : goal.returns-then-recent-at-clause-place
returns-then-recent-at-clause-place c =
    let d : SiteEnd = record { site = 0; last = 0 } in
    let same : ((get_or c.args.recent.now c.loop-at.at d).site == c.args.site) ≡ true = grind (arith, nat_tests, c.if-recent-at.true) in
    let stop = leading_stop (is_of_another c.args.site) c.args.recent.now c.loop-at.at d c.loop-at-test.true (ap not same) in
    omega (arith, c.loop-at.invariant, stop)

pub loop-at-preserved : goal.loop-at-preserved
loop-at-preserved c =
    let d : SiteEnd = record { site = 0; last = 0 } in
    let other : ((get_or c.args.recent.now c.loop-at.at d).site == c.args.site) ≡ false = grind (arith, nat_tests, c.if-recent-at.false) in
    let step = leading_step (is_of_another c.args.site) c.args.recent.now c.loop-at.at d c.loop-at-test.true (ap not other) in
    omega (arith, c.loop-at.invariant, step)

pub returns-clause-place : goal.returns-clause-place
returns-clause-place c =
    let past = leading_past (is_of_another c.args.site) c.args.recent.now c.loop-at.at (omega (arith, c.loop-at-test.false)) in
    omega (arith, c.loop-at.invariant, past, c.loop-at-test.false, c.loop-at.auto.at-end)
