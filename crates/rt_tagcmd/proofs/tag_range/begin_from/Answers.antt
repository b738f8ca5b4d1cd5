use Rattle.std.proofs.Common.{arith}
use Rattle.rt_tagcmd.proofs.tag_range.begin_from.Goals as goal

pub loop-low-init : goal.loop-low-init
loop-low-init g c = record { some = omega arith; within = omega arith }

pub loop-low-smaller : goal.loop-low-smaller
loop-low-smaller g c = omega (arith, c.loop-low.invariant.some, c.loop-low-test.true, c.saturating_sub-low.ensures)

pub loop-low-preserved : goal.loop-low-preserved
loop-low-preserved g c = record {
  some = omega (arith, c.loop-low.invariant.some, c.saturating_mul-step.ensures);
  within = omega (arith, c.loop-low.invariant.within, c.saturating_sub-low.ensures);
}
