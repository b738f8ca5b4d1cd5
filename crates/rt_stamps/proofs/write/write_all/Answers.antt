use Rattle.std.proofs.Common.{arith, refl, ◌∙◌, ap, ◌+◌}
use Rattle.std.proofs.lemmas.List.{length-drop}
use Rattle.std.proofs.lemmas.Bool.Decides.{nat_tests}
use Rattle.rt_stamps.proofs.Writes.{taken_more, part_taken, part_failed, slice_rest}
use Rattle.rt_stamps.proofs.write.write_all.Goals as goal

pub loop-done-preserved : goal.loop-done-preserved
loop-done-preserved g c = record {
  within = omega (arith, rw slice_rest at c.in-Ok.ensures.bound, length-drop c.loop-done.done c.args.piece.now);
  failures = grind (arith, c.in-Ok.ensures.failures, c.loop-done.invariant.failures, nat_tests);
  wrote = taken_more _ _ _ c.loop-done.done c.in-Ok.n c.args.piece.now c.loop-done.invariant.wrote (rw slice_rest at c.in-Ok.ensures.bytes);
}

pub returns-in-Err : goal.returns-in-Err
returns-in-Err g c = record {
  wrote = part_failed _ _ _ c.loop-done.done c.args.piece.now c.loop-done.invariant.wrote c.in-Err.ensures.bytes;
  fault = refl;
  failures = c.in-Err.ensures.failures ∙ ap (λ n. n + 1) c.loop-done.invariant.failures;
}

pub returns-then-n-eq0 : goal.returns-then-n-eq0
returns-then-n-eq0 g c = record {
  wrote = part_taken _ _ _ c.loop-done.done c.args.piece.now c.loop-done.invariant.wrote (rw c.if-n-eq0.true at c.in-Ok.ensures.bytes);
  fault = refl;
  failures = grind (arith, c.in-Ok.ensures.failures, c.loop-done.invariant.failures, nat_tests);
}
