use Rattle.std.proofs.Common.{arith, sym, ◌∙◌}
use Rattle.rt_index.proofs.Tags.{longest_here, longest_past}
use Rattle.rt_index.proofs.reading.longest_tag.Goals as goal

pub returns-in-Some-clause-value : goal.returns-in-Some-clause-value
returns-in-Some-clause-value c =
    sym (longest_here c.args.word.now c.loop-end.end c.in-Some.tag c.loop-end-test.true (sym c.in-Some.ensures.value)) ∙ c.loop-end.invariant.same

pub loop-end-preserved : goal.loop-end-preserved
loop-end-preserved c = record {
  within = omega (arith, c.loop-end.invariant.within);
  same = longest_past c.args.word.now c.loop-end.end c.loop-end-test.true (sym c.in-None.ensures.value) ∙ c.loop-end.invariant.same;
}
