use Rattle.std.proofs.Common.{refl}
use Rattle.rt_tree.proofs.summary.Summary.clear.Goals as goal

pub returns-clause-empty : goal.returns-clause-empty
returns-clause-empty c table = record {
  first = refl;
  last = refl;
  counts = record { given = λ tag h. c.clear.ensures.counts tag; others = λ tag far. c.clear.ensures.counts tag };
}
