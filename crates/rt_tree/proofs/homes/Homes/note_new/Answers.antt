use Rattle.std.proofs.Common.{arith}
use Rattle.rt_tree.proofs.homes.Homes.note_new.Goals as goal

-- no node is new, so all leaves were told before
pub returns-else-nodes-clause-housed : goal.returns-else-nodes-clause-housed
returns-else-nodes-clause-housed c = λ root sure t short once cells was below.
    record {
      bordered = was;
      there = λ leaf run at. below leaf run at (let is = at.is in let n = c.nodes.ensures in let old = c.if-nodes.false in omega (arith, is, n, old));
    }
