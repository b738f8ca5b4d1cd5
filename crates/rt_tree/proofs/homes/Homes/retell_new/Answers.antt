use Rattle.std.proofs.Common.{arith, ◌∙◌}
use Rattle.rt_tree.proofs.Spare.{few_nodes}
use Rattle.rt_tree.proofs.homes.Homes.retell_new.Goals as goal

-- one node more
pub loop-index-preserved : goal.loop-index-preserved
loop-index-preserved c =
    let inv = c.loop-index.invariant in
    let e = c.retell_all.ensures in
    record {
      told = λ root t once cells was below. let h = inv.told root t once cells was below in e.housed root t once cells h.0 h.1;
      keeps = λ stamp none. inv.keeps stamp (e.keeps stamp none);
      others = λ root t stamp none. e.others root t stamp none ∙ inv.others root t stamp none;
      sure = e.sure ∙ inv.sure;
      left = e.left ∙ inv.left;
    }

-- there are no more nodes than ids
pub returns-clause-housed : goal.returns-clause-housed
returns-clause-housed c = λ root sure t short once cells was below.
    let told = c.loop-index.invariant.told root t once cells was below in
    let few = few_nodes c.args.mem.now root t in
    record {
      bordered = told.0;
      there = λ leaf run at. told.1 leaf run at (let is = at.is in let n = c.nodes.ensures in let m = c.min-end.ensures in let end = c.loop-index-test.false in omega (arith, is, few, short, n, m, end));
    }
