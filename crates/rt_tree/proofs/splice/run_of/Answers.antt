use Rattle.std.proofs.Common.{arith, sym, subst}
use Rattle.rt_tree.specs.declared.node.Run.{Run}
use Rattle.rt_tree.specs.Additions.{IsRunOf}
use Rattle.rt_tree.proofs.Following.{run_is}
use Rattle.rt_tree.proofs.splice.run_of.Goals as goal

pub returns : goal.returns
returns c =
    subst (λ (r : Run). IsRunOf c.args.text.now c.args.cells.now r) (sym c.run_from.ensures)
    (run_is c.args.text.now c.args.cells.now c.stretch-len.result c.index-cells-0.result c.index-cells-len.result c.stretch-len.ensures c.requires.some c.requires.last c.index-cells-0.is c.index-cells-len.is (let f = c.index-cells-len.result in omega arith))
