use Rattle.std.proofs.Common.{◌∙◌, sym, arith}
use Rattle.rt_tree.proofs.Following.{stretch_done, stretch_goes}
use Rattle.rt_tree.proofs.splice.stretch.Goals as goal

pub returns-then-not-follows : goal.returns-then-not-follows
returns-then-not-follows c =
    let i = c.loop-i.invariant in
    stretch_done c.args.cells.now c.loop-i.i c.index-cells-i.result c.index-cells-i-in-loop-i.result i.some (omega arith) c.index-cells-i.is c.index-cells-i-in-loop-i.is (sym c.follows.ensures ∙ c.if-not-follows.true) i.one

pub loop-i-preserved : goal.loop-i-preserved
loop-i-preserved c =
    let i = c.loop-i.invariant in
    record {
      some = omega arith;
      one = stretch_goes c.args.cells.now c.loop-i.i c.index-cells-i.result c.index-cells-i-in-loop-i.result i.some (omega arith) c.index-cells-i.is c.index-cells-i-in-loop-i.is (sym c.follows.ensures ∙ c.if-not-follows.false) i.one;
    }
