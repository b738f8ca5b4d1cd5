use Rattle.std.proofs.Common.{arith}
use Rattle.rt_store.specs.Spans.{last_stamp, next_stamp}
use Rattle.rt_tree.specs.Shape.{tree_runs}
use Rattle.rt_tree.proofs.Updating.{none_behind}
use Rattle.rt_tree.proofs.update.part_behind.Goals as goal

pub returns-in-None-clause-begins : goal.returns-in-None-clause-begins
returns-in-None-clause-begins c =
    let full = c.in-None.ensures in
    none_behind c.requires.kept.text (tree_runs c.args.mem.now c.args.root.index) (next_stamp (last_stamp c.args.span)) (omega (arith, full)) c.requires.kept.runs
