-- The answers of grow.
use Rattle.std.proofs.Common.{ap, arith}
use Rattle.rt_tree.specs.Shape.{Memory}
use Rattle.rt_tree.proofs.NewRoot.{grown, new_root_tree, new_root_exact, new_root_runs}
use Rattle.rt_tree.proofs.Splits.{small-sum}
use Rattle.rt_tree.proofs.Raise.{length-rows}
use Rattle.rt_tree.proofs.split.grow.Goals as goal

pub adds_up-totals-requires-clause-few : goal.adds_up-totals-requires-clause-few
adds_up-totals-requires-clause-few c = small-sum c.args.mem.now c.args.height c.args.root.index c.requires.tree c.requires.exact c.requires.few c.args.root.index c.requires.tree.root_is

pub returns-clause-tree : goal.returns-clause-tree
returns-clause-tree c = new_root_tree c.args.mem.now c.make-new.new.self c.insert_entry.new.mem c.set_parent.new.mem c.args.height c.args.root c.make-new.result c.adds_up-totals.result c.requires.tree c.requires.exact c.make-new.ensures.id.0 c.make-new.ensures.id.1 (ap (λ (x : Memory). x.heads) c.make-new.ensures.node) (ap (λ (x : Memory). x.rows) c.make-new.ensures.node) c.adds_up-totals.ensures c.insert_entry.ensures c.set_parent.ensures

pub returns-clause-exact : goal.returns-clause-exact
returns-clause-exact c = new_root_exact c.args.mem.now c.make-new.new.self c.insert_entry.new.mem c.set_parent.new.mem c.args.height c.args.root c.make-new.result c.adds_up-totals.result c.requires.tree c.requires.exact c.make-new.ensures.id.0 c.make-new.ensures.id.1 (ap (λ (x : Memory). x.heads) c.make-new.ensures.node) (ap (λ (x : Memory). x.rows) c.make-new.ensures.node) c.adds_up-totals.ensures c.insert_entry.ensures c.set_parent.ensures

pub returns-clause-runs : goal.returns-clause-runs
returns-clause-runs c = new_root_runs c.args.mem.now c.make-new.new.self c.insert_entry.new.mem c.set_parent.new.mem c.args.height c.args.root c.make-new.result c.adds_up-totals.result c.requires.tree c.requires.exact c.make-new.ensures.id.0 c.make-new.ensures.id.1 (ap (λ (x : Memory). x.heads) c.make-new.ensures.node) (ap (λ (x : Memory). x.rows) c.make-new.ensures.node) c.adds_up-totals.ensures c.insert_entry.ensures c.set_parent.ensures

pub returns-clause-grown : goal.returns-clause-grown
returns-clause-grown c = grown c.args.mem.now c.make-new.new.self c.insert_entry.new.mem c.set_parent.new.mem c.args.height c.args.root c.make-new.result c.adds_up-totals.result c.requires.tree c.requires.exact c.make-new.ensures.id.0 c.make-new.ensures.id.1 (ap (λ (x : Memory). x.heads) c.make-new.ensures.node) (ap (λ (x : Memory). x.rows) c.make-new.ensures.node) c.adds_up-totals.ensures c.insert_entry.ensures c.set_parent.ensures

pub adds_up-totals-requires-clause-node : goal.adds_up-totals-requires-clause-node
adds_up-totals-requires-clause-node c = (c.requires.tree.root_is, omega (arith, c.requires.tree.root_is, c.requires.tree.same, length-rows c.args.mem.now))

pub overflow_add-level : goal.overflow_add-level
overflow_add-level c = omega (arith, c.requires.height)

pub returns-clause-room : goal.returns-clause-room
returns-clause-room c = rw (c.set_parent.ensures, c.insert_entry.ensures, c.make-new.ensures.node) (omega (arith, c.requires.room))
