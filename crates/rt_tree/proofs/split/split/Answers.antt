use Rattle.std.proofs.Common.{◌+◌, ◌/◌, length, take, drop, arith, ap, refl, ◌<◌}
use Rattle.rt_nodes.specs.Nodes.{entries}
use Rattle.rt_tree.proofs.Adding.{small-is}
use Rattle.rt_tree.proofs.Splits.{split_kept, split_others, split_still, split_halves, split_wider, kids-in, small-front, small-back}
use Rattle.rt_tree.specs.Changes.{adds_up}
use Rattle.rt_tree.proofs.Raise.{length-rows}
use Rattle.rt_tree.proofs.split.split.Goals as goal

pub halve-new-requires-clause-kids : goal.halve-new-requires-clause-kids
halve-new-requires-clause-kids c = kids-in c.args.mem.now c.args.height c.args.root.index c.requires.tree c.requires.exact c.requires.few c.args.node.index c.requires.node.0

pub adds_up-front-requires-clause-few : goal.adds_up-front-requires-clause-few
adds_up-front-requires-clause-few c =
    let m = c.args.mem.now in let n = c.args.node.index in
    let k = length (entries m n) / 2 in
    small-is (adds_up (entries c.halve-new.new.mem n)) (adds_up (take k (entries m n))) (ap adds_up c.halve-new.ensures.at_n) (small-front m c.args.height c.args.root.index c.requires.tree c.requires.exact c.requires.few n c.requires.node.0 k)

pub adds_up-back-requires-clause-few : goal.adds_up-back-requires-clause-few
adds_up-back-requires-clause-few c =
    let m = c.args.mem.now in let n = c.args.node.index in
    let k = length (entries m n) / 2 in
    small-is (adds_up (entries c.halve-new.new.mem c.halve-new.result.index)) (adds_up (drop k (entries m n))) (ap adds_up c.halve-new.ensures.at_q) (small-back m c.args.height c.args.root.index c.requires.tree c.requires.exact c.requires.few n c.requires.node.0 k)

pub returns-clause-tree : goal.returns-clause-tree
returns-clause-tree c =
    let it = split_kept c.args.mem.now c.halve-new.new.mem c.set_entry.new.mem c.insert_entry.new.mem c.args.height c.args.root.index c.args.node c.halve-new.result c.args.parent (length (entries c.args.mem.now c.args.node.index) / 2) c.args.slot (c.args.slot + 1) c.adds_up-front.result c.adds_up-back.result c.requires.tree c.requires.exact c.requires.node c.requires.parent c.requires.within c.requires.slot c.halve-new.ensures (omega arith) c.adds_up-front.ensures c.adds_up-back.ensures c.set_entry.ensures c.insert_entry.ensures in
    it.tree

pub returns-clause-exact : goal.returns-clause-exact
returns-clause-exact c =
    let it = split_kept c.args.mem.now c.halve-new.new.mem c.set_entry.new.mem c.insert_entry.new.mem c.args.height c.args.root.index c.args.node c.halve-new.result c.args.parent (length (entries c.args.mem.now c.args.node.index) / 2) c.args.slot (c.args.slot + 1) c.adds_up-front.result c.adds_up-back.result c.requires.tree c.requires.exact c.requires.node c.requires.parent c.requires.within c.requires.slot c.halve-new.ensures (omega arith) c.adds_up-front.ensures c.adds_up-back.ensures c.set_entry.ensures c.insert_entry.ensures in
    it.exact

pub returns-clause-runs : goal.returns-clause-runs
returns-clause-runs c =
    let it = split_kept c.args.mem.now c.halve-new.new.mem c.set_entry.new.mem c.insert_entry.new.mem c.args.height c.args.root.index c.args.node c.halve-new.result c.args.parent (length (entries c.args.mem.now c.args.node.index) / 2) c.args.slot (c.args.slot + 1) c.adds_up-front.result c.adds_up-back.result c.requires.tree c.requires.exact c.requires.node c.requires.parent c.requires.within c.requires.slot c.halve-new.ensures (omega arith) c.adds_up-front.ensures c.adds_up-back.ensures c.set_entry.ensures c.insert_entry.ensures in
    it.runs_are

pub returns-clause-halves : goal.returns-clause-halves
returns-clause-halves c = split_halves c.args.mem.now c.halve-new.new.mem c.set_entry.new.mem c.insert_entry.new.mem c.args.height c.args.root.index c.args.node c.halve-new.result c.args.parent (length (entries c.args.mem.now c.args.node.index) / 2) c.args.slot (c.args.slot + 1) c.adds_up-front.result c.adds_up-back.result c.requires.tree c.requires.exact c.requires.node c.requires.parent c.requires.within c.requires.slot c.halve-new.ensures (omega arith) c.adds_up-front.ensures c.adds_up-back.ensures c.set_entry.ensures c.insert_entry.ensures refl

pub returns-clause-wider : goal.returns-clause-wider
returns-clause-wider c = split_wider c.args.mem.now c.halve-new.new.mem c.set_entry.new.mem c.insert_entry.new.mem c.args.height c.args.root.index c.args.node c.halve-new.result c.args.parent (length (entries c.args.mem.now c.args.node.index) / 2) c.args.slot (c.args.slot + 1) c.adds_up-front.result c.adds_up-back.result c.requires.tree c.requires.exact c.requires.node c.requires.parent c.requires.within c.requires.slot c.halve-new.ensures (omega arith) c.adds_up-front.ensures c.adds_up-back.ensures c.set_entry.ensures c.insert_entry.ensures

pub returns-clause-still : goal.returns-clause-still
returns-clause-still c =
    let it = split_still c.args.mem.now c.halve-new.new.mem c.set_entry.new.mem c.insert_entry.new.mem c.args.height c.args.root.index c.args.node c.halve-new.result c.args.parent (length (entries c.args.mem.now c.args.node.index) / 2) c.args.slot (c.args.slot + 1) c.adds_up-front.result c.adds_up-back.result c.requires.tree c.requires.exact c.requires.node c.requires.parent c.requires.within c.requires.slot c.halve-new.ensures (omega arith) c.adds_up-front.ensures c.adds_up-back.ensures c.set_entry.ensures c.insert_entry.ensures in
    it

pub returns-clause-others : goal.returns-clause-others
returns-clause-others c id is ne =
    split_others c.args.mem.now c.halve-new.new.mem c.set_entry.new.mem c.insert_entry.new.mem c.args.height c.args.root.index c.args.node c.halve-new.result c.args.parent (length (entries c.args.mem.now c.args.node.index) / 2) c.args.slot (c.args.slot + 1) c.adds_up-front.result c.adds_up-back.result c.requires.tree c.requires.exact c.requires.node c.requires.parent c.requires.within c.requires.slot c.halve-new.ensures (omega arith) c.adds_up-front.ensures c.adds_up-back.ensures c.set_entry.ensures c.insert_entry.ensures id
    (omega (arith, is, c.halve-new.ensures.new)) ne

pub adds_up-back-requires-clause-node : goal.adds_up-back-requires-clause-node
adds_up-back-requires-clause-node c =
    let h = c.halve-new.ensures in
    (omega (arith, h.longer), omega (arith, h.longer, h.same))

pub adds_up-front-requires-clause-node : goal.adds_up-front-requires-clause-node
adds_up-front-requires-clause-node c =
    let h = c.halve-new.ensures in
    let is : c.args.node.index < length c.halve-new.new.mem.heads = omega (arith, h.longer, h.new, c.requires.node.0) in
    (is, omega (arith, is, h.same))

pub halve-new-requires-clause-node : goal.halve-new-requires-clause-node
halve-new-requires-clause-node c = (c.requires.node.0, omega (arith, c.requires.node.0, c.requires.tree.same, length-rows c.args.mem.now))

pub halve-new-requires-clause-room : goal.halve-new-requires-clause-room
halve-new-requires-clause-room c = c.requires.room

pub halve-new-requires-clause-same : goal.halve-new-requires-clause-same
halve-new-requires-clause-same c = omega (arith, c.requires.tree.same, length-rows c.args.mem.now)

pub returns-clause-room : goal.returns-clause-room
returns-clause-room c = rw (c.insert_entry.ensures, c.set_entry.ensures) c.halve-new.ensures.room
