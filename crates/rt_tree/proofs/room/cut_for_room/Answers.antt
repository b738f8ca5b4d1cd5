use Rattle.std.proofs.Common.{length, arith, ap, ◌∙◌, ◌≡◌}
use Rattle.std.proofs.lemmas.List.{length-drop, length-take}
use Rattle.rt_nodes.specs.Nodes.{entries}
use Rattle.rt_tree.specs.Changes.{bare}
use Rattle.rt_tree.specs.Shape.{runs}
use Rattle.rt_tree.proofs.Around.{below_top}
use Rattle.rt_tree.proofs.Fills.{filled_split}
use Rattle.rt_tree.proofs.Rooms.{first_place, second_place, some_above}
use Rattle.rt_tree.proofs.Spare.{spare_node}
use Rattle.rt_tree.proofs.Standing.{stay_then}
use Rattle.rt_tree.proofs.Told.{shown_few, shown_given, told_split}
use Rattle.rt_tree.proofs.room.cut_for_room.Goals as goal

pub returns-else-entry-half-clause-leaf : goal.returns-else-entry-half-clause-leaf
returns-else-entry-half-clause-leaf c =
    let hv = c.cut_node-new.ensures.halves in let st = c.cut_node-new.ensures.still in
    (omega (arith, hv.new, hv.longer), st.level ∙ c.make_way.ensures.leaf.1)

pub returns-else-entry-half-clause-place : goal.returns-else-entry-half-clause-place
returns-else-entry-half-clause-place c =
    let hv = c.cut_node-new.ensures.halves in let st = c.cut_node-new.ensures.still in
    let m1 = c.make_way.new.mem in let m2 = c.cut_node-new.new.mem in
    let x = c.args.place.leaf.index in let h = c.args.top.height in
    let lt = c.make_way.ensures.leaf in
    let some = some_above c.args.mem.now h c.args.top.root.index c.requires.tree x c.requires.leaf.0 c.requires.leaf.1 (omega (arith, c.requires.full)) c.requires.root_room in
    let it = second_place m1 m2 h c.args.top.root.index x c.cut_node-new.result.index c.cut_node-new.ensures.tree c.cut_node-new.ensures.exact (omega (arith, lt.0, hv.new, hv.longer)) lt.1 (hv.levels x (omega (arith, lt.0, hv.new)) ∙ lt.1) st some in
    let same = ap length c.make_way.ensures.ahead in
    omega (arith, it, same, c.len-half.ensures.value)

pub returns-else-entry-half-clause-filled : goal.returns-else-entry-half-clause-filled
returns-else-entry-half-clause-filled c =
    let m1 = c.make_way.new.mem in let m2 = c.cut_node-new.new.mem in
    let x = c.args.place.leaf.index in let h = c.args.top.height in let r = c.args.top.root.index in
    let e = c.make_way.ensures in
    let some = some_above c.args.mem.now h r c.requires.tree x c.requires.leaf.0 c.requires.leaf.1 (omega (arith, c.requires.full)) c.requires.root_room in
    filled_split m1 m2 r x c.cut_node-new.result.index c.cut_node-new.ensures.halves e.leaf.0 e.tree.root_is (below_top (bare m1) h r e.tree x e.leaf.0 (omega (arith, e.leaf.1, some))) (ap length e.same ∙ c.requires.full) e.filled

pub returns-then-entry-half-clause-filled : goal.returns-then-entry-half-clause-filled
returns-then-entry-half-clause-filled c =
    let m1 = c.make_way.new.mem in let m2 = c.cut_node-new.new.mem in
    let x = c.args.place.leaf.index in let h = c.args.top.height in let r = c.args.top.root.index in
    let e = c.make_way.ensures in
    let some = some_above c.args.mem.now h r c.requires.tree x c.requires.leaf.0 c.requires.leaf.1 (omega (arith, c.requires.full)) c.requires.root_room in
    filled_split m1 m2 r x c.cut_node-new.result.index c.cut_node-new.ensures.halves e.leaf.0 e.tree.root_is (below_top (bare m1) h r e.tree x e.leaf.0 (omega (arith, e.leaf.1, some))) (ap length e.same ∙ c.requires.full) e.filled

pub cut_node-new-requires-clause-room : goal.cut_node-new-requires-clause-room
cut_node-new-requires-clause-room c =
    let m1 = c.make_way.new.mem in
    let x = c.args.place.leaf.index in let h = c.args.top.height in let r = c.args.top.root.index in
    let e = c.make_way.ensures in
    let some = some_above c.args.mem.now h r c.requires.tree x c.requires.leaf.0 c.requires.leaf.1 (omega (arith, c.requires.full)) c.requires.root_room in
    spare_node m1 h r x e.tree e.filled (omega (arith, c.requires.room, e.room, ap length e.runs)) (ap length e.same ∙ c.requires.full) e.leaf.0 (below_top (bare m1) h r e.tree x e.leaf.0 (omega (arith, e.leaf.1, some)))

pub returns-then-entry-half-clause-room : goal.returns-then-entry-half-clause-room
returns-then-entry-half-clause-room c = let hv = c.cut_node-new.ensures.halves in omega (arith, c.make_way.ensures.room, c.cut_node-new.ensures.room, hv.new, hv.longer)

pub returns-else-entry-half-clause-room : goal.returns-else-entry-half-clause-room
returns-else-entry-half-clause-room c = let hv = c.cut_node-new.ensures.halves in omega (arith, c.make_way.ensures.room, c.cut_node-new.ensures.room, hv.new, hv.longer)

pub returns-then-entry-half-clause-tree : goal.returns-then-entry-half-clause-tree
returns-then-entry-half-clause-tree c = c.cut_node-new.ensures.tree

pub returns-then-entry-half-clause-exact : goal.returns-then-entry-half-clause-exact
returns-then-entry-half-clause-exact c = c.cut_node-new.ensures.exact

pub returns-then-entry-half-clause-runs : goal.returns-then-entry-half-clause-runs
returns-then-entry-half-clause-runs c = c.cut_node-new.ensures.runs ∙ c.make_way.ensures.runs

pub returns-then-entry-half-clause-leaf : goal.returns-then-entry-half-clause-leaf
returns-then-entry-half-clause-leaf c =
    let hv = c.cut_node-new.ensures.halves in let lt = c.make_way.ensures.leaf in
    (omega (arith, lt.0, hv.new, hv.longer), hv.levels c.args.place.leaf.index (omega (arith, lt.0, hv.new)) ∙ lt.1)

pub returns-then-entry-half-clause-within : goal.returns-then-entry-half-clause-within
returns-then-entry-half-clause-within c = omega (arith, c.len-half.ensures.value, c.if-entry-half.true)

pub returns-then-entry-half-clause-leaf_room : goal.returns-then-entry-half-clause-leaf_room
returns-then-entry-half-clause-leaf_room c =
    let e = c.make_way.ensures in
    let full : length (entries c.make_way.new.mem c.args.place.leaf.index) ≡ 16 = ap length e.same ∙ c.requires.full in
    omega (arith, full, simp length-take at (ap length c.cut_node-new.ensures.halves.first))

pub returns-then-entry-half-clause-place : goal.returns-then-entry-half-clause-place
returns-then-entry-half-clause-place c =
    let m1 = c.make_way.new.mem in let m2 = c.cut_node-new.new.mem in
    let x = c.args.place.leaf.index in let h = c.args.top.height in
    let hv = c.cut_node-new.ensures.halves in let st = c.cut_node-new.ensures.still in
    let lt = c.make_way.ensures.leaf in
    let it = first_place m1 m2 h c.args.top.root.index x c.cut_node-new.result.index c.cut_node-new.ensures.tree c.cut_node-new.ensures.exact (omega (arith, lt.0, hv.new, hv.longer)) lt.1 (hv.levels x (omega (arith, lt.0, hv.new)) ∙ lt.1) st in
    omega (arith, it, ap length c.make_way.ensures.ahead)

pub returns-else-entry-half-clause-tree : goal.returns-else-entry-half-clause-tree
returns-else-entry-half-clause-tree c = c.cut_node-new.ensures.tree

pub returns-else-entry-half-clause-exact : goal.returns-else-entry-half-clause-exact
returns-else-entry-half-clause-exact c = c.cut_node-new.ensures.exact

pub returns-else-entry-half-clause-runs : goal.returns-else-entry-half-clause-runs
returns-else-entry-half-clause-runs c = c.cut_node-new.ensures.runs ∙ c.make_way.ensures.runs

pub returns-else-entry-half-clause-within : goal.returns-else-entry-half-clause-within
returns-else-entry-half-clause-within c =
    let e = c.make_way.ensures in
    let hv = c.cut_node-new.ensures.halves in
    let same = ap length e.same in
    let full : length (entries c.make_way.new.mem c.args.place.leaf.index) ≡ 16 = same ∙ c.requires.full in
    omega (arith, full, same, c.requires.within, c.len-half.ensures.value, simp length-take at (ap length hv.first), simp length-drop at (ap length hv.second))

pub returns-else-entry-half-clause-leaf_room : goal.returns-else-entry-half-clause-leaf_room
returns-else-entry-half-clause-leaf_room c =
    let e = c.make_way.ensures in
    let full : length (entries c.make_way.new.mem c.args.place.leaf.index) ≡ 16 = ap length e.same ∙ c.requires.full in
    omega (arith, full, simp length-drop at (ap length c.cut_node-new.ensures.halves.second))

pub cut_node-new-requires-clause-tree : goal.cut_node-new-requires-clause-tree
cut_node-new-requires-clause-tree c = c.make_way.ensures.tree

pub cut_node-new-requires-clause-exact : goal.cut_node-new-requires-clause-exact
cut_node-new-requires-clause-exact c = c.make_way.ensures.exact

pub cut_node-new-requires-clause-few : goal.cut_node-new-requires-clause-few
cut_node-new-requires-clause-few c = rw c.make_way.ensures.runs c.requires.few

pub cut_node-new-requires-clause-summed : goal.cut_node-new-requires-clause-summed
cut_node-new-requires-clause-summed c = c.make_way.ensures.told.each

pub cut_node-new-requires-clause-many : goal.cut_node-new-requires-clause-many
cut_node-new-requires-clause-many c = c.make_way.ensures.told.many

pub cut_node-new-requires-clause-memory : goal.cut_node-new-requires-clause-memory
cut_node-new-requires-clause-memory c = c.make_way.ensures.told.memory

pub cut_node-new-requires-clause-tags : goal.cut_node-new-requires-clause-tags
cut_node-new-requires-clause-tags c = c.make_way.ensures.told.tags

pub cut_node-new-requires-clause-given : goal.cut_node-new-requires-clause-given
cut_node-new-requires-clause-given c = shown_given c.args.states.now (runs (bare c.make_way.new.mem) c.args.top.height c.args.top.root.index) c.make_way.ensures.told.given

pub cut_node-new-requires-clause-short : goal.cut_node-new-requires-clause-short
cut_node-new-requires-clause-short c =
    let few = shown_few (runs (bare c.make_way.new.mem) c.args.top.height c.args.top.root.index) in
    let same = ap length c.make_way.ensures.runs in
    omega (arith, few, same, c.requires.short)

pub returns-then-entry-half-clause-told : goal.returns-then-entry-half-clause-told
returns-then-entry-half-clause-told c =
    let m = c.make_way.new.mem in let n = c.cut_node-new.new.mem in let h = c.args.top.height in let r = c.args.top.root.index in
    let e = c.cut_node-new.ensures in let hv = e.halves in
    told_split m n c.args.states.now c.make_way.new.sums c.cut_node-new.new.sums (runs (bare m) h r) (runs (bare n) h r) e.runs c.make_way.ensures.told e.summed e.many e.memory e.tags (let a = e.room in omega (arith, a, hv.new, hv.longer))

pub returns-then-entry-half-clause-tags : goal.returns-then-entry-half-clause-tags
returns-then-entry-half-clause-tags c = c.cut_node-new.ensures.tags ∙ c.make_way.ensures.tags

pub returns-else-entry-half-clause-told : goal.returns-else-entry-half-clause-told
returns-else-entry-half-clause-told c =
    let m = c.make_way.new.mem in let n = c.cut_node-new.new.mem in let h = c.args.top.height in let r = c.args.top.root.index in
    let e = c.cut_node-new.ensures in let hv = e.halves in
    told_split m n c.args.states.now c.make_way.new.sums c.cut_node-new.new.sums (runs (bare m) h r) (runs (bare n) h r) e.runs c.make_way.ensures.told e.summed e.many e.memory e.tags (let a = e.room in omega (arith, a, hv.new, hv.longer))

pub returns-else-entry-half-clause-tags : goal.returns-else-entry-half-clause-tags
returns-else-entry-half-clause-tags c = c.cut_node-new.ensures.tags ∙ c.make_way.ensures.tags

pub returns-then-entry-half-clause-stay : goal.returns-then-entry-half-clause-stay
returns-then-entry-half-clause-stay c = stay_then c.args.mem.now c.make_way.new.mem c.cut_node-new.new.mem c.make_way.ensures.longer c.make_way.ensures.stay c.cut_node-new.ensures.stay

pub returns-then-entry-half-clause-longer : goal.returns-then-entry-half-clause-longer
returns-then-entry-half-clause-longer c = let hv = c.cut_node-new.ensures.halves in omega (arith, c.make_way.ensures.longer, hv.new, hv.longer)

pub returns-else-entry-half-clause-stay : goal.returns-else-entry-half-clause-stay
returns-else-entry-half-clause-stay c = stay_then c.args.mem.now c.make_way.new.mem c.cut_node-new.new.mem c.make_way.ensures.longer c.make_way.ensures.stay c.cut_node-new.ensures.stay

pub returns-else-entry-half-clause-longer : goal.returns-else-entry-half-clause-longer
returns-else-entry-half-clause-longer c = let hv = c.cut_node-new.ensures.halves in omega (arith, c.make_way.ensures.longer, hv.new, hv.longer)
