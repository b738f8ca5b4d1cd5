use Rattle.std.proofs.Common.{ℕ, ◌+◌, ◌<◌, List, length, insert, arith, sym, ap, ◌∙◌, subst}
use Rattle.rt_nodes.specs.declared.memory.NodeId.{NodeId}
use Rattle.rt_tree.specs.declared.node.Run.{Run}
use Rattle.rt_tree.specs.Changes.{bare}
use Rattle.rt_tree.specs.Shape.{IsShape, ahead, level_of, runs, tree_runs}
use Rattle.rt_tree.specs.Stretches.{IsEdge, lengths}
use Rattle.rt_tree.specs.Summaries.{AreTold}
use Rattle.rt_tree.specs.Sums.{AreFew, counts_of}
use Rattle.rt_tree.specs.Walks.{IsPutAt}
use Rattle.rt_tree.proofs.Ends.{known_still}
use Rattle.rt_tree.proofs.Puts.{few-insert, few-rest, opened, put_spot, puts, spot_within}
use Rattle.rt_tree.proofs.Standing.{stay_but}
use Rattle.rt_tree.proofs.Wholes.{runs-bare, tree-exact, tree-shape, whole, whole_runs}
use Rattle.rt_tree.proofs.put.put.Goals as goal

pub top_room-top-requires-clause-tree : goal.top_room-top-requires-clause-tree
top_room-top-requires-clause-tree c = subst (λ h. IsShape (bare c.args.mem.now) h c.args.root.index) (sym c.level_of-height.ensures) (tree-shape c.args.mem.now c.args.root.index c.requires.tree)

pub top_room-top-requires-clause-exact : goal.top_room-top-requires-clause-exact
top_room-top-requires-clause-exact c = tree-exact c.args.mem.now c.args.root.index c.requires.tree

pub top_room-top-requires-clause-few : goal.top_room-top-requires-clause-few
top_room-top-requires-clause-few c =
    let m = c.args.mem.now in let r = c.args.root.index in
    let same = ap (λ k. runs (bare m) k r) c.level_of-height.ensures ∙ runs-bare m (level_of m r) r in
    subst (λ (l : List Run). AreFew (counts_of l)) (sym same) (few-rest c.args.run (tree_runs m r) c.requires.few)

pub spot_known-spot-requires-clause-tree : goal.spot_known-spot-requires-clause-tree
spot_known-spot-requires-clause-tree c =
    let m = c.args.mem.now in let r = c.args.root.index in let e = c.top_room-top.ensures in let top = c.top_room-top.result in let m1 = c.top_room-top.new.mem in
    let o = opened m r c.level_of-height.result c.level_of-height.ensures m1 top.root.index top.height e.tree e.exact e.filled e.runs in
    o.tree

pub spot_known-spot-requires-clause-few : goal.spot_known-spot-requires-clause-few
spot_known-spot-requires-clause-few c =
    let m = c.args.mem.now in let r = c.args.root.index in let e = c.top_room-top.ensures in let top = c.top_room-top.result in let m1 = c.top_room-top.new.mem in
    let o = opened m r c.level_of-height.result c.level_of-height.ensures m1 top.root.index top.height e.tree e.exact e.filled e.runs in
    subst (λ (l : List Run). AreFew (counts_of l)) (sym o.same) (few-rest c.args.run (tree_runs m r) c.requires.few)

pub spot_known-spot-requires-clause-within : goal.spot_known-spot-requires-clause-within
spot_known-spot-requires-clause-within c =
    let m = c.args.mem.now in let r = c.args.root.index in let e = c.top_room-top.ensures in let top = c.top_room-top.result in let m1 = c.top_room-top.new.mem in
    let o = opened m r c.level_of-height.result c.level_of-height.ensures m1 top.root.index top.height e.tree e.exact e.filled e.runs in
    subst (λ (l : List Run). c.args.at < (counts_of l).cells) (sym o.same) c.requires.within

pub insert_at-place-requires-clause-few : goal.insert_at-place-requires-clause-few
insert_at-place-requires-clause-few c =
    let m = c.args.mem.now in let r = c.args.root.index in let e = c.top_room-top.ensures in let top = c.top_room-top.result in let m1 = c.top_room-top.new.mem in
    let o = opened m r c.level_of-height.result c.level_of-height.ensures m1 top.root.index top.height e.tree e.exact e.filled e.runs in
    let same = ap (λ k. runs (bare m) k r) c.level_of-height.ensures ∙ runs-bare m (level_of m r) r in
    subst (λ (l : List Run). AreFew (counts_of l)) (sym (e.runs ∙ same)) (few-rest c.args.run (tree_runs m r) c.requires.few)

pub insert_at-place-requires-clause-leaf : goal.insert_at-place-requires-clause-leaf
insert_at-place-requires-clause-leaf c = let s = c.spot_known-spot.ensures.1 in (s.is, s.low)

pub insert_at-place-requires-clause-within : goal.insert_at-place-requires-clause-within
insert_at-place-requires-clause-within c =
    let spot = c.spot_known-spot.result in
    let lt = spot_within c.top_room-top.new.mem c.top_room-top.result.root.index c.args.at spot.leaf.index spot.entry spot.offset c.spot_known-spot.ensures.0 c.spot_known-spot.ensures.1 in
    omega (arith, lt)

pub insert_at-place-requires-clause-still_few : goal.insert_at-place-requires-clause-still_few
insert_at-place-requires-clause-still_few c =
    let m = c.args.mem.now in let r = c.args.root.index in let e = c.top_room-top.ensures in let top = c.top_room-top.result in let m1 = c.top_room-top.new.mem in
    let o = opened m r c.level_of-height.result c.level_of-height.ensures m1 top.root.index top.height e.tree e.exact e.filled e.runs in
    let same = ap (λ k. runs (bare m) k r) c.level_of-height.ensures ∙ runs-bare m (level_of m r) r in
    let n = length (ahead (bare m1) top.height c.spot_known-spot.result.leaf.index) + c.spot_known-spot.result.entry in
    subst (λ (l : List Run). AreFew (counts_of (insert l n c.args.run))) (sym (e.runs ∙ same)) (few-insert (tree_runs m r) n c.args.run c.requires.few)

pub top_room-top-requires-clause-room : goal.top_room-top-requires-clause-room
top_room-top-requires-clause-room c =
    let m = c.args.mem.now in let r = c.args.root.index in
    let same = ap (λ k. runs (bare m) k r) c.level_of-height.ensures ∙ runs-bare m (level_of m r) r in
    omega (arith, ap length same, c.requires.room)

pub insert_at-place-requires-clause-room : goal.insert_at-place-requires-clause-room
insert_at-place-requires-clause-room c =
    let m = c.args.mem.now in let r = c.args.root.index in let e = c.top_room-top.ensures in
    let same = ap (λ k. runs (bare m) k r) c.level_of-height.ensures ∙ runs-bare m (level_of m r) r in
    omega (arith, ap length (e.runs ∙ same), e.room, c.requires.room)

pub returns-clause-tree : goal.returns-clause-tree
returns-clause-tree c =
    let e = c.insert_at-place.ensures in
    whole c.insert_at-place.new.mem c.top_room-top.result.height c.top_room-top.result.root.index e.tree e.exact e.filled

pub returns-clause-runs : goal.returns-clause-runs
returns-clause-runs c =
    let m = c.args.mem.now in let r = c.args.root.index in let e = c.top_room-top.ensures in let top = c.top_room-top.result in let m1 = c.top_room-top.new.mem in
    let o = opened m r c.level_of-height.result c.level_of-height.ensures m1 top.root.index top.height e.tree e.exact e.filled e.runs in
    let i = c.insert_at-place.ensures in
    let spot = c.spot_known-spot.result in
    let N : ℕ → List Run → List Run = λ k l. insert l (length (ahead (bare m1) k spot.leaf.index) + spot.entry) c.args.run in
    let new = whole_runs c.insert_at-place.new.mem top.height top.root.index i.tree i.exact i.filled ∙ i.runs ∙ ap (N top.height) (sym (whole_runs m1 top.height top.root.index e.tree e.exact e.filled)) ∙ ap (λ k. N k (tree_runs m1 top.root.index)) (sym e.tree.top) in
    subst (λ (l : List Run). IsPutAt l (tree_runs c.insert_at-place.new.mem top.root.index) c.args.at c.args.run) o.same
    (puts m1 top.root.index o.tree spot.leaf.index spot.entry spot.offset c.args.at c.spot_known-spot.ensures.0 c.args.run (tree_runs c.insert_at-place.new.mem top.root.index) c.spot_known-spot.ensures.1 new)

pub top_room-top-requires-clause-told : goal.top_room-top-requires-clause-told
top_room-top-requires-clause-told c =
    let m = c.args.mem.now in let r = c.args.root.index in
    let same = ap (λ k. runs (bare m) k r) c.level_of-height.ensures ∙ runs-bare m (level_of m r) r in
    subst (AreTold c.args.states.now m c.args.sums.now) (sym same) c.requires.told

pub top_room-top-requires-clause-short : goal.top_room-top-requires-clause-short
top_room-top-requires-clause-short c =
    let m = c.args.mem.now in let r = c.args.root.index in
    let same = ap length (ap (λ k. runs (bare m) k r) c.level_of-height.ensures ∙ runs-bare m (level_of m r) r) in
    omega (arith, same, c.requires.short)

pub insert_at-place-requires-clause-told : goal.insert_at-place-requires-clause-told
insert_at-place-requires-clause-told c = c.top_room-top.ensures.told

pub insert_at-place-requires-clause-short : goal.insert_at-place-requires-clause-short
insert_at-place-requires-clause-short c =
    let m = c.args.mem.now in let r = c.args.root.index in
    let same = ap length (c.top_room-top.ensures.runs ∙ ap (λ k. runs (bare m) k r) c.level_of-height.ensures ∙ runs-bare m (level_of m r) r) in
    omega (arith, same, c.requires.short)

pub returns-clause-told : goal.returns-clause-told
returns-clause-told c =
    let e = c.insert_at-place.ensures in let top = c.top_room-top.result in
    subst (AreTold c.args.states.now c.insert_at-place.new.mem c.insert_at-place.new.sums) (sym (whole_runs c.insert_at-place.new.mem top.height top.root.index e.tree e.exact e.filled)) e.told

pub returns-clause-tags : goal.returns-clause-tags
returns-clause-tags c = c.insert_at-place.ensures.tags ∙ c.top_room-top.ensures.tags

pub spot_known-spot-requires-clause-known : goal.spot_known-spot-requires-clause-known
spot_known-spot-requires-clause-known c =
    let e = c.top_room-top.ensures in let top = c.top_room-top.result in let k = c.still_known-known.ensures in
    known_still c.args.known c.still_known-known.result c.level_of-height.result top.height c.args.mem.now c.top_room-top.new.mem c.args.root.index top.root.index c.args.at k.still k.dropped c.requires.hint (λ is. let s = e.still is in (s.0, ap (λ (x : NodeId). x.index) s.1))

pub returns-clause-longer : goal.returns-clause-longer
returns-clause-longer c = omega (arith, c.top_room-top.ensures.longer, c.insert_at-place.ensures.longer)

pub returns-clause-stay : goal.returns-clause-stay
returns-clause-stay c =
    let e = c.top_room-top.ensures in
    stay_but c.args.mem.now c.top_room-top.new.mem c.insert_at-place.new.mem e.longer e.stay c.insert_at-place.result.leaf.index c.args.run c.insert_at-place.ensures.stay

pub returns-clause-spot : goal.returns-clause-spot
returns-clause-spot c =
    let m = c.args.mem.now in let r = c.args.root.index in let e = c.top_room-top.ensures in let top = c.top_room-top.result in let m1 = c.top_room-top.new.mem in
    let o = opened m r c.level_of-height.result c.level_of-height.ensures m1 top.root.index top.height e.tree e.exact e.filled e.runs in
    let i = c.insert_at-place.ensures in let n = c.insert_at-place.new.mem in let p = c.insert_at-place.result in
    let spot = c.spot_known-spot.result in
    let N : ℕ → List Run → List Run = λ k l. insert l (length (ahead (bare m1) k spot.leaf.index) + spot.entry) c.args.run in
    let new = whole_runs n top.height top.root.index i.tree i.exact i.filled ∙ i.runs ∙ ap (N top.height) (sym (whole_runs m1 top.height top.root.index e.tree e.exact e.filled)) ∙ ap (λ k. N k (tree_runs m1 top.root.index)) (sym e.tree.top) in
    let was_top = ap (λ k. length (ahead (bare m1) k spot.leaf.index)) e.tree.top in
    let now_top = ap (λ k. length (ahead (bare n) k p.leaf.index)) i.tree.top in
    λ edge some.
    put_spot m1 n top.root.index o.tree (whole n top.height top.root.index i.tree i.exact i.filled) spot.leaf.index spot.entry spot.offset c.args.at c.spot_known-spot.ensures.0 c.args.run c.spot_known-spot.ensures.1 new
    p.leaf.index p.entry i.leaf.0 i.leaf.1 i.here (omega (arith, was_top, now_top, i.place))
    (subst (λ (l : List Run). IsEdge (lengths l) c.args.at) (sym o.same) edge) some
