use Rattle.std.proofs.Common.{◌≡◌, ◌+◌, ◌/◌, [], ◌∷◌, ℕ, length, length-append, arith, ap, subst}
use Rattle.rt_nodes.specs.Nodes.{entries}
use Rattle.rt_tree.specs.Changes.{IsHalved, bare}
use Rattle.rt_tree.proofs.NewNode.{drop-count, halved, kids, head-is, none_new, unadopted}
use Rattle.rt_tree.proofs.Frame.{no}
use Rattle.rt_tree.specs.Shape.{Memory, child_count}
use Rattle.rt_tree.proofs.split.halve.Goals as goal

pub adopt-requires-clause-kids : goal.adopt-requires-clause-kids
adopt-requires-clause-kids c =
    let m = c.args.mem.now in
    let n = c.args.node in
    let e = c.make-new.ensures in
    let heads = ap (λ (x : Memory). x.heads) e.node in
    let rows = ap (λ (x : Memory). x.rows) e.node in
    let room : c.make-new.new.self.room + 1 ≡ m.room = omega (arith, c.requires.room, ap (λ (x : Memory). x.room) e.node) in
    let k = kids m c.make-new.new.self c.move_tail.new.self n c.args.parent c.make-new.result (c.len-half.result / 2) c.requires.node.0 e.id.0 e.id.1 (head-is m c.make-new.new.self c.args.parent n.index c.level_of-level.result c.level_of-level.ensures heads) rows room c.move_tail.ensures in
    let longer = ap (λ (x : Memory). length x.heads) c.move_tail.ensures in
    let h = ap length heads in
    λ x some. let d = drop-count x (c.len-half.result / 2) (entries m n.index) in let l = (c.requires.kids x (omega (arith, ap (child_count x) k))).0 in omega (arith, l, longer, h, length-append m.heads (record { parent = c.args.parent; level = c.level_of-level.result } ∷ []))

pub returns-then-level-gt0 : goal.returns-then-level-gt0
returns-then-level-gt0 c =
    let m = c.args.mem.now in
    let n = c.args.node in
    let e = c.make-new.ensures in
    let heads = ap (λ (x : Memory). x.heads) e.node in
    let rows = ap (λ (x : Memory). x.rows) e.node in
    let room : c.make-new.new.self.room + 1 ≡ m.room = omega (arith, c.requires.room, ap (λ (x : Memory). x.room) e.node) in
    let it = halved m c.make-new.new.self c.move_tail.new.self n c.args.parent c.make-new.result (c.len-half.result / 2) c.requires.node.0 e.id.0 e.id.1 (head-is m c.make-new.new.self c.args.parent n.index c.level_of-level.result c.level_of-level.ensures heads) rows room c.move_tail.ensures c.adopt.new.mem c.adopt.ensures
    (λ x some. let l = (c.requires.kids x some).0 in omega (arith, l, e.id.0)) (none_new m n.index c.make-new.result.index (c.len-half.result / 2) e.id.0 (λ x some. (c.requires.kids x some).0)) in
    subst (λ (x : ℕ). IsHalved m c.adopt.new.mem n.index c.make-new.result.index c.args.parent.index (x / 2)) c.len-half.ensures.value it

pub returns-else-level-gt0 : goal.returns-else-level-gt0
returns-else-level-gt0 c =
    let m = c.args.mem.now in
    let n = c.args.node in
    let e = c.make-new.ensures in
    let heads = ap (λ (x : Memory). x.heads) e.node in
    let rows = ap (λ (x : Memory). x.rows) e.node in
    let room : c.make-new.new.self.room + 1 ≡ m.room = omega (arith, c.requires.room, ap (λ (x : Memory). x.room) e.node) in
    let head = head-is m c.make-new.new.self c.args.parent n.index c.level_of-level.result c.level_of-level.ensures heads in
    let k = kids m c.make-new.new.self c.move_tail.new.self n c.args.parent c.make-new.result (c.len-half.result / 2) c.requires.node.0 e.id.0 e.id.1 head rows room c.move_tail.ensures in
    let low = c.if-level-gt0.false in let at = c.level_of-level.ensures in
    let a = unadopted c.move_tail.new.self c.make-new.result.index (entries (bare c.move_tail.new.self) c.make-new.result.index)
    (λ x some. let d = drop-count x (c.len-half.result / 2) (entries m n.index) in let l = (c.requires.kids x (omega (arith, ap (child_count x) k))).1 in no (omega (arith, l, low, at))) in
    let it = halved m c.make-new.new.self c.move_tail.new.self n c.args.parent c.make-new.result (c.len-half.result / 2) c.requires.node.0 e.id.0 e.id.1 head rows room c.move_tail.ensures c.move_tail.new.self a
    (λ x some. let l = (c.requires.kids x some).0 in omega (arith, l, e.id.0)) (none_new m n.index c.make-new.result.index (c.len-half.result / 2) e.id.0 (λ x some. (c.requires.kids x some).0)) in
    subst (λ (x : ℕ). IsHalved m c.move_tail.new.self n.index c.make-new.result.index c.args.parent.index (x / 2)) c.len-half.ensures.value it
