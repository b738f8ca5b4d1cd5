use Rattle.std.proofs.Common.{inr, ◌≡◌, ◌≢◌, ◌-◌, ◌<◌, suc, length, arith, refl, sym, ap, ◌∙◌, subst}
use Rattle.rt_nodes.specs.Nodes.{entries}
use Rattle.rt_tree.specs.Changes.{bare, above}
use Rattle.rt_tree.specs.Shape.{level_of, parent_of, child_count, runs}
use Rattle.rt_tree.proofs.Above.{above-is, above_top, roomy_split}
use Rattle.rt_tree.proofs.Around.{below_top}
use Rattle.rt_tree.proofs.Fills.{filled_split}
use Rattle.rt_tree.proofs.Raise.{length-rows}
use Rattle.rt_tree.proofs.Spare.{spare_node}
use Rattle.rt_tree.proofs.Splits.{parent_in}
use Rattle.rt_tree.proofs.Standing.{stay_then}
use Rattle.rt_tree.proofs.Told.{shown_few, shown_given, told_split}
use Rattle.rt_tree.specs.Sums.{AreFew, counts_of}
use Rattle.rt_tree.proofs.room.make_way.Goals as goal

pub loop-level-init : goal.loop-level-init
loop-level-init c =
    let m = c.args.mem.now in
    record {
      low = omega arith;
      tree = c.requires.tree;
      exact = c.requires.exact;
      filled = c.requires.filled;
      spent = refl;
      high = λ z. z;
      same = refl;
      ahead_is = refl;
      runs_are = refl;
      leaf = c.requires.leaf;
      stay = λ leaf run s. inr s;
      longer = omega arith;
      told = c.requires.told;
      tags = refl;
      roomy = subst (λ y. length (entries m y) < 16) (sym (above_top (bare m) c.args.height c.args.root.index c.requires.tree c.args.leaf.index c.requires.leaf.0 c.requires.leaf.1)) c.requires.root_room;
      room = c.requires.room;
    }

pub len-requires : goal.len-requires
len-requires c =
    let m = c.loop-level.mem in let i = c.loop-level.invariant in
    let h = c.args.height in let r = c.args.root.index in let x = c.args.leaf.index in
    let k = c.loop-level.level - 1 in
    let n = c.above-node.result.index in
    let ab = above-is (bare m) h r i.tree k x i.leaf.0 (omega (arith, i.leaf.1, i.low)) in
    let nis : n < length m.heads = subst (λ y. y < length m.heads) (sym c.above-node.ensures) ab.0 in
    let nl : level_of (bare m) n ≡ k = ap (level_of (bare m)) c.above-node.ensures ∙ (omega (arith, ab.1, i.leaf.1)) in
    let nr : n ≢ r = below_top (bare m) h r i.tree n nis (omega (arith, nl, i.low)) in
    (omega arith, (nis, omega (arith, nis, i.tree.same, length-rows m)))

pub slot_of-slot-requires-clause-node : goal.slot_of-slot-requires-clause-node
slot_of-slot-requires-clause-node c =
    let m = c.loop-level.mem in let i = c.loop-level.invariant in
    let h = c.args.height in let r = c.args.root.index in let x = c.args.leaf.index in
    let k = c.loop-level.level - 1 in
    let n = c.above-node.result.index in
    let ab = above-is (bare m) h r i.tree k x i.leaf.0 (omega (arith, i.leaf.1, i.low)) in
    let nis : n < length m.heads = subst (λ y. y < length m.heads) (sym c.above-node.ensures) ab.0 in
    let nl : level_of (bare m) n ≡ k = ap (level_of (bare m)) c.above-node.ensures ∙ (omega (arith, ab.1, i.leaf.1)) in
    let nr : n ≢ r = below_top (bare m) h r i.tree n nis (omega (arith, nl, i.low)) in
    let p = parent_in m h r i.tree n c.parent_of-parent.result.index nis nr c.parent_of-parent.ensures in
    (p.0, p.1)

pub slot_of-slot-requires-clause-stands : goal.slot_of-slot-requires-clause-stands
slot_of-slot-requires-clause-stands c =
    let m = c.loop-level.mem in let i = c.loop-level.invariant in
    let h = c.args.height in let r = c.args.root.index in let x = c.args.leaf.index in
    let k = c.loop-level.level - 1 in
    let n = c.above-node.result.index in
    let ab = above-is (bare m) h r i.tree k x i.leaf.0 (omega (arith, i.leaf.1, i.low)) in
    let nis : n < length m.heads = subst (λ y. y < length m.heads) (sym c.above-node.ensures) ab.0 in
    let nl : level_of (bare m) n ≡ k = ap (level_of (bare m)) c.above-node.ensures ∙ (omega (arith, ab.1, i.leaf.1)) in
    let nr : n ≢ r = below_top (bare m) h r i.tree n nis (omega (arith, nl, i.low)) in
    let kn = i.tree.known n nis nr in
    omega (arith, kn.once, ap (λ y. child_count n (entries (bare m) y)) c.parent_of-parent.ensures)

pub cut_node-requires-clause-node : goal.cut_node-requires-clause-node
cut_node-requires-clause-node c =
    let m = c.loop-level.mem in let i = c.loop-level.invariant in
    let h = c.args.height in let r = c.args.root.index in let x = c.args.leaf.index in
    let k = c.loop-level.level - 1 in
    let n = c.above-node.result.index in
    let ab = above-is (bare m) h r i.tree k x i.leaf.0 (omega (arith, i.leaf.1, i.low)) in
    let nis : n < length m.heads = subst (λ y. y < length m.heads) (sym c.above-node.ensures) ab.0 in
    let nl : level_of (bare m) n ≡ k = ap (level_of (bare m)) c.above-node.ensures ∙ (omega (arith, ab.1, i.leaf.1)) in
    let nr : n ≢ r = below_top (bare m) h r i.tree n nis (omega (arith, nl, i.low)) in
    (nis, nr)

pub cut_node-requires-clause-room : goal.cut_node-requires-clause-room
cut_node-requires-clause-room c =
    let m = c.loop-level.mem in let i = c.loop-level.invariant in
    let h = c.args.height in let r = c.args.root.index in let x = c.args.leaf.index in
    let k = c.loop-level.level - 1 in
    let n = c.above-node.result.index in
    let ab = above-is (bare m) h r i.tree k x i.leaf.0 (omega (arith, i.leaf.1, i.low)) in
    let nis : n < length m.heads = subst (λ y. y < length m.heads) (sym c.above-node.ensures) ab.0 in
    let nl : level_of (bare m) n ≡ k = ap (level_of (bare m)) c.above-node.ensures ∙ (omega (arith, ab.1, i.leaf.1)) in
    let nr : n ≢ r = below_top (bare m) h r i.tree n nis (omega (arith, nl, i.low)) in
    spare_node m h r n i.tree i.filled (omega (arith, i.room, i.spent, ap length i.runs_are)) (omega (arith, c.len.ensures.value, c.len.ensures.fits)) nis nr

pub cut_node-requires-clause-parent_room : goal.cut_node-requires-clause-parent_room
cut_node-requires-clause-parent_room c =
    let m = c.loop-level.mem in let i = c.loop-level.invariant in
    let h = c.args.height in let r = c.args.root.index in let x = c.args.leaf.index in
    let k = c.loop-level.level - 1 in
    let n = c.above-node.result.index in
    let ab = above-is (bare m) h r i.tree k x i.leaf.0 (omega (arith, i.leaf.1, i.low)) in
    let nis : n < length m.heads = subst (λ y. y < length m.heads) (sym c.above-node.ensures) ab.0 in
    let nl : level_of (bare m) n ≡ k = ap (level_of (bare m)) c.above-node.ensures ∙ (omega (arith, ab.1, i.leaf.1)) in
    let nr : n ≢ r = below_top (bare m) h r i.tree n nis (omega (arith, nl, i.low)) in
    let deep : suc k ≡ c.loop-level.level = omega arith in
    let up : c.parent_of-parent.result.index ≡ above (bare m) c.loop-level.level x = c.parent_of-parent.ensures ∙ ap (parent_of (bare m)) c.above-node.ensures ∙ ap (λ j. above (bare m) j x) deep in
    subst (λ y. length (entries m y) < 16) (sym up) i.roomy

pub loop-level-preserved-then-len-ge16 : goal.loop-level-preserved-then-len-ge16
loop-level-preserved-then-len-ge16 c =
    let m = c.loop-level.mem in let i = c.loop-level.invariant in
    let h = c.args.height in let r = c.args.root.index in let x = c.args.leaf.index in
    let k = c.loop-level.level - 1 in
    let n = c.above-node.result.index in
    let ab = above-is (bare m) h r i.tree k x i.leaf.0 (omega (arith, i.leaf.1, i.low)) in
    let nis : n < length m.heads = subst (λ y. y < length m.heads) (sym c.above-node.ensures) ab.0 in
    let nl : level_of (bare m) n ≡ k = ap (level_of (bare m)) c.above-node.ensures ∙ (omega (arith, ab.1, i.leaf.1)) in
    let nr : n ≢ r = below_top (bare m) h r i.tree n nis (omega (arith, nl, i.low)) in
    let hv = c.cut_node.ensures.halves in let st = c.cut_node.ensures.still in
    let deep : suc (k - 1) ≡ k = omega arith in
    record {
      low = omega (arith, i.low);
      tree = c.cut_node.ensures.tree;
      exact = c.cut_node.ensures.exact;
      filled = filled_split m c.cut_node.new.mem r n c.cut_node.result.index hv nis i.tree.root_is nr (omega (arith, c.len.ensures.value, c.len.ensures.fits)) i.filled;
      spent = omega (arith, c.cut_node.ensures.room, i.spent, hv.new, hv.longer);
      high = λ z. omega arith;
      same = st.same x i.leaf.0 (omega (arith, nl, i.leaf.1)) ∙ i.same;
      ahead_is = st.lower (k - 1) h x i.leaf.0 (omega (arith, nl, i.leaf.1)) (ap (λ j. above (bare m) j x) deep ∙ sym c.above-node.ensures) (omega (arith, i.leaf.1)) ∙ i.ahead_is;
      runs_are = c.cut_node.ensures.runs ∙ i.runs_are;
      stay = stay_then c.args.mem.now m c.cut_node.new.mem i.longer i.stay c.cut_node.ensures.stay;
      longer = omega (arith, i.longer, hv.new, hv.longer);
      leaf = (omega (arith, i.leaf.0, hv.new, hv.longer), hv.levels x (omega (arith, i.leaf.0, hv.new)) ∙ i.leaf.1);
      roomy = roomy_split m c.cut_node.new.mem h r n c.cut_node.result.index k x i.tree hv i.leaf.0 i.leaf.1 (omega (arith, i.low)) c.above-node.ensures (omega (arith, c.len.ensures.value, c.len.ensures.fits));
      room = i.room;
      told = told_split m c.cut_node.new.mem c.args.states.now c.loop-level.sums c.cut_node.new.sums (runs (bare m) h r) (runs (bare c.cut_node.new.mem) h r) c.cut_node.ensures.runs i.told c.cut_node.ensures.summed c.cut_node.ensures.many c.cut_node.ensures.memory c.cut_node.ensures.tags (let a = c.cut_node.ensures.room in omega (arith, a, hv.new, hv.longer));
      tags = c.cut_node.ensures.tags ∙ i.tags;
    }

pub above-node-requires : goal.above-node-requires
above-node-requires c =
    let i = c.loop-level.invariant in
    record { tree = i.tree; node = i.leaf.0; levels = omega (arith, i.leaf.1, i.low) }

pub loop-level-preserved : goal.loop-level-preserved
loop-level-preserved c =
    let m = c.loop-level.mem in let i = c.loop-level.invariant in
    let few : length (entries m c.above-node.result.index) < 16 = omega (arith, c.len.ensures.value, c.if-len-ge16.false) in
    record {
      low = omega (arith, i.low);
      tree = i.tree;
      exact = i.exact;
      filled = i.filled;
      spent = i.spent;
      high = λ z. omega (arith, c.loop-level-test.true);
      same = i.same;
      ahead_is = i.ahead_is;
      runs_are = i.runs_are;
      leaf = i.leaf;
      stay = i.stay;
      longer = i.longer;
      told = i.told;
      tags = i.tags;
      roomy = subst (λ y. length (entries m y) < 16) c.above-node.ensures few;
      room = i.room;
    }

pub loop-level-smaller : goal.loop-level-smaller
loop-level-smaller c = omega (arith, c.loop-level-test.true)

pub loop-level-smaller-then-len-ge16 : goal.loop-level-smaller-then-len-ge16
loop-level-smaller-then-len-ge16 c = omega (arith, c.loop-level-test.true)

pub overflow_sub-next : goal.overflow_sub-next
overflow_sub-next c = omega (arith, c.loop-level-test.true)

pub returns : goal.returns
returns c =
    let m = c.loop-level.mem in let i = c.loop-level.invariant in
    record {
      tree = i.tree;
      exact = i.exact;
      filled = i.filled;
      runs = i.runs_are;
      leaf = i.leaf;
      stay = i.stay;
      longer = i.longer;
      same = i.same;
      ahead = i.ahead_is;
      way = λ z. let one : c.loop-level.level ≡ 1 = omega (arith, c.loop-level-test.false, i.high z) in
          subst (λ k. length (entries m (above (bare m) k c.args.leaf.index)) < 16) one i.roomy;
      room = i.spent;
      told = i.told;
      tags = i.tags;
    }

pub cut_node-requires-clause-exact : goal.cut_node-requires-clause-exact
cut_node-requires-clause-exact c = c.loop-level.invariant.exact

pub cut_node-requires-clause-few : goal.cut_node-requires-clause-few
cut_node-requires-clause-few c = subst (λ rs. AreFew (counts_of rs)) (sym c.loop-level.invariant.runs_are) c.requires.few

pub cut_node-requires-clause-parent : goal.cut_node-requires-clause-parent
cut_node-requires-clause-parent c = c.parent_of-parent.ensures

pub cut_node-requires-clause-slot : goal.cut_node-requires-clause-slot
cut_node-requires-clause-slot c = c.slot_of-slot.ensures.is

pub cut_node-requires-clause-tree : goal.cut_node-requires-clause-tree
cut_node-requires-clause-tree c = c.loop-level.invariant.tree

pub cut_node-requires-clause-within : goal.cut_node-requires-clause-within
cut_node-requires-clause-within c = c.slot_of-slot.ensures.within

pub cut_node-requires-clause-summed : goal.cut_node-requires-clause-summed
cut_node-requires-clause-summed c = c.loop-level.invariant.told.each

pub cut_node-requires-clause-many : goal.cut_node-requires-clause-many
cut_node-requires-clause-many c = c.loop-level.invariant.told.many

pub cut_node-requires-clause-memory : goal.cut_node-requires-clause-memory
cut_node-requires-clause-memory c = c.loop-level.invariant.told.memory

pub cut_node-requires-clause-tags : goal.cut_node-requires-clause-tags
cut_node-requires-clause-tags c = c.loop-level.invariant.told.tags

pub cut_node-requires-clause-given : goal.cut_node-requires-clause-given
cut_node-requires-clause-given c = shown_given c.args.states.now (runs (bare c.loop-level.mem) c.args.height c.args.root.index) c.loop-level.invariant.told.given

pub cut_node-requires-clause-short : goal.cut_node-requires-clause-short
cut_node-requires-clause-short c =
    let all = runs (bare c.loop-level.mem) c.args.height c.args.root.index in
    let few = shown_few all in
    let same = ap length c.loop-level.invariant.runs_are in
    omega (arith, few, same, c.requires.short)
