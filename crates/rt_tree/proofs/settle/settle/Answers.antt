use Rattle.std.proofs.Common.{◌≡◌, ◌<◌, length, arith, sym, ap, ◌∙◌, subst, refl, get_or}
use Rattle.std.proofs.lemmas.List.{get_or_default}
use Rattle.rt_tree.specs.declared.node.Entry.TheVariants.{Down}
use Rattle.rt_nodes.specs.Nodes.{entries}
use Rattle.rt_tree.proofs.Adding.{IsSmall, small-is}
use Rattle.rt_tree.specs.Changes.{AreExactBut, bare, adds_up}
use Rattle.rt_tree.specs.Shape.{runs, level_of, parent_of, Memory, IsShape, child_count}
use Rattle.rt_tree.proofs.Around.{at_top, below_top}
use Rattle.rt_tree.proofs.Raise.{raise, root-exact, same-bare, set-links, small-node, sum-low, length-rows}
use Rattle.rt_tree.specs.Sums.{totals_of}
use Rattle.rt_tree.proofs.Splits.{parent_in}
use Rattle.rt_tree.proofs.settle.settle.Goals as goal

pub adds_up-totals-requires-clause-few : goal.adds_up-totals-requires-clause-few
adds_up-totals-requires-clause-few c =
    let i = c.loop-level.invariant in
    let m = c.loop-level.mem in let n = c.loop-level.node.index in
    let t : IsShape (bare m) c.args.height c.args.root.index = subst (λ b. IsShape b c.args.height c.args.root.index) (sym i.same) c.requires.tree in
    let small : IsSmall (totals_of (runs (bare m) c.args.height c.args.root.index)) = subst (λ b. IsSmall (totals_of (runs b c.args.height c.args.root.index))) (sym i.same) c.requires.few in
    let is : n < length m.heads = subst (λ (b : Memory). n < length b.heads) (sym i.same) i.is in
    let low = t.low n is in
    small-is (adds_up (entries m n)) (totals_of (runs (bare m) (level_of (bare m) n) n)) (sum-low m c.args.height c.args.root.index t n i.exact is)
    (small-node m c.args.height c.args.root.index t (level_of (bare m) n) n is refl low small)

pub loop-level-preserved : goal.loop-level-preserved
loop-level-preserved c =
    let i = c.loop-level.invariant in
    let h = c.args.height in let r = c.args.root.index in
    let m = c.loop-level.mem in let q = c.loop-level.node in
    let p = c.parent_of-parent.result.index in
    let s = bare c.args.mem.now in
    let t : IsShape (bare m) h r = subst (λ b. IsShape b h r) (sym i.same) c.requires.tree in
    let is : q.index < length m.heads = subst (λ (b : Memory). q.index < length b.heads) (sym i.same) i.is in
    let kn = c.requires.tree.known q.index i.is (below_top s h r c.requires.tree q.index i.is (omega (arith, i.at_level))) in
    let up : p ≡ parent_of s q.index = c.parent_of-parent.ensures ∙ ap (λ (b : Memory). parent_of b q.index) i.same in
    let lvl : level_of (bare m) q.index ≡ c.loop-level.level = ap (λ (b : Memory). level_of b q.index) i.same ∙ i.at_level in
    let es = entries m p in
    let y = Down q c.adds_up-totals.result in
    let e = get_or es c.slot_of-slot.result y in
    let within = c.slot_of-slot.ensures.within in
    let here : e ≡ get_or es c.slot_of-slot.result e = get_or_default es c.slot_of-slot.result y e within in
    let mine = c.slot_of-slot.ensures.is e here in
    record {
      same = ap bare c.set_entry.ensures ∙ same-bare m p _ (set-links es c.slot_of-slot.result e y within here (sym mine)) ∙ i.same;
      is = subst (λ n. n < length c.args.mem.now.heads) (sym up) kn.is;
      at_level = ap (level_of s) up ∙ kn.up ∙ (omega (arith, i.at_level));
      low = omega arith;
      exact = subst (AreExactBut p) (sym c.set_entry.ensures)
          (raise m h r t q p c.slot_of-slot.result e c.adds_up-totals.result is (omega (arith, lvl)) c.parent_of-parent.ensures within here mine c.adds_up-totals.ensures i.exact);
    }

pub returns-clause-exact : goal.returns-clause-exact
returns-clause-exact c =
    let i = c.loop-level.invariant in
    let h = c.args.height in let r = c.args.root.index in
    let m = c.loop-level.mem in let q = c.loop-level.node.index in
    let t : IsShape (bare m) h r = subst (λ b. IsShape b h r) (sym i.same) c.requires.tree in
    let top = at_top (bare c.args.mem.now) h r c.requires.tree q i.is (omega (arith, i.at_level, i.low)) in
    root-exact m h r t (subst (λ n. AreExactBut n m) top i.exact)

pub adds_up-totals-requires-clause-node : goal.adds_up-totals-requires-clause-node
adds_up-totals-requires-clause-node c =
    let i = c.loop-level.invariant in
    let m = c.loop-level.mem in let n = c.loop-level.node.index in
    let t : IsShape (bare m) c.args.height c.args.root.index = subst (λ b. IsShape b c.args.height c.args.root.index) (sym i.same) c.requires.tree in
    let is : n < length m.heads = subst (λ (b : Memory). n < length b.heads) (sym i.same) i.is in
    (is, omega (arith, is, t.same, length-rows m))

pub loop-level-init : goal.loop-level-init
loop-level-init c = record {
  same = refl;
  is = c.requires.from;
  at_level = sym c.level_of-level.ensures;
  low = omega (arith, c.level_of-level.ensures, c.requires.tree.low c.args.from.index c.requires.from);
  exact = c.requires.exact;
}

pub loop-level-smaller : goal.loop-level-smaller
loop-level-smaller c = omega (arith, c.loop-level-test.true)

pub overflow_add-level : goal.overflow_add-level
overflow_add-level c = omega (arith, c.loop-level-test.true, c.ranges.height.fits)

pub returns-clause-same : goal.returns-clause-same
returns-clause-same c = c.loop-level.invariant.same

pub slot_of-slot-requires : goal.slot_of-slot-requires
slot_of-slot-requires c =
    let i = c.loop-level.invariant in
    let h = c.args.height in let r = c.args.root.index in
    let m = c.loop-level.mem in let n = c.loop-level.node.index in
    let t : IsShape (bare m) h r = subst (λ b. IsShape b h r) (sym i.same) c.requires.tree in
    let is : n < length m.heads = subst (λ (b : Memory). n < length b.heads) (sym i.same) i.is in
    let lvl : level_of (bare m) n ≡ c.loop-level.level = ap (λ (b : Memory). level_of b n) i.same ∙ i.at_level in
    let nr = below_top (bare m) h r t n is (omega (arith, lvl, c.loop-level-test.true)) in
    let p = parent_in m h r t n c.parent_of-parent.result.index is nr c.parent_of-parent.ensures in
    record { node = (p.0, p.1); stands = omega (arith, (t.known n is nr).once, ap (λ y. child_count n (entries (bare m) y)) c.parent_of-parent.ensures) }
