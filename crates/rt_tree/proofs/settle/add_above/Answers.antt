use Rattle.std.proofs.Common.{◌≡◌, ◌<◌, length, arith, sym, ap, ◌∙◌, subst, refl, get_or}
use Rattle.std.proofs.lemmas.List.{get_or_default}
use Rattle.rt_nodes.specs.declared.memory.NodeId.{NodeId}
use Rattle.rt_tree.specs.declared.node.Entry.{Entry}
use Rattle.rt_tree.proofs.Lacking.{lacking, lacks-up}
use Rattle.rt_tree.specs.declared.node.Entry.TheVariants.{Down, Here}
use Rattle.rt_nodes.specs.Nodes.{entries, with_entry}
use Rattle.rt_tree.proofs.Adding.{IsSmall, small-is}
use Rattle.rt_tree.specs.declared.node.Totals.{Totals}
use Rattle.rt_tree.specs.Changes.{AreExactBut, Lacks, bare, blank, strip, adds_up, entry_totals, join, with_more}
use Rattle.rt_tree.specs.Shape.{runs, level_of, parent_of, Memory, IsShape, child_count}
use Rattle.rt_tree.proofs.Around.{at_top, below_top}
use Rattle.rt_tree.proofs.Raise.{raise, root-exact, same-bare, set-links, small-node, sum-low}
use Rattle.rt_tree.specs.Sums.{totals_of}
use Rattle.rt_tree.proofs.Splits.{parent_in}
use Rattle.rt_tree.proofs.settle.add_above.Goals as goal

more-of : (more : Totals) (q : NodeId) (e : Entry) → strip e ≡ Down q blank → with_more more e ≡ Down q (join more (entry_totals e))
more-of more q (Here r) is = cc
more-of more q (Down c t) is = cc

pub add_to-requires-clause-few : goal.add_to-requires-clause-few
add_to-requires-clause-few c e here =
    let i = c.loop-level.invariant in
    let h = c.args.height in let r = c.args.root.index in
    let m = c.loop-level.mem in let q = c.loop-level.node in let n = q.index in
    let p = c.parent_of-parent.result.index in
    let t : IsShape (bare m) h r = subst (λ b. IsShape b h r) (sym i.same) c.requires.tree in
    let small : IsSmall (totals_of (runs (bare m) h r)) = subst (λ b. IsSmall (totals_of (runs b h r))) (sym i.same) c.requires.few in
    let is : n < length m.heads = subst (λ (b : Memory). n < length b.heads) (sym i.same) i.is in
    let low = t.low n is in
    let lvl : level_of (bare m) n ≡ c.loop-level.level = ap (λ (b : Memory). level_of b n) i.same ∙ i.at_level in
    let few = small-is (adds_up (entries m n)) (totals_of (runs (bare m) (level_of (bare m) n) n)) (sum-low m h r t n i.exact is)
    (small-node m h r t (level_of (bare m) n) n is refl low small) in
    let whole = lacking m h r t q p c.slot_of-slot.result e c.args.more is (omega (arith, lvl, c.loop-level-test.true)) c.parent_of-parent.ensures c.slot_of-slot.ensures.within here (c.slot_of-slot.ensures.is e here) i.more in
    subst (λ (x : Totals). IsSmall x) whole few

pub loop-level-preserved : goal.loop-level-preserved
loop-level-preserved c =
    let i = c.loop-level.invariant in
    let h = c.args.height in let r = c.args.root.index in
    let m = c.loop-level.mem in let q = c.loop-level.node in
    let p = c.parent_of-parent.result.index in
    let s = bare c.args.mem.now in
    let t : IsShape (bare m) h r = subst (λ b. IsShape b h r) (sym i.same) c.requires.tree in
    let is : q.index < length m.heads = subst (λ (b : Memory). q.index < length b.heads) (sym i.same) i.is in
    let kn = c.requires.tree.known q.index i.is (below_top s h r c.requires.tree q.index i.is (omega (arith, i.at_level))) in
    let up : p ≡ parent_of s q.index = c.parent_of-parent.ensures ∙ ap (λ (b : Memory). parent_of b q.index) i.same in
    let lvl : level_of (bare m) q.index ≡ c.loop-level.level = ap (λ (b : Memory). level_of b q.index) i.same ∙ i.at_level in
    let es = entries m p in
    let slot = c.slot_of-slot.result in
    let within = c.slot_of-slot.ensures.within in
    let e = get_or es slot (Down q blank) in
    let here : e ≡ get_or es slot e = get_or_default es slot (Down q blank) e within in
    let mine = c.slot_of-slot.ensures.is e here in
    let total = join c.args.more (entry_totals e) in
    let y = Down q total in
    let to = c.add_to.ensures e here ∙ ap (with_entry m p slot) (more-of c.args.more q e mine) in
    let whole = lacking m h r t q p slot e c.args.more is (omega (arith, lvl, c.loop-level-test.true)) c.parent_of-parent.ensures within here mine i.more in
    record {
      same = ap bare to ∙ same-bare m p _ (set-links es slot e y within here (sym mine)) ∙ i.same;
      is = subst (λ n. n < length c.args.mem.now.heads) (sym up) kn.is;
      at_level = ap (level_of s) up ∙ kn.up ∙ (omega (arith, i.at_level));
      low = omega arith;
      exact = subst (AreExactBut p) (sym to)
          (raise m h r t q p slot e total is (omega (arith, lvl)) c.parent_of-parent.ensures within here mine (sym whole) i.exact);
      more = subst (Lacks p c.args.more) (sym to)
          (lacks-up m h r t q p slot e c.args.more is (omega (arith, lvl)) c.parent_of-parent.ensures within here i.exact total refl);
    }

pub returns-clause-exact : goal.returns-clause-exact
returns-clause-exact c =
    let i = c.loop-level.invariant in
    let h = c.args.height in let r = c.args.root.index in
    let m = c.loop-level.mem in let q = c.loop-level.node.index in
    let t : IsShape (bare m) h r = subst (λ b. IsShape b h r) (sym i.same) c.requires.tree in
    let top = at_top (bare c.args.mem.now) h r c.requires.tree q i.is (omega (arith, i.at_level, i.low)) in
    root-exact m h r t (subst (λ n. AreExactBut n m) top i.exact)

pub loop-level-init : goal.loop-level-init
loop-level-init c = record {
  same = refl;
  is = c.requires.from;
  at_level = sym c.level_of-level.ensures;
  low = omega (arith, c.level_of-level.ensures, c.requires.tree.low c.args.from.index c.requires.from);
  exact = c.requires.exact;
  more = c.requires.more;
}

pub loop-level-smaller : goal.loop-level-smaller
loop-level-smaller c = omega (arith, c.loop-level-test.true)

pub overflow_add-level : goal.overflow_add-level
overflow_add-level c = omega (arith, c.loop-level-test.true, c.ranges.height.fits)

pub returns-clause-same : goal.returns-clause-same
returns-clause-same c = c.loop-level.invariant.same

pub slot_of-slot-requires : goal.slot_of-slot-requires
slot_of-slot-requires c =
    let i = c.loop-level.invariant in
    let h = c.args.height in let r = c.args.root.index in
    let m = c.loop-level.mem in let n = c.loop-level.node.index in
    let t : IsShape (bare m) h r = subst (λ b. IsShape b h r) (sym i.same) c.requires.tree in
    let is : n < length m.heads = subst (λ (b : Memory). n < length b.heads) (sym i.same) i.is in
    let lvl : level_of (bare m) n ≡ c.loop-level.level = ap (λ (b : Memory). level_of b n) i.same ∙ i.at_level in
    let nr = below_top (bare m) h r t n is (omega (arith, lvl, c.loop-level-test.true)) in
    let p = parent_in m h r t n c.parent_of-parent.result.index is nr c.parent_of-parent.ensures in
    record { node = (p.0, p.1); stands = omega (arith, (t.known n is nr).once, ap (λ y. child_count n (entries (bare m) y)) c.parent_of-parent.ensures) }
