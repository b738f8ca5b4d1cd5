use Rattle.std.proofs.Common.{◌-◌, List, arith, sym, ap, ◌∙◌, subst}
use Rattle.rt_nodes.specs.Nodes.{entries}
use Rattle.rt_tree.specs.declared.node.Entry.{Entry}
use Rattle.rt_tree.specs.declared.node.Totals.{Totals}
use Rattle.rt_tree.specs.Changes.{adds_up, entry_totals, join}
use Rattle.rt_tree.specs.Sums.{AreFew, plus}
use Rattle.rt_tree.proofs.Adding.{drop-next, small-drop}
use Rattle.rt_tree.proofs.totals.adds_up.Goals as goal

pub join-sum-requires : goal.join-sum-requires
join-sum-requires c =
    let es = entries c.args.mem.now c.args.id.index in let l = c.loop-left.left in let e = c.entry.result.now in
    let next = drop-next es (l - 1) l e (omega (arith, c.loop-left.invariant.within, c.loop-left-test.true)) c.entry.ensures (omega (arith, c.loop-left-test.true)) in
    let few = subst (λ (x : List Entry). AreFew (adds_up x).counts) next (small-drop es (l - 1) c.requires.few) in
    let P : Totals → Type 0 = λ t. AreFew (plus (entry_totals e).counts t.counts) in
    let Q : Totals → Type 0 = λ t. AreFew (plus t.counts c.loop-left.sum.counts) in
    subst Q (sym c.entry_totals.ensures) (subst P (sym c.loop-left.invariant.sum_is) few)

pub loop-left-preserved : goal.loop-left-preserved
loop-left-preserved c =
    let es = entries c.args.mem.now c.args.id.index in let l = c.loop-left.left in let e = c.entry.result.now in
    let next = drop-next es (l - 1) l e (omega (arith, c.loop-left.invariant.within, c.loop-left-test.true)) c.entry.ensures (omega (arith, c.loop-left-test.true)) in
    record {
      sum_is = c.join-sum.ensures ∙ ap (λ t. join t c.loop-left.sum) c.entry_totals.ensures ∙ ap (join (entry_totals e)) c.loop-left.invariant.sum_is ∙ sym (ap adds_up next);
      within = omega (arith, c.loop-left.invariant.within);
    }
