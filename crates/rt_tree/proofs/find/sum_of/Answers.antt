use Rattle.std.proofs.Common.{take, arith, sym, ap, ◌∙◌, subst}
use Rattle.rt_nodes.specs.Nodes.{entries}
use Rattle.rt_tree.specs.declared.node.Counts.{Counts}
use Rattle.rt_tree.specs.Shape.{entry_counts, sum_of}
use Rattle.rt_tree.specs.Sums.{AreFew, no_counts, plus}
use Rattle.rt_tree.proofs.Amounts.{few-more, none-plus, sum-more}
use Rattle.rt_tree.proofs.find.sum_of.Goals as goal

pub plus-sum-requires : goal.plus-sum-requires
plus-sum-requires c =
    let es = entries c.args.mem.now c.args.id.index in
    let i = c.loop-i.i in
    let few = few-more no_counts es i c.entry.result.now (omega (arith, c.len-i-end.ensures.value)) c.entry.ensures (subst AreFew (sym (none-plus (sum_of es))) c.requires.few) in
    let P : Counts → Type 0 = λ x. AreFew (plus c.loop-i.sum x) in
    let Q : Counts → Type 0 = λ x. AreFew (plus x (entry_counts c.entry.result.now)) in
    subst P (sym c.entry_counts.ensures) (subst Q (none-plus (sum_of (take i es)) ∙ sym c.loop-i.invariant) few)

pub loop-i-preserved : goal.loop-i-preserved
loop-i-preserved c =
    let es = entries c.args.mem.now c.args.id.index in
    let more = sum-more es c.loop-i.i c.entry.result.now (omega (arith, c.len-i-end.ensures.value)) c.entry.ensures in
    c.plus-sum.ensures ∙ ap (λ x. plus x c.entry_counts.result) c.loop-i.invariant ∙ ap (plus (sum_of (take c.loop-i.i es))) c.entry_counts.ensures ∙ sym more
