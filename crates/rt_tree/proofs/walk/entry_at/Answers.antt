use Rattle.std.proofs.Common.{◌≡◌, take, get_or, arith, sym, ap, ◌∙◌, subst}
use Rattle.rt_nodes.specs.Nodes.{entries}
use Rattle.rt_tree.specs.declared.node.Counts.{Counts}
use Rattle.rt_tree.specs.Shape.{entry_counts, sum_of}
use Rattle.rt_tree.specs.Sums.{AreFew, amount, plus}
use Rattle.rt_tree.proofs.Amounts.{amount-plus, few-more, plus_assoc, sum-more}
use Rattle.rt_tree.proofs.walk.entry_at.Goals as goal

pub past_entry-requires : goal.past_entry-requires
past_entry-requires g c =
    let es = entries (g.L.Looks.nodes c.args.looks.now) c.args.node.index in
    let i = c.loop-index.index in
    let e = c.look-entry.result.entry in
    let here : e ≡ get_or es i e = c.look-entry.ensures.tells ∙ ap (λ m. get_or (entries m c.args.node.index) i e) c.loop-index.invariant.same in
    let few = few-more c.args.ahead es i e (omega (arith, c.len-index-end.ensures.value, c.loop-index-test.true)) here c.requires.few in
    let Q : Counts → Type 0 = λ x. AreFew (plus x (entry_counts e)) in
    subst Q (sym c.loop-index.invariant.before) few

pub loop-index-preserved : goal.loop-index-preserved
loop-index-preserved g c =
    let es = entries (g.L.Looks.nodes c.args.looks.now) c.args.node.index in
    let i = c.loop-index.index in
    let e = c.look-entry.result.entry in
    let old = c.loop-index.invariant in
    let front = sum_of (take i es) in
    let here : e ≡ get_or es i e = c.look-entry.ensures.tells ∙ ap (λ m. get_or (entries m c.args.node.index) i e) old.same in
    let more = sum-more es i e (omega (arith, c.len-index-end.ensures.value, c.loop-index-test.true)) here in
    let v = ap (amount c.args.by) more ∙ amount-plus c.args.by front (entry_counts e) in
    let past = c.in-Some.ensures in
    record {
      at = omega (arith, v, past.rest, old.at);
      before = past.before ∙ ap (λ y. plus y (entry_counts e)) old.before ∙ plus_assoc c.args.ahead front (entry_counts e) ∙ ap (plus c.args.ahead) (sym more);
      cost = omega (arith, c.look-entry.ensures.counts, old.cost);
      same = c.look-entry.ensures.same ∙ old.same;
      kept = c.look-entry.ensures.kept ∙ old.kept;
      lent = c.look-entry.ensures.lent ∙ old.lent;
    }
