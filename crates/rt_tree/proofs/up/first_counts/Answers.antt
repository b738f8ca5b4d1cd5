use Rattle.std.proofs.Common.{◌≡◌, get_or, take, arith, sym, ap, ◌∙◌, subst}
use Rattle.rt_nodes.specs.Nodes.{entries}
use Rattle.rt_tree.specs.declared.node.Counts.{Counts}
use Rattle.rt_tree.specs.Shape.{sum_of}
use Rattle.rt_tree.specs.Sums.{AreFew, plus}
use Rattle.rt_tree.proofs.Amounts.{sum-more}
use Rattle.rt_tree.proofs.Rising.{few-first}
use Rattle.rt_tree.proofs.up.first_counts.Goals as goal

pub plus-counts-requires : goal.plus-counts-requires
plus-counts-requires g c =
    let es = entries (g.L.Looks.nodes c.args.looks.now) c.args.node.index in
    let i = c.loop-index.index in
    let e = c.look.result.entry in
    let old = c.loop-index.invariant in
    let here : e ≡ get_or es i e = c.look.ensures.tells ∙ ap (λ m. get_or (entries m c.args.node.index) i e) old.same in
    let few = few-first es i c.args.count e (omega (arith, old.low, c.if-index-count.false)) (omega (arith, c.len-index-end.ensures.value, c.loop-index-test.true)) here c.requires.few in
    let P : Counts → Type 0 = λ x. AreFew (plus (sum_of (take i es)) x) in
    let Q : Counts → Type 0 = λ x. AreFew (plus x c.entry_counts.result) in
    subst Q (sym old.sum) (subst P (sym c.entry_counts.ensures) few)

pub loop-index-preserved : goal.loop-index-preserved
loop-index-preserved g c =
    let es = entries (g.L.Looks.nodes c.args.looks.now) c.args.node.index in
    let i = c.loop-index.index in
    let e = c.look.result.entry in
    let old = c.loop-index.invariant in
    let here : e ≡ get_or es i e = c.look.ensures.tells ∙ ap (λ m. get_or (entries m c.args.node.index) i e) old.same in
    let more = sum-more es i e (omega (arith, c.len-index-end.ensures.value, c.loop-index-test.true)) here in
    record {
      low = omega (arith, old.low, c.if-index-count.false);
      sum = c.plus-counts.ensures ∙ ap (λ x. plus x c.entry_counts.result) old.sum ∙ ap (plus (sum_of (take i es))) c.entry_counts.ensures ∙ sym more;
      cost = omega (arith, c.look.ensures.counts, old.cost);
      same = c.look.ensures.same ∙ old.same;
      kept = c.look.ensures.kept ∙ old.kept;
      lent = c.look.ensures.lent ∙ old.lent;
    }
