use Rattle.std.proofs.Common.{◌≡◌, get_or, take, arith, sym, ap, ◌∙◌, subst}
use Rattle.std.proofs.Math.Seq.{take-length}
use Rattle.rt_nodes.specs.Nodes.{entries}
use Rattle.rt_tree.specs.declared.node.Counts.{Counts}
use Rattle.rt_tree.specs.Shape.{entry_counts, left_of, sum_of}
use Rattle.rt_tree.specs.Sums.{AreFew, plus}
use Rattle.rt_tree.proofs.Amounts.{few-more, plus_assoc, sum-more}
use Rattle.rt_tree.proofs.Rising.{hit, miss, shorter}
use Rattle.rt_tree.proofs.up.counts_with_left.Goals as goal

pub plus-counts-requires : goal.plus-counts-requires
plus-counts-requires g c =
    let es = entries (g.L.Looks.nodes c.args.looks.now) c.args.parent.index in
    let id = c.args.node.index in
    let i = c.loop-index.index in
    let e = c.look-entry.result.entry in
    let old = c.loop-index.invariant in
    let here : e ≡ get_or es i e = c.look-entry.ensures.tells ∙ ap (λ m. get_or (entries m c.args.parent.index) i e) old.same in
    let at = miss id es i e old.low (omega (arith, c.len-index-end.ensures.value, c.loop-index-test.true)) here (sym c.is_node.ensures ∙ c.if-is_node.false) in
    let few = few-more c.args.more (left_of id es) i e at.0 at.1 c.requires.few in
    let P : Counts → Type 0 = λ x. AreFew (plus (plus c.args.more (sum_of (take i (left_of id es)))) x) in
    let Q : Counts → Type 0 = λ x. AreFew (plus x c.entry_counts.result) in
    subst Q (sym old.sum) (subst P (sym c.entry_counts.ensures) few)

pub loop-index-preserved : goal.loop-index-preserved
loop-index-preserved g c =
    let es = entries (g.L.Looks.nodes c.args.looks.now) c.args.parent.index in
    let id = c.args.node.index in
    let i = c.loop-index.index in
    let e = c.look-entry.result.entry in
    let old = c.loop-index.invariant in
    let here : e ≡ get_or es i e = c.look-entry.ensures.tells ∙ ap (λ m. get_or (entries m c.args.parent.index) i e) old.same in
    let at = miss id es i e old.low (omega (arith, c.len-index-end.ensures.value, c.loop-index-test.true)) here (sym c.is_node.ensures ∙ c.if-is_node.false) in
    let more = sum-more (left_of id es) i e at.0 at.1 in
    let front = sum_of (take i (left_of id es)) in
    record {
      low = omega (arith, at.0);
      sum = c.plus-counts.ensures ∙ ap (λ x. plus x c.entry_counts.result) old.sum ∙ ap (plus (plus c.args.more front)) c.entry_counts.ensures ∙ plus_assoc c.args.more front (entry_counts e) ∙ ap (plus c.args.more) (sym more);
      cost = omega (arith, c.look-entry.ensures.counts, old.cost);
      same = c.look-entry.ensures.same ∙ old.same;
      kept = c.look-entry.ensures.kept ∙ old.kept;
      lent = c.look-entry.ensures.lent ∙ old.lent;
    }

pub returns-then-is_node-clause-value : goal.returns-then-is_node-clause-value
returns-then-is_node-clause-value g c =
    let es = entries (g.L.Looks.nodes c.args.looks.now) c.args.parent.index in
    let id = c.args.node.index in
    let i = c.loop-index.index in
    let e = c.look-entry.result.entry in
    let old = c.loop-index.invariant in
    let here : e ≡ get_or es i e = c.look-entry.ensures.tells ∙ ap (λ m. get_or (entries m c.args.parent.index) i e) old.same in
    let at = hit id es i e old.low (omega (arith, c.len-index-end.ensures.value, c.loop-index-test.true)) here (sym c.is_node.ensures ∙ c.if-is_node.true) in
    old.sum ∙ ap (λ n. plus c.args.more (sum_of (take n (left_of id es)))) at ∙ ap (λ l. plus c.args.more (sum_of l)) (take-length (left_of id es))

pub unreachable-requires : goal.unreachable-requires
unreachable-requires g c =
    let es = entries (g.L.Looks.nodes c.args.looks.now) c.args.parent.index in
    let less = shorter c.args.node.index es c.requires.child in
    omega (arith, less, c.loop-index.invariant.low, c.loop-index-test.false, c.len-index-end.ensures.value)
