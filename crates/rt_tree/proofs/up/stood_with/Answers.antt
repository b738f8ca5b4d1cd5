use Rattle.std.proofs.Common.{◌≡◌, ◌+◌, Some, get_or, slice_get, take, inl, inr, arith, sym, ap, ◌∙◌, subst}
use Rattle.std.proofs.lemmas.Bool.{cases_eq}
use Rattle.std.proofs.lemmas.Option.{get_or_from_slice_get, slice_get_within}
use Rattle.rt_nodes.specs.Nodes.{entries}
use Rattle.rt_tree.specs.declared.node.Entry.TheVariants.{Here}
use Rattle.rt_tree.specs.Shape.{sum_of}
use Rattle.rt_tree.specs.Sums.{AreFew, plus}
use Rattle.rt_tree.proofs.Amounts.{sum-more}
use Rattle.rt_tree.proofs.up.stood_with.Goals as goal

pub plus-counts-requires : goal.plus-counts-requires
plus-counts-requires g c =
    let es = entries (g.L.Looks.nodes c.args.looks.now) c.args.leaf.index in
    let i = c.loop-entry.entry in
    let e = c.look-seen.result.entry in
    let old = c.loop-entry.invariant in
    let here : e ≡ get_or es i e = c.look-seen.ensures.tells ∙ ap (λ m. get_or (entries m c.args.leaf.index) i e) old.same in
    let more = sum-more es i e (omega (arith, c.len-entry-end.ensures.value, c.loop-entry-test.true)) here in
    let few = subst AreFew more (c.requires.few (i + 1)) in
    subst AreFew (sym (ap (λ x. plus x c.entry_counts.result) old.sum ∙ ap (plus (sum_of (take i es))) c.entry_counts.ensures)) few

pub loop-entry-preserved : goal.loop-entry-preserved
loop-entry-preserved g c =
    let es = entries (g.L.Looks.nodes c.args.looks.now) c.args.leaf.index in
    let i = c.loop-entry.entry in
    let e = c.look-seen.result.entry in
    let old = c.loop-entry.invariant in
    let here : e ≡ get_or es i e = c.look-seen.ensures.tells ∙ ap (λ m. get_or (entries m c.args.leaf.index) i e) old.same in
    let more = sum-more es i e (omega (arith, c.len-entry-end.ensures.value, c.loop-entry-test.true)) here in
    record {
      sum = c.plus-counts.ensures ∙ ap (λ x. plus x c.entry_counts.result) old.sum ∙ ap (plus (sum_of (take i es))) c.entry_counts.ensures ∙ sym more;
      none = λ j run less at. elim (cases_eq j i) [
        | inl same ↦ c.run_with.ensures.none c.in_default.is run (here ∙ get_or_from_slice_get es i (Here run) e (subst (λ k. slice_get es k ≡ Some (Here run)) same at))
        | inr ne ↦ old.none j run (omega (arith, less, ne)) at
      ];
      cost = omega (arith, c.look-seen.ensures.counts, old.cost);
      same = c.look-seen.ensures.same ∙ old.same;
      kept = c.look-seen.ensures.kept ∙ old.kept;
      lent = c.look-seen.ensures.lent ∙ old.lent;
    }

pub returns-clause-none : goal.returns-clause-none
returns-clause-none g c is i run at =
    let es = entries (g.L.Looks.nodes c.args.looks.now) c.args.leaf.index in
    let within = slice_get_within es i (Here run) at in
    c.loop-entry.invariant.none i run (omega (arith, within, c.len-entry-end.ensures.value, c.loop-entry-test.false)) at
