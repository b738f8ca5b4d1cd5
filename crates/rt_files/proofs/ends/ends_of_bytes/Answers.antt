use Rattle.std.proofs.Common.{◌∙◌, ◌∷◌, ◌++◌, List, ℕ, ap, append_assoc, inr, refl, sym}
use Rattle.rt_files.specs.Ends.{end_bytes, ends_bytes}
use Rattle.rt_files.proofs.CountBytes.{known_first, left_over}
use Rattle.rt_files.proofs.ends.ends_of_bytes.Goals as goal

pub loop-left-preserved : goal.loop-left-preserved
loop-left-preserved c =
    let invariant = c.loop-left.invariant in
    let end = c.end_of-site.result in
    let front = c.split_at.result.0.now in
    record {
      ends = end ∷ invariant.ends;
      fit = (c.end_of-site.ensures.fit, invariant.fit);
      whole = invariant.whole ∙ ap (λ (left : List ℕ). left ++ ends_bytes invariant.ends) (c.split_at.ensures.by_index.0 ∙ ap (λ (back : List ℕ). front ++ back) c.end_of-site.ensures.spelled) ∙ append_assoc front (end_bytes end) (ends_bytes invariant.ends);
      known = known_first c.loop-left.ends c.insert.new.self end invariant.ends c.in_ok-insert.ensures.updates invariant.known;
    }

pub returns-else-is_empty-clause-err : goal.returns-else-is_empty-clause-err
returns-else-is_empty-clause-err c =
    let invariant = c.loop-left.invariant in
    inr (refl, left_over c.args.bytes.now c.loop-left.left.now invariant.ends invariant.whole c.loop-left-test.false (sym c.is_empty.ensures ∙ c.if-is_empty.false))
