use Rattle.std.proofs.Common.{◌∙◌, ◌<◌, List, ℕ, ap, map, subst, sym}
use Rattle.std.proofs.lemmas.Result.{err_from_is_err_and}
use Rattle.rt_stamps.specs.declared.limits.TheConstants.{GREATEST_COUNT}
use Rattle.rt_stamps.specs.declared.stamp.TheConstants.{FINAL}
use Rattle.rt_ops.specs.Operations.{stamps_in}
use Rattle.rt_store.specs.Spans.{gone_in_any, is_in_spans}
use Rattle.rt_plans.proofs.PlanLaws.{spent}
use Rattle.rt_plans.specs.declared.range.Range.{Range}
use Rattle.rt_plans.specs.Removals.{RangesFollow, is_covered, stamps_at}
use Rattle.rt_revert.specs.Portions.{whole_ranges}
use Rattle.rt_revert.specs.Progress.{spans_of}
use Rattle.rt_revert.proofs.Went.{Took, lost_count, spared, took_copy, took_going, took_so_far, took_still}
use Rattle.rt_revert.proofs.going.take_out.Goals as goal

pub make_gone-requires-clause-stays : goal.make_gone-requires-clause-stays
make_gone-requires-clause-stays g c =
    ap (λ l. is_in_spans (spans_of l) FINAL) c.deref-2.ensures.value
    ∙ spared c.args.kept.now (stamps_in c.args.spans.now) (g.S.TextStore.list c.args.copy.now) c.in_ok-losses.losses.removed.items c.in_ok-losses.ensures.removed c.requires.stays

pub returns-clause-copy : goal.returns-clause-copy
returns-clause-copy g c =
    let old = g.S.TextStore.list c.args.copy.now in
    let new = g.S.TextStore.list c.make_gone.new.copy in
    let losses = c.in_ok-losses.losses in
    let whole = c.in_ok-whole.whole in
    let before = c.args.plan.now in
    let took : Took c.args.kept.now (stamps_in c.args.spans.now) old new c.args.plan.now c.lose.new.self losses whole = record {
      list = c.in_ok-make_gone.ensures.list ∙ ap (λ l. map (gone_in_any (spans_of l)) old) c.deref-2.ensures.value;
      removed = c.in_ok-losses.ensures.removed;
      drafts = c.in_ok-losses.ensures.drafts;
      places = c.in_ok-losses.ensures.places;
      covered = λ place. c.in_ok-whole.ensures.covered place ∙ ap (λ l. is_covered (whole_ranges before.offsets old (stamps_at (is_covered l) 0 old)) place) c.deref.ensures.value;
      order = subst (λ (l : List Range). RangesFollow 0 (whole_ranges before.offsets old (stamps_at (is_covered l) 0 old)) → RangesFollow 0 whole.items) c.deref.ensures.value c.in_ok-whole.ensures.order;
      new_drafts = c.in_ok-lose.ensures.drafts;
      count = c.in_ok-lose.ensures.count;
      most = c.in_ok-lose.ensures.within;
      changes = c.in_ok-lose.ensures.changes;
      renames = c.in_ok-lose.ensures.renames;
      names = c.in_ok-lose.ensures.names;
      returns = c.in_ok-lose.ensures.returns;
      actions = c.in_ok-lose.ensures.actions;
      offsets = c.in_ok-lose.ensures.offsets;
    } in
    took_copy c.args.kept.now (stamps_in c.args.spans.now) old new c.args.plan.now c.lose.new.self losses whole took c.requires.copy

pub returns-clause-going : goal.returns-clause-going
returns-clause-going g c =
    let old = g.S.TextStore.list c.args.copy.now in
    let new = g.S.TextStore.list c.make_gone.new.copy in
    let losses = c.in_ok-losses.losses in
    let whole = c.in_ok-whole.whole in
    let before = c.args.plan.now in
    let took : Took c.args.kept.now (stamps_in c.args.spans.now) old new c.args.plan.now c.lose.new.self losses whole = record {
      list = c.in_ok-make_gone.ensures.list ∙ ap (λ l. map (gone_in_any (spans_of l)) old) c.deref-2.ensures.value;
      removed = c.in_ok-losses.ensures.removed;
      drafts = c.in_ok-losses.ensures.drafts;
      places = c.in_ok-losses.ensures.places;
      covered = λ place. c.in_ok-whole.ensures.covered place ∙ ap (λ l. is_covered (whole_ranges before.offsets old (stamps_at (is_covered l) 0 old)) place) c.deref.ensures.value;
      order = subst (λ (l : List Range). RangesFollow 0 (whole_ranges before.offsets old (stamps_at (is_covered l) 0 old)) → RangesFollow 0 whole.items) c.deref.ensures.value c.in_ok-whole.ensures.order;
      new_drafts = c.in_ok-lose.ensures.drafts;
      count = c.in_ok-lose.ensures.count;
      most = c.in_ok-lose.ensures.within;
      changes = c.in_ok-lose.ensures.changes;
      renames = c.in_ok-lose.ensures.renames;
      names = c.in_ok-lose.ensures.names;
      returns = c.in_ok-lose.ensures.returns;
      actions = c.in_ok-lose.ensures.actions;
      offsets = c.in_ok-lose.ensures.offsets;
    } in
    took_going c.args.kept.now (stamps_in c.args.spans.now) old new c.args.plan.now c.lose.new.self losses whole took c.requires.going

pub returns-clause-so_far : goal.returns-clause-so_far
returns-clause-so_far g c =
    let old = g.S.TextStore.list c.args.copy.now in
    let new = g.S.TextStore.list c.make_gone.new.copy in
    let losses = c.in_ok-losses.losses in
    let whole = c.in_ok-whole.whole in
    let before = c.args.plan.now in
    let took : Took c.args.kept.now (stamps_in c.args.spans.now) old new c.args.plan.now c.lose.new.self losses whole = record {
      list = c.in_ok-make_gone.ensures.list ∙ ap (λ l. map (gone_in_any (spans_of l)) old) c.deref-2.ensures.value;
      removed = c.in_ok-losses.ensures.removed;
      drafts = c.in_ok-losses.ensures.drafts;
      places = c.in_ok-losses.ensures.places;
      covered = λ place. c.in_ok-whole.ensures.covered place ∙ ap (λ l. is_covered (whole_ranges before.offsets old (stamps_at (is_covered l) 0 old)) place) c.deref.ensures.value;
      order = subst (λ (l : List Range). RangesFollow 0 (whole_ranges before.offsets old (stamps_at (is_covered l) 0 old)) → RangesFollow 0 whole.items) c.deref.ensures.value c.in_ok-whole.ensures.order;
      new_drafts = c.in_ok-lose.ensures.drafts;
      count = c.in_ok-lose.ensures.count;
      most = c.in_ok-lose.ensures.within;
      changes = c.in_ok-lose.ensures.changes;
      renames = c.in_ok-lose.ensures.renames;
      names = c.in_ok-lose.ensures.names;
      returns = c.in_ok-lose.ensures.returns;
      actions = c.in_ok-lose.ensures.actions;
      offsets = c.in_ok-lose.ensures.offsets;
    } in
    took_so_far c.args.kept.now (stamps_in c.args.spans.now) old new c.args.plan.now c.lose.new.self losses whole took c.requires.copy.distinct

pub returns-clause-removed : goal.returns-clause-removed
returns-clause-removed g c number part r had s =
    took_still c.args.kept.now (stamps_in c.args.spans.now) (g.S.TextStore.list c.args.copy.now) (g.S.TextStore.list c.make_gone.new.copy) c.args.plan.now c.lose.new.self c.in_ok-losses.losses c.in_ok-whole.whole
    number part r c.in_ok-losses.ensures.removed had s

pub returns-in_err-lose-clause-err : goal.returns-in_err-lose-clause-err
returns-in_err-lose-clause-err g c =
    let p = err_from_is_err_and c.from_residual-in_err-lose.result c.from_residual-in_err-lose.ensures.1 in
    let old = g.S.TextStore.list c.args.copy.now in
    rw (p.1, p.2) (spent
    (λ k number part r had s. subst (λ (n : ℕ). GREATEST_COUNT < n)
    (sym (lost_count c.args.kept.now (stamps_in c.args.spans.now) old (g.S.TextStore.list c.make_gone.new.copy) c.args.plan.now c.lose.new.self c.in_ok-losses.losses c.in_ok-whole.whole number part r
    c.in_ok-losses.ensures.drafts c.requires.copy.distinct had s)) k)
    c.in_err-lose.ensures.err)
