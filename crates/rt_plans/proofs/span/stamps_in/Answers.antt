use Rattle.std.proofs.Common.{◌∙◌, ◌+◌, ◌++◌, ap, append-nil, append_assoc, arith, drop, sym}
use Rattle.std.proofs.lemmas.List.{drop_all}
use Rattle.rt_plans.specs.Removals.{is_covered, stamps_at}
use Rattle.rt_plans.proofs.StampLaws.{ranges_more, order_at, order_more, none_at}
use Rattle.rt_plans.proofs.span.stamps_in.Goals as goal

pub push_stamps-requires-clause-order : goal.push_stamps-requires-clause-order
push_stamps-requires-clause-order g c = order_at c.args.removed.now c.loop-range.range-index _ c.loop-range-test.true c.loop-range.invariant.order

pub loop-range-preserved : goal.loop-range-preserved
loop-range-preserved g c =
    let cells = g.S.TextStore.list c.args.store.now in
    let removed = c.args.removed.now in
    let i = c.loop-range.range-index in
    let done = c.loop-range.stamps.items in
    let rest = stamps_at (is_covered (drop (i + 1) removed)) 0 cells in
    record {
      stamps = ap (λ v. v ++ rest) c.in_ok-push_stamps.ensures.ok ∙ append_assoc done _ rest ∙ ap (λ v. done ++ v) (sym (ranges_more cells removed i _ c.loop-range-test.true c.loop-range.invariant.order)) ∙ c.loop-range.invariant.stamps;
      order = order_more removed i c.loop-range-test.true c.loop-range.invariant.order;
    }

pub returns-clause-ok : goal.returns-clause-ok
returns-clause-ok g c =
    let cells = g.S.TextStore.list c.args.store.now in
    let done = c.loop-range.stamps.items in
    sym (append-nil done) ∙ ap (λ l. done ++ l) (sym (none_at 0 cells) ∙ ap (λ l. stamps_at (is_covered l) 0 cells) (sym (drop_all c.loop-range.range-index c.args.removed.now (omega arith)))) ∙ c.loop-range.invariant.stamps
