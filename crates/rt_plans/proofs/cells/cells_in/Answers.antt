use Rattle.std.proofs.Common.{◌∙◌, ◌+◌, ◌++◌, ap, append-nil, append_assoc, arith, drop, sym}
use Rattle.std.proofs.lemmas.List.{drop_all}
use Rattle.rt_plans.specs.Removals.{is_covered, cells_at}
use Rattle.rt_plans.proofs.StampLaws.{order_at, order_more}
use Rattle.rt_plans.proofs.ChosenLaws.{ranges_chosen, none_covered}
use Rattle.rt_plans.proofs.cells.cells_in.Goals as goal

pub push_cells-requires-clause-order : goal.push_cells-requires-clause-order
push_cells-requires-clause-order g c = order_at c.args.ranges.now c.loop-range.range-index _ c.loop-range-test.true c.loop-range.invariant.order

pub loop-range-preserved : goal.loop-range-preserved
loop-range-preserved g c =
    let cells = g.S.TextStore.list c.args.store.now in
    let ranges = c.args.ranges.now in
    let i = c.loop-range.range-index in
    let done = c.loop-range.cells.items in
    let rest = cells_at (is_covered (drop (i + 1) ranges)) 0 cells in
    record {
      cells = ap (λ v. v ++ rest) c.in_ok-push_cells.ensures.ok ∙ append_assoc done _ rest ∙ ap (λ v. done ++ v) (sym (ranges_chosen cells ranges i _ c.loop-range-test.true c.loop-range.invariant.order)) ∙ c.loop-range.invariant.cells;
      order = order_more ranges i c.loop-range-test.true c.loop-range.invariant.order;
    }

pub returns-clause-ok : goal.returns-clause-ok
returns-clause-ok g c =
    let cells = g.S.TextStore.list c.args.store.now in
    let done = c.loop-range.cells.items in
    sym (append-nil done) ∙ ap (λ l. done ++ l) (sym (none_covered 0 cells) ∙ ap (λ l. cells_at (is_covered l) 0 cells) (sym (drop_all c.loop-range.range-index c.args.ranges.now (omega arith)))) ∙ c.loop-range.invariant.cells
