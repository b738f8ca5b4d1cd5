use Rattle.std.proofs.Common.{◌≤◌, List, map, subst, ◌∙◌, ◌++◌, ap, append-nil, sym}
use Rattle.std.specs.List.{AllByRecursion}
use Rattle.rt_stamps.specs.declared.limits.TheConstants.{GREATEST_COUNT}
use Rattle.rt_ops.specs.Operations.{Operation, last_count}
use Rattle.rt_store.specs.Shown.{shown}
use Rattle.rt_tags.proofs.Listing.{keeps_both}
use Rattle.rt_rga.proofs.Making.{fresh_left, ops_left}
use Rattle.std.proofs.lemmas.Result.{err_from_is_err_and}
use Rattle.std.proofs.lemmas.List.{drop_all}
use Rattle.rt_rga.specs.Making.{fresh_cells}
use Rattle.rt_rga.proofs.make.fresh.Goals as goal

pub loop-op-preserved : goal.loop-op-preserved
loop-op-preserved c =
    let i = c.loop-op.op-index in
    let op = c.op-item.result in
    let left = ops_left c.args.ops.now i op c.loop-op-test.true c.op-item.is in
    record {
      cells = fresh_left c.args.ops.now i op (map (shown c.loop-op.states) c.loop-op.cells) (map (shown c.add_fresh.new.states) c.add_fresh.new.cells) left c.in_ok-add_fresh.ensures.cells c.loop-op.invariant.cells;
      given = c.in_ok-add_fresh.ensures.given;
      ids = keeps_both c.args.states.now c.loop-op.states c.add_fresh.new.states c.loop-op.invariant.ids c.add_fresh.ensures.ids;
      counts = (subst (λ (ops : List Operation). AllByRecursion (λ op. last_count op ≤ GREATEST_COUNT) ops) left c.loop-op.invariant.counts).1;
    }

pub add_fresh-requires : goal.add_fresh-requires
add_fresh-requires c =
    let left = ops_left c.args.ops.now c.loop-op.op-index c.op-item.result c.loop-op-test.true c.op-item.is in
    record {
      counts = (subst (λ (ops : List Operation). AllByRecursion (λ op. last_count op ≤ GREATEST_COUNT) ops) left c.loop-op.invariant.counts).0;
      given = c.loop-op.invariant.given;
    }

pub returns : goal.returns
returns c =
    let made = map (shown c.loop-op.states) c.loop-op.cells in
    record {
      cells = sym (append-nil made) ∙ ap (λ (ops : List Operation). made ++ fresh_cells ops) (sym (drop_all c.loop-op.op-index c.args.ops.now c.loop-op-test.false)) ∙ c.loop-op.invariant.cells;
      given = c.loop-op.invariant.given;
      ids = c.loop-op.invariant.ids;
      fault = tt;
    }

-- What a call that fails leaves: its fault, and what was given out keeps its meaning.
pub returns-in_err-add_fresh : goal.returns-in_err-add_fresh
returns-in_err-add_fresh c =
    let (y, is, gives) = err_from_is_err_and c.from_residual.result c.from_residual.ensures.1 in
    rw (is, gives) (record { cells = tt; given = tt; ids = keeps_both c.args.states.now c.loop-op.states c.add_fresh.new.states c.loop-op.invariant.ids c.add_fresh.ensures.ids; fault = c.in_err-add_fresh.ensures.fault })
