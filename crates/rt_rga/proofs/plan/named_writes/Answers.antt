use Rattle.std.proofs.Common.{◌∙◌, ap, List}
use Rattle.rt_ops.specs.Operations.{Operation, stamp_of}
use Rattle.rt_tags.specs.Writers.{state_after}
use Rattle.rt_rga.specs.Batches.{tag_writes, tag_writes_by}
use Rattle.rt_tags.proofs.Listing.{keeps_both}
use Rattle.rt_rga.proofs.PlannedEntries.{operation_more}
use Rattle.std.proofs.lemmas.Result.{err_from_is_err_and}
use Rattle.std.proofs.lemmas.List.{take_all}
use Rattle.rt_rga.proofs.plan.named_writes.Goals as goal

pub loop-op-preserved : goal.loop-op-preserved
loop-op-preserved c =
    let op = c.op-item.result in
    record {
      writes = λ state s. c.in_ok-push_named.ensures.writes state s
          ∙ ap (λ st. state_after st (tag_writes_by (stamp_of op) op.body s)) (c.loop-op.invariant.writes state s)
          ∙ operation_more c.args.ops.now c.loop-op.op-index op state s c.loop-op-test.true c.op-item.is;
      tags = c.in_ok-push_named.ensures.tags;
      ids = keeps_both c.args.states.now c.loop-op.states c.push_named.new.states c.loop-op.invariant.ids c.push_named.ensures.ids;
    }

-- What a call that fails leaves: its fault, and what was given out keeps its meaning.
pub returns-in_err-push_named : goal.returns-in_err-push_named
returns-in_err-push_named c =
    let (y, is, gives) = err_from_is_err_and c.from_residual.result c.from_residual.ensures.1 in
    rw (is, gives) (record { writes = tt; tags = tt; ids = keeps_both c.args.states.now c.loop-op.states c.push_named.new.states c.loop-op.invariant.ids c.push_named.ensures.ids; fault = c.in_err-push_named.ensures.fault })

pub returns : goal.returns
returns c = record {
  writes = λ state s. c.loop-op.invariant.writes state s
      ∙ ap (λ (ops : List Operation). state_after state (tag_writes ops s)) (take_all c.loop-op.op-index c.args.ops.now c.loop-op-test.false);
  tags = c.loop-op.invariant.tags;
  ids = c.loop-op.invariant.ids;
  fault = tt;
}
