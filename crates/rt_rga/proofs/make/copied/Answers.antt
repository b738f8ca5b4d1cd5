use Rattle.std.proofs.Common.{◌∙◌, ◌++◌, ◌∷◌, [], arith, sym}
use Rattle.std.proofs.lemmas.List.{take_all, take_more}
use Rattle.std.proofs.lemmas.Result.{err_from_is_err_and}
use Rattle.rt_rga.proofs.make.copied.Goals as goal

pub returns-in_err-copied : goal.returns-in_err-copied
returns-in_err-copied c =
    let (y, is, gives) = err_from_is_err_and c.from_residual-in_err-copied.result c.from_residual-in_err-copied.ensures.1 in
    rw (is, gives) (record { ops = tt; fault = c.in_err-copied.ensures.fault })

pub push_reserved-requires : goal.push_reserved-requires
push_reserved-requires c = omega (arith, c.loop-op.invariant.room, c.loop-op-test.true)

pub loop-op-preserved : goal.loop-op-preserved
loop-op-preserved c =
    let copy = c.in_ok-copied.ensures.copy ∙ c.op-item.is in
    record {
      copies = c.push_reserved.ensures.items
          ∙ (λ j. c.loop-op.invariant.copies j ++ copy j ∷ [])
          ∙ sym (take_more c.args.ops.now c.loop-op.op-index c.op-item.result c.loop-op-test.true);
      room = omega (arith, c.loop-op.invariant.room, c.push_reserved.ensures.len, c.push_reserved.ensures.capacity);
    }

pub returns : goal.returns
returns c = record { ops = c.loop-op.invariant.copies ∙ take_all c.loop-op.op-index c.args.ops.now c.loop-op-test.false; fault = tt }
