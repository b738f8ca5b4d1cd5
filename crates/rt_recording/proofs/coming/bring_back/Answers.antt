use Rattle.std.proofs.Common.{◌∙◌, arith}
use Rattle.rt_undo.specs.Renames.{is_moved}
use Rattle.rt_undo.specs.Undo.{renamed_by}
use Rattle.rt_recording.specs.Returns.{back_after, stamp_after}
use Rattle.rt_recording.proofs.Renamed.{history_end, history_step, moves_end, moves_step, return_now, returns_step}
use Rattle.rt_recording.proofs.coming.bring_back.Goals as goal

pub loop-back-preserved : goal.loop-back-preserved
loop-back-preserved c =
    let returns = c.args.returns.now in
    let i = c.loop-back.back-index in
    let old = c.loop-back.stacks in
    let new = c.bring_one.new.stacks in
    let l = c.loop-back-test.true in
    record {
      history = history_step returns i _ old.history new.history (renamed_by (stamp_after returns) c.args.stacks.now.history) l c.bring_one.ensures.history c.loop-back.invariant.history;
      moves = moves_step returns i _ old.moves new.moves (back_after returns (is_moved c.args.stacks.now.moves)) l c.bring_one.ensures.moves c.loop-back.invariant.moves;
      returns = returns_step returns i _ old.moves new.moves l c.bring_one.ensures.moves c.loop-back.invariant.returns;
      room = omega (arith, c.bring_one.ensures.room, c.loop-back.invariant.room);
      ready = c.bring_one.ensures.ready ∙ c.loop-back.invariant.ready;
    }

pub bring_one-requires-clause-first_time : goal.bring_one-requires-clause-first_time
bring_one-requires-clause-first_time c =
    let returns = c.args.returns.now in
    (return_now returns c.loop-back.back-index _ (is_moved c.loop-back.stacks.moves) c.loop-back-test.true c.loop-back.invariant.returns).0

pub returns-clause-history : goal.returns-clause-history
returns-clause-history c = history_end c.args.returns.now c.loop-back.back-index c.loop-back.stacks.history c.loop-back-test.false ∙ c.loop-back.invariant.history

pub returns-clause-moves : goal.returns-clause-moves
returns-clause-moves c stamp = moves_end c.args.returns.now c.loop-back.back-index (is_moved c.loop-back.stacks.moves) stamp c.loop-back-test.false ∙ c.loop-back.invariant.moves stamp
