use Rattle.std.proofs.Common.{refl}
use Rattle.std.proofs.lemmas.Result.{err_from_is_err_and}
use Rattle.rt_peers.specs.ViewStep.{as_piece}
use Rattle.rt_peers.proofs.Steps.{one_more}
use Rattle.rt_peers.proofs.pieces.owned.Goals as goal

pub returns-in_err-copies : goal.returns-in_err-copies
returns-in_err-copies c =
    let (y, is, gives) = err_from_is_err_and c.from_residual.result c.from_residual.ensures.1 in
    rw (is, gives) (record { ok = tt; err = refl })

pub returns-in_err-owned_piece : goal.returns-in_err-owned_piece
returns-in_err-owned_piece c =
    let (y, is, gives) = err_from_is_err_and c.from_residual-in_err-owned_piece.result c.from_residual-in_err-owned_piece.ensures.1 in
    rw (is, gives) (record { ok = tt; err = c.in_err-owned_piece.ensures.err })

pub returns-in_err-push : goal.returns-in_err-push
returns-in_err-push c =
    let (y, is, gives) = err_from_is_err_and c.from_residual-in_err-push.result c.from_residual-in_err-push.ensures.1 in
    rw (is, gives) (record { ok = tt; err = refl })

pub loop-piece-preserved : goal.loop-piece-preserved
loop-piece-preserved c =
    one_more as_piece _ _ _ c.args.pieces.now _ _ c.in_ok-push.ensures.items c.in_ok-owned_piece.ensures.ok c.loop-piece-test.true c.piece-item.is c.loop-piece.invariant
