use Rattle.std.proofs.Common.{◌∙◌, refl, string_bytes}
use Rattle.std.proofs.lemmas.Result.{err_from_is_err_and}
use Rattle.rt_peers.proofs.Steps.{one_more_word}
use Rattle.rt_peers.proofs.pieces.copied.Goals as goal

pub returns-in_err-copies : goal.returns-in_err-copies
returns-in_err-copies c =
    let (y, is, gives) = err_from_is_err_and c.from_residual.result c.from_residual.ensures.1 in
    rw (is, gives) (record { ok = tt; err = refl })

pub returns-in_err-from_str : goal.returns-in_err-from_str
returns-in_err-from_str c =
    let (y, is, gives) = err_from_is_err_and c.from_residual-in_err-from_str.result c.from_residual-in_err-from_str.ensures.1 in
    rw (is, gives) (record { ok = tt; err = refl })

pub returns-in_err-push : goal.returns-in_err-push
returns-in_err-push c =
    let (y, is, gives) = err_from_is_err_and c.from_residual-in_err-push.result c.from_residual-in_err-push.ensures.1 in
    rw (is, gives) (record { ok = tt; err = refl })

pub loop-word-preserved : goal.loop-word-preserved
loop-word-preserved c =
    one_more_word (λ w. string_bytes w) _ _ _ c.args.words.now _ _ c.in_ok-push.ensures.items (c.in_ok-from_str.ensures.ok ∙ c.deref.ensures) c.loop-word-test.true c.word-item.is c.loop-word.invariant
