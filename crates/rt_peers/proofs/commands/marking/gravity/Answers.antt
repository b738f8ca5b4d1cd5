use Rattle.std.proofs.Common.{inl, inr, refl, sym}
use Rattle.std.proofs.lemmas.Result.{err_from_is_err_and}
use Rattle.rt_marks.specs.Marks.{gravity_word}
use Rattle.rt_peers.specs.ViewStep.{one_word}
use Rattle.rt_tagcmd.specs.MarkCommands.{mark_gravity}
use Rattle.rt_peers.proofs.Steps.{refused_as, replied_as}
use Rattle.rt_peers.proofs.commands.marking.gravity.Goals as goal

pub returns-in_err-gravity : goal.returns-in_err-gravity
returns-in_err-gravity c =
    let p = err_from_is_err_and c.from_residual.result c.from_residual.ensures.1 in
    rw p.1 (refl, refused_as (λ gravity. one_word (gravity_word gravity)) c.args.view.now _ _ p.0 c.in_err-gravity.field-0.0 (λ i. mark_gravity c.args.view.now (c.text.ensures i)) (inr (sym c.in_err-gravity.ensures)) p.2)

pub returns-in_err-from_str : goal.returns-in_err-from_str
returns-in_err-from_str c =
    let (y, is, gives) = err_from_is_err_and c.from_residual-in_err-from_str.result c.from_residual-in_err-from_str.ensures.1 in
    rw (is, gives) (refl, inl refl)

pub returns : goal.returns
returns c = replied_as (λ gravity. one_word (gravity_word gravity)) c.args.view.now _ _ c.in_ok-gravity.gravity c.one_word.result (λ i. mark_gravity c.args.view.now (c.text.ensures i)) (sym c.in_ok-gravity.ensures) (rw (← c.word.ensures, ← c.in_ok-from_str.ensures.ok) c.one_word.ensures.ok) c.one_word.ensures.err
