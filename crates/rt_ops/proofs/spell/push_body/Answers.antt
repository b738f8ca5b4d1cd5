use Rattle.std.proofs.Common.{refl}
use Rattle.std.proofs.lemmas.Result.{err_from_is_err_and}
use Rattle.rt_ops.proofs.Lengths.{names_fit}
use Rattle.rt_ops.proofs.Rooms.{deletion_fits, tagging_fits}
use Rattle.rt_ops.proofs.spell.push_body.Goals as goal

pub push_tags-requires-clause-names : goal.push_tags-requires-clause-names
push_tags-requires-clause-names c = names_fit c.in-Insert.after c.in-Insert.tags.now c.in-Insert.text.now (rw c.in-Insert.is at c.requires.rules)

pub returns-in_err-push-in-Tag : goal.returns-in_err-push-in-Tag
returns-in_err-push-in-Tag c =
    let (y, is, gives) = err_from_is_err_and c.from_residual-in_err-push-in-Tag.result c.from_residual-in_err-push-in-Tag.ensures.1 in
    rw (is, gives) (record { ok = tt; fits = tt; fault = refl })

pub returns-in_err-push_stamp-in-Insert : goal.returns-in_err-push_stamp-in-Insert
returns-in_err-push_stamp-in-Insert c =
    let (y, is, gives) = err_from_is_err_and c.from_residual.result c.from_residual.ensures.1 in
    rw (is, gives) (record { ok = tt; fits = tt; fault = c.in_err-push_stamp-in-Insert.ensures.fault })

pub returns-in_err-push_tags-in-Insert : goal.returns-in_err-push_tags-in-Insert
returns-in_err-push_tags-in-Insert c =
    let (y, is, gives) = err_from_is_err_and c.from_residual-in_err-push_tags-in-Insert.result c.from_residual-in_err-push_tags-in-Insert.ensures.1 in
    rw (is, gives) (record { ok = tt; fits = tt; fault = c.in_err-push_tags-in-Insert.ensures.fault })

pub returns-in_err-push_name-in-Tag : goal.returns-in_err-push_name-in-Tag
returns-in_err-push_name-in-Tag c =
    let (y, is, gives) = err_from_is_err_and c.from_residual-in_err-push_name-in-Tag.result c.from_residual-in_err-push_name-in-Tag.ensures.1 in
    rw (is, gives) (record { ok = tt; fits = tt; fault = c.in_err-push_name-in-Tag.ensures.fault })

pub returns-in-Delete-clause-fits : goal.returns-in-Delete-clause-fits
returns-in-Delete-clause-fits c =
    rw c.in-Delete.is (deletion_fits c.args.version c.in-Delete.spans.now c.push_spans.result c.push_spans.ensures.fits)

pub returns-in_ok-push_name-in-Tag-clause-fits : goal.returns-in_ok-push_name-in-Tag-clause-fits
returns-in_ok-push_name-in-Tag-clause-fits c =
    rw c.in-Tag.is (tagging_fits c.args.version c.in-Tag.on _ c.in-Tag.spans.now c.push_spans-in-Tag.result c.push_spans-in-Tag.ensures.fits)
