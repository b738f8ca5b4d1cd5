use Rattle.std.proofs.Common.{refl}
use Rattle.std.proofs.lemmas.Result.{err_from_is_err_and}
use Rattle.rt_ops.proofs.view.EditView.copied.Goals as goal

pub returns-in_err-copies_of-in-Insert : goal.returns-in_err-copies_of-in-Insert
returns-in_err-copies_of-in-Insert c =
    let (y, is, gives) = err_from_is_err_and c.from_residual.result c.from_residual.ensures.1 in
    rw (is, gives) (record { copy = tt; fault = c.in_err-copies_of-in-Insert.ensures.fault })

pub returns-in_err-copy_of-in-Insert : goal.returns-in_err-copy_of-in-Insert
returns-in_err-copy_of-in-Insert c =
    let (y, is, gives) = err_from_is_err_and c.from_residual-in_err-copy_of-in-Insert.result c.from_residual-in_err-copy_of-in-Insert.ensures.1 in
    rw (is, gives) (record { copy = tt; fault = c.in_err-copy_of-in-Insert.ensures.fault })

pub returns-in_err-from_slice-in-Delete : goal.returns-in_err-from_slice-in-Delete
returns-in_err-from_slice-in-Delete c =
    let (y, is, gives) = err_from_is_err_and c.from_residual-in_err-from_slice-in-Delete.result c.from_residual-in_err-from_slice-in-Delete.ensures.1 in
    rw (is, gives) (record { copy = tt; fault = refl })

pub returns-in_err-from_str-in-Tag : goal.returns-in_err-from_str-in-Tag
returns-in_err-from_str-in-Tag c =
    let (y, is, gives) = err_from_is_err_and c.from_residual-in_err-from_str-in-Tag.result c.from_residual-in_err-from_str-in-Tag.ensures.1 in
    rw (is, gives) (record { copy = tt; fault = refl })

pub returns-in_err-from_slice-in-Tag : goal.returns-in_err-from_slice-in-Tag
returns-in_err-from_slice-in-Tag c =
    let (y, is, gives) = err_from_is_err_and c.from_residual-in_err-from_slice-in-Tag.result c.from_residual-in_err-from_slice-in-Tag.ensures.1 in
    rw (is, gives) (record { copy = tt; fault = refl })
