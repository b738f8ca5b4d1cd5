use Rattle.std.proofs.Common.{refl}
use Rattle.std.proofs.lemmas.Result.{err_from_is_err_and}
use Rattle.rt_ops.specs.Operations.{Delete}
use Rattle.rt_ops.proofs.Rooms.{delete_fits}
use Rattle.rt_ops.proofs.Parts.{decided, no_deletion, refused_as}
use Rattle.rt_ops.proofs.decode.delete_of.Goals as goal

pub returns : goal.returns
returns c =
    let read = c.in_ok-spans.ensures in
    rw c.delete.ensures (decided c.args.version 2 c.args.stamp c.args.prev (Delete c.in_ok-spans.spans.items) c.args.bytes.now refl (delete_fits c.args.version c.in_ok-spans.spans.items read.0.each) read.0 read.1)

pub returns-in_err-spans : goal.returns-in_err-spans
returns-in_err-spans c =
    let p = err_from_is_err_and c.from_residual.result c.from_residual.ensures.1 in
    rw (p.1, p.2) (refused_as c.in_err-spans.field-0.0 (no_deletion c.args.bytes.now) c.in_err-spans.ensures)
