use Rattle.std.proofs.lemmas.Result.{err_from_is_err_and}
use Rattle.std.proofs.Common.{refl}
use Rattle.rt_ops.specs.Views.{operation_in}
use Rattle.rt_ops.proofs.Lengths.{content_short}
use Rattle.rt_ops.proofs.spell.push_content.Goals as goal

pub returns-in_err-push-clause-ok : goal.returns-in_err-push-clause-ok
returns-in_err-push-clause-ok c =
    let p = err_from_is_err_and c.from_residual.result c.from_residual.ensures.1 in
    rw p.1 tt

pub returns-in_err-push-clause-record : goal.returns-in_err-push-clause-record
returns-in_err-push-clause-record c =
    let p = err_from_is_err_and c.from_residual.result c.from_residual.ensures.1 in
    rw p.1 tt

pub returns-in_err-push-clause-fault : goal.returns-in_err-push-clause-fault
returns-in_err-push-clause-fault c =
    let p = err_from_is_err_and c.from_residual.result c.from_residual.ensures.1 in
    rw (p.1, p.2) refl

pub returns-in_err-push_stamp-clause-ok : goal.returns-in_err-push_stamp-clause-ok
returns-in_err-push_stamp-clause-ok c =
    let p = err_from_is_err_and c.from_residual-in_err-push_stamp.result c.from_residual-in_err-push_stamp.ensures.1 in
    rw p.1 tt

pub returns-in_err-push_stamp-clause-record : goal.returns-in_err-push_stamp-clause-record
returns-in_err-push_stamp-clause-record c =
    let p = err_from_is_err_and c.from_residual-in_err-push_stamp.result c.from_residual-in_err-push_stamp.ensures.1 in
    rw p.1 tt

pub returns-in_err-push_stamp-clause-fault : goal.returns-in_err-push_stamp-clause-fault
returns-in_err-push_stamp-clause-fault c =
    let p = err_from_is_err_and c.from_residual-in_err-push_stamp.result c.from_residual-in_err-push_stamp.ensures.1 in
    rw (p.1, p.2) c.in_err-push_stamp.ensures.fault

pub returns-in_err-push_u64-clause-ok : goal.returns-in_err-push_u64-clause-ok
returns-in_err-push_u64-clause-ok c =
    let p = err_from_is_err_and c.from_residual-in_err-push_u64.result c.from_residual-in_err-push_u64.ensures.1 in
    rw p.1 tt

pub returns-in_err-push_u64-clause-record : goal.returns-in_err-push_u64-clause-record
returns-in_err-push_u64-clause-record c =
    let p = err_from_is_err_and c.from_residual-in_err-push_u64.result c.from_residual-in_err-push_u64.ensures.1 in
    rw p.1 tt

pub returns-in_err-push_u64-clause-fault : goal.returns-in_err-push_u64-clause-fault
returns-in_err-push_u64-clause-fault c =
    let p = err_from_is_err_and c.from_residual-in_err-push_u64.result c.from_residual-in_err-push_u64.ensures.1 in
    rw (p.1, p.2) c.in_err-push_u64.ensures.fault

pub returns-in_err-push-clause-short : goal.returns-in_err-push-clause-short
returns-in_err-push-clause-short c = content_short c.args.version (operation_in c.args.op) c.requires.rules

pub returns-in_err-push_stamp-clause-short : goal.returns-in_err-push_stamp-clause-short
returns-in_err-push_stamp-clause-short c = content_short c.args.version (operation_in c.args.op) c.requires.rules

pub returns-in_err-push_u64-clause-short : goal.returns-in_err-push_u64-clause-short
returns-in_err-push_u64-clause-short c = content_short c.args.version (operation_in c.args.op) c.requires.rules

pub returns-clause-short : goal.returns-clause-short
returns-clause-short c = content_short c.args.version (operation_in c.args.op) c.requires.rules
