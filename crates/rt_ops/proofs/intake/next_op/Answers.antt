use Rattle.std.proofs.Common.{◌≤◌, ◌<◌, length, sym, ◌∙◌, arith}
use Rattle.std.proofs.lemmas.Result.{err_from_is_err_and}
use Rattle.std.specs.Int.{w32}
use Rattle.rt_ops.specs.File.{number}
use Rattle.rt_ops.proofs.Taken.{not_gathered, short_content, cut_content, refused_content, got_content}
use Rattle.rt_ops.proofs.Unseen.{gave_then, unseen_then}
use Rattle.rt_ops.proofs.intake.next_op.Goals as goal

pub returns-in_err-gather-clause-gets : goal.returns-in_err-gather-clause-gets
returns-in_err-gather-clause-gets g c =
    let p = err_from_is_err_and c.from_residual-in_err-gather.result c.from_residual-in_err-gather.ensures.1 in
    let n = c.in-Some.length in
    let field = rw c.in-Some.is at c.in_ok-length.ensures.gets in
    rw (p.1, p.2) (not_gathered _ _ _ _ _ _ (number w32 n) n c.in_err-gather.field-0.0 field.0 (short_content c.args.version n field.1 field.2) c.in_err-gather.ensures.gathers)

pub returns-then-len-length-clause-gets : goal.returns-then-len-length-clause-gets
returns-then-len-length-clause-gets g c =
    let field = rw c.in-Some.is at c.in_ok-length.ensures.gets in
    let content = c.in_ok-gather.ensures.gathers in
    let few : length c.gather.new.buffer.items < c.in-Some.length = omega (arith, c.if-len-length.true, c.len.ensures, c.gather.new.buffer.ok.0) in
    cut_content _ _ _ _ _ _ c.in-Some.length c.gather.new.buffer.items field.0 field.1 field.2 (content.2 few) few

pub returns-in_err-op-clause-gets : goal.returns-in_err-op-clause-gets
returns-in_err-op-clause-gets g c =
    let p = err_from_is_err_and c.from_residual-in_err-op.result c.from_residual-in_err-op.ensures.1 in
    let field = rw c.in-Some.is at c.in_ok-length.ensures.gets in
    let content = c.in_ok-gather.ensures.gathers in
    let all : c.in-Some.length ≤ length c.gather.new.buffer.items = omega (arith, c.if-len-length.false, c.len.ensures, c.gather.new.buffer.ok.0) in
    rw (p.1, p.2) (refused_content _ _ _ _ _ _ c.in-Some.length c.gather.new.buffer.items c.in_err-op.field-0.0 field.0 field.1 field.2 (content.1 all) content.0 all (rw c.deref.ensures.value at c.in_err-op.ensures))

pub returns-clause-gets : goal.returns-clause-gets
returns-clause-gets g c =
    let field = rw c.in-Some.is at c.in_ok-length.ensures.gets in
    let content = c.in_ok-gather.ensures.gathers in
    let all : c.in-Some.length ≤ length c.gather.new.buffer.items = omega (arith, c.if-len-length.false, c.len.ensures, c.gather.new.buffer.ok.0) in
    let op = c.in_ok-op.ensures in
    (got_content _ _ _ _ _ _ _ c.in-Some.length c.gather.new.buffer.items c.in_ok-op.op field.0 (content.1 all) content.0 all (sym c.deref.ensures.value ∙ op.1), op.0)

pub returns-in_err-gather-clause-unseen : goal.returns-in_err-gather-clause-unseen
returns-in_err-gather-clause-unseen g c =
    let p = err_from_is_err_and c.from_residual-in_err-gather.result c.from_residual-in_err-gather.ensures.1 in
    let n = c.in-Some.length in
    let field = rw c.in-Some.is at c.in_ok-length.ensures.gets in
    let gave = rw c.in-Some.is at c.in_ok-length.ensures.gave in
    rw (p.1, p.2) (λ is same. unseen_then g.R.Source.stream _ _ _ c.args.bounds.now c.next_length.new.bounds (number w32 n) field.0.consumed gave (c.in_err-gather.ensures.unseen is (same ∙ sym field.0.failures)))

pub returns-clause-gave : goal.returns-clause-gave
returns-clause-gave g c =
    let n = c.in-Some.length in
    let field = rw c.in-Some.is at c.in_ok-length.ensures.gets in
    let some : 0 < n = omega (arith, field.1) in
    let all : n ≤ length c.gather.new.buffer.items = omega (arith, c.if-len-length.false, c.len.ensures, c.gather.new.buffer.ok.0) in
    gave_then g.R.Source.stream _ _ _ (number w32 n) field.0.consumed (c.in_ok-gather.ensures.gave some all)
