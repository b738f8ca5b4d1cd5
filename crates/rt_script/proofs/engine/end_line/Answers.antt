use Rattle.std.proofs.Common.{◌≡◌, [], ap, ◌∙◌, arith}
use Rattle.std.proofs.lemmas.Bool.Decides.{nat_tests}
use Rattle.std.proofs.lemmas.Result.{err_from_is_err_and}
use Rattle.rt_script.specs.Lines.{without_return}
use Rattle.rt_script.proofs.RunLaws.{kept_line, length_none, on_any, unstored_line, whole_line}
use Rattle.rt_script.proofs.engine.end_line.Goals as goal

pub returns-then-is_empty-clause-ran : goal.returns-then-is_empty-clause-ran
returns-then-is_empty-clause-ran g c = λ front is.
    let none : c.args.pending.now.items ≡ [] = length_none _ (grind (arith, nat_tests)) in
    whole_line _ _ _ front c.args.bytes.now _ c.without_return.result.now c.run_line.result is none c.without_return.ensures c.run_line.ensures.ran c.run_line.ensures.fault c.run_line.ensures.failures

pub returns-then-is_empty-clause-rest : goal.returns-then-is_empty-clause-rest
returns-then-is_empty-clause-rest g c =
    let none : c.args.pending.now.items ≡ [] = length_none _ (grind (arith, nat_tests)) in
    on_any _ _ none

pub keep-requires : goal.keep-requires
keep-requires g c = c.requires

pub returns-in_err-keep-clause-ran : goal.returns-in_err-keep-clause-ran
returns-in_err-keep-clause-ran g c = λ front is.
    let p = err_from_is_err_and c.from_residual.result c.from_residual.ensures.1 in
    rw (p.1, p.2) (unstored_line _ _ _ _ c.in_err-keep.ensures.fault)

pub returns-in_err-run_line-clause-ran : goal.returns-in_err-run_line-clause-ran
returns-in_err-run_line-clause-ran g c = λ front is.
    let p = err_from_is_err_and c.from_residual-in_err-run_line.result c.from_residual-in_err-run_line.ensures.1 in
    rw (p.1, p.2)
    (kept_line _ _ _ front c.args.bytes.now c.args.pending.now.items c.keep.new.pending.items _ _ is c.in_ok-keep.ensures.kept (c.without_return-2.ensures ∙ ap without_return c.deref.ensures.value)
    c.in_err-run_line.ensures.ran c.in_err-run_line.ensures.fault c.in_err-run_line.ensures.failures)

pub returns-clause-ran : goal.returns-clause-ran
returns-clause-ran g c = λ front is.
    kept_line _ _ _ front c.args.bytes.now c.args.pending.now.items c.keep.new.pending.items _ _ is c.in_ok-keep.ensures.kept (c.without_return-2.ensures ∙ ap without_return c.deref.ensures.value)
    c.in_ok-run_line.ensures.ran c.in_ok-run_line.ensures.fault c.in_ok-run_line.ensures.failures
