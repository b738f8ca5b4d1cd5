use Rattle.std.proofs.Common.{◌≡◌, [], length, refl, sym, ◌∙◌, ap, arith}
use Rattle.std.proofs.lemmas.Bool.Decides.{nat_tests}
use Rattle.rt_script.proofs.RunLaws.{ran_none, last_none, ran_last, length_none}
use Rattle.rt_script.proofs.engine.finish.Goals as goal

pub returns-then-is_empty-clause-ran : goal.returns-then-is_empty-clause-ran
returns-then-is_empty-clause-ran g c = λ rest is.
    let none : c.args.pending.now ≡ [] = length_none _ (grind (arith, nat_tests)) in
    (rw (last_none rest (sym is ∙ none)) (ran_none _ _), refl)

pub returns-clause-ran : goal.returns-clause-ran
returns-clause-ran g c = λ rest is.
    let some : length c.args.pending.now ≡ 0 → ⊥ = grind (arith, nat_tests) in
    ran_last _ _ _ rest c.run_line.result (rw is at c.run_line.ensures.ran) (λ e. some (ap length (is ∙ e))) c.run_line.ensures.fault c.run_line.ensures.failures
