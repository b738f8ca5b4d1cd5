use Rattle.std.proofs.Common.{◌≡◌, ℕ, ◌+◌, ◌<◌, ap, arith, sym, true, ◌∙◌}
use Rattle.std.specs.Prelude.{is_some}
use Rattle.std.proofs.lemmas.Bool.Decides.{nat_tests}
use Rattle.rt_stamps.specs.declared.stamp.Stamp.{Stamp}
use Rattle.rt_tree.specs.declared.node.Run.{Run}
use Rattle.rt_tree.specs.Runs.{has_cell}
use Rattle.rt_tree.proofs.homes.Homes.has_none.Goals as goal

in_run : (run : Run) (offset : ℕ) → offset < run.len → has_cell run (record { count = run.first + offset; site = run.site }) ≡ true
in_run run offset lt = grind (arith, nat_tests)

-- a stamp of the run has a leaf
pub returns-then-is_some-clause-all : goal.returns-then-is_some-clause-all
returns-then-is_some-clause-all c = λ unknown.
    let run = c.args.run.now in
    let lt = c.loop-offset-test.true in
    let stamp : Stamp = record { count = run.first + c.loop-offset.offset; site = run.site } in
    let none = unknown stamp (in_run run c.loop-offset.offset (omega (arith, lt))) in
    sym (ap is_some (c.get.ensures ∙ none)) ∙ sym c.is_some.ensures ∙ c.if-is_some.true
