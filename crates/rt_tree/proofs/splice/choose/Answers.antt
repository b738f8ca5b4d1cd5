use Rattle.std.proofs.Common.{drop, arith, refl, sym, ◌∙◌}
use Rattle.rt_tree.specs.Shape.{tree_runs}
use Rattle.rt_tree.proofs.Shared.{apart_chosen, apart_lone, chosen_twice}
use Rattle.rt_tree.proofs.splice.choose.Goals as goal

pub is_in_two-requires-clause-known : goal.is_in_two-requires-clause-known
is_in_two-requires-clause-known c = record { text = c.args.new.now.text.now; kept = c.requires.kept; upto = c.requires.upto }

pub returns-then-lone-gt0-clause-apart : goal.returns-then-lone-gt0-clause-apart
returns-then-lone-gt0-clause-apart c =
    let o = c.lone_run-run.ensures.one in
    apart_lone c.lone_run-run.result (tree_runs c.args.mem.now c.args.root.index) (omega (arith, o)) c.requires.apart

pub returns-then-is_in_two-clause-apart : goal.returns-then-is_in_two-clause-apart
returns-then-is_in_two-clause-apart c =
    let o = c.lone_run-first.ensures.one in
    apart_lone c.lone_run-first.result (tree_runs c.args.mem.now c.args.root.index) (omega (arith, o)) c.requires.apart

pub returns-then-is_in_two-clause-stretch : goal.returns-then-is_in_two-clause-stretch
returns-then-is_in_two-clause-stretch c =
    let cells = drop c.args.done c.args.new.now.cells.now in let run = c.next_run-run.result in
    λ none once. absurd (chosen_twice c.args.new.now.text.now (tree_runs c.args.mem.now c.args.root.index) run cells c.requires.kept c.next_run-run.ensures.front once (sym c.is_in_two.ensures ∙ c.if-is_in_two.true))

pub returns-clause-run : goal.returns-clause-run
returns-clause-run c = c.next_run-run.ensures.front

pub returns-clause-apart : goal.returns-clause-apart
returns-clause-apart c = apart_chosen c.next_run-run.result (tree_runs c.args.mem.now c.args.root.index) (sym c.is_in_two.ensures ∙ c.if-is_in_two.false) c.requires.apart

pub returns-clause-stretch : goal.returns-clause-stretch
returns-clause-stretch c = λ none once. (c.next_run-run.ensures.stretch, refl)

pub is_in_two-requires-clause-some : goal.is_in_two-requires-clause-some
is_in_two-requires-clause-some c = c.next_run-run.ensures.front.run.some

pub is_in_two-requires-clause-counts : goal.is_in_two-requires-clause-counts
is_in_two-requires-clause-counts c = c.next_run-run.ensures.front.run.counts
