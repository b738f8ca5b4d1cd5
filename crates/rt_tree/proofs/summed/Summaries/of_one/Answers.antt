use Rattle.std.proofs.Common.{◌≡◌, [], ◌∷◌, ◌++◌, List, ap, arith, subst, sym, ◌∙◌}
use Rattle.rt_tree.specs.declared.summary.Summary.{Summary}
use Rattle.rt_tree.specs.Summaries.{IsSummary, summary_of}
use Rattle.rt_tree.proofs.summed.Summaries.of_one.Goals as goal

pub returns-clause-is : goal.returns-clause-is
returns-clause-is c table =
    let all : c.push.new.self.items ≡ c.one_run.result ∷ [] = c.in_ok-push.ensures.items ∙ ap (λ (l : List Summary). l ++ c.one_run.result ∷ []) c.new-sums.ensures.nodes in
    subst (λ (l : List Summary). IsSummary table (c.args.state ∷ []) (summary_of l 0)) (sym all) (c.one_run.ensures table)

pub returns-clause-memory : goal.returns-clause-memory
returns-clause-memory c =
    let none = c.new-sums.ensures.tags in let m = c.new-sums.ensures.memory in
    record { each = λ id is. omega (arith, none); minus = m.minus; plus = m.plus; spare = m.spare }
