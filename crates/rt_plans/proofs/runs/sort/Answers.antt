use Rattle.std.proofs.Common.{◌≡◌, rules}
use Rattle.std.proofs.lemmas.Fn.{always_returns_same}
use Rattle.rt_plans.proofs.JoinedSpans.{sorted_spans}
use Rattle.rt_plans.proofs.runs.sort.Goals as goal

pub returns-clause-sorted : goal.returns-clause-sorted
returns-clause-sorted c =
    sorted_spans c.sort_unstable_by_key.new.self.items
    (c.sort_unstable_by_key.ensures.sorted (λ s. (s.site, s.first)) (always_returns_same _ (λ a r. r ≡ (a.0.now.site, a.0.now.first)) _ (λ a r q k. search rules)))
