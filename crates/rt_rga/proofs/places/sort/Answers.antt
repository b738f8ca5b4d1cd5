use Rattle.std.proofs.Common.{◌≡◌, rules}
use Rattle.std.specs.Ordering.{is_lt, nat_cmp}
use Rattle.std.proofs.lemmas.Fn.{always_returns_same}
use Rattle.std.proofs.lemmas.List.Sorted.{IsStrictWeakOrder-flip, ranks_by}
use Rattle.std.proofs.lemmas.Cmp.{nat_cmp_total}
use Rattle.rt_rga.proofs.PlaceRuns.{sorted_fall}
use Rattle.rt_rga.specs.declared.taken.PlaceRun.{PlaceRun}
use Rattle.rt_rga.proofs.places.sort.Goals as goal

pub returns-clause-falling : goal.returns-clause-falling
returns-clause-falling c =
    sorted_fall c.sort_unstable_by.new.self.items
    (c.sort_unstable_by.ensures.sorted (λ a b. is_lt (nat_cmp b.to a.to)) (IsStrictWeakOrder-flip (λ (a b : PlaceRun). is_lt (nat_cmp a.to b.to)) (ranks_by nat_cmp_total (λ (x : PlaceRun). x.to)))
    (always_returns_same _ (λ a r. is_lt r ≡ is_lt (nat_cmp a.1.0.now.to a.0.now.to)) _ (λ a r q k. search rules)))
