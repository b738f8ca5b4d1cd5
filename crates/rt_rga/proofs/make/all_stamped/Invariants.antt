use Rattle.std.proofs.Common.{◌≡◌, ◌+◌, ◌≤◌, ◌++◌, true, length, map}
use Rattle.std.specs.Prelude.{All, vec_capacity, vec_len}
use Rattle.std.specs.Vec.Iter.{into_iter_items}
use Rattle.rt_stamps.specs.declared.limits.TheConstants.{GREATEST_COUNT}
use Rattle.rt_ops.specs.Edits.{body_of}
use Rattle.rt_ops.specs.Rules.{keeps_rules}
use Rattle.rt_rga.specs.Making.{operations_from}
use Rattle.rt_rga.specs.Requests.{last_count_after}
use Rattle.rt_rga.proofs.make.all_stamped.Given as goal

abbrev pub invariant-loop-draft : goal.invariant-loop-draft
invariant-loop-draft l = record {
  ops : l.ops.items ++ operations_from l.site l.last l.prev (map body_of (into_iter_items l.draft-iterator)) ≡ operations_from l.site l.fn.last l.fn.prev (map body_of l.fn.drafts.items);
  room : vec_len l.ops + length (into_iter_items l.draft-iterator) ≤ vec_capacity l.ops;
  rules : All (λ draft. keeps_rules (body_of draft) ≡ true) (into_iter_items l.draft-iterator);
  fits : last_count_after l.last (map body_of (into_iter_items l.draft-iterator)) ≤ GREATEST_COUNT;
}
