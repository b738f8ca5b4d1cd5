use Rattle.std.proofs.Common.{◌≡◌, ◌++◌, map}
use Rattle.std.specs.Slice.Iter.{chunks_rest, chunks_size}
use Rattle.rt_stamps.specs.declared.limits.TheConstants.{MOST_SPANS}
use Rattle.rt_ops.specs.Edits.{body_of}
use Rattle.rt_ops.specs.Operations.{Delete}
use Rattle.rt_plans.specs.NamedSpans.{parts_of}
use Rattle.rt_plans.proofs.parts.push_deletes.Given as goal

abbrev pub invariant-loop-part : goal.invariant-loop-part
invariant-loop-part l = record {
  next : goal.iterator-loop-part.can_next l.part-iterator;
  ends : goal.iterator-loop-part.is_finite l.part-iterator;
  size : chunks_size l.part-iterator ≡ MOST_SPANS;
  drafts : map body_of l.drafts.items ++ map (λ part. Delete part) (parts_of MOST_SPANS (chunks_rest l.part-iterator))
      ≡ map body_of l.fn.drafts.items ++ map (λ part. Delete part) (parts_of MOST_SPANS l.fn.spans);
}
