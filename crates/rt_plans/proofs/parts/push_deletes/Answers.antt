use Rattle.std.proofs.Common.{◌∙◌, ap, map, rules}
use Rattle.std.specs.Slice.Iter.{chunks_rest}
use Rattle.rt_ops.specs.declared.op.Edit.TheVariants as edits
use Rattle.rt_ops.specs.Edits.{body_of}
use Rattle.rt_ops.specs.Operations.{Delete}
use Rattle.rt_plans.proofs.Cutting.{draft_more, drafts_end}
use Rattle.rt_plans.proofs.parts.push_deletes.Goals as goal

pub loop-part-preserved : goal.loop-part-preserved
loop-part-preserved c =
    let steps = c.in-Some.ensures.steps in
    let size = c.loop-part.invariant.size in
    record {
      next = search rules;
      ends = tt;
      size = steps.0 ∙ size;
      drafts = draft_more (λ part. Delete part) c.loop-part.drafts.items c.push.new.self.items (edits.Delete c.in_ok-from_slice.field-0)
          (chunks_rest c.loop-part.part-iterator) c.in-Some.part.now (chunks_rest c.next.new.self) c.in_ok-push.ensures.items (ap (λ s. Delete s) c.in_ok-from_slice.ensures.items)
          steps.1.0 (rw size at steps.1.1) steps.1.2 ∙ c.loop-part.invariant.drafts;
    }

pub returns-clause-ok : goal.returns-clause-ok
returns-clause-ok c =
    drafts_end (λ part. Delete part) (map body_of c.loop-part.drafts.items) _ (chunks_rest c.loop-part.part-iterator) c.in-None.ensures.steps.1.0 c.loop-part.invariant.drafts
