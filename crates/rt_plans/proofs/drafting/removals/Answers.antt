use Rattle.std.proofs.Common.{◌∙◌, ◌++◌, ap, map, List}
use Rattle.rt_stamps.specs.declared.limits.TheConstants.{MOST_SPANS}
use Rattle.rt_stamps.specs.declared.stamp.Span.{Span}
use Rattle.rt_ops.specs.Edits.{body_of}
use Rattle.rt_ops.specs.Operations.{Delete}
use Rattle.rt_plans.specs.NamedSpans.{parts_of}
use Rattle.rt_plans.proofs.drafting.removals.Goals as goal

pub returns-clause-ok : goal.returns-clause-ok
returns-clause-ok g c =
    let deletes = λ (spans : List Span). map (λ (part : List Span). Delete part) (parts_of MOST_SPANS spans) in
    c.in_ok-push_deletes.ensures.ok ∙ ap (λ l. map body_of l ++ deletes c.deref.result.now) c.new-drafts.ensures.items ∙ ap deletes (c.deref.ensures.value ∙ c.in_ok-spans.ensures.ok)
