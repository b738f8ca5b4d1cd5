use Rattle.std.proofs.Common.{◌∙◌, ◌++◌, ap, map}
use Rattle.rt_stamps.specs.declared.limits.TheConstants.{MOST_SPANS}
use Rattle.rt_ops.specs.Edits.{body_of}
use Rattle.rt_store.specs.Shown.{shown}
use Rattle.rt_plans.specs.Removals.{is_covered}
use Rattle.rt_plans.specs.TagDrafts.{tag_drafts_at}
use Rattle.rt_plans.proofs.drafting.planned_tag.Goals as goal

pub returns-clause-ok : goal.returns-clause-ok
returns-clause-ok g c =
    let shows = map (shown c.args.states.now) (g.S.TextStore.list c.args.store.now) in
    c.in_ok-push_changes.ensures.ok ∙ ap (λ l. map body_of l ++ tag_drafts_at MOST_SPANS (is_covered c.args.ranges.now) c.args.on c.args.name.now shows) c.new-drafts.ensures.items
