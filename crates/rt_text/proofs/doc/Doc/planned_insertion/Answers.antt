use Rattle.std.proofs.Common.{◌≡◌, ◌∙◌, ◌<◌, ◌⊎◌, ap, inl, inr, refl, subst}
use Rattle.std.specs.Prelude.{option_map}
use Rattle.std.proofs.lemmas.Result.{IfErr-weaker, IfOk-weaker}
use Rattle.rt_stamps.specs.declared.limits.TheConstants.{GREATEST_COUNT, MOST_CHARACTERS}
use Rattle.rt_store.specs.Shown.{shown}
use Rattle.rt_plans.specs.DocValue.{DocValue}
use Rattle.rt_plans.specs.InsertionDrafts.{insertion_drafts}
use Rattle.rt_plans.specs.InsertionPlans.{Plans}
use Rattle.rt_plans.specs.Insertions.{Insertion, insertion_of}
use Rattle.rt_plans.specs.Selected.{selected_stamps}
use Rattle.rt_text.specs.Owned.{widget_value}
use Rattle.rt_text.specs.Widgets.{selections_of}
use Rattle.rt_text.proofs.InsertedDocument.{begun}
use Rattle.rt_text.proofs.InsertedSides.{any_some}
use Rattle.rt_text.proofs.ViewLaws.{viewed}
use Rattle.rt_text.proofs.doc.Doc.planned_insertion.Goals as goal

either : {A B C : Type 0} → (B → C) → A ⊎ B → A ⊎ C
either f (inl a) = inl a
either f (inr b) = inr (f b)

pub returns-clause-drafts : goal.returns-clause-drafts
returns-clause-drafts g c =
    let (states, gap) = c.neighbours-gap.result in
    let stamps = selected_stamps c.args.widget.now.selection in
    let site = c.site-site.ensures ∙ ap (λ (f : DocValue). f.site) c.self.view_is in
    let count = c.seen-count.ensures.value ∙ c.clock.ensures ∙ ap (λ (f : DocValue). f.count) c.self.view_is in
    IfOk-weaker c.planned_between.result _ _
    (λ plan h others. h stamps (selections_of others) c.args.self.now.tags (any_some gap.right (stamps ≡ stamps) refl)
    ∙ begun (λ s start. insertion_drafts MOST_CHARACTERS s gap.after (option_map (shown states.now) gap.left) (option_map (shown states.now) gap.right) c.args.text.pieces.now c.args.text.rest.now start)
    c.site-site.result.number c.seen-count.result stamps (viewed c.args.self.now (widget_value c.args.widget.now) others) site count refl
    ∙ c.neighbours-gap.ensures.drafts others c.args.text.rest.now)
    c.planned_between.ensures.drafts

pub returns-clause-plans : goal.returns-clause-plans
returns-clause-plans g c =
    let (states, gap) = c.neighbours-gap.result in
    let stamps = selected_stamps c.args.widget.now.selection in
    let site = c.site-site.ensures ∙ ap (λ (f : DocValue). f.site) c.self.view_is in
    let count = c.seen-count.ensures.value ∙ c.clock.ensures ∙ ap (λ (f : DocValue). f.count) c.self.view_is in
    let tags = c.args.self.now.tags in
    IfOk-weaker c.planned_between.result _ _
    (λ plan h others.
    let same = begun (λ s start. insertion_of s (option_map (shown states.now) gap.left) (option_map (shown states.now) gap.right) c.args.text.pieces.now c.args.text.rest.now start)
    c.site-site.result.number c.seen-count.result stamps (viewed c.args.self.now (widget_value c.args.widget.now) others) site count refl
    ∙ c.neighbours-gap.ensures.comes others c.args.text.rest.now in
    subst (λ (p : _). p) (λ i. Plans plan stamps (selections_of others) tags (same i)) (h stamps (selections_of others) tags (any_some gap.right (stamps ≡ stamps) refl)))
    c.planned_between.ensures.plans

pub returns-clause-err : goal.returns-clause-err
returns-clause-err g c =
    let (states, gap) = c.neighbours-gap.result in
    let stamps = selected_stamps c.args.widget.now.selection in
    let site = c.site-site.ensures ∙ ap (λ (f : DocValue). f.site) c.self.view_is in
    let count = c.seen-count.ensures.value ∙ c.clock.ensures ∙ ap (λ (f : DocValue). f.count) c.self.view_is in
    IfErr-weaker c.planned_between.result _ _
    (λ fault h. either (λ q. (
      q.0,
      λ others.
          let same = begun (λ s start. insertion_of s (option_map (shown states.now) gap.left) (option_map (shown states.now) gap.right) c.args.text.pieces.now c.args.text.rest.now start)
          c.site-site.result.number c.seen-count.result stamps (viewed c.args.self.now (widget_value c.args.widget.now) others) site count refl
          ∙ c.neighbours-gap.ensures.comes others c.args.text.rest.now in
          subst (λ (new : Insertion). GREATEST_COUNT < new.count) same
          (q.1 stamps (selections_of others) c.args.self.now.tags (any_some gap.right (stamps ≡ stamps) refl)),
    )) h)
    c.planned_between.ensures.err
