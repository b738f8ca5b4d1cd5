use Rattle.std.proofs.Common.{ℕ, List, ◌≡◌, ◌∙◌, [], ◌++◌, ◌<◌, ap, refl, subst, sym}
use Rattle.std.specs.Prelude.{IfSome, IsSomeAnd, Option, Some, None, option_map}
use Rattle.std.specs.Str.{chars}
use Rattle.std.proofs.lemmas.Result.{err_from_is_err_and}
use Rattle.rt_stamps.specs.declared.limits.TheConstants.{GREATEST_COUNT, MOST_CHARACTERS}
use Rattle.rt_stamps.specs.declared.stamp.Stamp.{Stamp}
use Rattle.rt_store.specs.Shown.{shown}
use Rattle.rt_plans.specs.declared.inserting.Plan.{Plan}
use Rattle.rt_plans.specs.InsertionDrafts.{last_element, text_drafts}
use Rattle.rt_plans.specs.InsertionPlans.{Plans}
use Rattle.rt_plans.specs.Insertions.{Insertion, insertion_of, on_left, tags_between, with_pieces, with_unlisted}
use Rattle.rt_plans.specs.Selected.{selected_stamps}
use Rattle.rt_plans.proofs.PlanLaws.{spent, unlisted_count}
use Rattle.rt_plans.proofs.RestLaws.{pieces_others}
use Rattle.rt_plans.proofs.inserting.planned_between.Goals as goal

-- what the widget has selected, where both neighbours are there
its_selection : {X Y : Type 0} (left : Option X) (right : Option Y) (P : X → Y → Type 0) (sel selection : List Stamp) → IsSomeAnd left (λ l. IsSomeAnd right (P l)) → IfSome right (λ _. sel ≡ selection) → sel ≡ selection
its_selection None right P sel selection there h = absurd there
its_selection (Some l) None P sel selection there h = absurd there
its_selection (Some l) (Some r) P sel selection there h = h

pub returns-in_err-between-clause-err : goal.returns-in_err-between-clause-err
returns-in_err-between-clause-err c =
    let r = err_from_is_err_and c.from_residual.result c.from_residual.ensures.1 in
    let t = c.args.states.now in
    let site = c.args.author.site.number in
    rw (r.1, r.2) (spent
    (λ k sel others tags same.
    let start : Insertion = record { cells = []; count = c.args.author.count; sel = sel; others = others; tags = tags } in
    let so_far = with_pieces site c.args.pieces.now start in
    let left = on_left (option_map (shown t) c.args.gap.now.left) so_far.cells in
    subst (λ (n : ℕ). GREATEST_COUNT < n) (sym (unlisted_count site left (option_map (shown t) c.args.gap.now.right) (chars c.args.rest.now) so_far))
    (k c.args.gap.now.after sel tags so_far same (c.in-Ok.ensures.so_far sel others tags)))
    c.in_err-between.ensures.err)

pub returns-clause-drafts : goal.returns-clause-drafts
returns-clause-drafts c = λ sel others tags same.
    let t = c.args.states.now in
    let site = c.args.author.site.number in
    let start : Insertion = record { cells = []; count = c.args.author.count; sel = sel; others = others; tags = tags } in
    let so_far = with_pieces site c.args.pieces.now start in
    let after = c.args.gap.now.after in
    let left = option_map (shown t) c.args.gap.now.left in
    let right = option_map (shown t) c.args.gap.now.right in
    c.in_ok-between.ensures.drafts after sel tags so_far same (c.in-Ok.ensures.so_far sel others tags)
    ∙ ap (λ l. l ++ text_drafts MOST_CHARACTERS site so_far.count (last_element after so_far.cells) (tags_between (on_left left so_far.cells) right) (chars c.args.rest.now))
    (c.in-Ok.ensures.drafts sel others tags)

pub returns-clause-plans : goal.returns-clause-plans
returns-clause-plans c = λ sel others tags same.
    let t = c.args.states.now in
    let site = c.args.author.site.number in
    let start : Insertion = record { cells = []; count = c.args.author.count; sel = sel; others = others; tags = tags } in
    let so_far = with_pieces site c.args.pieces.now start in
    let new = c.add_unlisted.new.self in
    let plan : Plan = record { drafts = new.texts.drafts; characters = new.characters; selected = new.selected; names = new.names; between = c.in_ok-between.between } in
    let all = with_unlisted site (on_left (option_map (shown t) c.args.gap.now.left) so_far.cells) (option_map (shown t) c.args.gap.now.right) (chars c.args.rest.now) so_far in
    subst (λ o. Plans plan sel o tags all) (pieces_others site c.args.pieces.now start)
    (c.in_ok-between.ensures.plans plan c.args.gap.now.after sel tags so_far same (c.in-Ok.ensures.so_far sel others tags) c.requires.after
    (record { characters = refl; selected = refl; names = refl; others = refl }))

pub returns-in_err-between-clause-drafts : goal.returns-in_err-between-clause-drafts
returns-in_err-between-clause-drafts c =
    let p = err_from_is_err_and c.from_residual.result c.from_residual.ensures.1 in
    rw p.1 tt

pub returns-in_err-between-clause-plans : goal.returns-in_err-between-clause-plans
returns-in_err-between-clause-plans c =
    let p = err_from_is_err_and c.from_residual.result c.from_residual.ensures.1 in
    rw p.1 tt

pub returns-in_err-between-clause-alone : goal.returns-in_err-between-clause-alone
returns-in_err-between-clause-alone c =
    let p = err_from_is_err_and c.from_residual.result c.from_residual.ensures.1 in
    rw p.1 tt

pub returns-in-Some-clause-plans : goal.returns-in-Some-clause-plans
returns-in-Some-clause-plans c = λ sel others tags same.
    let t = c.args.states.now in
    let stamps = selected_stamps c.args.selection.now in
    let its : sel ≡ stamps = its_selection c.args.gap.now.left c.args.gap.now.right _ sel stamps c.in-Some.ensures.sides same in
    let start : List Stamp → Insertion = λ s. record { cells = []; count = c.args.author.count; sel = s; others = others; tags = tags } in
    let left = option_map (shown t) c.args.gap.now.left in
    let right = option_map (shown t) c.args.gap.now.right in
    subst (λ s. Plans c.plain_plan.result s others tags (insertion_of c.args.author.site.number left right c.args.pieces.now c.args.rest.now (start s))) (sym its)
    (subst (Plans c.plain_plan.result stamps others tags) (sym (c.in-Some.ensures.comes c.args.author.site.number others tags)) (c.plain_plan.ensures.plans stamps others tags))
