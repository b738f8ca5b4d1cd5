use Rattle.std.proofs.Common.{◌≡◌, ◌∙◌, ◌⊎◌, ◌+◌, ◌++◌, ◌-◌, ◌<◌, ◌≤◌, All, [], ◌∷◌, cond, None, length, ap, arith, inl, inr, refl, subst, sym}
use Rattle.std.specs.Prelude.{IfSome, is_some, nat_eq}
use Rattle.std.proofs.lemmas.Result.{err_from_is_err_and}
use Rattle.rt_stamps.specs.declared.limits.TheConstants.{GREATEST_COUNT}
use Rattle.rt_stamps.specs.declared.stamp.Stamp.{Stamp}
use Rattle.rt_marks.specs.Marks.{place_left}
use Rattle.rt_store.specs.declared.cell.Cell.{Cell}
use Rattle.rt_store.specs.Cells.{visible_of}
use Rattle.rt_tags.specs.States.{IsState}
use Rattle.rt_rga.specs.OneOrMany.{items_in}
use Rattle.rt_plans.specs.Deletions.{Loss, without_text}
use Rattle.rt_plans.specs.DocValue.{DocValue}
use Rattle.rt_plans.specs.Insertions.{left_neighbour, right_neighbour}
use Rattle.rt_plans.specs.Removals.{gone_at, is_covered, RangesFollow}
use Rattle.rt_plans.specs.Selected.{selected_stamps}
use Rattle.rt_lines.specs.Stretches.{stretch_of}
use Rattle.rt_text.specs.Neighbours.{are_sides_shown, limit_left, pieces_text}
use Rattle.rt_text.specs.Owned.{widget_value}
use Rattle.rt_text.proofs.InsertedSides.{element_is, given_not}
use Rattle.rt_text.proofs.LimitedDeletions.{loss_of}
use Rattle.rt_text.proofs.PlannedReplacement.{IsBeside, IsKeptDocument, at_begin, at_flat, at_left, at_within, counted, counts_grow, drafts_are, few_visible, loss_is, none_held, plan_is, stretch_kept_within, too_great}
use Rattle.rt_text.proofs.ViewLaws.{viewed}
use Rattle.rt_text.proofs.doc.Doc.planned_replacement.Goals as goal

pub planned_deletion-requires-clause-distinct : goal.planned_deletion-requires-clause-distinct
planned_deletion-requires-clause-distinct g c = c.kept.ensures.distinct

pub planned_deletion-requires-clause-states : goal.planned_deletion-requires-clause-states
planned_deletion-requires-clause-states g c = c.kept.ensures.states

pub left_after-behind-requires-clause-order : goal.left_after-behind-requires-clause-order
left_after-behind-requires-clause-order g c = subst (RangesFollow 0) (sym c.deref-2.ensures.value) c.in_ok-deletion.ensures.order

pub shown_after-right-requires-clause-order : goal.shown_after-right-requires-clause-order
shown_after-right-requires-clause-order g c = subst (RangesFollow 0) (sym c.deref-3.ensures.value) c.in_ok-deletion.ensures.order

pub place_after-last-requires : goal.place_after-last-requires
place_after-last-requires g c = subst (RangesFollow 0) (sym c.deref.ensures.value) c.in_ok-deletion.ensures.order

pub planned_between-requires-clause-count : goal.planned_between-requires-clause-count
planned_between-requires-clause-count g c = c.in_ok-count.ensures.ok.1

pub returns-in_err-deletion : goal.returns-in_err-deletion
returns-in_err-deletion g c =
    let (y, same, gives) = err_from_is_err_and c.from_residual.result c.from_residual.ensures.1 in
    rw (same, gives) (record { plans = tt; removed = tt; order = tt; held = tt; alone = tt; fits = tt; err = inl c.in_err-deletion.ensures.err })

pub returns-in_err-count : goal.returns-in_err-count
returns-in_err-count g c =
    let doc = c.args.self.now in
    let own = widget_value c.args.widget.now in
    let range = c.args.range in
    let table = c.kept.result.1.now in
    let kept = g.S.TextStore.list c.kept.result.0.now in
    let stretch = c.stretch-stretch.result in
    let is : IsKeptDocument table kept doc own stretch = record {
      cells = c.kept.ensures.cells;
      history = c.kept.ensures.history;
      document = c.kept.ensures.document;
      real = c.kept.ensures.site;
      few = few_visible kept doc.limit c.kept.ensures.few c.kept.ensures.most;
      shows = c.stretch-stretch.ensures.value ∙ ap (stretch_of kept) c.limits.ensures;
      known = (c.requires.start, c.requires.end);
    } in
    let d = c.in_ok-deletion.deletion in
    let removed = d.removed.items in
    let places = c.in_ok-deletion.ensures.places in
    let seen : c.seen-count.result ≡ doc.count = c.seen-count.ensures.value ∙ c.clock.ensures ∙ ap (λ (f : DocValue). f.count) c.self.view_is in
    let made = c.in_ok-deletion.ensures.drafts doc (sym c.kept.ensures.cells) in
    let all : (without_text doc (loss_of doc own.limits (range ∷ []))).count ≡ doc.count + length d.drafts.items = counted table kept doc own stretch is range removed places d.drafts.items made in
    let (y, same, gives) = err_from_is_err_and c.from_residual-in_err-count.result c.from_residual-in_err-count.ensures.1 in
    rw (same, gives) (record {
      plans = tt;
      removed = tt;
      order = tt;
      held = tt;
      alone = tt;
      fits = tt;
      err = inr (
        c.in_err-count.ensures.err.0,
        λ others. omega (arith, c.in_err-count.ensures.err.1, c.len.ensures, d.drafts.ok.0, seen, all, counts_grow (viewed doc own others) range c.args.pieces.now c.args.rest.now),
      );
    })

pub left_after-behind-requires-clause-place : goal.left_after-behind-requires-clause-place
left_after-behind-requires-clause-place g c =
    let doc = c.args.self.now in
    let own = widget_value c.args.widget.now in
    let range = c.args.range in
    let table = c.kept.result.1.now in
    let kept = g.S.TextStore.list c.kept.result.0.now in
    let stretch = c.stretch-stretch.result in
    let is : IsKeptDocument table kept doc own stretch = record {
      cells = c.kept.ensures.cells;
      history = c.kept.ensures.history;
      document = c.kept.ensures.document;
      real = c.kept.ensures.site;
      few = few_visible kept doc.limit c.kept.ensures.few c.kept.ensures.most;
      shows = c.stretch-stretch.ensures.value ∙ ap (stretch_of kept) c.limits.ensures;
      known = (c.requires.start, c.requires.end);
    } in
    let d = c.in_ok-deletion.deletion in
    let removed = d.removed.items in
    let places = c.in_ok-deletion.ensures.places in
    let last : c.place_after-last.result ≡ place_left (is_covered removed) (stretch.end - 1) = c.place_after-last.ensures ∙ ap (λ rs. place_left (is_covered rs) (stretch.end - 1)) c.deref.ensures.value in
    let at = c.min-at.result in
    subst (λ rs. at < place_left (is_covered rs) (length (visible_of kept))) (sym c.deref-2.ensures.value)
    (at_within table kept doc own stretch is range removed places c.saturating_add.result c.place_after-last.result at last c.min-at.ensures)

pub left_after-behind-requires-clause-within : goal.left_after-behind-requires-clause-within
left_after-behind-requires-clause-within g c =
    let doc = c.args.self.now in
    let own = widget_value c.args.widget.now in
    let range = c.args.range in
    let table = c.kept.result.1.now in
    let kept = g.S.TextStore.list c.kept.result.0.now in
    let stretch = c.stretch-stretch.result in
    let is : IsKeptDocument table kept doc own stretch = record {
      cells = c.kept.ensures.cells;
      history = c.kept.ensures.history;
      document = c.kept.ensures.document;
      real = c.kept.ensures.site;
      few = few_visible kept doc.limit c.kept.ensures.few c.kept.ensures.most;
      shows = c.stretch-stretch.ensures.value ∙ ap (stretch_of kept) c.limits.ensures;
      known = (c.requires.start, c.requires.end);
    } in
    let d = c.in_ok-deletion.deletion in
    let removed = d.removed.items in
    let places = c.in_ok-deletion.ensures.places in
    subst (λ rs. All (λ range. range.to ≤ length (visible_of kept)) rs) (sym c.deref-2.ensures.value) (λ k x lt. omega (arith, c.in_ok-deletion.ensures.before k x lt, stretch_kept_within table kept doc own stretch is))

pub left_after-behind-requires-clause-few : goal.left_after-behind-requires-clause-few
left_after-behind-requires-clause-few g c = few_visible (g.S.TextStore.list c.kept.result.0.now) c.args.self.now.limit c.kept.ensures.few c.kept.ensures.most

pub shown_after-right-requires-clause-place : goal.shown_after-right-requires-clause-place
shown_after-right-requires-clause-place g c =
    let doc = c.args.self.now in
    let own = widget_value c.args.widget.now in
    let range = c.args.range in
    let table = c.kept.result.1.now in
    let kept = g.S.TextStore.list c.kept.result.0.now in
    let stretch = c.stretch-stretch.result in
    let is : IsKeptDocument table kept doc own stretch = record {
      cells = c.kept.ensures.cells;
      history = c.kept.ensures.history;
      document = c.kept.ensures.document;
      real = c.kept.ensures.site;
      few = few_visible kept doc.limit c.kept.ensures.few c.kept.ensures.most;
      shows = c.stretch-stretch.ensures.value ∙ ap (stretch_of kept) c.limits.ensures;
      known = (c.requires.start, c.requires.end);
    } in
    let d = c.in_ok-deletion.deletion in
    let removed = d.removed.items in
    let places = c.in_ok-deletion.ensures.places in
    let last : c.place_after-last.result ≡ place_left (is_covered removed) (stretch.end - 1) = c.place_after-last.ensures ∙ ap (λ rs. place_left (is_covered rs) (stretch.end - 1)) c.deref.ensures.value in
    let at = c.min-at.result in
    subst (λ rs. at < place_left (is_covered rs) (length (visible_of kept))) (sym c.deref-3.ensures.value)
    (at_within table kept doc own stretch is range removed places c.saturating_add.result c.place_after-last.result at last c.min-at.ensures)

pub shown_after-right-requires-clause-within : goal.shown_after-right-requires-clause-within
shown_after-right-requires-clause-within g c =
    let doc = c.args.self.now in
    let own = widget_value c.args.widget.now in
    let range = c.args.range in
    let table = c.kept.result.1.now in
    let kept = g.S.TextStore.list c.kept.result.0.now in
    let stretch = c.stretch-stretch.result in
    let is : IsKeptDocument table kept doc own stretch = record {
      cells = c.kept.ensures.cells;
      history = c.kept.ensures.history;
      document = c.kept.ensures.document;
      real = c.kept.ensures.site;
      few = few_visible kept doc.limit c.kept.ensures.few c.kept.ensures.most;
      shows = c.stretch-stretch.ensures.value ∙ ap (stretch_of kept) c.limits.ensures;
      known = (c.requires.start, c.requires.end);
    } in
    let d = c.in_ok-deletion.deletion in
    let removed = d.removed.items in
    let places = c.in_ok-deletion.ensures.places in
    subst (λ rs. All (λ range. range.to ≤ length (visible_of kept)) rs) (sym c.deref-3.ensures.value) (λ k x lt. omega (arith, c.in_ok-deletion.ensures.before k x lt, stretch_kept_within table kept doc own stretch is))

pub shown_after-right-requires-clause-few : goal.shown_after-right-requires-clause-few
shown_after-right-requires-clause-few g c = few_visible (g.S.TextStore.list c.kept.result.0.now) c.args.self.now.limit c.kept.ensures.few c.kept.ensures.most

pub overflow_sub-at : goal.overflow_sub-at
overflow_sub-at g c =
    let doc = c.args.self.now in
    let own = widget_value c.args.widget.now in
    let range = c.args.range in
    let table = c.kept.result.1.now in
    let kept = g.S.TextStore.list c.kept.result.0.now in
    let stretch = c.stretch-stretch.result in
    let is : IsKeptDocument table kept doc own stretch = record {
      cells = c.kept.ensures.cells;
      history = c.kept.ensures.history;
      document = c.kept.ensures.document;
      real = c.kept.ensures.site;
      few = few_visible kept doc.limit c.kept.ensures.few c.kept.ensures.most;
      shows = c.stretch-stretch.ensures.value ∙ ap (stretch_of kept) c.limits.ensures;
      known = (c.requires.start, c.requires.end);
    } in
    let d = c.in_ok-deletion.deletion in
    let removed = d.removed.items in
    let places = c.in_ok-deletion.ensures.places in
    let last : c.place_after-last.result ≡ place_left (is_covered removed) (stretch.end - 1) = c.place_after-last.ensures ∙ ap (λ rs. place_left (is_covered rs) (stretch.end - 1)) c.deref.ensures.value in
    let at = c.min-at.result in
    omega (arith, at_begin table kept doc own stretch is range removed places c.saturating_add.result c.place_after-last.result at c.saturating_add.ensures last c.min-at.ensures)

pub overflow_sub-both : goal.overflow_sub-both
overflow_sub-both g c =
    let doc = c.args.self.now in
    let own = widget_value c.args.widget.now in
    let range = c.args.range in
    let table = c.kept.result.1.now in
    let kept = g.S.TextStore.list c.kept.result.0.now in
    let stretch = c.stretch-stretch.result in
    let is : IsKeptDocument table kept doc own stretch = record {
      cells = c.kept.ensures.cells;
      history = c.kept.ensures.history;
      document = c.kept.ensures.document;
      real = c.kept.ensures.site;
      few = few_visible kept doc.limit c.kept.ensures.few c.kept.ensures.most;
      shows = c.stretch-stretch.ensures.value ∙ ap (stretch_of kept) c.limits.ensures;
      known = (c.requires.start, c.requires.end);
    } in
    let d = c.in_ok-deletion.deletion in
    let removed = d.removed.items in
    let places = c.in_ok-deletion.ensures.places in
    let last : c.place_after-last.result ≡ place_left (is_covered removed) (stretch.end - 1) = c.place_after-last.ensures ∙ ap (λ rs. place_left (is_covered rs) (stretch.end - 1)) c.deref.ensures.value in
    let at = c.min-at.result in
    omega (arith, at_begin table kept doc own stretch is range removed places c.saturating_add.result c.place_after-last.result at c.saturating_add.ensures last c.min-at.ensures)

pub planned_between-requires-clause-left : goal.planned_between-requires-clause-left
planned_between-requires-clause-left g c =
    let table = c.kept.result.1.now in
    let P : Cell _ → Type 0 = λ cell. IsState table cell.state in
    given_not P (nat_eq (c.min-at.result - c.stretch-stretch.result.begin) 0) c.left_after-behind.result c.shown_before-left.result c.shown_before-left.ensures (c.left_after-behind.ensures.given table c.kept.ensures.states)

pub planned_between-requires-clause-right : goal.planned_between-requires-clause-right
planned_between-requires-clause-right g c = c.shown_after-right.ensures.given c.kept.result.1.now c.kept.ensures.states

pub planned_between-requires-clause-after : goal.planned_between-requires-clause-after
planned_between-requires-clause-after g c =
    subst (λ (s : Stamp). IfSome c.shown_before-left.result (λ cell. s ≡ cell.stamp)) (sym c.stamp_or_root-after.ensures)
    (element_is c.shown_before-left.result c.left_after-behind.result (c.min-at.result - c.stretch-stretch.result.begin) c.shown_before-left.ensures)

either : {A B C : Type 0} → (B → C) → A ⊎ B → A ⊎ C
either f (inl a) = inl a
either f (inr b) = inr (f b)

pub returns-in_err-plan : goal.returns-in_err-plan
returns-in_err-plan g c =
    let doc = c.args.self.now in
    let own = widget_value c.args.widget.now in
    let range = c.args.range in
    let table = c.kept.result.1.now in
    let kept = g.S.TextStore.list c.kept.result.0.now in
    let stretch = c.stretch-stretch.result in
    let is : IsKeptDocument table kept doc own stretch = record {
      cells = c.kept.ensures.cells;
      history = c.kept.ensures.history;
      document = c.kept.ensures.document;
      real = c.kept.ensures.site;
      few = few_visible kept doc.limit c.kept.ensures.few c.kept.ensures.most;
      shows = c.stretch-stretch.ensures.value ∙ ap (stretch_of kept) c.limits.ensures;
      known = (c.requires.start, c.requires.end);
    } in
    let d = c.in_ok-deletion.deletion in
    let removed = d.removed.items in
    let places = c.in_ok-deletion.ensures.places in
    let last : c.place_after-last.result ≡ place_left (is_covered removed) (stretch.end - 1) = c.place_after-last.ensures ∙ ap (λ rs. place_left (is_covered rs) (stretch.end - 1)) c.deref.ensures.value in
    let at = c.min-at.result in
    let seen : c.seen-count.result ≡ doc.count = c.seen-count.ensures.value ∙ c.clock.ensures ∙ ap (λ (f : DocValue). f.count) c.self.view_is in
    let made = c.in_ok-deletion.ensures.drafts doc (sym c.kept.ensures.cells) in
    let all : (without_text doc (loss_of doc own.limits (range ∷ []))).count ≡ doc.count + length d.drafts.items = counted table kept doc own stretch is range removed places d.drafts.items made in
    let count : c.in_ok-count.count ≡ (without_text doc (loss_of doc own.limits (range ∷ []))).count = omega (arith, c.in_ok-count.ensures.ok.0, c.len.ensures, d.drafts.ok.0, seen, all) in
    let fits : (without_text doc (loss_of doc own.limits (range ∷ []))).count ≤ GREATEST_COUNT = omega (arith, count, c.in_ok-count.ensures.ok.1) in
    let site : c.site-site.result.number ≡ doc.site = c.site-site.ensures ∙ ap (λ (f : DocValue). f.site) c.self.view_is in
    let limits = c.limits-2.result in
    let place = at - stretch.begin in
    let before = c.left_after-behind.result in
    let after = c.stamp_or_root-after.result in
    let left = c.shown_before-left.result in
    let right = c.shown_after-right.result in
    let pieces = c.args.pieces.now in
    let rest = c.args.rest.now in
    let number = c.site-site.result.number in
    let selected = selected_stamps c.args.widget.now.selection in
    let beside : IsBeside table kept doc own stretch is range removed places limits d.held place at pieces before after left right = record {
      held_is = c.in_ok-deletion.ensures.held;
      limits_is = c.limits-2.ensures;
      place_of_at = refl;
      at_is = at_flat table kept doc own stretch is range removed places c.saturating_add.result c.place_after-last.result at c.saturating_add.ensures last c.min-at.ensures;
      before_is = c.left_after-behind.ensures.is ∙ ap (λ rs. left_neighbour (visible_of (gone_at (is_covered rs) 0 kept)) at) c.deref-2.ensures.value;
      after_is = c.stamp_or_root-after.ensures;
      left_is = c.shown_before-left.ensures;
      right_is = c.shown_after-right.ensures.is
          ∙ ap (λ rs. cond (are_sides_shown (limit_left (is_covered rs) kept limits.start) (limit_left (is_covered rs) kept limits.end) at (pieces_text pieces))
          (cond d.held None (right_neighbour (visible_of (gone_at (is_covered rs) 0 kept)) at)) None) c.deref-3.ensures.value;
    } in
    let (y, same, gives) = err_from_is_err_and c.from_residual-in_err-plan.result c.from_residual-in_err-plan.ensures.1 in
    rw (same, gives) (record {
      plans = tt;
      removed = tt;
      order = tt;
      held = tt;
      alone = tt;
      fits = tt;
      err = either (λ q. (
        q.0,
        λ others. too_great table kept doc own stretch is range removed places others limits d.held place at pieces rest before after left right fits beside number c.in_ok-count.count selected site count refl GREATEST_COUNT q.1,
      )) c.in_err-plan.ensures.err;
    })

pub returns-in_err-move_to : goal.returns-in_err-move_to
returns-in_err-move_to g c =
    let (y, same, gives) = err_from_is_err_and c.from_residual-in_err-move_to.result c.from_residual-in_err-move_to.ensures.1 in
    rw (same, gives) (record { plans = tt; removed = tt; order = tt; held = tt; alone = tt; fits = tt; err = inl c.in_err-move_to.ensures.err })

pub returns-clause-order : goal.returns-clause-order
returns-clause-order g c = c.in_ok-deletion.ensures.order

pub returns-clause-err : goal.returns-clause-err
returns-clause-err g c = tt

pub returns-clause-plans : goal.returns-clause-plans
returns-clause-plans g c = λ others.
    let doc = c.args.self.now in
    let own = widget_value c.args.widget.now in
    let range = c.args.range in
    let table = c.kept.result.1.now in
    let kept = g.S.TextStore.list c.kept.result.0.now in
    let stretch = c.stretch-stretch.result in
    let is : IsKeptDocument table kept doc own stretch = record {
      cells = c.kept.ensures.cells;
      history = c.kept.ensures.history;
      document = c.kept.ensures.document;
      real = c.kept.ensures.site;
      few = few_visible kept doc.limit c.kept.ensures.few c.kept.ensures.most;
      shows = c.stretch-stretch.ensures.value ∙ ap (stretch_of kept) c.limits.ensures;
      known = (c.requires.start, c.requires.end);
    } in
    let d = c.in_ok-deletion.deletion in
    let removed = d.removed.items in
    let places = c.in_ok-deletion.ensures.places in
    let last : c.place_after-last.result ≡ place_left (is_covered removed) (stretch.end - 1) = c.place_after-last.ensures ∙ ap (λ rs. place_left (is_covered rs) (stretch.end - 1)) c.deref.ensures.value in
    let at = c.min-at.result in
    let seen : c.seen-count.result ≡ doc.count = c.seen-count.ensures.value ∙ c.clock.ensures ∙ ap (λ (f : DocValue). f.count) c.self.view_is in
    let made = c.in_ok-deletion.ensures.drafts doc (sym c.kept.ensures.cells) in
    let all : (without_text doc (loss_of doc own.limits (range ∷ []))).count ≡ doc.count + length d.drafts.items = counted table kept doc own stretch is range removed places d.drafts.items made in
    let count : c.in_ok-count.count ≡ (without_text doc (loss_of doc own.limits (range ∷ []))).count = omega (arith, c.in_ok-count.ensures.ok.0, c.len.ensures, d.drafts.ok.0, seen, all) in
    let fits : (without_text doc (loss_of doc own.limits (range ∷ []))).count ≤ GREATEST_COUNT = omega (arith, count, c.in_ok-count.ensures.ok.1) in
    let site : c.site-site.result.number ≡ doc.site = c.site-site.ensures ∙ ap (λ (f : DocValue). f.site) c.self.view_is in
    let limits = c.limits-2.result in
    let place = at - stretch.begin in
    let before = c.left_after-behind.result in
    let after = c.stamp_or_root-after.result in
    let left = c.shown_before-left.result in
    let right = c.shown_after-right.result in
    let pieces = c.args.pieces.now in
    let rest = c.args.rest.now in
    let number = c.site-site.result.number in
    let selected = selected_stamps c.args.widget.now.selection in
    let beside : IsBeside table kept doc own stretch is range removed places limits d.held place at pieces before after left right = record {
      held_is = c.in_ok-deletion.ensures.held;
      limits_is = c.limits-2.ensures;
      place_of_at = refl;
      at_is = at_flat table kept doc own stretch is range removed places c.saturating_add.result c.place_after-last.result at c.saturating_add.ensures last c.min-at.ensures;
      before_is = c.left_after-behind.ensures.is ∙ ap (λ rs. left_neighbour (visible_of (gone_at (is_covered rs) 0 kept)) at) c.deref-2.ensures.value;
      after_is = c.stamp_or_root-after.ensures;
      left_is = c.shown_before-left.ensures;
      right_is = c.shown_after-right.ensures.is
          ∙ ap (λ rs. cond (are_sides_shown (limit_left (is_covered rs) kept limits.start) (limit_left (is_covered rs) kept limits.end) at (pieces_text pieces))
          (cond d.held None (right_neighbour (visible_of (gone_at (is_covered rs) 0 kept)) at)) None) c.deref-3.ensures.value;
    } in
    let plan =
    plan_is table kept doc own stretch is range removed places others limits d.held place at pieces rest before after left right fits beside number c.in_ok-count.count selected site count refl c.in_ok-plan.plan c.in_ok-plan.ensures.plans in
    record {
      place = at_left table kept doc own stretch is range removed places others limits d.held place at pieces rest before after left right fits beside;
      drafts = drafts_are table kept doc own stretch is range removed places others limits d.held place at pieces rest before after left right fits beside number c.in_ok-count.count selected site count refl
          d.drafts.items (items_in c.in_ok-plan.plan.drafts) c.move_to.new.list.items made c.in_ok-plan.ensures.drafts (c.in_ok-move_to.ensures.ok ∙ ap (λ few. d.drafts.items ++ items_in few) c.replace-inserts.ensures.value);
      plan = record { characters = plan.characters; sel = plan.sel; others = plan.others; tags = plan.tags };
    }

pub returns-clause-removed : goal.returns-clause-removed
returns-clause-removed g c = λ p.
    let doc = c.args.self.now in
    let own = widget_value c.args.widget.now in
    let range = c.args.range in
    let table = c.kept.result.1.now in
    let kept = g.S.TextStore.list c.kept.result.0.now in
    let stretch = c.stretch-stretch.result in
    let is : IsKeptDocument table kept doc own stretch = record {
      cells = c.kept.ensures.cells;
      history = c.kept.ensures.history;
      document = c.kept.ensures.document;
      real = c.kept.ensures.site;
      few = few_visible kept doc.limit c.kept.ensures.few c.kept.ensures.most;
      shows = c.stretch-stretch.ensures.value ∙ ap (stretch_of kept) c.limits.ensures;
      known = (c.requires.start, c.requires.end);
    } in
    let d = c.in_ok-deletion.deletion in
    let removed = d.removed.items in
    let places = c.in_ok-deletion.ensures.places in
    places p ∙ ap (λ (l : Loss). l.places p) (loss_is table kept doc own stretch is range removed places)

pub returns-clause-held : goal.returns-clause-held
returns-clause-held g c =
    let doc = c.args.self.now in
    let own = widget_value c.args.widget.now in
    let range = c.args.range in
    let table = c.kept.result.1.now in
    let kept = g.S.TextStore.list c.kept.result.0.now in
    let stretch = c.stretch-stretch.result in
    let is : IsKeptDocument table kept doc own stretch = record {
      cells = c.kept.ensures.cells;
      history = c.kept.ensures.history;
      document = c.kept.ensures.document;
      real = c.kept.ensures.site;
      few = few_visible kept doc.limit c.kept.ensures.few c.kept.ensures.most;
      shows = c.stretch-stretch.ensures.value ∙ ap (stretch_of kept) c.limits.ensures;
      known = (c.requires.start, c.requires.end);
    } in
    let d = c.in_ok-deletion.deletion in
    let removed = d.removed.items in
    let places = c.in_ok-deletion.ensures.places in
    c.in_ok-deletion.ensures.held ∙ ap (λ (l : Loss). is_some l.newline) (loss_is table kept doc own stretch is range removed places)

pub returns-clause-alone : goal.returns-clause-alone
returns-clause-alone g c = λ k.
    let kept = g.S.TextStore.list c.kept.result.0.now in
    let limits = c.limits-2.result in
    let at = c.min-at.result in
    let rs = c.deref-3.result.now in
    c.in_ok-plan.ensures.alone
    (none_held (are_sides_shown (limit_left (is_covered rs) kept limits.start) (limit_left (is_covered rs) kept limits.end) at (pieces_text c.args.pieces.now))
    c.in_ok-deletion.deletion.held (right_neighbour (visible_of (gone_at (is_covered rs) 0 kept)) at) c.shown_after-right.result c.shown_after-right.ensures.is k)

pub returns-clause-fits : goal.returns-clause-fits
returns-clause-fits g c =
    let doc = c.args.self.now in
    let own = widget_value c.args.widget.now in
    let range = c.args.range in
    let table = c.kept.result.1.now in
    let kept = g.S.TextStore.list c.kept.result.0.now in
    let stretch = c.stretch-stretch.result in
    let is : IsKeptDocument table kept doc own stretch = record {
      cells = c.kept.ensures.cells;
      history = c.kept.ensures.history;
      document = c.kept.ensures.document;
      real = c.kept.ensures.site;
      few = few_visible kept doc.limit c.kept.ensures.few c.kept.ensures.most;
      shows = c.stretch-stretch.ensures.value ∙ ap (stretch_of kept) c.limits.ensures;
      known = (c.requires.start, c.requires.end);
    } in
    let d = c.in_ok-deletion.deletion in
    let removed = d.removed.items in
    let places = c.in_ok-deletion.ensures.places in
    let seen : c.seen-count.result ≡ doc.count = c.seen-count.ensures.value ∙ c.clock.ensures ∙ ap (λ (f : DocValue). f.count) c.self.view_is in
    let made = c.in_ok-deletion.ensures.drafts doc (sym c.kept.ensures.cells) in
    let all : (without_text doc (loss_of doc own.limits (range ∷ []))).count ≡ doc.count + length d.drafts.items = counted table kept doc own stretch is range removed places d.drafts.items made in
    omega (arith, c.in_ok-count.ensures.ok.0, c.in_ok-count.ensures.ok.1, c.len.ensures, d.drafts.ok.0, seen, all)
