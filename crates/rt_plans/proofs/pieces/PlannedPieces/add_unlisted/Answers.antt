use Rattle.std.proofs.Common.{◌≡◌, refl, ℕ, ◌∙◌, ◌+◌, ◌++◌, ◌<◌, ◌≤◌, ◌&&◌, List, [], false, Option, None, Some, ap, length, map, subst, sym}
use Rattle.std.specs.Prelude.{IfSome, option_map}
use Rattle.std.specs.Str.{chars}
use Rattle.std.proofs.lemmas.Result.{err_from_is_err_and}
use Rattle.rt_stamps.specs.declared.limits.TheConstants.{GREATEST_COUNT, MOST_CHARACTERS}
use Rattle.rt_stamps.specs.declared.stamp.Stamp.{Stamp}
use Rattle.rt_stamps.specs.Words.{as_words}
use Rattle.rt_ops.specs.Edits.{body_of}
use Rattle.rt_store.specs.Cells.{stamps_of}
use Rattle.rt_store.specs.Shown.{shown}
use Rattle.rt_store.specs.Spans.{is_among}
use Rattle.rt_rga.specs.OneOrMany.{items_in}
use Rattle.rt_plans.specs.declared.pieces.PlannedPieces.{PlannedPieces}
use Rattle.rt_plans.specs.InsertionDrafts.{last_element, text_drafts}
use Rattle.rt_plans.specs.InsertionPlans.{selected_between}
use Rattle.rt_plans.specs.Insertions.{are_among, counts_for, on_left, selected_if, tagged_cells, tags_between}
use Rattle.rt_plans.specs.Selected.{selected_stamps}
use Rattle.rt_plans.specs.Selections.{with_stamps}
use Rattle.rt_plans.proofs.PieceLaws.{IsMoreText, no_drafts, none_in}
use Rattle.rt_plans.proofs.PlanLaws.{some_in, spent}
use Rattle.rt_plans.proofs.RestLaws.{is_side, not_both, plans_nothing, plans_rest, right_side}
use Rattle.rt_plans.proofs.pieces.PlannedPieces.add_unlisted.Goals as goal

pub returns-then-is_empty-clause-drafts : goal.returns-then-is_empty-clause-drafts
returns-then-is_empty-clause-drafts c = λ after sel listed so_far same h.
    let t = c.args.states.now in
    let none : chars c.args.rest.now ≡ [] = sym c.in_ok-text.ensures.ok ∙ sym c.characters-characters.ensures ∙ none_in c.characters-characters.result.now (length c.characters-characters.result.now) c.is_empty.result refl c.is_empty.ensures c.if-is_empty.true in
    no_drafts (map body_of (items_in c.args.self.now.texts.drafts)) c.args.site.number so_far.count (last_element after so_far.cells)
    (tags_between (on_left (option_map (shown t) c.args.gap.now.left) so_far.cells) (option_map (shown t) c.args.gap.now.right)) (chars c.args.rest.now) none

pub returns-then-is_empty-clause-plans : goal.returns-then-is_empty-clause-plans
returns-then-is_empty-clause-plans c = λ plan after sel listed so_far same h a p.
    let t = c.args.states.now in
    let none : chars c.args.rest.now ≡ [] = sym c.in_ok-text.ensures.ok ∙ sym c.characters-characters.ensures ∙ none_in c.characters-characters.result.now (length c.characters-characters.result.now) c.is_empty.result refl c.is_empty.ensures c.if-is_empty.true in
    plans_nothing plan after sel listed c.args.self.now c.args.site.number (on_left (option_map (shown t) c.args.gap.now.left) so_far.cells) (option_map (shown t) c.args.gap.now.right) (chars c.args.rest.now) so_far none h p

pub returns-in_err-add_text-clause-err : goal.returns-in_err-add_text-clause-err
returns-in_err-add_text-clause-err c =
    let r = err_from_is_err_and c.from_residual-in_err-add_text.result c.from_residual-in_err-add_text.ensures.1 in
    let t = c.args.states.now in
    let text_is : c.characters-characters.result.now ≡ chars c.args.rest.now = c.characters-characters.ensures ∙ c.in_ok-text.ensures.ok in
    rw (r.1, r.2) (spent
    (λ k after sel listed so_far same h.
    let names_are : as_words c.deref.result.now ≡ tags_between (on_left (option_map (shown t) c.args.gap.now.left) so_far.cells) (option_map (shown t) c.args.gap.now.right) =
    ap as_words c.deref.ensures.value ∙ c.in_ok-names.ensures.ok so_far.cells h.last in
    subst (λ (n : ℕ). GREATEST_COUNT < n) (λ i. h.count i + counts_for (names_are i) (text_is i)) k)
    c.in_err-add_text.ensures.err)

pub returns-in_err-add_text-clause-drafts : goal.returns-in_err-add_text-clause-drafts
returns-in_err-add_text-clause-drafts c =
    let p = err_from_is_err_and c.from_residual-in_err-add_text.result c.from_residual-in_err-add_text.ensures.1 in
    rw p.1 tt

pub returns-in_err-add_text-clause-plans : goal.returns-in_err-add_text-clause-plans
returns-in_err-add_text-clause-plans c =
    let p = err_from_is_err_and c.from_residual-in_err-add_text.result c.from_residual-in_err-add_text.ensures.1 in
    rw p.1 tt

pub returns-in_err-add_text-clause-alone : goal.returns-in_err-add_text-clause-alone
returns-in_err-add_text-clause-alone c =
    let p = err_from_is_err_and c.from_residual-in_err-add_text.result c.from_residual-in_err-add_text.ensures.1 in
    rw p.1 tt

pub returns-in_default-clause-drafts : goal.returns-in_default-clause-drafts
returns-in_default-clause-drafts c = λ after sel listed so_far same h.
    let t = c.args.states.now in
    let text_is : c.characters-characters.result.now ≡ chars c.args.rest.now = c.characters-characters.ensures ∙ c.in_ok-text.ensures.ok in
    let names_are : as_words c.deref.result.now ≡ tags_between (on_left (option_map (shown t) c.args.gap.now.left) so_far.cells) (option_map (shown t) c.args.gap.now.right) =
    ap as_words c.deref.ensures.value ∙ c.in_ok-names.ensures.ok so_far.cells h.last in
    c.in_ok-add_text.ensures.drafts
    ∙ (λ i. map body_of (items_in c.args.self.now.texts.drafts) ++ text_drafts MOST_CHARACTERS c.args.site.number (h.count i) (h.element i) (names_are i) (text_is i))

pub returns-in_default-clause-plans : goal.returns-in_default-clause-plans
returns-in_default-clause-plans c = λ plan after sel listed so_far same h a p.
    let t = c.args.states.now in
    let old = c.args.self.now in
    let next = c.add_text.new.self in
    let site = c.args.site.number in
    let text = chars c.args.rest.now in
    let left = on_left (option_map (shown t) c.args.gap.now.left) so_far.cells in
    let right = option_map (shown t) c.args.gap.now.right in
    let e = c.in_ok-add_text.ensures in
    let text_is : c.characters-characters.result.now ≡ text = c.characters-characters.ensures ∙ c.in_ok-text.ensures.ok in
    let names_are : as_words c.deref.result.now ≡ tags_between left right = ap as_words c.deref.ensures.value ∙ c.in_ok-names.ensures.ok so_far.cells h.last in
    let some : 1 ≤ length text = some_in text c.characters-characters.result.now (length c.characters-characters.result.now) c.is_empty.result refl text_is c.is_empty.ensures c.if-is_empty.false in
    let new_stamps = stamps_of (tagged_cells site old.texts.count (tags_between left right) text) in
    let more : IsMoreText site (tags_between left right) text old next = record {
      characters = e.characters ∙ (λ i. old.characters + length (text_is i));
      count = e.count ∙ (λ i. old.texts.count + counts_for (names_are i) (text_is i));
      element = e.behind ∙ (λ i. last_element old.texts.behind (tagged_cells site old.texts.count (names_are i) (text_is i)));
      tags = e.names ∙ (λ i. as_words old.names.items ++ names_are i);
    } in
    let never : (stamps : List Stamp) → are_among stamps left right ≡ false = λ stamps. not_both after sel listed old so_far t c.args.gap.now.left c.args.gap.now.right stamps h (sym c.sides-sides.ensures ∙ c.in_default.is) in
    plans_rest plan after sel listed old next site left right text so_far some h more p.characters
    ((λ i. with_stamps ((p.selected ∙ c.add_text.ensures.selected) i).items sel)
    ∙ sym (ap (λ b. selected_if b new_stamps (with_stamps old.selected.items sel)) (never (with_stamps old.selected.items sel))))
    p.names
    (λ other. ap (λ o. selected_between o other) p.others ∙ sym (ap (λ b. selected_if b new_stamps other) (never other)))

pub returns-clause-drafts : goal.returns-clause-drafts
returns-clause-drafts c = λ after sel listed so_far same h.
    let t = c.args.states.now in
    let text_is : c.characters-characters.result.now ≡ chars c.args.rest.now = c.characters-characters.ensures ∙ c.in_ok-text.ensures.ok in
    let names_are : as_words c.deref.result.now ≡ tags_between (on_left (option_map (shown t) c.args.gap.now.left) so_far.cells) (option_map (shown t) c.args.gap.now.right) =
    ap as_words c.deref.ensures.value ∙ c.in_ok-names.ensures.ok so_far.cells h.last in
    c.in_ok-add_text.ensures.drafts
    ∙ (λ i. map body_of (items_in c.args.self.now.texts.drafts) ++ text_drafts MOST_CHARACTERS c.args.site.number (h.count i) (h.element i) (names_are i) (text_is i))

pub returns-clause-plans : goal.returns-clause-plans
returns-clause-plans c = λ plan after sel listed so_far same h a p.
    let t = c.args.states.now in
    let old = c.args.self.now in
    let next : PlannedPieces = c.add_text.new.self in
    let site = c.args.site.number in
    let text = chars c.args.rest.now in
    let left = on_left (option_map (shown t) c.args.gap.now.left) so_far.cells in
    let right = option_map (shown t) c.args.gap.now.right in
    let e = c.in_ok-add_text.ensures in
    let text_is : c.characters-characters.result.now ≡ text = c.characters-characters.ensures ∙ c.in_ok-text.ensures.ok in
    let names_are : as_words c.deref.result.now ≡ tags_between left right = ap as_words c.deref.ensures.value ∙ c.in_ok-names.ensures.ok so_far.cells h.last in
    let some : 1 ≤ length text = some_in text c.characters-characters.result.now (length c.characters-characters.result.now) c.is_empty.result refl text_is c.is_empty.ensures c.if-is_empty.false in
    let new_stamps = stamps_of (tagged_cells site old.texts.count (tags_between left right) text) in
    let new : PlannedPieces = record next { selected = c.select_new.new.selected } in
    let more : IsMoreText site (tags_between left right) text old new = record {
      characters = e.characters ∙ (λ i. old.characters + length (text_is i));
      count = e.count ∙ (λ i. old.texts.count + counts_for (names_are i) (text_is i));
      element = e.behind ∙ (λ i. last_element old.texts.behind (tagged_cells site old.texts.count (names_are i) (text_is i)));
      tags = e.names ∙ (λ i. as_words old.names.items ++ names_are i);
    } in
    let both : (stamps : List Stamp) → are_among stamps left right ≡ (is_among stamps c.in-Some.before && is_among stamps c.in-Some.after) =
    λ stamps. is_side after sel listed old so_far t c.args.gap.now.left c.args.gap.now.right c.in-Some.before c.in-Some.after stamps h a (sym c.sides-sides.ensures ∙ c.in-Some.is) in
    let selection = selected_stamps c.args.selection.now in
    let its : sel ≡ selection = sel_is c.args.gap.now.right sel selection same (λ n. right_side old c.args.gap.now.left c.args.gap.now.right (c.in-Some.before, c.in-Some.after) (sym c.sides-sides.ensures ∙ c.in-Some.is) n) in
    let flag : c.selects_both-asked.result ≡ are_among (with_stamps old.selected.items sel) left right =
    c.selects_both-asked.ensures.both
    ∙ (λ i. is_among (with_stamps (c.add_text.ensures.selected i).items (sym its i)) c.in-Some.before && is_among (with_stamps (c.add_text.ensures.selected i).items (sym its i)) c.in-Some.after)
    ∙ sym (both (with_stamps old.selected.items sel)) in
    let names_too : as_words c.deref-2.result.now ≡ tags_between left right = ap as_words c.deref-2.ensures.value ∙ c.in_ok-names.ensures.ok so_far.cells h.last in
    let names_last : as_words c.deref-3.result.now ≡ tags_between left right = ap as_words c.deref-3.ensures.value ∙ c.in_ok-names.ensures.ok so_far.cells h.last in
    let stamps : c.in_ok-stamps.stamps ≡ new_stamps = c.in_ok-stamps.ensures.ok ∙ (λ i. stamps_of (tagged_cells site old.texts.count (names_last i) (text_is i))) in
    plans_rest plan after sel listed old new site left right text so_far some h more p.characters
    ((λ i. with_stamps (p.selected i).items sel) ∙ c.in_ok-select_new.ensures.selected sel
    ∙ (λ i. selected_if (flag i) (stamps_of (tagged_cells site old.texts.count (names_too i) (text_is i))) (with_stamps (c.add_text.ensures.selected i).items sel)))
    p.names
    (λ other. ap (λ o. selected_between o other) p.others ∙ (λ i. selected_if (sym (both other) i) (stamps i) other))
  where
    sel_is : {X : Type 0} (o : Option X) (sel selection : List Stamp) → IfSome o (λ cell. sel ≡ selection) → (o ≡ None → ⊥) → sel ≡ selection
    sel_is None sel selection h n = absurd (n refl)
    sel_is (Some x) sel selection h n = h

pub returns-clause-alone : goal.returns-clause-alone
returns-clause-alone c = λ n. absurd (right_side c.args.self.now c.args.gap.now.left c.args.gap.now.right (c.in-Some.before, c.in-Some.after) (sym c.sides-sides.ensures ∙ c.in-Some.is) n)

pub select_new-requires : goal.select_new-requires
select_new-requires c =
    let e = c.in_ok-add_text.ensures in
    let names : as_words c.deref.result.now ≡ as_words c.deref-2.result.now = ap as_words (c.deref.ensures.value ∙ sym c.deref-2.ensures.value) in
    subst (λ (n : ℕ). n ≤ GREATEST_COUNT) (e.count ∙ (λ i. c.args.self.now.texts.count + counts_for (names i) c.characters-characters.result.now)) e.within

pub of-requires : goal.of-requires
of-requires c =
    let e = c.in_ok-add_text.ensures in
    let names : as_words c.deref.result.now ≡ as_words c.deref-3.result.now = ap as_words (c.deref.ensures.value ∙ sym c.deref-3.ensures.value) in
    subst (λ (n : ℕ). n ≤ GREATEST_COUNT) (e.count ∙ (λ i. c.args.self.now.texts.count + counts_for (names i) c.characters-characters.result.now)) e.within
