use Rattle.std.proofs.Common.{◌≡◌, refl, ℕ, ◌∙◌, ◌+◌, ◌≤◌, ◌++◌, [], Some, ap, sym, map, length, inl, subst}
use Rattle.std.specs.Str.{chars}
use Rattle.rt_stamps.specs.declared.limits.TheConstants.{GREATEST_COUNT}
use Rattle.rt_tags.specs.Tags.{is_listed, sel}
use Rattle.rt_ops.specs.Edits.{body_of}
use Rattle.rt_store.specs.Cells.{stamps_of}
use Rattle.rt_rga.specs.OneOrMany.{items_in}
use Rattle.rt_plans.specs.declared.pieces.PlannedPieces.{PlannedPieces}
use Rattle.rt_plans.specs.InsertionDrafts.{last_element}
use Rattle.rt_plans.specs.Insertions.{counts_for, selected_if, shared_names, tagged_cells}
use Rattle.rt_plans.specs.Selections.{with_stamps}
use Rattle.rt_plans.proofs.PieceLaws.{added_listed, no_drafts, none_in, none_listed}
use Rattle.rt_plans.proofs.PlanLaws.{some_in}
use Rattle.std.proofs.lemmas.Result.{err_from_is_err_and}
use Rattle.rt_stamps.specs.Words.{as_words}
use Rattle.rt_plans.proofs.pieces.PlannedPieces.add_listed.Goals as goal

pub returns-then-is_empty-clause-drafts : goal.returns-then-is_empty-clause-drafts
returns-then-is_empty-clause-drafts c =
    let none : chars c.args.piece.now.text ≡ [] = ap chars (sym c.text.ensures) ∙ sym c.in_ok-text.ensures.ok ∙ sym c.characters-characters.ensures ∙ none_in c.characters-characters.result.now (length c.characters-characters.result.now) c.is_empty.result refl c.is_empty.ensures c.if-is_empty.true in
    no_drafts (map body_of (items_in c.args.self.now.texts.drafts)) c.args.site.number c.args.self.now.texts.count c.args.self.now.texts.behind (shared_names c.args.piece.now.tags) (chars c.args.piece.now.text) none

pub returns-then-is_empty-clause-so_far : goal.returns-then-is_empty-clause-so_far
returns-then-is_empty-clause-so_far c = λ after selection listed so_far h.
    let none : chars c.args.piece.now.text ≡ [] = ap chars (sym c.text.ensures) ∙ sym c.in_ok-text.ensures.ok ∙ sym c.characters-characters.ensures ∙ none_in c.characters-characters.result.now (length c.characters-characters.result.now) c.is_empty.result refl c.is_empty.ensures c.if-is_empty.true in
    none_listed after selection listed c.args.self.now c.args.site.number c.args.piece.now.tags (chars c.args.piece.now.text) so_far none h

pub returns-clause-so_far : goal.returns-clause-so_far
returns-clause-so_far c = λ after selection listed so_far h.
    let old = c.args.self.now in
    let next : PlannedPieces = c.add_text.new.self in
    let new : PlannedPieces = record { texts = next.texts; characters = next.characters; selected = c.select_new.new.selected; names = next.names; last = Some c.in_ok-names.names } in
    let site = c.args.site.number in
    let tags = c.args.piece.now.tags in
    let text = chars c.args.piece.now.text in
    let shared = shared_names tags in
    let e = c.in_ok-add_text.ensures in
    let text_is : c.characters-characters.result.now ≡ text = c.characters-characters.ensures ∙ c.in_ok-text.ensures.ok ∙ ap chars c.text.ensures in
    let named : as_words c.in_ok-names.names.items ≡ shared = c.in_ok-names.ensures.ok ∙ ap shared_names c.tags.ensures in
    let names_are : as_words c.deref.result.now ≡ shared = ap as_words c.deref.ensures.value ∙ named in
    let some : 1 ≤ length text = some_in text c.characters-characters.result.now (length c.characters-characters.result.now) c.is_empty.result refl (c.characters-characters.ensures ∙ c.in_ok-text.ensures.ok ∙ ap chars c.text.ensures) c.is_empty.ensures c.if-is_empty.false in
    let names_too : as_words c.deref-2.result.now ≡ shared = ap as_words c.deref-2.ensures.value ∙ named in
    added_listed after selection listed old new site tags text so_far some
    (record {
      characters = e.characters ∙ (λ i. old.characters + length (text_is i));
      count = e.count ∙ (λ i. old.texts.count + counts_for (names_are i) (text_is i));
      element = e.behind ∙ (λ i. last_element old.texts.behind (tagged_cells site old.texts.count (names_are i) (text_is i)));
      tags = e.names ∙ (λ i. as_words old.names.items ++ names_are i);
    })
    (c.in_ok-select_new.ensures.selected selection
    ∙ (λ i. selected_if ((c.names_sel-chosen.ensures ∙ ap (is_listed sel) c.tags-2.ensures) i) (stamps_of (tagged_cells site old.texts.count (names_too i) (text_is i)))
    (with_stamps (c.add_text.ensures.selected i).items selection)))
    (ap Some named)
    h

pub returns-in_err-text : goal.returns-in_err-text
returns-in_err-text c =
    let (y, is, gives) = err_from_is_err_and c.from_residual.result c.from_residual.ensures.1 in
    rw (is, gives) (record { drafts = tt; so_far = tt; within = tt; few = tt; err = inl c.in_err-text.ensures.err })

pub returns-in_err-names : goal.returns-in_err-names
returns-in_err-names c =
    let (y, is, gives) = err_from_is_err_and c.from_residual-in_err-names.result c.from_residual-in_err-names.ensures.1 in
    rw (is, gives) (record { drafts = tt; so_far = tt; within = tt; few = tt; err = inl c.in_err-names.ensures.err })

pub returns-in_err-select_new : goal.returns-in_err-select_new
returns-in_err-select_new c =
    let (y, is, gives) = err_from_is_err_and c.from_residual-in_err-select_new.result c.from_residual-in_err-select_new.ensures.1 in
    rw (is, gives) (record { drafts = tt; so_far = tt; within = tt; few = tt; err = inl c.in_err-select_new.ensures.err })

pub returns-in_err-add_text-clause-drafts : goal.returns-in_err-add_text-clause-drafts
returns-in_err-add_text-clause-drafts c =
    let p = err_from_is_err_and c.from_residual-in_err-add_text.result c.from_residual-in_err-add_text.ensures.1 in
    rw p.1 tt

pub returns-in_err-add_text-clause-so_far : goal.returns-in_err-add_text-clause-so_far
returns-in_err-add_text-clause-so_far c =
    let p = err_from_is_err_and c.from_residual-in_err-add_text.result c.from_residual-in_err-add_text.ensures.1 in
    rw p.1 tt

pub returns-in_err-add_text-clause-within : goal.returns-in_err-add_text-clause-within
returns-in_err-add_text-clause-within c =
    let p = err_from_is_err_and c.from_residual-in_err-add_text.result c.from_residual-in_err-add_text.ensures.1 in
    rw p.1 tt

pub select_new-requires : goal.select_new-requires
select_new-requires c =
    let e = c.in_ok-add_text.ensures in
    let names : as_words c.deref.result.now ≡ as_words c.deref-2.result.now = ap as_words (c.deref.ensures.value ∙ sym c.deref-2.ensures.value) in
    subst (λ (n : ℕ). n ≤ GREATEST_COUNT) (e.count ∙ (λ i. c.args.self.now.texts.count + counts_for (names i) c.characters-characters.result.now)) e.within
