-- Documents that gain the operations of drafts, and nothing else that other sites have.
use Rattle.std.proofs.Common.{◌≡◌, ◌∙◌, ℕ, Bool, true, false, cond, List, [], ◌∷◌, ◌++◌, Option, None, Some, reverse, refl, sym}
use Rattle.std.specs.Prelude.{option_map, unwrap_or}
use Rattle.std.specs.Str.{bytes_eq}
use Rattle.rt_stamps.specs.declared.limits.TheConstants.{MOST_SPANS}
use Rattle.rt_stamps.specs.declared.stamp.Stamp.{Stamp}
use Rattle.rt_stamps.specs.Words.{Word}
use Rattle.rt_ops.specs.Operations.{Body}
use Rattle.rt_rga.specs.Drafts.{with_drafts}
use Rattle.rt_rga.proofs.Appending.{drafts_append}
use Rattle.rt_store.specs.Shown.{TaggedCell}
use Rattle.rt_tags.specs.Tags.{sel, without}
use Rattle.rt_tags.specs.States.{names_on}
use Rattle.rt_plans.specs.declared.range.Range.{Range}
use Rattle.rt_plans.specs.Deletions.{Loss, delete_drafts, loss_in, newline_left, without_places, without_text}
use Rattle.rt_plans.specs.DocValue.{DocValue, logged}
use Rattle.rt_plans.specs.Insertions.{Piece}
use Rattle.rt_plans.specs.Removals.{is_covered, stamps_at}
use Rattle.rt_plans.specs.Selections.{selection_with}
use Rattle.rt_plans.specs.TagDrafts.{tag_deletion_drafts, tag_drafts_at}
use Rattle.rt_plans.specs.TagWrites.{bared, listed_if, with_tag, with_tag_at, without_tag, without_tags}
use Rattle.rt_undo.specs.Actions.{Action, Removed}
use Rattle.rt_revert.specs.Reverting.{Reversion, as_it_is, gone_cell_of, reversion, stamp_after, with_each_reverted, with_insertion, with_removal, with_return, with_returns, with_reverted}
use Rattle.rt_text.specs.Commands.{with_pieces_at, with_tag_in, with_tags_deleted, without_ranges}
use Rattle.rt_text.specs.Replacements.{drafts_at}
use Rattle.rt_text.specs.Reversions.{view_reverted}
use Rattle.rt_text.specs.Widgets.{ViewValue, begin_of, places_in_text, text_shown}

-- THE SAME SITE AND LIMIT

pub record IsOfSame (old new : DocValue) : Type 0 where
  pub site : new.site ≡ old.site
  pub limit : new.limit ≡ old.limit

of_same : (doc : DocValue) → IsOfSame doc doc
of_same doc = record { site = refl; limit = refl }

of_both : (old mid new : DocValue) → IsOfSame old mid → IsOfSame mid new → IsOfSame old new
of_both old mid new p q = record { site = q.site ∙ p.site; limit = q.limit ∙ p.limit }

bared_same : (doc : DocValue) (stamp : Stamp) (names : List Word) → IsOfSame doc (bared doc stamp names)
bared_same doc stamp [] = of_same doc
bared_same doc stamp (name ∷ names) = let r = bared_same (with_tag doc name false (stamp ∷ [])) stamp names in record { site = r.site; limit = r.limit }

left_same : (doc left : DocValue) (newline : Option TaggedCell) → IsOfSame doc left
    → IsOfSame doc (unwrap_or (option_map (λ (cell : TaggedCell). bared left cell.stamp (names_on cell.state)) newline) left)
left_same doc left None same = same
left_same doc left (Some cell) same = of_both doc left (bared left cell.stamp (names_on cell.state)) same (bared_same left cell.stamp (names_on cell.state))

text_same : (doc : DocValue) (loss : Loss) → IsOfSame doc (without_text doc loss)
text_same doc loss = left_same doc (without_places doc loss.places) (newline_left doc loss) (record { site = refl; limit = refl })

listed_same : (on : Bool) (name : Word) (doc : DocValue) → IsOfSame doc (listed_if on name doc)
listed_same true name doc = record { site = refl; limit = refl }
listed_same false name doc = of_same doc

one_untagged : (own : Bool) (doc other : DocValue) → IsOfSame doc other → IsOfSame doc (cond own doc other)
one_untagged true doc other same = of_same doc
one_untagged false doc other same = same

tags_same : (doc : DocValue) (names : List Word) → IsOfSame doc (without_tags doc names)
tags_same doc [] = of_same doc
tags_same doc (name ∷ names) =
    let off = with_tag_at doc (λ _. true) false name in
    of_both doc (without_tag doc name) (without_tags (without_tag doc name) names)
    (one_untagged (bytes_eq name sel) doc (record off { tags = without name off.tags }) (record { site = refl; limit = refl })) (tags_same (without_tag doc name) names)

-- reverting

returned_same : (removed : Removed (List Word)) (stamp : Stamp) (r : Reversion) (found : Option TaggedCell)
    → IsOfSame r.doc (unwrap_or (option_map (λ (cell : TaggedCell). with_insertion stamp removed.tags cell.ch r) found) r).doc
returned_same removed stamp r None = of_same r.doc
returned_same removed stamp r (Some cell) = record { site = refl; limit = refl }

returns_same : (removed : List (Removed (List Word))) (r : Reversion) → IsOfSame r.doc (with_returns removed r).doc
returns_same [] r = of_same r.doc
returns_same (one ∷ removed) r =
    let stamp = stamp_after r.returns one.stamp in
    of_both r.doc (with_return one r).doc (with_returns removed (with_return one r)).doc (returned_same one stamp r (gone_cell_of r.doc.cells stamp)) (returns_same removed (with_return one r))

reverted_same : (actions : List (Action (List Word))) (r : Reversion) → IsOfSame r.doc (with_each_reverted actions r).doc
reverted_same [] r = of_same r.doc
reverted_same (action ∷ actions) r =
    let inserted = Rattle.std.specs.Prelude.map (stamp_after r.returns) action.inserted in
    let gone = with_removal inserted r in
    let one = with_reverted action r in
    let back = returns_same action.removed gone in
    of_both r.doc one.doc (with_each_reverted actions one).doc (record { site = back.site; limit = back.limit }) (reverted_same actions one)

-- OPERATIONS OF DRAFTS

-- The site and the limit stay, and the log has the operations more that the site makes of some drafts.
pub record Gains (old new : DocValue) : Type 0 where
  pub drafts : List Body
  pub log : new.log ≡ with_drafts old.site drafts old.log
  pub same : IsOfSame old new

pub gains_none : (doc : DocValue) → Gains doc doc
gains_none doc = record { drafts = []; log = refl; same = of_same doc }

pub gains_then : (old mid new : DocValue) → Gains old mid → Gains mid new → Gains old new
gains_then old mid new p q = record {
  drafts = p.drafts ++ q.drafts;
  log = q.log ∙ (λ i. with_drafts (p.same.site i) q.drafts (p.log i)) ∙ sym (drafts_append old.site p.drafts q.drafts old.log);
  same = of_both old mid new p.same q.same;
}

-- EDITS

pub pieces_gain : (view : ViewValue) (place : ℕ) (pieces : List Piece) (rest : Word) → Gains view.doc (with_pieces_at view place pieces rest).doc
pieces_gain view place pieces rest = record { drafts = drafts_at view place pieces rest; log = refl; same = record { site = refl; limit = refl } }

pub ranges_gain : (view : ViewValue) (ranges : List Range) → Gains view.doc (without_ranges view ranges).doc
ranges_gain view ranges =
    let loss = loss_in (text_shown view) (begin_of view) ranges in
    let same = text_same view.doc loss in
    record { drafts = delete_drafts MOST_SPANS view.doc loss; log = refl; same = record { site = same.site; limit = same.limit } }

pub group_gains : (view : ViewValue) (group : List (Action (List Word))) → Gains view.doc (view_reverted view group).doc
group_gains view group =
    let r = reversion view.doc group in
    let same = reverted_same (reverse group) (as_it_is view.doc) in
    record { drafts = r.drafts; log = refl; same = record { site = same.site; limit = same.limit } }

pub deleted_gain : (view : ViewValue) (names : List Word) → Gains view.doc (with_tags_deleted view names).doc
deleted_gain view names =
    let same = tags_same view.doc names in
    record { drafts = tag_deletion_drafts MOST_SPANS view.doc names; log = refl; same = record { site = same.site; limit = same.limit } }

-- a tag written on the characters at some places
abbrev tag_by : ViewValue → Bool → Word → (ℕ → Bool) → Bool → ViewValue
tag_by view on name places own =
    cond own (record view { own = record view.own { sel = selection_with on (stamps_at places 0 view.doc.cells) view.own.sel } })
    (record view { doc = logged view.doc (tag_drafts_at MOST_SPANS places on name view.doc.cells) (listed_if on name (with_tag_at view.doc places on name)) })

by_gains : (view : ViewValue) (on : Bool) (name : Word) (places : ℕ → Bool) (own : Bool) → Gains view.doc (tag_by view on name places own).doc
by_gains view on name places true = gains_none view.doc
by_gains view on name places false =
    let same = listed_same on name (with_tag_at view.doc places on name) in
    record { drafts = tag_drafts_at MOST_SPANS places on name view.doc.cells; log = refl; same = record { site = same.site; limit = same.limit } }

pub write_gains : (view : ViewValue) (on : Bool) (name : Word) (ranges : List Range) → Gains view.doc (with_tag_in view on name ranges).doc
write_gains view on name ranges = by_gains view on name (places_in_text view (is_covered ranges)) (bytes_eq name sel)
