-- The plan of a group that is reverted, on a document and on a widget's own marks.
use Rattle.std.proofs.Common.{◌≡◌, ◌∙◌, ◌⊎◌, inl, inr, ℕ, ◌<◌, ◌≤◌, All, List, Some, length, string_bytes, sym, ap, true}
use Rattle.std.specs.List.{list_all}
use Rattle.rt_marks.specs.Marks.{Mark}
use Rattle.rt_ops.specs.Rules.{is_name}
use Rattle.rt_stamps.specs.declared.fault.Fault.{Fault}
use Rattle.rt_stamps.specs.declared.fault.Fault.TheVariants.{ClockSpent, NoMemory}
use Rattle.rt_stamps.specs.declared.limits.TheConstants.{GREATEST_COUNT}
use Rattle.rt_stamps.specs.Words.{Word, as_words}
use Rattle.rt_store.specs.declared.cell.Cell.{Cell}
use Rattle.rt_store.specs.Cells.{text_of}
use Rattle.rt_tags.specs.States.{TagStates}
use Rattle.rt_tags.specs.Tags.{IsName}
use Rattle.rt_rga.specs.Histories.{IsHistory}
use Rattle.rt_plans.specs.DraftLaws.{IsDocument}
use Rattle.rt_plans.specs.DocValue.{DocValue}
use Rattle.rt_undo.specs.Actions.{Action}
use Rattle.rt_revert.specs.declared.plan.Reversal.{Reversal}
use Rattle.rt_revert.specs.PlannedGroups.{IsPlanOf}
use Rattle.rt_revert.specs.Plans.{IsOf}
use Rattle.rt_revert.specs.Reverting.{reversion}
use Rattle.rt_revert.specs.ReversionLaws.{AllMayRevert}
use Rattle.rt_text.specs.Changes.{limits_after, widget_after, widget_renamed}
use Rattle.rt_text.specs.Reversions.{widget_reverted, reversion_check}
use Rattle.rt_text.specs.Widgets.{IsOwnOf, WidgetValue}
use Rattle.rt_text.proofs.AcceptedDocument.{all_under, names_are}
use Rattle.rt_text.proofs.ChangedMarks.{current_alone, insert_alone, still_limited, still_selected}
use Rattle.rt_text.proofs.RevertedDocument.{IsReverted, head_or, only, own_stands, spent_check}

-- why a group isn't planned
pub not_planned : (states : TagStates) (store : List (Cell ℕ)) (number count : ℕ) (doc : DocValue) (group : List (Action (List Word))) (fault : Fault) → IsOf states store number count doc
    → (fault ≡ NoMemory) ⊎ ((fault ≡ ClockSpent) × ((f : DocValue) → IsOf states store number count f → GREATEST_COUNT < (reversion f group).doc.count))
    → (fault ≡ NoMemory) ⊎ (reversion_check doc group ≡ Some fault)
not_planned states store number count doc group fault is (inl e) = inl e
not_planned states store number count doc group fault is (inr q) = inr (spent_check doc group (q.1 doc is) ∙ ap (λ x. Some x) (sym q.0))

-- the tags to list are names
pub names_planned : (plan : Reversal) → list_all is_name (as_words plan.names.items) ≡ true → All (λ w. IsName (string_bytes w)) plan.names.items
names_planned plan h = all_under IsName (λ w. string_bytes w) plan.names.items (names_are (as_words plan.names.items) h)

-- A plan on a document of a history: the states of a store's cells and those of the group's own table, the store's cells, a site, and
-- a greatest count.
pub record IsPlanned (states table : TagStates) (store : List (Cell ℕ)) (number count : ℕ) (doc : DocValue) (group : List (Action (List Word))) (plan : Reversal) : Type 0 where
  pub real : 0 < doc.site
  pub history : IsHistory doc.log
  pub document : IsDocument doc.site doc.log doc
  pub sound : AllMayRevert group
  pub is : IsOf states store number count doc
  pub plans : (f : DocValue) → IsOf states store number count f → IsPlanOf table f group plan
  pub fits : (f : DocValue) → IsOf states store number count f → (reversion f group).doc.count ≤ GREATEST_COUNT

module _ (states table : TagStates) (store : List (Cell ℕ)) (number count : ℕ) (doc : DocValue) (group : List (Action (List Word))) (plan : Reversal) (p : IsPlanned states table store number count doc group plan) where
  pub planned : IsPlanOf table doc group plan
  planned = p.plans doc p.is

  pub reverts : IsReverted doc group
  reverts = record { real = p.real; history = p.history; document = p.document; sound = p.sound; fits = p.fits doc p.is }

  -- a mark alone, in the place of the document's
  only_is : (m : Mark) → IsOf states store number count (only doc m)
  only_is m = record { cells = p.is.cells; site = p.is.site; count = p.is.count }

  only_planned : (m : Mark) → IsPlanOf table (only doc m) group plan
  only_planned m = p.plans (only doc m) (only_is m)

  only_reverts : (m : Mark) → IsReverted (only doc m) group
  only_reverts m = record {
    real = p.real;
    history = p.history;
    document = record { cells = p.document.cells; site = p.document.site; count = p.document.count };
    sound = p.sound;
    fits = p.fits (only doc m) (only_is m);
  }

  -- the changes move a widget's own marks, and what came back its limits, as the group that is reverted does
  pub own_moved : (own : WidgetValue) → widget_renamed plan.returns.items (widget_after plan.changes.items own) ≡ widget_reverted doc group own
  own_moved own =
      let changes = plan.changes.items in
      let insert : (widget_after changes own).insert ≡ (widget_reverted doc group own).insert = ap (head_or own.insert) (sym (insert_alone changes own) ∙ (only_planned own.insert).marks) in
      let current : (widget_after changes own).current ≡ (widget_reverted doc group own).current = ap (head_or own.current) (sym (current_alone changes own) ∙ (only_planned own.current).marks) in
      λ k. record { insert = insert k; current = current k; sel = still_selected changes own k; limits = limits_after (planned.returns k) (still_limited changes own k) }

  -- and they stand in the text that is left
  pub own_left_in : (own : WidgetValue) → IsOwnOf (length (text_of doc.cells)) own → IsOwnOf (length (text_of (reversion doc group).doc.cells)) (widget_reverted doc group own)
  own_left_in own h =
      own_stands doc group own reverts (only_reverts own.insert) (only_reverts own.current)
      (sym (only_planned own.insert).drafts ∙ planned.drafts) (sym (only_planned own.current).drafts ∙ planned.drafts) h
