-- What each step of a reversion keeps of a document, the whole reversion keeps.
use Rattle.std.proofs.Common.{ℕ, ◌<◌, ◌≤◌, Bool, List, [], ◌∷◌, map, arith, Option, None, Some}
use Rattle.std.specs.Prelude.{option_map, reverse, unwrap_or}
use Rattle.std.specs.List.{AllByRecursion}
use Rattle.rt_stamps.specs.declared.limits.TheConstants.{GREATEST_COUNT}
use Rattle.rt_stamps.specs.declared.stamp.Stamp.{Stamp}
use Rattle.rt_stamps.specs.Words.{Word}
use Rattle.rt_ops.specs.Operations.{Operation}
use Rattle.rt_store.specs.Cells.{text_of}
use Rattle.rt_store.specs.Shown.{TaggedCell}
use Rattle.rt_rga.specs.Drafts.{with_drafts}
use Rattle.rt_rga.specs.Histories.{IsHistory}
use Rattle.rt_plans.specs.Deletions.{without_places}
use Rattle.rt_plans.specs.DraftLaws.{AreTagNames, IsDocument, SparesLast}
use Rattle.rt_plans.specs.DocValue.{DocValue}
use Rattle.rt_undo.specs.Actions.{Action, Removed}
use Rattle.rt_revert.specs.Reverting.{Reversion, are_at, as_it_is, gone_cell_of, reversion, stamp_after, with_copy, with_each_reverted, with_insertion, with_removal, with_return, with_returns, with_reverted}
use Rattle.rt_revert.specs.ReversionLaws.{AllMayRevert, MayReturn, MayRevert}
use Rattle.rt_revert.proofs.Endings.{spares_final}
use Rattle.rt_revert.proofs.Stamps.{all_apart}
use Rattle.rt_revert.proofs.Steps.{IsOnWay, action_step, all_grow, all_reversed}

-- A fact of documents that stays where characters go and the last newline doesn't, and where a character comes in with names of tags.
module _ (Q : DocValue → Type 0) (goes : (document : DocValue) (removed : ℕ → Bool) → SparesLast removed (text_of document.cells) → Q document → Q (without_places document removed))
    (comes : (document : DocValue) (stamp : Stamp) (tags : List Word) (ch : ℕ) → AreTagNames tags → Q document → Q (with_copy document stamp tags ch)) where
  return_keeps : (removed : Removed (List Word)) (r : Reversion) → MayReturn removed → Q r.doc → Q (with_return removed r).doc
  return_keeps removed r m h = by (gone_cell_of r.doc.cells (stamp_after r.returns removed.stamp))
    where
      by : (o : Option TaggedCell) → Q (unwrap_or (option_map (λ (cell : TaggedCell). with_insertion (stamp_after r.returns removed.stamp) removed.tags cell.ch r) o) r).doc
      by None = h
      by (Some cell) = comes r.doc (stamp_after r.returns removed.stamp) removed.tags cell.ch m.tags h

  returns_keep : (removed : List (Removed (List Word))) (r : Reversion) → AllByRecursion MayReturn removed → Q r.doc → Q (with_returns removed r).doc
  returns_keep [] r m h = h
  returns_keep (x ∷ more) r m h = returns_keep more (with_return x r) m.1 (return_keeps x r m.0 h)

  action_keeps : (site : ℕ) (log : List Operation) (action : Action (List Word)) (r : Reversion) → IsOnWay site log r → MayRevert action → Q r.doc → Q (with_reverted action r).doc
  action_keeps site log action r w s h =
      let stamps = map (stamp_after r.returns) action.inserted in
      let spared = spares_final site (with_drafts site r.drafts log) r.doc stamps w.history w.document (all_apart r.returns action.inserted w.apart s.inserted) in
      returns_keep action.removed (with_removal stamps r) s.removed (goes r.doc (are_at stamps r.doc.cells) spared h)

  all_keep : (site : ℕ) (log : List Operation) (actions : List (Action (List Word))) (r : Reversion) → 0 < site → IsOnWay site log r → AllMayRevert actions
      → (with_each_reverted actions r).doc.count ≤ GREATEST_COUNT → Q r.doc → Q (with_each_reverted actions r).doc
  all_keep site log [] r p w s l h = h
  all_keep site log (action ∷ actions) r p w s l h =
      let next = with_reverted action r in
      let few : next.doc.count ≤ GREATEST_COUNT = omega (arith, all_grow actions next, l) in
      all_keep site log actions next p (action_step site log action r p w s.0 few) s.1 l (action_keeps site log action r w s.0 h)

  pub reversion_keeps : (site : ℕ) (log : List Operation) (document : DocValue) (group : List (Action (List Word))) → 0 < site → IsHistory log → IsDocument site log document → AllMayRevert group
      → (reversion document group).doc.count ≤ GREATEST_COUNT → Q document → Q (reversion document group).doc
  reversion_keeps site log document group p history doc s l h =
      all_keep site log (reverse group) (as_it_is document) p (record { may = tt; history = history; document = doc; apart = tt; sound = tt }) (all_reversed MayRevert group s) l h
