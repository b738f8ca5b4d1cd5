use Rattle.std.proofs.Common.{◌++◌, ◌+◌, ℕ, All, List, subst, sym}
use Rattle.rt_store.specs.declared.cell.Cell.{Cell}
use Rattle.rt_store.proofs.GivenStates.{kept_states}
use Rattle.rt_rga.specs.Batches.{HasEntries}
use Rattle.rt_tags.proofs.Listing.{keeps_both}
use Rattle.rt_rga.proofs.PlannedEntries.{tags_kept}
use Rattle.rt_rga.proofs.PlannedStates.{AreCopied, copied_more, found_by, written_more}
use Rattle.std.proofs.lemmas.Result.{err_from_is_err_and}
use Rattle.rt_rga.proofs.plan.written_cells.Goals as goal

pub written_cell-requires-clause-tags : goal.written_cell-requires-clause-tags
written_cell-requires-clause-tags g c = tags_kept c.args.states.now c.loop-at.states c.args.named.now c.loop-at.invariant.ids c.requires.tags

pub written_cell-requires-clause-states : goal.written_cell-requires-clause-states
written_cell-requires-clause-states g c = kept_states c.args.states.now c.loop-at.states (c.args.new.now ++ g.S.TextStore.list c.args.store.now) c.loop-at.invariant.ids c.requires.states

pub loop-at-preserved : goal.loop-at-preserved
loop-at-preserved g c =
    let cells = c.args.new.now ++ g.S.TextStore.list c.args.store.now in
    let old = c.args.states.now in
    let now = c.loop-at.states in
    let new = c.written_cell.new.states in
    let named = c.args.named.now in
    let copies = c.loop-at.copies.items in
    let found = c.in_ok-copy.copy in
    record {
      written = subst (All (HasEntries old named cells new)) (sym c.in_ok-push_found.ensures.ok)
          (written_more old now new named cells copies found c.loop-at.invariant.ids c.written_cell.ensures.ids c.requires.states c.requires.tags c.loop-at.invariant.written c.in_ok-copy.ensures.written);
      copied = subst (λ (copies : List (Cell ℕ)). AreCopied cells named copies (c.loop-at.at + 1)) (sym c.in_ok-push_found.ensures.ok)
          (copied_more cells named copies c.loop-at.at found c.loop-at-test.true (found_by cells named c.loop-at.at found c.in_ok-copy.ensures.stamp c.in_ok-copy.ensures.none) c.loop-at.invariant.copied);
      last = c.in_ok-copy.ensures.last;
      ids = keeps_both old now new c.loop-at.invariant.ids c.written_cell.ensures.ids;
    }

-- What a call that fails leaves: its fault, and what was given out keeps its meaning.
pub returns-in_err-copy : goal.returns-in_err-copy
returns-in_err-copy g c =
    let (y, is, gives) = err_from_is_err_and c.from_residual.result c.from_residual.ensures.1 in
    rw (is, gives) (record { written = tt; all = tt; ids = keeps_both c.args.states.now c.loop-at.states c.written_cell.new.states c.loop-at.invariant.ids c.written_cell.ensures.ids; fault = c.in_err-copy.ensures.fault })

pub returns-in_err-push_found : goal.returns-in_err-push_found
returns-in_err-push_found g c =
    let (y, is, gives) = err_from_is_err_and c.from_residual-in_err-push_found.result c.from_residual-in_err-push_found.ensures.1 in
    rw (is, gives) (record { written = tt; all = tt; ids = keeps_both c.args.states.now c.loop-at.states c.written_cell.new.states c.loop-at.invariant.ids c.written_cell.ensures.ids; fault = c.in_err-push_found.ensures.fault })
