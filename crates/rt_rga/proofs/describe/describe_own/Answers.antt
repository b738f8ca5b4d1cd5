use Rattle.std.proofs.Common.{◌∙◌, ◌+◌, ℕ, List, map, subst, sym}
use Rattle.rt_ops.specs.Operations.{stamp_of}
use Rattle.rt_store.specs.declared.cell.Cell.{Cell}
use Rattle.rt_store.specs.Shown.{TaggedCell, shown}
use Rattle.rt_tags.specs.States.{Write, state_at}
use Rattle.rt_rga.specs.Taken.{AreFallingRuns}
use Rattle.rt_rga.proofs.FoundAlike.{count_keeps, place_keeps, switched_is, taken_keeps}
use Rattle.rt_rga.proofs.PlacesAt.{place_shown}
use Rattle.rt_rga.proofs.Within.{taken_shown, visible_count}
use Rattle.rt_rga.proofs.describe.describe_own.Goals as goal

-- what is found in the kept cells holds of those of which they are known
pub returns-clause-change : goal.returns-clause-change
returns-clause-change g c = λ f found.
    let kept : List (Cell ℕ) = g.S.TextStore.list c.args.store.now in
    let means : ℕ → List Write = state_at c.args.states.now in
    let known : List TaggedCell = map (shown c.args.states.now) kept in
    let op = c.args.op.now in
    let count = count_keeps f found.stamps found.gone known ∙ visible_count means kept in
    record {
      first = c.place_in-place.ensures
          ∙ sym (place_keeps f found.stamps found.gone (stamp_of op) op.body known ∙ place_shown means (stamp_of op) op.body kept);
      more = c.cells_more.ensures.value;
      removed = λ place. c.in_ok-removed.ensures.removed place
          ∙ sym (taken_keeps f found.stamps found.gone op.body known place ∙ taken_shown means op.body kept place);
      runs = subst (λ n. AreFallingRuns n c.in_ok-removed.removed.items) (sym count) c.in_ok-removed.ensures.runs;
      retagged = λ place. c.in_ok-retagged.ensures.switched place ∙ sym (switched_is f found.stamps found.gone op known place found.tags);
      tagged_runs = subst (λ n. AreFallingRuns (n + 1) c.in_ok-retagged.retagged.items) (sym count) c.in_ok-retagged.ensures.runs;
      lists = c.in_ok-lists.ensures.names;
    }
