use Rattle.std.proofs.Common.{◌≡◌, ◌∙◌, ℕ, ◌+◌, [], ◌∷◌, List, ap, length, map, refl, subst, sym}
use Rattle.std.specs.Prelude.{false, Option, Some, None, option_map, slice_get, unwrap_or}
use Rattle.rt_stamps.specs.declared.stamp.Stamp.{Stamp}
use Rattle.rt_ops.specs.Operations.{Body, Insert, stamp_of}
use Rattle.rt_store.specs.declared.cell.Cell.{Cell}
use Rattle.rt_store.specs.Cells.{visible_before, visible_of}
use Rattle.rt_stamps.specs.Words.{as_words}
use Rattle.rt_store.specs.Shown.{TaggedCell, shown}
use Rattle.rt_tags.specs.States.{Write, state_at}
use Rattle.rt_rga.specs.Histories.{inserted_by}
use Rattle.rt_rga.specs.Taken.{AreFallingRuns, is_in_runs, lists_of, place_by, retags, takes_away}
use Rattle.rt_rga.specs.declared.taken.PlaceRun.{PlaceRun}
use Rattle.rt_rga.proofs.PlacesAt.{place_shown}
use Rattle.rt_rga.proofs.describe.insertion_at.Goals as goal

-- an Insert takes nothing away, and changes no tag
none_taken : (after : Stamp) (text : List ℕ) (cells : List TaggedCell) (place : ℕ) → false ≡ takes_away (Insert after [] text) cells place
none_taken after text cells place = by (slice_get (visible_of cells) place)
  where
    by : (o : Option TaggedCell) → false ≡ unwrap_or (option_map (λ cell. false) o) false
    by None = refl
    by (Some c) = refl

none_tagged : (stamp after : Stamp) (text : List ℕ) (cells : List TaggedCell) (place : ℕ) → false ≡ retags stamp (Insert after [] text) cells place
none_tagged stamp after text cells place = by (slice_get (visible_of cells) place)
  where
    by : (o : Option TaggedCell) → false ≡ unwrap_or (option_map (λ cell. false) o) false
    by None = refl
    by (Some c) = refl

pub returns : goal.returns
returns g c table op character s e =
    let kept : List (Cell ℕ) = g.S.TextStore.list c.args.store.now in
    let means : ℕ → List Write = state_at table in
    let cells : List TaggedCell = map (shown table) kept in
    let body : Insert c.args.after [] (character ∷ []) ≡ op.body = sym e in
    record {
      first = c.visible_before.ensures ∙ ap (visible_before kept) c.after_skip.ensures ∙ (λ i. place_by (sym s i) (body i) kept) ∙ sym (place_shown means (stamp_of op) op.body kept);
      more = ap (λ (b : Body). length (inserted_by (stamp_of op) b)) body;
      removed = λ place. ap (λ (runs : List PlaceRun). is_in_runs runs place) c.new.ensures.items ∙ none_taken c.args.after (character ∷ []) cells place ∙ ap (λ (b : Body). takes_away b cells place) body;
      runs = subst (AreFallingRuns (length (visible_of cells))) (sym c.new.ensures.items) tt;
      retagged = λ place. ap (λ (runs : List PlaceRun). is_in_runs runs place) c.new-2.ensures.items ∙ none_tagged (stamp_of op) c.args.after (character ∷ []) cells place
          ∙ ap (λ (b : Body). retags (stamp_of op) b cells place) body;
      tagged_runs = subst (AreFallingRuns (length (visible_of cells) + 1)) (sym c.new-2.ensures.items) tt;
      lists = ap as_words c.new-3.ensures.items ∙ ap lists_of body;
    }
