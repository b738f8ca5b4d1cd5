-- What is told, replayed.
use Rattle.std.proofs.Common.{◌≡◌, ◌∙◌, ℕ, List, [], ◌∷◌, ◌++◌, inl, inr, ap, map, refl, true}
use Rattle.rt_ops.specs.Operations.{Body, Insert, Delete, Tag, Operation}
use Rattle.rt_ops.specs.Rules.{keeps_rules}
use Rattle.rt_oplog.specs.Logs.{HasOp, with_operation}
use Rattle.rt_rga.specs.Cells.{cells_of}
use Rattle.rt_rga.specs.Drafts.{with_operations}
use Rattle.rt_rga.specs.Histories.{IsHistory}
use Rattle.rt_rga.specs.Texts.{TaggedCharacter, tagged_text}
use Rattle.rt_rga.specs.declared.taken.Change.{Change}
use Rattle.rt_rga.specs.declared.taken.PlaceRun.{PlaceRun}
use Rattle.rt_rga.proofs.Histories.{history_with}
use Rattle.rt_rga.proofs.Within.{continues_new}
use Rattle.rt_changes.specs.Replays.{Deleted, Inserted, Tagged, VisibleChange, changes_in_turn, changes_of, replayed, told_by, with_change}
use Rattle.rt_changes.proofs.Texts.{changes_replay}
use Rattle.rt_holding.specs.Runs.{AreTakenInTurn}
use Rattle.rt_replica.specs.Told.{ChangeValue, as_told, visible_changes, told_in_turn, told_of}

-- CHANGES OF OPERATIONS IN TURN

replayed_append : (changes more : List VisibleChange) (t : List TaggedCharacter) → replayed (changes ++ more) t ≡ replayed more (replayed changes t)
replayed_append [] more t = refl
replayed_append (c ∷ changes) more t = replayed_append changes more (with_change c t)

pub turn_replays : (limit : ℕ) (ops log : List Operation) → IsHistory log → ((op : Operation) → HasOp ops op → keeps_rules op.body ≡ true) → AreTakenInTurn limit log ops
    → replayed (changes_in_turn ops log) (tagged_text (cells_of log)) ≡ tagged_text (cells_of (with_operations ops log))
turn_replays limit [] log h rules turn = refl
turn_replays limit (op ∷ ops) log h rules turn =
    let k = (continues_new limit op log h (rules op (inl refl)) turn.0).0 in
    let more = with_operation op log in
    replayed_append (changes_of op (cells_of log)) (changes_in_turn ops more) (tagged_text (cells_of log))
    ∙ ap (replayed (changes_in_turn ops more)) (changes_replay log op h k)
    ∙ turn_replays limit ops more (history_with op log h k) (λ x i. rules x (inr i)) turn.1

-- CHANGES THAT ARE TOLD

-- by what is told of it
abbrev told_as : Body → ChangeValue → List VisibleChange
told_as (Insert after tags text) told = Inserted told.place text tags ∷ []
told_as (Delete spans) told = map (λ (run : PlaceRun). Deleted run.from run.to) told.removed
told_as (Tag on name spans) told = map (λ (run : PlaceRun). Tagged on name run.from run.to) told.retagged

abbrev all_as : List Operation → List ChangeValue → List VisibleChange
all_as [] all = []
all_as (op ∷ ops) [] = []
all_as (op ∷ ops) (told ∷ all) = told_as op.body told ++ all_as ops all

told_by_as : (body : Body) (change : Change) → told_by body change ≡ told_as body (as_told change)
told_by_as (Insert after tags text) change = refl
told_by_as (Delete spans) change = refl
told_by_as (Tag on name spans) change = refl

shown_as : (ops : List Operation) (changes : List Change) → visible_changes ops changes ≡ all_as ops (map as_told changes)
shown_as [] changes = refl
shown_as (op ∷ ops) [] = refl
shown_as (op ∷ ops) (change ∷ changes) =
    ap (λ l. l ++ visible_changes ops changes) (told_by_as op.body change) ∙ ap (λ l. told_as op.body (as_told change) ++ l) (shown_as ops changes)

as_changes : (op : Operation) (log : List Operation) → told_as op.body (told_of op (cells_of log)) ≡ changes_of op (cells_of log)
as_changes op log = by op.body refl
  where
    by : (body : Body) → op.body ≡ body → told_as op.body (told_of op (cells_of log)) ≡ changes_of op (cells_of log)
    by (Insert after tags text) e = rw e refl
    by (Delete spans) e = rw e refl
    by (Tag on name spans) e = rw e refl

all_changes : (ops log : List Operation) → all_as ops (told_in_turn ops log) ≡ changes_in_turn ops log
all_changes [] log = refl
all_changes (op ∷ ops) log =
    let more = with_operation op log in
    ap (λ l. l ++ all_as ops (told_in_turn ops more)) (as_changes op log) ∙ ap (λ l. changes_of op (cells_of log) ++ l) (all_changes ops more)

pub told_replays : (limit : ℕ) (ops log : List Operation) (changes : List Change) → IsHistory log → ((op : Operation) → HasOp ops op → keeps_rules op.body ≡ true) → AreTakenInTurn limit log ops
    → map as_told changes ≡ told_in_turn ops log → replayed (visible_changes ops changes) (tagged_text (cells_of log)) ≡ tagged_text (cells_of (with_operations ops log))
told_replays limit ops log changes h rules turn told =
    ap (λ l. replayed l (tagged_text (cells_of log))) (shown_as ops changes ∙ ap (all_as ops) told ∙ all_changes ops log)
    ∙ turn_replays limit ops log h rules turn
