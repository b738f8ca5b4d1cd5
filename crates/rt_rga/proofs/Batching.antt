-- What is kept of a log, after several operations at once.
use Rattle.std.proofs.Common.{◌≡◌, ℕ, suc, ◌+◌, ◌≤◌, true, false, refl, sym, ap, subst, ◌∙◌, arith, List, [], ◌∷◌, All, cond, length, map}
use Rattle.std.proofs.lemmas.List.{length-map}
use Rattle.std.proofs.lemmas.List.Elements.{All-map}
use Rattle.std.specs.List.{AllByRecursion}
use Rattle.rt_stamps.specs.declared.limits.TheConstants.{GREATEST_COUNT}
use Rattle.rt_oplog.specs.Logs.{with_operation}
use Rattle.rt_ops.specs.Operations.{Operation, last_count}
use Rattle.rt_store.specs.declared.cell.Cell.{Cell}
use Rattle.rt_store.specs.Cells.{is_in_span, stamps_of, with_state}
use Rattle.rt_store.specs.Shown.{shown, TaggedCell}
use Rattle.rt_store.specs.Tagged.{AreStates}
use Rattle.rt_store.proofs.GivenStates.{kept_states}
use Rattle.rt_store.proofs.Shown.{shown_later, stamps_shown}
use Rattle.rt_tags.specs.States.{IsState, KeepsIds, TagStates, state_at}
use Rattle.rt_rga.specs.Batches.{after_tags, all_put}
use Rattle.rt_rga.specs.Cells.{cells_of}
use Rattle.rt_rga.specs.Drafts.{ContinueInTurn, with_operations}
use Rattle.rt_rga.specs.Making.{AreNewest, CanAllBePut, fresh_cells, kept_after}
use Rattle.rt_rga.specs.Replicas.{IsReplica}
use Rattle.rt_rga.specs.Runs.{put_back_in_any}
use Rattle.rt_rga.specs.declared.tagging.StateRun.{StateRun}
use Rattle.rt_rga.proofs.Planned.{batch}
use Rattle.rt_rga.proofs.Putting.{can_all_put, cells_after, every_after, history_after, in_turn_sound, kept_shown, length_kept_after, newest_rise}
use Rattle.rt_rga.proofs.Continuing.{sound_of}
use Rattle.rt_rga.proofs.Within.{cells_by}

-- runs give states alike to a cell that is gone and to one that isn't
gone_back : (runs : List StateRun) (cell : Cell ℕ) → put_back_in_any runs (record cell { gone = true }) ≡ record (put_back_in_any runs cell) { gone = true }
gone_back [] cell = refl
gone_back (run ∷ runs) cell = elim (is_in_span run.span cell.stamp) as (λ b.
    cond b (with_state run.state (record cell { gone = true })) (put_back_in_any runs (record cell { gone = true }))
    ≡ record (cond b (with_state run.state cell) (put_back_in_any runs cell)) { gone = true }) [
      | true ↦ refl
      | false ↦ gone_back runs cell
    ]

-- a cell comes into the state that the Tags leave
abbrev pub ComesOut : List Operation → TagStates → TagStates → List StateRun → Cell ℕ → Type 0
ComesOut ops mid new runs cell = shown new (put_back_in_any runs cell) ≡ after_tags ops (shown mid cell)

comes_out_gone : (ops : List Operation) (mid new : TagStates) (runs : List StateRun) (cell : Cell ℕ) → ComesOut ops mid new runs cell → ComesOut ops mid new runs (record cell { gone = true })
comes_out_gone ops mid new runs cell h = ap (shown new) (gone_back runs cell) ∙ ap (λ (c : TaggedCell). record c { gone = true }) h

one_given : (table : TagStates) (runs : List StateRun) (cell : Cell ℕ) → All (λ run. IsState table run.state) runs → IsState table cell.state → IsState table (put_back_in_any runs cell).state
one_given table [] cell r s = s
one_given table (run ∷ runs) cell r s = elim (is_in_span run.span cell.stamp) as (λ b. IsState table (cond b (with_state run.state cell) (put_back_in_any runs cell)).state) [
  | true ↦ r 0 run (omega arith)
  | false ↦ one_given table runs cell (λ k d l. r (suc k) d (omega (arith, l))) s
]

same_as : (ops : List Operation) (mid new : TagStates) (runs : List StateRun) (cells : List (Cell ℕ)) → All (ComesOut ops mid new runs) cells
    → map (shown new) (map (put_back_in_any runs) cells) ≡ map (after_tags ops) (map (shown mid) cells)
same_as ops mid new runs [] h = refl
same_as ops mid new runs (c ∷ cells) h = λ i. h 0 c (omega arith) i ∷ same_as ops mid new runs cells (λ k d l. h (suc k) d (omega (arith, l))) i

pub batch_kept : (log ops : List Operation) (table mid new : TagStates) (kept fresh more : List (Cell ℕ)) (runs : List StateRun)
    → IsReplica log table kept → ContinueInTurn log ops → AreNewest log ops → KeepsIds table mid → KeepsIds mid new
    → map (shown mid) fresh ≡ fresh_cells ops → AreStates mid fresh → All (λ run. IsState new run.state) runs
    → All (ComesOut ops mid new runs) fresh → All (ComesOut ops mid new runs) kept
    → more ≡ map (put_back_in_any runs) (kept_after ops fresh kept) → IsReplica (with_operations ops log) new more
batch_kept log ops table mid new kept fresh more runs r k n early late f s g cf ck e =
    let put : List (Cell ℕ) = kept_after ops fresh kept in
    let come : All (ComesOut ops mid new runs) put = every_after (ComesOut ops mid new runs) (comes_out_gone ops mid new runs) ops fresh kept cf ck in
    let given : AreStates mid put = every_after (λ (cell : Cell ℕ). IsState mid cell.state) (λ cell p. p) ops fresh kept s (kept_states table mid kept early r.states) in
    let later : AreStates new put = kept_states mid new put late given in
    subst (IsReplica (with_operations ops log) new) (sym e) (record {
      history = history_after ops log r.history k;
      states = All-map (λ (cell : Cell ℕ). IsState new cell.state) (put_back_in_any runs) put (λ i d l. one_given new runs _ g (later i d l));
      cells = same_as ops mid new runs put come
          ∙ ap (map (after_tags ops)) (kept_shown mid ops fresh kept f ∙ ap (all_put ops) (shown_later table mid kept early r.states ∙ r.cells))
          ∙ sym (batch ops (cells_of log) (in_turn_sound log ops k) (newest_rise log ops n))
          ∙ sym (cells_after ops log r.history k);
    })

-- as many cells more as there are new characters
pub batch_length : (ops : List Operation) (runs : List StateRun) (kept fresh more : List (Cell ℕ)) → CanAllBePut ops fresh kept
    → more ≡ map (put_back_in_any runs) (kept_after ops fresh kept) → length more ≡ length kept + length (fresh_cells ops)
batch_length ops runs kept fresh more h e = ap length e ∙ length-map (kept_after ops fresh kept) (put_back_in_any runs) ∙ length_kept_after ops fresh kept h

-- what a store asks, where cells are kept of a log
pub batch_placed : (log ops : List Operation) (table mid : TagStates) (kept fresh : List (Cell ℕ)) → IsReplica log table kept → ContinueInTurn log ops
    → map (shown mid) fresh ≡ fresh_cells ops → CanAllBePut ops fresh kept
batch_placed log ops table mid kept fresh r k f =
    can_all_put log ops fresh kept r.history k (cells_by log table kept r).stamps (sym (stamps_shown (state_at mid) fresh) ∙ ap (λ (cells : List TaggedCell). stamps_of cells) f)

pub batch_counts : (log ops : List Operation) → ContinueInTurn log ops → AllByRecursion (λ op. last_count op ≤ GREATEST_COUNT) ops
batch_counts log [] k = tt
batch_counts log (op ∷ ops) k = ((sound_of k.0).last, batch_counts (with_operation op log) ops k.1)
