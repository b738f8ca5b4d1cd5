-- What is kept of a history, after one more operation.
use Rattle.std.proofs.Common.{◌≡◌, ℕ, ◌+◌, Bool, sym, ap, subst, ◌∙◌, arith, List, [], ◌∷◌, ◌++◌, map, take, drop}
use Rattle.std.proofs.lemmas.List.{length-map}
use Rattle.std.proofs.lemmas.List.Elements.{All-append, All-drop, All-from_recursion, All-take}
use Rattle.std.specs.List.{AllByRecursion}
use Rattle.rt_stamps.specs.declared.stamp.Span.{Span}
use Rattle.rt_stamps.specs.declared.stamp.Stamp.{Stamp}
use Rattle.rt_stamps.specs.declared.stamp.TheConstants.{ROOT}
use Rattle.rt_stamps.specs.Stamps.{is_same}
use Rattle.rt_store.specs.declared.cell.Cell.{Cell}
use Rattle.rt_store.specs.Cells.{AreDistinct, cells_from, IsPlaced, map_state, put_at, skip_from, StandsBefore}
use Rattle.rt_store.specs.Tagged.{AreStates}
use Rattle.rt_store.proofs.GivenStates.{kept_states}
use Rattle.rt_store.proofs.Shown.{after_shown, distinct_from_shown, from_shown, gone_shown, position_map, shown_later, skip_shown}
use Rattle.rt_tags.specs.States.{IsState, KeepsIds, TagStates, state_at}
use Rattle.rt_tags.specs.Writers.{listed_by, state_after}
use Rattle.rt_ops.specs.Operations.{Operation, Body, Insert, Delete, Tag, Name, stamp_of}
use Rattle.rt_oplog.specs.Logs.{with_operation}
use Rattle.rt_rga.specs.Histories.{Continues, IsHistory}
use Rattle.rt_rga.specs.Cells.{cells_of}
use Rattle.rt_rga.specs.Changes.{changed_by, written_in_any}
use Rattle.rt_rga.specs.Replicas.{IsReplica}
use Rattle.rt_rga.proofs.Corollaries.{cells_distinct}
use Rattle.rt_rga.proofs.Histories.{history_with}
use Rattle.rt_rga.proofs.Merging.{cells_with, map_put}
use Rattle.rt_store.specs.Spans.{gone_in_any}
use Rattle.rt_store.specs.Shown.{shown, TaggedCell}
use Rattle.rt_store.proofs.Gone.{all_gone_states as gone_states}
use Rattle.rt_rga.proofs.Final.{placed_insert}

-- ONE MORE OPERATION

pub from_states : (table : TagStates) (count site state : ℕ) (text : List ℕ) → IsState table state → AllByRecursion (λ (cell : Cell ℕ). IsState table cell.state) (cells_from count site state text)
from_states table count site state [] h = tt
from_states table count site state (c ∷ cs) h = (h, from_states table (count + 1) site state cs h)

changed_as : (log : List Operation) (op : Operation) (body : Body) → op.body ≡ body → IsHistory log → Continues log op → cells_of (with_operation op log) ≡ changed_by (stamp_of op) body (cells_of log)
changed_as log op body e h k = cells_with op log h k ∙ ap (λ b. changed_by (stamp_of op) b (cells_of log)) e

-- an Insert, whose list of tags has an id
pub replica_insert : (log : List Operation) (table new : TagStates) (kept : List (Cell ℕ)) (op : Operation) (after : Stamp) (tags : List Name) (text : List ℕ) (state : ℕ)
    → IsReplica log table kept → op.body ≡ Insert after tags text → Continues log op
    → KeepsIds table new → IsState new state → state_at new state ≡ state_after [] (listed_by ROOT tags)
    → IsReplica (with_operation op log) new (put_at (skip_from kept after (stamp_of op)) (cells_from op.count op.site state text) kept)
replica_insert log table new kept op after tags text state r e k keeps s m =
    let at = skip_from kept after (stamp_of op) in
    let fresh = cells_from op.count op.site state text in
    let p : Cell ℕ → Type 0 = λ cell. IsState new cell.state in
    let old = kept_states table new kept keeps r.states in
    let same : map (shown new) kept ≡ cells_of log = shown_later table new kept keeps r.states ∙ r.cells in
    let place : skip_from (cells_of log) after (stamp_of op) ≡ at = ap (λ (cells : List TaggedCell). skip_from cells after (stamp_of op)) (sym r.cells) ∙ skip_shown (state_at table) kept after (stamp_of op) in
    record {
      history = history_with op log r.history k;
      states = All-append p (take at kept) (fresh ++ drop at kept) (All-take p at kept old)
          (All-append p fresh (drop at kept) (All-from_recursion p fresh (from_states new op.count op.site state text s)) (All-drop p at kept old));
      cells = map_put (shown new) at fresh kept
          ∙ ap (λ cells. put_at at cells (map (shown new) kept)) (from_shown (state_at new) op.count op.site state text ∙ ap (λ state. cells_from op.count op.site state text) m)
          ∙ ap (put_at at (cells_from op.count op.site (state_after [] (listed_by ROOT tags)) text)) same
          ∙ ap (λ n. put_at n (cells_from op.count op.site (state_after [] (listed_by ROOT tags)) text) (cells_of log)) (sym place)
          ∙ sym (changed_as log op (Insert after tags text) e r.history k);
    }

-- a Delete
pub replica_delete : (log : List Operation) (table : TagStates) (kept : List (Cell ℕ)) (op : Operation) (spans : List Span)
    → IsReplica log table kept → op.body ≡ Delete spans → Continues log op → IsReplica (with_operation op log) table (map (gone_in_any spans) kept)
replica_delete log table kept op spans r e k = record {
  history = history_with op log r.history k;
  states = gone_states table spans kept r.states;
  cells = gone_shown (state_at table) spans kept ∙ ap (map (gone_in_any spans)) r.cells ∙ sym (changed_as log op (Delete spans) e r.history k);
}

-- a Tag, after which each named cell has the id of its state with the write
pub replica_tag : (log : List Operation) (table new : TagStates) (kept more : List (Cell ℕ)) (op : Operation) (on : Bool) (name : Name) (spans : List Span)
    → IsReplica log table kept → op.body ≡ Tag on name spans → Continues log op → AreStates new more
    → map (shown new) more ≡ map (written_in_any spans (record { name = name; writer = stamp_of op; on = on })) (map (shown table) kept)
    → IsReplica (with_operation op log) new more
replica_tag log table new kept more op on name spans r e k s m = record {
  history = history_with op log r.history k;
  states = s;
  cells = m ∙ ap (map (written_in_any spans (record { name = name; writer = stamp_of op; on = on }))) r.cells ∙ sym (changed_as log op (Tag on name spans) e r.history k);
}

-- what a store asks where an Insert puts its cells
stands_shown : {S T : Type 0} (f : S → T) (cells : List (Cell S)) (left : Stamp) → StandsBefore (map (map_state f) cells) left → StandsBefore cells left
stands_shown f cells left h =
    let e = position_map (λ cell. is_same cell.stamp left) (map_state f) cells in
    let n = after_shown f cells left in
    let l = length-map cells (map_state f) in
    (rw e at h.0, omega (arith, h.1, n, l))

pub replica_placed : (log : List Operation) (table : TagStates) (kept : List (Cell ℕ)) (op : Operation) (after : Stamp) (tags : List Name) (text : List ℕ)
    → IsReplica log table kept → op.body ≡ Insert after tags text → Continues log op → IsPlaced kept after (stamp_of op)
replica_placed log table kept op after tags text r e k =
    let p : IsPlaced (map (shown table) kept) after (stamp_of op) = subst (λ (cells : List TaggedCell). IsPlaced cells after (stamp_of op)) (sym r.cells) (placed_insert log op after tags text e r.history k) in
    let n = skip_shown (state_at table) kept after (stamp_of op) in
    let l = length-map kept (shown table) in
    record {
      stands = stands_shown (state_at table) kept after p.stands;
      above = p.above;
      within = let w = p.within in omega (arith, w, n, l);
    }

pub all_from_states : (table : TagStates) (count site state : ℕ) (text : List ℕ) → IsState table state → AreStates table (cells_from count site state text)
all_from_states table count site state text h = All-from_recursion (λ (cell : Cell ℕ). IsState table cell.state) (cells_from count site state text) (from_states table count site state text h)

-- a table that keeps its ids
pub replica_later : (log : List Operation) (table new : TagStates) (kept : List (Cell ℕ)) → IsReplica log table kept → KeepsIds table new → IsReplica log new kept
replica_later log table new kept r keeps = record {
  history = r.history;
  states = kept_states table new kept keeps r.states;
  cells = shown_later table new kept keeps r.states ∙ r.cells;
}

-- no two kept cells have one stamp
pub replica_distinct : (log : List Operation) (table : TagStates) (kept : List (Cell ℕ)) → IsReplica log table kept → AreDistinct kept
replica_distinct log table kept r =
    distinct_from_shown (state_at table) kept (subst (λ (cells : List TaggedCell). AreDistinct cells) (sym r.cells) (cells_distinct log r.history))
