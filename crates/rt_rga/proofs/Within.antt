-- A replica after a call.
use Rattle.std.proofs.Common.{◌≡◌, ℕ, ◌+◌, ◌≤◌, Bool, true, false, refl, sym, ap, subst, ◌∙◌, arith, List, length, map, max}
use Rattle.std.specs.Prelude.{nat_lt, Option, Some, None, option_map, slice_get, unwrap_or}
use Rattle.std.proofs.lemmas.Bool.Decides.{nat_tests}
use Rattle.rt_stamps.specs.declared.stamp.Stamp.{Stamp}
use Rattle.rt_ops.specs.Operations.{Operation, Body, Insert, Delete, Tag, Name, last_count, stamp_of}
use Rattle.rt_oplog.specs.Logs.{with_operation}
use Rattle.rt_ops.specs.Rules.{keeps_rules}
use Rattle.rt_store.specs.declared.cell.Cell.{Cell}
use Rattle.rt_store.specs.Tagged.{AreStates}
use Rattle.rt_tags.specs.States.{KeepsIds, TagStates, state_at}
use Rattle.rt_rga.specs.Answers.{Answer, New, Repeat, Refused, answer_to, answer_within, refused_if_full}
use Rattle.rt_rga.specs.Cells.{cells_of}
use Rattle.rt_rga.specs.Histories.{Continues, IsHistory, greatest_last_count, inserted}
use Rattle.rt_rga.specs.Kept.{AreCellsOf, IsWithin, ReplicaValue}
use Rattle.rt_rga.specs.Replicas.{IsReplica}
use Rattle.rt_rga.specs.Cells.{deletes}
use Rattle.rt_rga.specs.Taken.{takes_away}
use Rattle.rt_rga.proofs.Accepting.{history_if_new}
use Rattle.rt_rga.proofs.Counts.{count_with}
use Rattle.rt_rga.proofs.Histories.{continues_from}
use Rattle.rt_store.proofs.Shown.{length_shown, shown_later, stamps_shown, visible_at_shown, visible_shown}
use Rattle.rt_stamps.specs.declared.stamp.TheConstants.{FINAL}
use Rattle.rt_rga.proofs.Final.{final_stays}
use Rattle.rt_store.specs.Shown.{shown, TaggedCell}
use Rattle.rt_store.specs.Cells.{IsPlaced, map_state, stamps_of, visible_of}
use Rattle.rt_rga.proofs.Replicas.{replica_later, replica_placed}

-- what the answer asks of the cells
pub cells_by : (log : List Operation) (table : TagStates) (kept : List (Cell ℕ)) → IsReplica log table kept → AreCellsOf log kept
cells_by log table kept r = record {
  history = r.history;
  stamps = sym (stamps_shown (state_at table) kept) ∙ ap stamps_of r.cells;
}

-- a replica whose table knows more
pub within_later : (log more : List Operation) (table new : TagStates) (kept cells : List (Cell ℕ)) (clock limit : ℕ) → more ≡ log → cells ≡ kept → KeepsIds table new → IsWithin log table kept clock limit → IsWithin more new cells clock limit
within_later log more table new kept cells clock limit e f k w =
    let r : IsReplica log new kept = replica_later log table new kept w.replica k in
    record {
      replica = subst (λ (l : List Operation). IsReplica l new cells) (sym e) (subst (λ (cs : List (Cell ℕ)). IsReplica log new cs) (sym f) r);
      seen = w.seen ∙ ap greatest_last_count (sym e);
      cells = (let i = ap (λ (cs : List (Cell ℕ)). length cs) f in let j = w.cells in omega arith);
      most = w.most;
    }

-- and with one more operation
pub within_more : (log more : List Operation) (table new : TagStates) (kept cells : List (Cell ℕ)) (clock seen limit : ℕ) (op : Operation) → more ≡ with_operation op log → IsReplica (with_operation op log) new cells
    → length cells ≡ length kept + length (inserted op) → length kept + length (inserted op) ≤ limit → seen ≡ max clock (last_count op) → IsWithin log table kept clock limit → IsWithin more new cells seen limit
within_more log more table new kept cells clock seen limit op e r f l s w = record {
  replica = subst (λ (l : List Operation). IsReplica l new cells) (sym e) r;
  seen = (let i = count_with op log in let j = ap greatest_last_count e in let k = w.seen in omega arith);
  cells = omega arith;
  most = w.most;
}

abbrev pub value_of : List Operation → List TaggedCell → TagStates → ℕ → ℕ → ReplicaValue
value_of log cells table site limit = record { log = log; cells = cells; table = table; site = site; limit = limit }

-- a value in which the table alone is another
pub same_value : (log more : List Operation) (table new : TagStates) (kept cells : List (Cell ℕ)) (site limit : ℕ) → more ≡ log → cells ≡ kept → KeepsIds table new → AreStates table kept
    → value_of more (map (shown new) cells) new site limit ≡ value_of log (map (shown table) kept) new site limit
same_value log more table new kept cells site limit e f k h =
    let same : map (shown new) cells ≡ map (shown table) kept = ap (map (shown new)) f ∙ shown_later table new kept k h in
    λ i. value_of (e i) (same i) new site limit

-- where a store finds the place of an Insert
pub placed_by : (log : List Operation) (table : TagStates) (kept : List (Cell ℕ)) (op : Operation) → IsReplica log table kept → Continues log op
    → (after : Stamp) (tags : List Name) (text : List ℕ) → op.body ≡ Insert after tags text → IsPlaced kept after (stamp_of op)
placed_by log table kept op r k after tags text e = replica_placed log table kept op after tags text r e k

-- no operation that continues a log takes the final newline away
pub final_spared : (log : List Operation) (table : TagStates) (kept : List (Cell ℕ)) (op : Operation) → IsReplica log table kept → Continues log op → deletes op.body FINAL ≡ false
final_spared log table kept op r k = by op.body refl
  where
    by : (body : Body) → op.body ≡ body → deletes body FINAL ≡ false
    by (Insert after tags text) e = refl
    by (Delete spans) e = final_stays log op spans e r.history k
    by (Tag on name spans) e = refl

pub visible_count : {S T : Type 0} (f : S → T) (cells : List (Cell S)) → length (visible_of (map (map_state f) cells)) ≡ length (visible_of cells)
visible_count {S} {T} f cells = ap (λ (cs : List (Cell T)). length cs) (visible_shown f cells) ∙ length_shown f (visible_of cells)

-- the same characters are taken away, whatever the states stand for
pub taken_shown : {S T : Type 0} (f : S → T) (body : Body) (cells : List (Cell S)) (place : ℕ) → takes_away body (map (map_state f) cells) place ≡ takes_away body cells place
taken_shown {S} {T} f body cells place =
    ap (λ (o : Option (Cell T)). unwrap_or (option_map (λ cell. deletes body cell.stamp) o) false) (visible_at_shown f cells place) ∙ by (slice_get (visible_of cells) place)
  where
    by : (o : Option (Cell S)) → unwrap_or (option_map (λ cell. deletes body cell.stamp) (option_map (map_state f) o)) false ≡ unwrap_or (option_map (λ cell. deletes body cell.stamp) o) false
    by None = refl
    by (Some c) = refl

-- WHAT IS NEW CONTINUES THE LOG

new_within : (full : Bool) (a : Answer) → refused_if_full full a ≡ New → (full ≡ false) × (a ≡ New)
new_within true New h = absurd (cc h)
new_within false New h = (refl, refl)
new_within full Repeat h = absurd (cc h)
new_within full (Refused fault) h = absurd (cc h)

pub continues_new : (limit : ℕ) (op : Operation) (log : List Operation) → IsHistory log → keeps_rules op.body ≡ true → answer_within limit op log ≡ New
    → Continues log op × (length (cells_of log) + length (inserted op) ≤ limit)
continues_new limit op log h r e =
    let (full, new) = new_within (nat_lt limit (length (cells_of log) + length (inserted op))) (answer_to op log) e in
    (continues_from op log h (history_if_new log op h r new), grind (arith, nat_tests, full))
