-- The states of cells stay those that a table gave out.
use Rattle.std.proofs.Common.{◌≡◌, ◌++◌, ◌∷◌, [], take, drop, map, ℕ, List, Bool, true, false, cond, refl, get_or}
use Rattle.std.proofs.lemmas.List.Elements.{All-append, All-map, All-take, All-drop, All-cons, All-nil}
use Rattle.rt_stamps.specs.declared.stamp.Span.{Span}
use Rattle.rt_store.specs.declared.cell.Cell.{Cell}
use Rattle.rt_store.specs.Cells.{gone_in, is_in_span, state_in, with_state}
use Rattle.rt_store.specs.Tagged.{AreStates}
use Rattle.rt_tags.specs.States.{TagStates, IsState, KeepsIds}

pub one_state : (table : TagStates) (cell : Cell ℕ) → IsState table cell.state → AreStates table (cell ∷ [])
one_state table cell h =
    let p : Cell ℕ → Type 0 = λ c. IsState table c.state in
    All-cons p cell [] h (All-nil p)

pub spliced_states : (table : TagStates) (at : ℕ) (old new : List (Cell ℕ)) → AreStates table old → AreStates table new → AreStates table (take at old ++ new ++ drop at old)
spliced_states table at old new h k =
    let p : Cell ℕ → Type 0 = λ cell. IsState table cell.state in
    All-append p (take at old ++ new) (drop at old) (All-append p (take at old) new (All-take p at old h) k) (All-drop p at old h)

gone_state : (b : Bool) (cell : Cell ℕ) → (cond b (record cell { gone = true }) cell).state ≡ cell.state
gone_state true cell = refl
gone_state false cell = refl

pub gone_states : (table : TagStates) (span : Span) (cells : List (Cell ℕ)) → AreStates table cells → AreStates table (map (gone_in span) cells)
gone_states table span cells h =
    let p : Cell ℕ → Type 0 = λ cell. IsState table cell.state in
    All-map p (gone_in span) cells (λ k d j. rw (gone_state (is_in_span span (get_or cells k d).stamp) (get_or cells k d)) (h k d j))

put_state : (table : TagStates) (b : Bool) (state : ℕ) (cell : Cell ℕ) → IsState table state → IsState table cell.state → IsState table (cond b (with_state state cell) cell).state
put_state table true state cell h k = h
put_state table false state cell h k = k

pub put_states : (table : TagStates) (span : Span) (state : ℕ) (cells : List (Cell ℕ)) → IsState table state → AreStates table cells → AreStates table (map (state_in span state) cells)
put_states table span state cells s h =
    let p : Cell ℕ → Type 0 = λ cell. IsState table cell.state in
    All-map p (state_in span state) cells (λ k d j. put_state table (is_in_span span (get_or cells k d).stamp) state (get_or cells k d) s (h k d j))

pub kept_states : (old new : TagStates) (cells : List (Cell ℕ)) → KeepsIds old new → AreStates old cells → AreStates new cells
kept_states old new cells keeps h = λ k d j. (keeps.states (get_or cells k d).state (h k d j)).0
