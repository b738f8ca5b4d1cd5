-- A Tag on runs of cells: each comes into its state with one more write.
use Rattle.std.proofs.Common.{◌≡◌, ℕ, ◌+◌, ◌<◌, Bool, true, false, ◌||◌, refl, sym, subst, ap, ◌∙◌, get_or, length, All, Some, List, [], ◌∷◌, ◌++◌, cond, map, take}
use Rattle.std.specs.Option.{is_some}
use Rattle.std.proofs.lemmas.List.{take_more}
use Rattle.std.proofs.lemmas.List.Elements.{All-append, All-cons, All-head, All-nil, All-tail}
use Rattle.std.proofs.lemmas.Map.Keys.{IsDistinct-head, IsDistinct-tail}
use Rattle.std.specs.List.{AllByRecursion}
use Rattle.rt_stamps.specs.declared.stamp.Span.{Span}
use Rattle.rt_stamps.specs.declared.stamp.Stamp.{Stamp}
use Rattle.rt_stamps.specs.Spans.{is_in_span}
use Rattle.rt_stamps.specs.Stamps.{is_same}
use Rattle.rt_stamps.proofs.Order.{same_refl}
use Rattle.rt_store.specs.declared.cell.Cell.{Cell}
use Rattle.rt_store.specs.declared.cell.CellRun.{CellRun}
use Rattle.rt_store.specs.Cells.{AreDistinct, cell_of, stamps_of, with_state}
use Rattle.rt_store.specs.Shown.{TaggedCell, shown}
use Rattle.rt_store.specs.Spans.{is_among, is_in_spans}
use Rattle.rt_store.specs.Tagged.{AreStates}
use Rattle.rt_store.proofs.Distinct.{split}
use Rattle.rt_store.proofs.Finding.{stamp_held}
use Rattle.rt_tags.specs.States.{IsState, IsTag, KeepsIds, TagStates, Write, state_at, write_at, written}
use Rattle.rt_rga.specs.Changes.{with_write, written_in_any}
use Rattle.rt_rga.specs.NamedRuns.{IsCellRun, span_of_run, spans_of_runs}
use Rattle.rt_rga.specs.declared.tagging.StateChange.{StateChange}
use Rattle.rt_rga.specs.declared.tagging.StateRun.{StateRun}
use Rattle.rt_rga.specs.Runs.{IsStateChange, put_back_in_any}
use Rattle.rt_rga.proofs.NamedRuns.{of_run}

map_append : {A B : Type 0} (f : A → B) (xs ys : List A) → map f (xs ++ ys) ≡ map f xs ++ map f ys
map_append f [] ys = refl
map_append f (x ∷ xs) ys = ap (λ l. f x ∷ l) (map_append f xs ys)

-- a cell is the one that is found by its stamp
abbrev IsFound : List (Cell ℕ) → Cell ℕ → Type 0
IsFound cells c = cell_of cells c.stamp ≡ Some c

found_further : (x : Cell ℕ) (xs cs : List (Cell ℕ)) → AllByRecursion (λ t. is_same x.stamp t ≡ false) (stamps_of cs) → AllByRecursion (IsFound xs) cs → AllByRecursion (IsFound (x ∷ xs)) cs
found_further x xs [] h k = tt
found_further x xs (c ∷ cs) h k = (ap (λ b. cond b (Some x) (cell_of xs c.stamp)) h.0 ∙ k.0, found_further x xs cs h.1 k.1)

all_found : (cells : List (Cell ℕ)) → AreDistinct cells → AllByRecursion (IsFound cells) cells
all_found [] d = tt
all_found (c ∷ cs) d = (
  ap (λ b. cond b (Some c) (cell_of cs c.stamp)) (same_refl c.stamp),
  found_further c cs cs (IsDistinct-head is_same c.stamp (stamps_of cs) d) (all_found cs (IsDistinct-tail is_same c.stamp (stamps_of cs) d)),
)

-- WRITING ON RUNS

-- states of runs are those of runs of cells after one more write
pub record AreWritten (old new : TagStates) (w : Write) (runs : List CellRun) (written_runs : List StateRun) : Type 0 where
  pub spans : map (λ run. run.span) written_runs ≡ spans_of_runs runs
  pub states : map (λ run. state_at new run.state) written_runs ≡ map (λ run. written w (state_at old run.cell.state)) runs

module _ (old new : TagStates) (kept : List (Cell ℕ)) (w : Write) (distinct : AreDistinct kept) (keeps : KeepsIds old new) where
  -- a cell after the write, if runs have it
  abbrev after : List CellRun → Cell ℕ → TaggedCell
  after runs cell = cond (is_in_spans (spans_of_runs runs) cell.stamp) (with_write w (shown old cell)) (shown old cell)

  as_before : (cell : Cell ℕ) → IsState old cell.state → shown new cell ≡ shown old cell
  as_before cell h = λ i. record { stamp = cell.stamp; ch = cell.ch; gone = cell.gone; state = (keeps.states cell.state h).1 i }

  here : (run : CellRun) (state : ℕ) (cell : Cell ℕ) → IsCellRun kept run → IsFound kept cell → is_in_span (span_of_run run) cell.stamp ≡ true
      → state_at new state ≡ written w (state_at old run.cell.state) → shown new (with_state state cell) ≡ with_write w (shown old cell)
  here run state cell r found t e =
      let same = (of_run kept run cell distinct r found t).state in
      let is : state_at new state ≡ written w (state_at old cell.state) = e ∙ ap (λ s. written w (state_at old s)) (sym same) in
      λ i. record { stamp = cell.stamp; ch = cell.ch; gone = cell.gone; state = is i }

  put_runs : (runs : List CellRun) (more : List StateRun) (cell : Cell ℕ) → IsState old cell.state → IsFound kept cell → All (IsCellRun kept) runs
      → AreWritten old new w runs more → shown new (put_back_in_any more cell) ≡ after runs cell
  put_runs [] [] cell h found rs are = as_before cell h
  put_runs [] (m ∷ more) cell h found rs are = (let e = are.spans in absurd (cc e))
  put_runs (run ∷ runs) [] cell h found rs are = (let e = are.spans in absurd (cc e))
  put_runs (run ∷ runs) (m ∷ more) cell h found rs are =
      let spans = are.spans in
      let states = are.states in
      let span : m.span ≡ span_of_run run = cc spans in
      let state : state_at new m.state ≡ written w (state_at old run.cell.state) = cc states in
      let other_spans : map (λ run. run.span) more ≡ spans_of_runs runs = cc spans in
      let other_states : map (λ run. state_at new run.state) more ≡ map (λ run. written w (state_at old run.cell.state)) runs = cc states in
      let rest = put_runs runs more cell h found (All-tail (IsCellRun kept) run runs rs) (record { spans = other_spans; states = other_states }) in
      ap (λ s. shown new (cond (is_in_span s cell.stamp) (with_state m.state cell) (put_back_in_any more cell))) span
      ∙ split (is_in_span (span_of_run run) cell.stamp)
      (λ t. ap (λ b. shown new (cond b (with_state m.state cell) (put_back_in_any more cell))) t
      ∙ here run m.state cell (All-head (IsCellRun kept) run runs rs) found t state
      ∙ sym (ap (λ b. cond (b || is_in_spans (spans_of_runs runs) cell.stamp) (with_write w (shown old cell)) (shown old cell)) t))
      (λ f. ap (λ b. shown new (cond b (with_state m.state cell) (put_back_in_any more cell))) f
      ∙ rest
      ∙ sym (ap (λ b. cond (b || is_in_spans (spans_of_runs runs) cell.stamp) (with_write w (shown old cell)) (shown old cell)) f))

  -- the runs of the cells that spans name, put into their states: a Tag
  put_all : (spans : List Span) (runs : List CellRun) (more : List StateRun) (cells : List (Cell ℕ)) → AreStates old cells → AllByRecursion (IsFound kept) cells → All (IsCellRun kept) runs
      → ((stamp : Stamp) → is_among (stamps_of kept) stamp ≡ true → is_in_spans (spans_of_runs runs) stamp ≡ is_in_spans spans stamp) → AreWritten old new w runs more
      → map (shown new) (map (put_back_in_any more) cells) ≡ map (written_in_any spans w) (map (shown old) cells)
  put_all spans runs more [] h found rs named are = refl
  put_all spans runs more (c ∷ cs) h found rs named are =
      let P : Cell ℕ → Type 0 = λ cell. IsState old cell.state in
      let among : is_among (stamps_of kept) c.stamp ≡ true = sym (stamp_held kept c.stamp) ∙ ap is_some found.0 in
      let one = put_runs runs more c (All-head P c cs h) found.0 rs are ∙ ap (λ b. cond b (with_write w (shown old c)) (shown old c)) (named c.stamp among) in
      let rest = put_all spans runs more cs (All-tail P c cs h) found.1 rs named are in
      λ i. one i ∷ rest i

  pub tagged_runs : (spans : List Span) (runs : List CellRun) (more : List StateRun) → AreStates old kept → All (IsCellRun kept) runs
      → ((stamp : Stamp) → is_among (stamps_of kept) stamp ≡ true → is_in_spans (spans_of_runs runs) stamp ≡ is_in_spans spans stamp) → AreWritten old new w runs more
      → map (shown new) (map (put_back_in_any more) kept) ≡ map (written_in_any spans w) (map (shown old) kept)
  tagged_runs spans runs more h rs named are = put_all spans runs more kept h (all_found kept distinct) rs named are

-- THE STATES OF RUNS

-- the cells of runs are in states that were given out
pub run_states : (table : TagStates) (kept : List (Cell ℕ)) (runs : List CellRun) → AreStates table kept → All (IsCellRun kept) runs → All (λ run. IsState table run.cell.state) runs
run_states table kept runs h rs = λ i d l. found_state table kept (get_or runs i d).cell h (rs i d l).cell
  where
    by : (table : TagStates) (c cell : Cell ℕ) (cs : List (Cell ℕ)) (b : Bool) → IsState table c.state → (cell_of cs cell.stamp ≡ Some cell → IsState table cell.state)
        → cond b (Some c) (cell_of cs cell.stamp) ≡ Some cell → IsState table cell.state
    by table c cell cs true h k e = let is : c ≡ cell = cc e in subst (λ (x : Cell ℕ). IsState table x.state) is h
    by table c cell cs false h k e = k e

    found_state : (table : TagStates) (cells : List (Cell ℕ)) (cell : Cell ℕ) → AreStates table cells → cell_of cells cell.stamp ≡ Some cell → IsState table cell.state
    found_state table [] cell h e = absurd (cc e)
    found_state table (c ∷ cs) cell h e =
        let P : Cell ℕ → Type 0 = λ x. IsState table x.state in
        by table c cell cs (is_same c.stamp cell.stamp) (All-head P c cs h) (found_state table cs cell (All-tail P c cs h)) e

-- what is written on the states of runs is the same in a later table
pub states_before : (old mid : TagStates) (kept : List (Cell ℕ)) (runs : List CellRun) (w : Write) → KeepsIds old mid → AreStates old kept → All (IsCellRun kept) runs
    → map (λ run. written w (state_at mid run.cell.state)) runs ≡ map (λ run. written w (state_at old run.cell.state)) runs
states_before old mid kept runs w keeps h rs = by runs (run_states old kept runs h rs)
  where
    by : (runs : List CellRun) → All (λ run. IsState old run.cell.state) runs → map (λ run. written w (state_at mid run.cell.state)) runs ≡ map (λ run. written w (state_at old run.cell.state)) runs
    by [] k = refl
    by (run ∷ runs) k =
        let P : CellRun → Type 0 = λ run. IsState old run.cell.state in
        let one = (keeps.states run.cell.state (All-head P run runs k)).1 in
        let rest = by runs (All-tail P run runs k) in
        λ i. written w (one i) ∷ rest i

abbrev AreGiven : TagStates → List StateRun → Type 0
AreGiven table runs = All (λ run. IsState table run.state) runs

states_later : (now new : TagStates) (runs : List StateRun) → KeepsIds now new → AreGiven now runs → map (λ run. state_at new run.state) runs ≡ map (λ run. state_at now run.state) runs
states_later now new [] k h = refl
states_later now new (r ∷ rs) k h =
    let P : StateRun → Type 0 = λ run. IsState now run.state in
    let one = (k.states r.state (All-head P r rs h)).1 in
    let rest = states_later now new rs k (All-tail P r rs h) in
    λ i. one i ∷ rest i

-- ONE RUN MORE IS WRITTEN ON

pub given_more : (now new : TagStates) (more : List StateRun) (run : StateRun) → KeepsIds now new → AreGiven now more → IsState new run.state → AreGiven new (more ++ run ∷ [])
given_more now new more run keeps h k =
    let P : StateRun → Type 0 = λ run. IsState new run.state in
    All-append P more (run ∷ []) (λ i d l. (keeps.states (get_or more i d).state (h i d l)).0) (All-cons P run [] k (All-nil P))

pub written_more : (old now new : TagStates) (more : List StateRun) (runs : List CellRun) (i : ℕ) (item : CellRun) (tag : ℕ) (writer : Stamp) (on : Bool) (state : ℕ)
    → i < length runs → item ≡ get_or runs i item → KeepsIds old now → KeepsIds now new → AreGiven now more → IsTag old tag → IsState old item.cell.state
    → state_at new state ≡ written (write_at now tag writer on) (state_at now item.cell.state)
    → AreWritten old now (write_at old tag writer on) (take i runs) more
    → AreWritten old new (write_at old tag writer on) (take (i + 1) runs) (more ++ record { span = span_of_run item; state = state } ∷ [])
written_more old now new more runs i item tag writer on state l is first second given t h e are =
    let w = write_at old tag writer on in
    let name = (first.tags tag t).1 in
    let was = (first.states item.cell.state h).1 in
    let next : state_at new state ≡ written w (state_at old item.cell.state) = e ∙ (λ j. written (record { name = name j; writer = writer; on = on }) (was j)) in
    let run : StateRun = record { span = span_of_run item; state = state } in
    let front : take (i + 1) runs ≡ take i runs ++ item ∷ [] = take_more runs i item l ∙ ap (λ (x : CellRun). take i runs ++ x ∷ []) (sym is) in
    record {
      spans = map_append (λ (run : StateRun). run.span) more (run ∷ []) ∙ ap (λ l. l ++ span_of_run item ∷ []) are.spans
          ∙ sym (ap spans_of_runs front ∙ map_append span_of_run (take i runs) (item ∷ []));
      states = map_append (λ (run : StateRun). state_at new run.state) more (run ∷ [])
          ∙ (λ j. (states_later now new more second given ∙ are.states) j ++ next j ∷ [])
          ∙ sym (ap (map (λ (run : CellRun). written w (state_at old run.cell.state))) front ∙ map_append (λ (run : CellRun). written w (state_at old run.cell.state)) (take i runs) (item ∷ []));
    }

-- the write of a tag is the same in a later table
pub same_write : (old now : TagStates) (tag : ℕ) (writer : Stamp) (on : Bool) → KeepsIds old now → IsTag old tag → write_at old tag writer on ≡ write_at now tag writer on
same_write old now tag writer on first t = sym (λ i. record { name = (first.tags tag t).1 i; writer = writer; on = on })

-- what a state came into, in a later table
pub change_later : (old now new : TagStates) (tag : ℕ) (writer : Stamp) (on : Bool) (change : StateChange) → KeepsIds old now → KeepsIds now new → IsTag old tag → IsState now change.before → IsState new change.after
    → state_at new change.after ≡ written (write_at now tag writer on) (state_at now change.before) → IsStateChange new (write_at old tag writer on) change
change_later old now new tag writer on change first second t b a e = record {
  before = (second.states change.before b).0;
  after = a;
  written = e ∙ sym (λ i. written (same_write old now tag writer on first t i) ((second.states change.before b).1 i));
}
