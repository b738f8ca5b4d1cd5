use Rattle.std.proofs.Common.{◌≡◌, ◌∙◌, ℕ, ◌+◌, Bool, true, List, All, ap, arith, filter, length, map, subst, sym}
use Rattle.std.proofs.lemmas.Result.{IfOk-weaker}
use Rattle.std.proofs.lemmas.List.Elements.{All-filter}
use Rattle.rt_stamps.specs.declared.stamp.Span.{Span}
use Rattle.rt_stamps.specs.declared.stamp.Stamp.{Stamp}
use Rattle.rt_ops.specs.Operations.{Name, Tag}
use Rattle.rt_store.specs.declared.cell.Cell.{Cell}
use Rattle.rt_store.specs.Spans.{is_among, is_in_spans}
use Rattle.rt_store.specs.Tagged.{AreStates}
use Rattle.rt_tags.proofs.Listing.{keeps_both}
use Rattle.rt_store.specs.declared.cell.CellRun.{CellRun}
use Rattle.rt_store.specs.Cells.{AreDistinct, stamps_of, visible_of}
use Rattle.rt_store.specs.Shown.{shown}
use Rattle.rt_store.proofs.GivenStates.{kept_states}
use Rattle.rt_store.proofs.Shown.{shown_later}
use Rattle.rt_tags.specs.States.{IsState, KeepsIds, TagStates, name_at, write_at}
use Rattle.rt_rga.specs.NamedRuns.{IsCellRun, changes_kept, names_at, spans_of_runs}
use Rattle.rt_rga.specs.Taken.{retags}
use Rattle.rt_rga.proofs.NamedRuns.{named_within}
use Rattle.rt_rga.proofs.RetaggedPlaces.{places_retagged}
use Rattle.rt_rga.proofs.TagWrites.{run_states}
use Rattle.rt_rga.proofs.retagged.retagged_in.Goals as goal

pub changed_runs-requires-clause-states : goal.changed_runs-requires-clause-states
changed_runs-requires-clause-states g c =
    let list = g.S.TextStore.list c.args.store.now in
    let mid = c.number.new.self in
    let given = kept_states c.args.states.now mid list c.number.ensures.ids (g.met.S.TextStore.given c.args.store.now c.args.states.now c.requires.agrees) in
    subst (All (λ (run : CellRun). IsState mid run.cell.state)) (sym c.deref.ensures.value) (run_states mid list c.in_ok-named.named.items given c.in_ok-named.ensures.runs)

-- the places that are found are those that are tagged
module _ (old mid : TagStates) (kept : List (Cell ℕ)) (named runs changed : List CellRun) (spans : List Span) (name : Name) (tag : ℕ) (writer : Stamp) (on : Bool)
    (distinct : AreDistinct kept) (keeps : KeepsIds old mid) (given : AreStates old kept) (called : name_at mid tag ≡ name) (are_runs : All (IsCellRun kept) named)
    (are_named : (stamp : Stamp) → is_among (stamps_of kept) stamp ≡ true → is_in_spans (spans_of_runs named) stamp ≡ is_in_spans spans stamp)
    (is : runs ≡ named) (is_changed : changed ≡ filter (λ run. changes_kept mid (write_at mid tag writer on) run.cell) runs) where
  are_retagged : (place : ℕ) → names_at (spans_of_runs changed) kept place ≡ retags writer (Tag on name spans) (map (shown old) kept) place
  are_retagged place =
      (λ i. names_at (spans_of_runs (is_changed i)) kept place)
      ∙ (λ i. names_at (spans_of_runs (filter (λ run. changes_kept mid (record { name = called i; writer = writer; on = on }) run.cell) (is i))) kept place)
      ∙ places_retagged writer on name spans mid kept named place distinct are_runs are_named
      ∙ ap (λ cells. retags writer (Tag on name spans) cells place) (shown_later old mid kept keeps given)

pub places_of-requires-clause-runs : goal.places_of-requires-clause-runs
places_of-requires-clause-runs g c =
    let list = g.S.TextStore.list c.args.store.now in
    let P : CellRun → Type 0 = IsCellRun list in
    subst (All P) (sym (c.deref-2.ensures.value ∙ c.in_ok-changed.ensures.runs ∙ ap (filter _) c.deref.ensures.value)) (All-filter _ P c.in_ok-named.named.items c.in_ok-named.ensures.runs)

pub returns-clause-retagged : goal.returns-clause-retagged
returns-clause-retagged g c =
    let list = g.S.TextStore.list c.args.store.now in
    let given = g.met.S.TextStore.given c.args.store.now c.args.states.now c.requires.agrees in
    let same : (place : ℕ) → names_at (spans_of_runs c.deref-2.result.now) list place ≡ retags c.args.writer (Tag c.args.on c.args.name.now c.args.spans.now) (map (shown c.args.states.now) list) place =
    are_retagged c.args.states.now c.number.new.self list c.in_ok-named.named.items c.deref.result.now c.deref-2.result.now c.args.spans.now c.args.name.now c.in_ok-tag.tag c.args.writer c.args.on
    c.requires.distinct c.number.ensures.ids given c.in_ok-tag.ensures.tag c.in_ok-named.ensures.runs c.in_ok-named.ensures.named c.deref.ensures.value (c.deref-2.ensures.value ∙ c.in_ok-changed.ensures.runs) in
    IfOk-weaker c.places_of.result _ _ (λ places h place. h place ∙ same place) c.places_of.ensures.places

pub returns-clause-runs : goal.returns-clause-runs
returns-clause-runs g c =
    let list = g.S.TextStore.list c.args.store.now in
    IfOk-weaker c.places_of.result _ _ (λ places h. h (length (visible_of list) + 1) (λ place t. omega (arith, named_within (spans_of_runs c.deref-2.result.now) list place t))) c.places_of.ensures.falling

pub returns-clause-ids : goal.returns-clause-ids
returns-clause-ids g c = keeps_both c.args.states.now c.number.new.self c.changed_runs.new.states c.number.ensures.ids c.changed_runs.ensures.ids
