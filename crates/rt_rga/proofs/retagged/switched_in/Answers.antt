use Rattle.std.proofs.Common.{◌≡◌, ◌∙◌, ℕ, ◌+◌, Bool, true, List, All, ap, arith, filter, length, map, subst, sym}
use Rattle.std.proofs.lemmas.Result.{IfOk-weaker}
use Rattle.std.proofs.lemmas.List.Elements.{All-filter}
use Rattle.rt_stamps.specs.declared.stamp.Span.{Span}
use Rattle.rt_stamps.specs.declared.stamp.Stamp.{Stamp}
use Rattle.rt_ops.specs.Operations.{Name, Tag}
use Rattle.rt_store.specs.declared.cell.Cell.{Cell}
use Rattle.rt_store.specs.declared.cell.CellRun.{CellRun}
use Rattle.rt_store.specs.Cells.{AreDistinct, stamps_of, visible_of}
use Rattle.rt_store.specs.Shown.{shown}
use Rattle.rt_store.specs.Spans.{is_among, is_in_spans}
use Rattle.rt_tags.specs.States.{IsState, TagStates}
use Rattle.rt_rga.specs.NamedRuns.{IsCellRun, names_at, spans_of_runs}
use Rattle.rt_rga.specs.Noted.{switches_at}
use Rattle.rt_rga.proofs.NamedRuns.{named_within}
use Rattle.rt_rga.proofs.RetaggedPlaces.{is_switched, places_switched}
use Rattle.rt_rga.proofs.TagWrites.{run_states}
use Rattle.rt_rga.proofs.retagged.switched_in.Goals as goal

pub switched_runs-requires : goal.switched_runs-requires
switched_runs-requires g c =
    let list = g.S.TextStore.list c.args.store.now in
    let table = c.args.states.now in
    let given = g.met.S.TextStore.given c.args.store.now table c.requires.agrees in
    record {
      states = subst (All (λ (run : CellRun). IsState table run.cell.state)) (sym c.deref.ensures.value)
          (run_states table list c.in_ok-named.named.items given c.in_ok-named.ensures.runs);
    }

-- the places that are found are those that are switched
module _ (table : TagStates) (kept : List (Cell ℕ)) (named runs switched : List CellRun) (spans : List Span) (name : Name) (on : Bool)
    (distinct : AreDistinct kept) (are_runs : All (IsCellRun kept) named)
    (are_named : (stamp : Stamp) → is_among (stamps_of kept) stamp ≡ true → is_in_spans (spans_of_runs named) stamp ≡ is_in_spans spans stamp)
    (is : runs ≡ named) (is_found : switched ≡ filter (λ run. is_switched table on name run.cell) runs) where
  are_switched : (place : ℕ) → names_at (spans_of_runs switched) kept place ≡ switches_at (Tag on name spans) (map (shown table) kept) place
  are_switched place =
      (λ i. names_at (spans_of_runs (is_found i)) kept place)
      ∙ (λ i. names_at (spans_of_runs (filter (λ run. is_switched table on name run.cell) (is i))) kept place)
      ∙ places_switched on name spans table kept named place distinct are_runs are_named

pub places_of-requires-clause-runs : goal.places_of-requires-clause-runs
places_of-requires-clause-runs g c =
    let list = g.S.TextStore.list c.args.store.now in
    let P : CellRun → Type 0 = IsCellRun list in
    subst (All P) (sym (c.deref-2.ensures.value ∙ c.in_ok-switched.ensures.runs ∙ ap (filter _) c.deref.ensures.value))
    (All-filter _ P c.in_ok-named.named.items c.in_ok-named.ensures.runs)

pub returns-clause-switched : goal.returns-clause-switched
returns-clause-switched g c =
    let list = g.S.TextStore.list c.args.store.now in
    let same : (place : ℕ) → names_at (spans_of_runs c.deref-2.result.now) list place
    ≡ switches_at (Tag c.args.on c.args.name.now c.args.spans.now) (map (shown c.args.states.now) list) place =
    are_switched c.args.states.now list c.in_ok-named.named.items c.deref.result.now c.deref-2.result.now
    c.args.spans.now c.args.name.now c.args.on c.requires.distinct c.in_ok-named.ensures.runs c.in_ok-named.ensures.named
    c.deref.ensures.value (c.deref-2.ensures.value ∙ c.in_ok-switched.ensures.runs) in
    IfOk-weaker c.places_of.result _ _ (λ places h place. h place ∙ same place) c.places_of.ensures.places

pub returns-clause-runs : goal.returns-clause-runs
returns-clause-runs g c =
    let list = g.S.TextStore.list c.args.store.now in
    IfOk-weaker c.places_of.result _ _
    (λ places h. h (length (visible_of list) + 1) (λ place t. omega (arith, named_within (spans_of_runs c.deref-2.result.now) list place t)))
    c.places_of.ensures.falling
