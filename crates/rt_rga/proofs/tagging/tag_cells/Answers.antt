use Rattle.std.proofs.Common.{◌≡◌, ◌∙◌, List, sym, subst, map, ap, refl, All, arith, length}
use Rattle.rt_store.specs.declared.cell.CellRun.{CellRun}
use Rattle.rt_store.specs.Shown.{shown}
use Rattle.rt_store.proofs.GivenStates.{kept_states}
use Rattle.rt_tags.specs.States.{IsState, KeepsIds, Write, state_at, written}
use Rattle.rt_tags.proofs.Keeping.{keeps_itself}
use Rattle.rt_tags.proofs.Listing.{keeps_both}
use Rattle.rt_rga.specs.NamedRuns.{spans_of_runs}
use Rattle.rt_rga.specs.Runs.{put_back_in_any}
use Rattle.rt_rga.specs.declared.tagging.StateRun.{StateRun}
use Rattle.rt_rga.proofs.TagWrites.{AreWritten, run_states, states_before, tagged_runs}
use Rattle.std.proofs.lemmas.Result.{err_from_is_err_and}
use Rattle.rt_rga.proofs.tagging.tag_cells.Goals as goal

pub written_runs-requires-clause-states : goal.written_runs-requires-clause-states
written_runs-requires-clause-states g c =
    let list = g.S.TextStore.list c.args.store.now in
    let mid = c.number.new.self in
    let given = kept_states c.args.states.now mid list c.number.ensures.ids (g.met.S.TextStore.given c.args.store.now c.args.states.now c.requires.states) in
    subst (All (λ (run : CellRun). IsState mid run.cell.state)) (sym c.deref.ensures.value) (run_states mid list c.in_ok-named.named.items given c.in_ok-named.ensures.runs)

pub written_runs-requires-clause-tag : goal.written_runs-requires-clause-tag
written_runs-requires-clause-tag g c = c.in_ok-tag.ensures.given

pub put_states-requires-clause-states : goal.put_states-requires-clause-states
put_states-requires-clause-states g c =
    let new = c.written_runs.new.states in
    let ids : KeepsIds c.args.states.now new = keeps_both c.args.states.now c.number.new.self new c.number.ensures.ids c.written_runs.ensures.ids in
    c.reserve.ensures.agrees new (g.met.S.TextStore.grows c.args.store.now c.args.states.now new ids c.requires.states)

pub put_states-requires-clause-runs : goal.put_states-requires-clause-runs
put_states-requires-clause-runs g c =
    subst (λ (runs : List StateRun). All (λ run. IsState c.written_runs.new.states run.state) runs) (sym c.deref-2.ensures.value) c.in_ok-runs.ensures.given

pub put_states-requires-clause-room : goal.put_states-requires-clause-room
put_states-requires-clause-room g c = (omega arith, omega (arith, c.in_ok-reserve.ensures.ok.1, c.len.ensures, ap length c.deref-2.ensures.value), omega (arith, c.in_ok-reserve.ensures.ok.2, c.tags.ensures))

-- the runs of the named cells are put into their states
pub returns-clause-cells : goal.returns-clause-cells
returns-clause-cells g c =
    let old = c.args.states.now in
    let mid = c.number.new.self in
    let new = c.written_runs.new.states in
    let list = g.S.TextStore.list c.args.store.now in
    let ids : KeepsIds old new = keeps_both old mid new c.number.ensures.ids c.written_runs.ensures.ids in
    let w : Write = record { name = c.args.name.now; writer = c.args.writer; on = c.args.on } in
    let named = c.in_ok-named.named.items in
    let runs = c.in_ok-runs.runs.items in
    let given = g.met.S.TextStore.given c.args.store.now old c.requires.states in
    let put : g.S.TextStore.list c.put_states.new.store ≡ map (put_back_in_any runs) list =
    c.put_states.ensures.list ∙ (λ i. map (put_back_in_any (c.deref-2.ensures.value i)) (c.in_ok-reserve.ensures.same i)) in
    let later : map (λ run. written w (state_at mid run.cell.state)) named ≡ map (λ run. written w (state_at old run.cell.state)) named =
    states_before old mid list named w c.number.ensures.ids given c.in_ok-named.ensures.runs in
    let are : AreWritten old new w named runs = record {
      spans = c.in_ok-runs.ensures.spans ∙ ap spans_of_runs c.deref.ensures.value;
      states = c.in_ok-runs.ensures.states
          ∙ (λ i. map (λ run. written (record { name = c.in_ok-tag.ensures.tag i; writer = c.args.writer; on = c.args.on }) (state_at mid run.cell.state)) (c.deref.ensures.value i))
          ∙ later;
    } in
    ap (map (shown new)) put ∙ tagged_runs old new list w c.requires.distinct ids c.args.spans.now named runs given c.in_ok-named.ensures.runs c.in_ok-named.ensures.named are

pub returns-clause-given : goal.returns-clause-given
returns-clause-given g c = g.met.S.TextStore.given c.put_states.new.store c.written_runs.new.states c.put_states.ensures.states

pub returns-clause-tag : goal.returns-clause-tag
returns-clause-tag g c = (c.written_runs.ensures.ids.tags c.in_ok-tag.tag c.in_ok-tag.ensures.given).0

pub returns-clause-name : goal.returns-clause-name
returns-clause-name g c = (c.written_runs.ensures.ids.tags c.in_ok-tag.tag c.in_ok-tag.ensures.given).1 ∙ c.in_ok-tag.ensures.tag

pub returns-clause-ids : goal.returns-clause-ids
returns-clause-ids g c = keeps_both c.args.states.now c.number.new.self c.written_runs.new.states c.number.ensures.ids c.written_runs.ensures.ids

pub returns-clause-agrees : goal.returns-clause-agrees
returns-clause-agrees g c = c.put_states.ensures.states

-- What a call that fails leaves: its fault, and what was given out keeps its meaning.
pub returns-in_err-named : goal.returns-in_err-named
returns-in_err-named g c =
    let (y, is, gives) = err_from_is_err_and c.from_residual.result c.from_residual.ensures.1 in
    rw (is, gives) (record { cells = tt; given = tt; agrees = c.requires.states; tag = tt; name = tt; ids = keeps_itself c.args.states.now; err = refl; fault = c.in_err-named.ensures.fault })

pub returns-in_err-tag : goal.returns-in_err-tag
returns-in_err-tag g c =
    let (y, is, gives) = err_from_is_err_and c.from_residual-in_err-tag.result c.from_residual-in_err-tag.ensures.1 in
    rw (is, gives) (record { cells = tt; given = tt; agrees = g.met.S.TextStore.grows c.args.store.now c.args.states.now c.number.new.self c.number.ensures.ids c.requires.states; tag = tt; name = tt; ids = c.number.ensures.ids; err = refl; fault = c.in_err-tag.ensures.fault })

pub returns-in_err-runs : goal.returns-in_err-runs
returns-in_err-runs g c =
    let new = c.written_runs.new.states in
    let ids : KeepsIds c.args.states.now new = keeps_both c.args.states.now c.number.new.self new c.number.ensures.ids c.written_runs.ensures.ids in
    let (y, is, gives) = err_from_is_err_and c.from_residual-in_err-runs.result c.from_residual-in_err-runs.ensures.1 in
    rw (is, gives) (record { cells = tt; given = tt; agrees = g.met.S.TextStore.grows c.args.store.now c.args.states.now new ids c.requires.states; tag = tt; name = tt; ids = ids; err = refl; fault = c.in_err-runs.ensures.fault })

pub returns-in_err-reserve : goal.returns-in_err-reserve
returns-in_err-reserve g c =
    let new = c.written_runs.new.states in
    let ids : KeepsIds c.args.states.now new = keeps_both c.args.states.now c.number.new.self new c.number.ensures.ids c.written_runs.ensures.ids in
    let (y, is, gives) = err_from_is_err_and c.from_residual-in_err-reserve.result c.from_residual-in_err-reserve.ensures.1 in
    rw (is, gives) (record { cells = tt; given = tt; agrees = c.reserve.ensures.agrees new (g.met.S.TextStore.grows c.args.store.now c.args.states.now new ids c.requires.states); tag = tt; name = tt; ids = ids; err = c.reserve.ensures.same; fault = c.in_err-reserve.ensures.err })
