use Rattle.std.proofs.Common.{◌∙◌, ◌+◌, ◌++◌, ℕ, All, List, map, subst, sym, refl, arith, ap, length}
use Rattle.rt_ops.specs.Operations.{Operation}
use Rattle.rt_store.specs.declared.cell.Cell.{Cell}
use Rattle.rt_store.specs.Cells.{AreDistinct}
use Rattle.rt_store.specs.Tagged.{AreStates}
use Rattle.rt_rga.specs.Batches.{CountsRise}
use Rattle.rt_rga.specs.Making.{kept_after}
use Rattle.rt_rga.specs.Replicas.{IsReplica}
use Rattle.rt_rga.specs.Runs.{put_back_in_any}
use Rattle.rt_rga.proofs.Batching.{ComesOut, batch_counts, batch_kept, batch_length, batch_placed}
use Rattle.rt_rga.proofs.Fresh.{all_back, all_front, fresh_counts, fresh_distinct, fresh_states}
use Rattle.std.proofs.lemmas.Result.{err_from_is_err_and, on_ok_weaker}
use Rattle.rt_rga.proofs.Making.{one_counted}
use Rattle.rt_tags.proofs.Listing.{keeps_both}
use Rattle.rt_store.proofs.GivenStates.{kept_states}
use Rattle.rt_store.proofs.Shown.{shown_later}
use Rattle.rt_store.specs.Shown.{TaggedCell, shown}
use Rattle.rt_rga.proofs.Replicas.{replica_later}
use Rattle.std.proofs.lemmas.List.{length-map}
use Rattle.rt_tags.specs.States.{IsState}
use Rattle.rt_rga.specs.declared.tagging.StateRun.{StateRun}
use Rattle.rt_rga.proofs.make.change_all.Goals as goal

pub fresh-requires : goal.fresh-requires
fresh-requires g c = record { counts = batch_counts c.args.log.now.operations c.args.ops.now c.requires.continues }

pub planned_states-requires-clause-counts : goal.planned_states-requires-clause-counts
planned_states-requires-clause-counts g c =
    subst CountsRise (sym c.as_slice-cells.ensures) (fresh_counts c.args.log.now.operations c.args.ops.now c.fresh.new.states c.in_ok-new.new c.requires.newest c.in_ok-new.ensures.cells)

pub planned_states-requires-clause-distinct : goal.planned_states-requires-clause-distinct
planned_states-requires-clause-distinct g c =
    let kept : List (Cell ℕ) = g.S.TextStore.list c.args.store.now in
    subst (λ (cells : List (Cell ℕ)). AreDistinct (cells ++ kept)) (sym c.as_slice-cells.ensures)
    (fresh_distinct c.args.log.now.operations c.args.ops.now c.args.states.now c.fresh.new.states kept c.in_ok-new.new c.requires.replica c.requires.continues c.requires.newest c.in_ok-new.ensures.cells)

pub planned_states-requires-clause-states : goal.planned_states-requires-clause-states
planned_states-requires-clause-states g c =
    let kept : List (Cell ℕ) = g.S.TextStore.list c.args.store.now in
    subst (λ (cells : List (Cell ℕ)). AreStates c.fresh.new.states (cells ++ kept)) (sym c.as_slice-cells.ensures)
    (fresh_states c.args.states.now c.fresh.new.states kept c.in_ok-new.new c.fresh.ensures.ids c.requires.replica.states c.in_ok-new.ensures.given)

pub put_and_note-noted-requires-clause-replica : goal.put_and_note-noted-requires-clause-replica
put_and_note-noted-requires-clause-replica g c =
    let kept : List (Cell ℕ) = g.S.TextStore.list c.args.store.now in
    let log = c.args.log.now.operations in
    let new = c.planned_states.new.states in
    let ids = keeps_both c.args.states.now c.fresh.new.states new c.fresh.ensures.ids c.planned_states.ensures.ids in
    subst (λ (cells : List (Cell ℕ)). IsReplica log new cells) (sym c.in_ok-make_room.ensures.same) (replica_later log c.args.states.now new kept c.requires.replica ids)

pub put_and_note-noted-requires-clause-fresh : goal.put_and_note-noted-requires-clause-fresh
put_and_note-noted-requires-clause-fresh g c =
    let old = c.fresh.new.states in
    let new = c.planned_states.new.states in
    let cells : List (Cell ℕ) = c.in_ok-new.new in
    ap (map (shown new)) c.as_slice-cells.ensures ∙ shown_later old new cells c.planned_states.ensures.ids c.in_ok-new.ensures.given ∙ c.in_ok-new.ensures.cells

pub put_and_note-noted-requires-clause-few : goal.put_and_note-noted-requires-clause-few
put_and_note-noted-requires-clause-few g c =
    let fresh = ap (λ (cells : List TaggedCell). length cells) c.in_ok-new.ensures.cells in
    let shown = length-map c.in_ok-new.new (shown c.fresh.new.states) in
    let kept = ap (λ (cells : List (Cell ℕ)). length cells) c.in_ok-make_room.ensures.same in
    let new = ap (λ (cells : List (Cell ℕ)). length cells) c.as_slice-cells.ensures in
    omega (arith, c.requires.room, fresh, shown, kept, new)

pub put_states-requires-clause-states : goal.put_states-requires-clause-states
put_states-requires-clause-states g c = c.put_and_note-noted.ensures.states

pub returns-clause-replica : goal.returns-clause-replica
returns-clause-replica g c =
    let kept : List (Cell ℕ) = g.S.TextStore.list c.args.store.now in
    let ops : List Operation = c.args.ops.now in
    let fresh : List (Cell ℕ) = c.in_ok-new.new in
    let come = subst (λ (cells : List (Cell ℕ)). All (ComesOut ops c.fresh.new.states c.planned_states.new.states c.in_ok-runs.runs.items) (cells ++ kept)) c.as_slice-cells.ensures c.in_ok-runs.ensures.runs in
    batch_kept c.args.log.now.operations ops c.args.states.now c.fresh.new.states c.planned_states.new.states kept fresh (g.S.TextStore.list c.put_states.new.store) c.in_ok-runs.runs.items
    c.requires.replica c.requires.continues c.requires.newest c.fresh.ensures.ids c.planned_states.ensures.ids c.in_ok-new.ensures.cells c.in_ok-new.ensures.given c.in_ok-runs.ensures.given
    (all_front (ComesOut ops c.fresh.new.states c.planned_states.new.states c.in_ok-runs.runs.items) fresh kept come) (all_back (ComesOut ops c.fresh.new.states c.planned_states.new.states c.in_ok-runs.runs.items) fresh kept come)
    (c.put_states.ensures.list ∙ (λ j. map (put_back_in_any (c.deref.ensures.value j)) ((c.put_and_note-noted.ensures.list ∙ (λ k. kept_after ops (c.as_slice-cells.ensures k) (c.in_ok-make_room.ensures.same k))) j)))

pub returns-clause-cells : goal.returns-clause-cells
returns-clause-cells g c =
    let kept : List (Cell ℕ) = g.S.TextStore.list c.args.store.now in
    let ops : List Operation = c.args.ops.now in
    let fresh : List (Cell ℕ) = c.in_ok-new.new in
    let can = batch_placed c.args.log.now.operations ops c.args.states.now c.fresh.new.states kept fresh c.requires.replica c.requires.continues c.in_ok-new.ensures.cells in
    batch_length ops c.in_ok-runs.runs.items kept fresh (g.S.TextStore.list c.put_states.new.store) can
    (c.put_states.ensures.list ∙ (λ j. map (put_back_in_any (c.deref.ensures.value j)) ((c.put_and_note-noted.ensures.list ∙ (λ k. kept_after ops (c.as_slice-cells.ensures k) (c.in_ok-make_room.ensures.same k))) j)))

-- What a call that fails leaves: its fault, and what was given out keeps its meaning.
pub returns-in_err-new : goal.returns-in_err-new
returns-in_err-new g c =
    let (y, is, gives) = err_from_is_err_and c.from_residual-in_err-new.result c.from_residual-in_err-new.ensures.1 in
    rw (is, gives) (record { replica = tt; cells = tt; agrees = g.met.S.TextStore.grows c.args.store.now c.args.states.now c.fresh.new.states c.fresh.ensures.ids c.requires.agrees; ids = c.fresh.ensures.ids; same = refl; noted = tt; fault = c.in_err-new.ensures.fault })

pub returns-in_err-runs : goal.returns-in_err-runs
returns-in_err-runs g c =
    let (y, is, gives) = err_from_is_err_and c.from_residual-in_err-runs.result c.from_residual-in_err-runs.ensures.1 in
    rw (is, gives) (record { replica = tt; cells = tt; agrees = g.met.S.TextStore.grows c.args.store.now c.args.states.now c.planned_states.new.states (keeps_both c.args.states.now c.fresh.new.states c.planned_states.new.states c.fresh.ensures.ids c.planned_states.ensures.ids) c.requires.agrees; ids = keeps_both c.args.states.now c.fresh.new.states c.planned_states.new.states c.fresh.ensures.ids c.planned_states.ensures.ids; same = refl; noted = tt; fault = c.in_err-runs.ensures.fault })

pub returns-in_err-make_room : goal.returns-in_err-make_room
returns-in_err-make_room g c =
    let (y, is, gives) = err_from_is_err_and c.from_residual-in_err-make_room.result c.from_residual-in_err-make_room.ensures.1 in
    rw (is, gives) (record { replica = tt; cells = tt; agrees = c.make_room.ensures.agrees c.planned_states.new.states (g.met.S.TextStore.grows c.args.store.now c.args.states.now c.planned_states.new.states (keeps_both c.args.states.now c.fresh.new.states c.planned_states.new.states c.fresh.ensures.ids c.planned_states.ensures.ids) c.requires.agrees); ids = keeps_both c.args.states.now c.fresh.new.states c.planned_states.new.states c.fresh.ensures.ids c.planned_states.ensures.ids; same = c.make_room.ensures.same; noted = tt; fault = c.in_err-make_room.ensures.fault })

pub put_and_note-noted-requires-clause-agrees : goal.put_and_note-noted-requires-clause-agrees
put_and_note-noted-requires-clause-agrees g c =
    let new = c.planned_states.new.states in
    let ids = keeps_both c.args.states.now c.fresh.new.states new c.fresh.ensures.ids c.planned_states.ensures.ids in
    c.make_room.ensures.agrees new (g.met.S.TextStore.grows c.args.store.now c.args.states.now new ids c.requires.agrees)

pub put_and_note-noted-requires-clause-given : goal.put_and_note-noted-requires-clause-given
put_and_note-noted-requires-clause-given g c =
    let new = c.planned_states.new.states in
    subst (AreStates new) (sym c.as_slice-cells.ensures) (kept_states c.fresh.new.states new c.in_ok-new.new c.planned_states.ensures.ids c.in_ok-new.ensures.given)

pub put_states-requires-clause-runs : goal.put_states-requires-clause-runs
put_states-requires-clause-runs g c =
    subst (λ (runs : List StateRun). All (λ run. IsState c.planned_states.new.states run.state) runs) (sym c.deref.ensures.value) c.in_ok-runs.ensures.given

pub returns-clause-ids : goal.returns-clause-ids
returns-clause-ids g c = keeps_both c.args.states.now c.fresh.new.states c.planned_states.new.states c.fresh.ensures.ids c.planned_states.ensures.ids

pub put_and_note-noted-requires-clause-room : goal.put_and_note-noted-requires-clause-room
put_and_note-noted-requires-clause-room g c =
    let room = c.in_ok-make_room.ensures.room in
    (omega (arith, room.0, ap length c.as_slice-cells.ensures), omega (arith, room.1), room.2)

pub put_states-requires-clause-room : goal.put_states-requires-clause-room
put_states-requires-clause-room g c =
    (omega arith, omega (arith, c.put_and_note-noted.ensures.room, c.in_ok-make_room.ensures.room.1, c.len.ensures, ap length c.deref.ensures.value), omega (arith, c.put_and_note-noted.ensures.tags, c.in_ok-make_room.ensures.room.2))

pub returns-clause-agrees : goal.returns-clause-agrees
returns-clause-agrees g c = c.put_states.ensures.states

-- one operation alone
pub change_one-requires-clause-room : goal.change_one-requires-clause-room
change_one-requires-clause-room g c =
    let same = one_counted c.args.ops.now c.index-ops-0.result c.if-ops-eq1.true c.index-ops-0.is in
    omega (arith, c.requires.room, same)

pub returns-then-noting-clause-cells : goal.returns-then-noting-clause-cells
returns-then-noting-clause-cells g c =
    let kept : List (Cell ℕ) = g.S.TextStore.list c.args.store.now in
    on_ok_weaker c.change_one.result (λ e. e ∙ ap (λ n. length kept + n) (sym (one_counted c.args.ops.now c.index-ops-0.result c.if-ops-eq1.true c.index-ops-0.is))) c.change_one.ensures.cells

pub change-requires-clause-room : goal.change-requires-clause-room
change-requires-clause-room g c =
    let same = one_counted c.args.ops.now c.index-ops-0-then-ops-eq1.result c.if-ops-eq1.true c.index-ops-0-then-ops-eq1.is in
    omega (arith, c.requires.room, same)

pub returns-then-ops-eq1-clause-cells : goal.returns-then-ops-eq1-clause-cells
returns-then-ops-eq1-clause-cells g c =
    let kept : List (Cell ℕ) = g.S.TextStore.list c.args.store.now in
    c.in_ok-change.ensures.cells ∙ ap (λ n. length kept + n) (sym (one_counted c.args.ops.now c.index-ops-0-then-ops-eq1.result c.if-ops-eq1.true c.index-ops-0-then-ops-eq1.is))
