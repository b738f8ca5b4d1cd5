use Rattle.std.proofs.Common.{◌≡◌, ◌∙◌, ◌+◌, [], ap, sym, subst, arith, length, map}
use Rattle.std.specs.Prelude.{string_bytes}
use Rattle.std.proofs.lemmas.Result.{err_from_is_err_and}
use Rattle.rt_stamps.specs.declared.stamp.TheConstants.{FINAL, ROOT}
use Rattle.rt_stamps.specs.declared.stamp.Stamp.{Stamp}
use Rattle.rt_stamps.specs.Words.{as_words}
use Rattle.rt_ops.specs.Edits.{body_of}
use Rattle.rt_ops.specs.Operations.{Delete, Insert, Tag}
use Rattle.rt_oplog.specs.Logs.{with_operation}
use Rattle.rt_store.specs.Cells.{cells_from, IsPlaced, put_at, skip_from}
use Rattle.rt_tags.specs.Writers.{listed_by, state_after}
use Rattle.rt_rga.specs.Changes.{written_in_any}
use Rattle.rt_rga.specs.Replicas.{IsReplica}
use Rattle.rt_rga.proofs.Changing.{length_changed, length_inserted}
use Rattle.rt_rga.proofs.Final.{final_stays}
use Rattle.rt_rga.proofs.Replicas.{replica_delete, replica_distinct, replica_insert, replica_placed, replica_tag}
use Rattle.rt_store.specs.Shown.{shown}
use Rattle.rt_store.specs.Spans.{gone_in_any, is_in_spans}
use Rattle.rt_tags.proofs.Keeping.{keeps_itself}
use Rattle.rt_rga.proofs.edits.change.Goals as goal

pub insert_cells-requires-clause-placed : goal.insert_cells-requires-clause-placed
insert_cells-requires-clause-placed g c =
    let body : c.args.op.now.body ≡ Insert c.in-Insert.after (as_words c.in-Insert.tags.items) c.in-Insert.text = sym c.edit.ensures.body ∙ ap body_of c.in-Insert.is in
    subst (λ (s : Stamp). IsPlaced (g.S.TextStore.list c.args.store.now) c.in-Insert.after s) (sym c.stamp.ensures)
    (replica_placed c.args.log.now.operations c.args.states.now (g.S.TextStore.list c.args.store.now) c.args.op.now c.in-Insert.after (as_words c.in-Insert.tags.items) c.in-Insert.text c.requires.replica body c.requires.continues)

pub insert_cells-requires-clause-room : goal.insert_cells-requires-clause-room
insert_cells-requires-clause-room g c =
    let body : c.args.op.now.body ≡ Insert c.in-Insert.after (as_words c.in-Insert.tags.items) c.in-Insert.text = sym c.edit.ensures.body ∙ ap body_of c.in-Insert.is in
    omega (arith, c.requires.room, length_inserted c.args.op.now c.in-Insert.after (as_words c.in-Insert.tags.items) c.in-Insert.text body, ap length c.characters.ensures)

pub set_all_gone-requires-clause-stays : goal.set_all_gone-requires-clause-stays
set_all_gone-requires-clause-stays g c =
    let body : c.args.op.now.body ≡ Delete c.in-Delete.spans.items = sym c.edit.ensures.body ∙ ap body_of c.in-Delete.is in
    ap (λ spans. is_in_spans spans FINAL) c.deref-in-Delete.ensures.value ∙ final_stays c.args.log.now.operations c.args.op.now c.in-Delete.spans.items body c.requires.replica.history c.requires.continues

pub returns-in_ok-_state-in-Insert-clause-replica : goal.returns-in_ok-_state-in-Insert-clause-replica
returns-in_ok-_state-in-Insert-clause-replica g c =
    let kept = g.S.TextStore.list c.args.store.now in
    let tags = as_words c.in-Insert.tags.items in
    let body : c.args.op.now.body ≡ Insert c.in-Insert.after (as_words c.in-Insert.tags.items) c.in-Insert.text = sym c.edit.ensures.body ∙ ap body_of c.in-Insert.is in
    let id = c.in_ok-_state-in-Insert._state in
    subst (IsReplica (with_operation c.args.op.now c.args.log.now.operations) c.insert_cells.new.states)
    (sym (c.in_ok-_state-in-Insert.ensures.list ∙ (λ j. put_at (skip_from kept c.in-Insert.after (c.stamp.ensures j)) (cells_from (c.stamp.ensures j).count (c.stamp.ensures j).site id (c.characters.ensures j)) kept)))
    (replica_insert c.args.log.now.operations c.args.states.now c.insert_cells.new.states kept c.args.op.now c.in-Insert.after tags c.in-Insert.text id c.requires.replica body c.requires.continues
    c.insert_cells.ensures.ids c.in_ok-_state-in-Insert.ensures.given
    (c.in_ok-_state-in-Insert.ensures.state ∙ ap (λ ts. state_after [] (listed_by ROOT (as_words ts))) c.deref.ensures.value))

pub returns-in_ok-_state-in-Insert-clause-cells : goal.returns-in_ok-_state-in-Insert-clause-cells
returns-in_ok-_state-in-Insert-clause-cells g c =
    let kept = g.S.TextStore.list c.args.store.now in
    let body : c.args.op.now.body ≡ Insert c.in-Insert.after (as_words c.in-Insert.tags.items) c.in-Insert.text = sym c.edit.ensures.body ∙ ap body_of c.in-Insert.is in
    length_changed (g.S.TextStore.list c.insert_cells.new.store) kept (skip_from kept c.in-Insert.after c.stamp.result) c.stamp.result.count c.stamp.result.site c.in_ok-_state-in-Insert._state c.characters.result.now c.in_ok-_state-in-Insert.ensures.list
    ∙ ap (λ n. length kept + n) (ap length c.characters.ensures ∙ sym (length_inserted c.args.op.now c.in-Insert.after (as_words c.in-Insert.tags.items) c.in-Insert.text body))

pub returns-in_ok-reserve-in-Delete-clause-replica : goal.returns-in_ok-reserve-in-Delete-clause-replica
returns-in_ok-reserve-in-Delete-clause-replica g c =
    let body : c.args.op.now.body ≡ Delete c.in-Delete.spans.items = sym c.edit.ensures.body ∙ ap body_of c.in-Delete.is in
    subst (IsReplica (with_operation c.args.op.now c.args.log.now.operations) c.args.states.now)
    (sym (c.set_all_gone.ensures.list ∙ (λ j. map (gone_in_any (c.deref-in-Delete.ensures.value j)) (c.in_ok-reserve-in-Delete.ensures.same j))))
    (replica_delete c.args.log.now.operations c.args.states.now (g.S.TextStore.list c.args.store.now) c.args.op.now c.in-Delete.spans.items c.requires.replica body c.requires.continues)

pub tag_cells-requires-clause-distinct : goal.tag_cells-requires-clause-distinct
tag_cells-requires-clause-distinct g c = replica_distinct c.args.log.now.operations c.args.states.now (g.S.TextStore.list c.args.store.now) c.requires.replica

pub returns-in_ok-_tag-in-Tag-clause-replica : goal.returns-in_ok-_tag-in-Tag-clause-replica
returns-in_ok-_tag-in-Tag-clause-replica g c =
    let body : c.args.op.now.body ≡ Tag c.in-Tag.on (string_bytes c.in-Tag.name) c.in-Tag.spans.items = sym c.edit.ensures.body ∙ ap body_of c.in-Tag.is in
    replica_tag c.args.log.now.operations c.args.states.now c.tag_cells.new.states (g.S.TextStore.list c.args.store.now) (g.S.TextStore.list c.tag_cells.new.store) c.args.op.now c.in-Tag.on (string_bytes c.in-Tag.name) c.in-Tag.spans.items
    c.requires.replica body c.requires.continues c.in_ok-_tag-in-Tag.ensures.given
    (c.in_ok-_tag-in-Tag.ensures.cells
    ∙ (λ i. map (written_in_any (c.deref-in-Tag.ensures.value i) (record { name = c.deref-in-Tag-2.ensures i; writer = c.stamp-in-Tag.ensures i; on = c.in-Tag.on })) (map (shown c.args.states.now) (g.S.TextStore.list c.args.store.now))))

pub returns-in_err-_state-in-Insert : goal.returns-in_err-_state-in-Insert
returns-in_err-_state-in-Insert g c =
    let (y, is, gives) = err_from_is_err_and c.from_residual.result c.from_residual.ensures.1 in
    rw (is, gives) (record {
      replica = tt;
      cells = tt;
      agrees = c.insert_cells.ensures.agrees;
      ids = c.insert_cells.ensures.ids;
      same = c.in_err-_state-in-Insert.ensures.err;
      fault = c.in_err-_state-in-Insert.ensures.fault;
    })

pub returns-in_err-reserve-in-Delete : goal.returns-in_err-reserve-in-Delete
returns-in_err-reserve-in-Delete g c =
    let (y, is, gives) = err_from_is_err_and c.from_residual-in_err-reserve-in-Delete.result c.from_residual-in_err-reserve-in-Delete.ensures.1 in
    rw (is, gives) (record {
      replica = tt;
      cells = tt;
      agrees = c.reserve.ensures.agrees c.args.states.now c.requires.agrees;
      ids = keeps_itself c.args.states.now;
      same = c.in_err-reserve-in-Delete.ensures.same;
      fault = c.in_err-reserve-in-Delete.ensures.err;
    })

pub returns-in_err-_tag-in-Tag : goal.returns-in_err-_tag-in-Tag
returns-in_err-_tag-in-Tag g c =
    let (y, is, gives) = err_from_is_err_and c.from_residual-in_err-_tag-in-Tag.result c.from_residual-in_err-_tag-in-Tag.ensures.1 in
    rw (is, gives) (record {
      replica = tt;
      cells = tt;
      agrees = c.tag_cells.ensures.agrees;
      ids = c.tag_cells.ensures.ids;
      same = c.in_err-_tag-in-Tag.ensures.err;
      fault = c.in_err-_tag-in-Tag.ensures.fault;
    })

pub insert_cells-requires-clause-states : goal.insert_cells-requires-clause-states
insert_cells-requires-clause-states g c = c.requires.agrees

pub returns-in_ok-_state-in-Insert-clause-fault : goal.returns-in_ok-_state-in-Insert-clause-fault
returns-in_ok-_state-in-Insert-clause-fault g c = tt

pub returns-in_ok-_state-in-Insert-clause-ids : goal.returns-in_ok-_state-in-Insert-clause-ids
returns-in_ok-_state-in-Insert-clause-ids g c = c.insert_cells.ensures.ids

pub returns-in_ok-_state-in-Insert-clause-same : goal.returns-in_ok-_state-in-Insert-clause-same
returns-in_ok-_state-in-Insert-clause-same g c = tt

pub returns-in_ok-_tag-in-Tag-clause-fault : goal.returns-in_ok-_tag-in-Tag-clause-fault
returns-in_ok-_tag-in-Tag-clause-fault g c = tt

pub returns-in_ok-_tag-in-Tag-clause-ids : goal.returns-in_ok-_tag-in-Tag-clause-ids
returns-in_ok-_tag-in-Tag-clause-ids g c = c.tag_cells.ensures.ids

pub returns-in_ok-_tag-in-Tag-clause-same : goal.returns-in_ok-_tag-in-Tag-clause-same
returns-in_ok-_tag-in-Tag-clause-same g c = tt

pub returns-in_ok-reserve-in-Delete-clause-fault : goal.returns-in_ok-reserve-in-Delete-clause-fault
returns-in_ok-reserve-in-Delete-clause-fault g c = tt

pub returns-in_ok-reserve-in-Delete-clause-ids : goal.returns-in_ok-reserve-in-Delete-clause-ids
returns-in_ok-reserve-in-Delete-clause-ids g c = keeps_itself c.args.states.now

pub returns-in_ok-reserve-in-Delete-clause-same : goal.returns-in_ok-reserve-in-Delete-clause-same
returns-in_ok-reserve-in-Delete-clause-same g c = tt

pub set_all_gone-requires-clause-states : goal.set_all_gone-requires-clause-states
set_all_gone-requires-clause-states g c = c.reserve.ensures.agrees c.args.states.now c.requires.agrees

pub tag_cells-requires-clause-few : goal.tag_cells-requires-clause-few
tag_cells-requires-clause-few g c = omega (arith, c.requires.room)

pub tag_cells-requires-clause-states : goal.tag_cells-requires-clause-states
tag_cells-requires-clause-states g c = c.requires.agrees

pub returns-in_ok-_state-in-Insert-clause-agrees : goal.returns-in_ok-_state-in-Insert-clause-agrees
returns-in_ok-_state-in-Insert-clause-agrees g c = c.insert_cells.ensures.agrees

pub returns-in_ok-reserve-in-Delete-clause-agrees : goal.returns-in_ok-reserve-in-Delete-clause-agrees
returns-in_ok-reserve-in-Delete-clause-agrees g c = c.set_all_gone.ensures.states

pub returns-in_ok-_tag-in-Tag-clause-agrees : goal.returns-in_ok-_tag-in-Tag-clause-agrees
returns-in_ok-_tag-in-Tag-clause-agrees g c = c.tag_cells.ensures.agrees
