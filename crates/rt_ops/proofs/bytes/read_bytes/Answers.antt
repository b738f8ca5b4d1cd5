use Rattle.std.proofs.Common.{◌≡◌, ◌∙◌, ◌++◌, ◌∷◌, [], subst, sym}
use Rattle.rt_ops.specs.Reading.{Reads, offsets_from}
use Rattle.rt_ops.proofs.Readings.{each_has_place, ended_as, offsets_more, reads_length}
use Rattle.rt_ops.proofs.InMemory.{reads_taken, refused_end}
use Rattle.rt_ops.proofs.bytes.read_bytes.Goals as goal

pub returns-in-Err-next-clause-ok : goal.returns-in-Err-next-clause-ok
returns-in-Err-next-clause-ok c =
    let end = c.ended-in-Err-next in
    let so_far = c.records.invariant in
    ended_as end.result _ _ _ (Reads c.args.bytes.now) c.records.ops.items c.records.offsets.items c.in-Err-next.fault c.offset-offset.result end.ensures.ops end.ensures.offsets end.ensures.fault
    (λ other. reads_taken c.args.bytes.now c.records.records c.records.ops.items c.records.offsets.items _ so_far.taken so_far.bytes so_far.offsets
    (refused_end c.records.records c.records.ops.items c.in-Err-next.fault c.offset-offset.result c.in-Err-next.ensures.err other so_far.taken (c.offset-offset.ensures.offset c.records.ops.items so_far.taken)))

pub returns-in-Err-next-clause-each : goal.returns-in-Err-next-clause-each
returns-in-Err-next-clause-each c = each_has_place c.ended-in-Err-next.result c.args.bytes.now (λ r. r.ops.items) (λ r. r.offsets.items) (λ r. r.fault) (returns-in-Err-next-clause-ok c)

pub records-preserved : goal.records-preserved
records-preserved c =
    let takes = rw c.in-Ok-Some.field-0-is at c.in-Ok-Some.ensures.ok in
    let so_far = c.records.invariant in
    let place = c.offset-offset.ensures.offset c.records.ops.items so_far.taken in
    rw (c.in_ok-push.ensures.items, c.in_ok-push-2.ensures.items) (record {
      taken = takes.taken c.records.ops.items so_far.taken;
      bytes = takes.bytes ∙ so_far.bytes;
      offsets = subst (λ v. c.records.offsets.items ++ c.offset-offset.result ∷ [] ≡ offsets_from v 8 (c.records.ops.items ++ c.in-Ok-Some.op ∷ [])) (sym takes.version) (offsets_more c.records.records.version c.records.ops.items c.records.offsets.items c.in-Ok-Some.op c.offset-offset.result so_far.offsets place);
    })

pub returns-clause-ok : goal.returns-clause-ok
returns-clause-ok c =
    let none = rw c.in-Ok-None.field-0-is at c.in-Ok-None.ensures.ok in
    let so_far = c.records.invariant in
    reads_taken c.args.bytes.now c.records.records c.records.ops.items c.records.offsets.items _ so_far.taken so_far.bytes so_far.offsets none.0

pub returns-clause-each : goal.returns-clause-each
returns-clause-each c = reads_length c.args.bytes.now _ _ _ (returns-clause-ok c)
