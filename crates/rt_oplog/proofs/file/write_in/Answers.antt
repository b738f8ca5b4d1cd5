use Rattle.rt_rows.specs.Places.{HasPlace}
use Rattle.std.proofs.Common.{◌+◌, inl, inr, ◌∙◌, ap, subst}
use Rattle.std.specs.List.{AllByRecursion, list_all}
use Rattle.std.proofs.lemmas.List.{take_all}
use Rattle.std.proofs.lemmas.Result.{err_from_is_err_and}
use Rattle.rt_stamps.proofs.Writes.{part_longer}
use Rattle.rt_ops.specs.declared.version.Version.TheVariants.{One}
use Rattle.rt_ops.specs.File.{magic, fits, HasRecord}
use Rattle.rt_oplog.specs.Blocks.{places_in_blocks, places_of_block}
use Rattle.rt_oplog.proofs.Fitting.{part_at}
use Rattle.rt_oplog.proofs.InBlocks.{all_block}
use Rattle.rt_oplog.proofs.Merges.{ops_at}
use Rattle.rt_oplog.proofs.Writing.{part_block}
use Rattle.rt_oplog.proofs.file.write_in.Goals as goal

pub returns-in_err-write_magic-clause-writes : goal.returns-in_err-write_magic-clause-writes
returns-in_err-write_magic-clause-writes g c =
    let p = err_from_is_err_and c.from_residual.result c.from_residual.ensures.1 in
    let written = c.in_err-write_magic.ensures in
    rw (p.1, p.2) (record { wrote = part_longer _ _ (magic c.args.version) _ written.wrote; failures = inr (written.fault, written.failures) })

pub write_records-requires-clause-within : goal.write_records-requires-clause-within
write_records-requires-clause-within g c =
    let ops = c.blocks-2.result.0.now.rows in
    rw c.deref.ensures.value
    (all_block (HasPlace ops) c.blocks-2.result.1.now c.loop-block.block-index c.block-item.result c.loop-block-test.true c.block-item.is c.blocks-2.ensures.within)

pub write_records-requires-clause-room : goal.write_records-requires-clause-room
write_records-requires-clause-room g c = λ one.
    let ops = c.blocks-2.result.0.now.rows in
    let room = ap (list_all (fits One)) c.blocks-2.ensures.operations ∙ c.requires one in
    rw c.deref.ensures.value (part_at places_of_block ops c.blocks-2.result.1.now c.loop-block.block-index c.block-item.result c.loop-block-test.true c.block-item.is room)

pub returns-in_err-write_records-clause-writes : goal.returns-in_err-write_records-clause-writes
returns-in_err-write_records-clause-writes g c =
    let p = err_from_is_err_and c.from_residual-in_err-write_records.result c.from_residual-in_err-write_records.ensures.1 in
    let written = c.in_err-write_records.ensures.writes in
    let before = c.loop-block.invariant.failures in
    rw (p.1, p.2, ← c.blocks-2.ensures.operations) (record {
      wrote = part_block c.args.version _ _ _ c.blocks-2.result.0.now.rows c.blocks-2.result.1.now c.loop-block.block-index c.block-item.result c.loop-block-test.true c.block-item.is c.loop-block.invariant.wrote
          (rw c.deref.ensures.value at written.wrote);
      failures = elim written.failures [
        | inl memory ↦ inl (memory.0, memory.1 ∙ before)
        | inr failed ↦ inr (failed.0, failed.1 ∙ ap (λ n. n + 1) before)
      ];
    })

pub returns-clause-records : goal.returns-clause-records
returns-clause-records g c =
    let seen = ap (λ bs. ops_at c.blocks-2.result.0.now.rows (places_in_blocks bs)) (take_all c.loop-block.block-index c.blocks-2.result.1.now c.loop-block-test.false) ∙ c.blocks-2.ensures.operations in
    (c.blocks-2.ensures.log, subst (AllByRecursion (HasRecord c.args.version)) seen c.loop-block.invariant.records)
