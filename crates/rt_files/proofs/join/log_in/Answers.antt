use Rattle.std.proofs.Common.{inl, inr}
use Rattle.std.proofs.lemmas.Result.{err_from_is_err_and}
use Rattle.rt_ops.proofs.Readings.{offset_each}
use Rattle.rt_files.proofs.join.log_in.Goals as goal

pub log_of-requires : goal.log_of-requires
log_of-requires g c = rw c.deref.ensures.value (offset_each _ _ _ c.in-Ok.reading.ops.items c.in-Ok.reading.offsets.items c.in-Ok.reading.fault c.in-Ok.ensures.reads)

pub returns-in-Some : goal.returns-in-Some
returns-in-Some g c = inl (
  _,
  c.in_file.ensures,
  (c.in-Ok.reading.ops.items, c.in-Ok.reading.offsets.items, c.in-Ok.reading.fault, c.in-Ok.ensures.reads, inr (c.in-Some.is, (c.in_ok-log.log.operations, c.in_ok-log.ensures))),
)

pub returns-in-Err : goal.returns-in-Err
returns-in-Err g c =
    let memory = c.in-Err.ensures.memory in
    inr (rw memory.0 at c.of_neither.ensures, inl memory.1)

pub returns-in_err-log : goal.returns-in_err-log
returns-in_err-log g c =
    let p = err_from_is_err_and c.from_residual.result c.from_residual.ensures.1 in
    let ops = c.in-Ok.reading.ops.items in
    let offsets = c.in-Ok.reading.offsets.items in
    let fault = c.in-Ok.reading.fault in
    let told = rw c.deref.ensures.value at c.in_err-log.ensures in
    rw (p.1, p.2) (elim told [
      | inl found ↦ inl (found.0, found.1, (ops, offsets, fault, c.in-Ok.ensures.reads, inl found.2))
      | inr memory ↦ inr (memory.0, inr (ops, offsets, fault, c.in-Ok.ensures.reads, memory.1))
    ])
