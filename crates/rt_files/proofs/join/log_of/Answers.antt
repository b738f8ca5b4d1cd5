use Rattle.std.proofs.Common.{inl, inr, arith}
use Rattle.std.proofs.lemmas.Option.{slice_get_within, slice_get-get_or}
use Rattle.rt_files.proofs.join.log_of.Goals as goal

pub returns-in_default : goal.returns-in_default
returns-in_default c = elim c.in-Err.ensures [
  | inl first ↦ inl (
    (c.in-Err.refused.fault, _),
    c.in_file.ensures,
    (c.in-Err.refused.place, first, slice_get-get_or c.args.offsets.now c.in-Err.refused.place 0 (omega (arith, c.requires, slice_get_within c.args.ops.items c.in-Err.refused.place first.op first.there))),
  )
  | inr memory ↦ absurd (c.in_default.not-NoMemory memory.0)
]
