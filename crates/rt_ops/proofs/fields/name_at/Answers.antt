use Rattle.std.proofs.Common.{string_bytes, inr, refl}
use Rattle.rt_ops.proofs.Parts.{name_front, no_name_front}
use Rattle.rt_ops.proofs.fields.name_at.Goals as goal

pub returns-in-Some : goal.returns-in-Some
returns-in-Some c = name_front c.name_in.result (λ found. string_bytes found.0) (λ found. found.1.now) c.args.bytes.now c.in-Some.rest.now c.in-Some.length c.in-Some.ensures.fits c.in-Some.ensures.bytes (rw c.from.ensures at c.name_in.ensures)

pub returns-in-None : goal.returns-in-None
returns-in-None c = inr (refl, λ name more fits e. no_name_front c.args.bytes.now name more c.in-None.ensures.none e)
