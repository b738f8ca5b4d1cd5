use Rattle.std.proofs.Common.{map, string_bytes, Global, inr, refl}
use Rattle.rt_ops.proofs.Parts.{tags_front, no_tags}
use Rattle.rt_ops.proofs.fields.tags_at.Goals as goal

pub returns-in-Some : goal.returns-in-Some
returns-in-Some c = tags_front c.names_in.result (λ found. map (string_bytes {Z = Global}) found.0.items) (λ found. found.1.now) c.args.bytes.now c.in-Some.rest.now c.in-Some.count c.in-Some.ensures.fits c.in-Some.ensures.bytes c.names_in.ensures

pub returns-in-None : goal.returns-in-None
returns-in-None c = inr (refl, λ tags more fits e. no_tags c.args.bytes.now tags more c.in-None.ensures.none e)
