use Rattle.std.proofs.Common.{refl, inr, sym, ◌∙◌}
use Rattle.rt_ops.proofs.InMemory.{no_length}
use Rattle.rt_ops.proofs.record.length_at.Goals as goal

pub returns-then-not-is_length : goal.returns-then-not-is_length
returns-then-not-is_length c =
    let none = no_length c.args.bytes.now c.in-Some.found.1.now c.in-Some.found.0 c.in-Some.ensures.fits c.in-Some.ensures.bytes (sym c.is_length.ensures ∙ c.if-not-is_length.true) in
    inr (refl, none.0, none.1)
