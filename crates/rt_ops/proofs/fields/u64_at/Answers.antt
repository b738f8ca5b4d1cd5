use Rattle.std.proofs.Common.{arith}
use Rattle.rt_ops.proofs.Spells.{front_8}
use Rattle.rt_ops.proofs.fields.u64_at.Goals as goal

pub returns-clause-bytes : goal.returns-clause-bytes
returns-clause-bytes c = front_8 c.args.bytes.now c.in_ok-front.front.now c.in_ok-front.rest.now c.from_be_bytes.result (λ i. omega (arith, c.type_inv.bytes i)) c.in_ok-front.ensures.cases c.from_be_bytes.ensures
