use Rattle.std.proofs.Common.{[], refl, sym, ap, take, ◌∙◌}
use Rattle.rt_ops.specs.Reading.{head_of}
use Rattle.rt_ops.proofs.InMemory.{begun, front_of}
use Rattle.rt_ops.proofs.records.Records.begin.Goals as goal

pub invariant_of-result : goal.invariant_of-result
invariant_of-result c =
    let bytes = c.args.bytes.now in
    ([], begun bytes (take c.min-front.result bytes) (ap (λ n. take n bytes) c.min-front.ensures) (sym c.head_of.ensures ∙ c.in-Ok.is))

pub returns-in-Err : goal.returns-in-Err
returns-in-Err c =
    let bytes = c.args.bytes.now in
    ap head_of (sym (front_of bytes (take c.min-front.result bytes) (ap (λ n. take n bytes) c.min-front.ensures))) ∙ sym c.head_of.ensures ∙ c.in-Err.is

pub returns-in-Ok : goal.returns-in-Ok
returns-in-Ok c =
    let bytes = c.args.bytes.now in
    (refl, (begun bytes (take c.min-front.result bytes) (ap (λ n. take n bytes) c.min-front.ensures) (sym c.head_of.ensures ∙ c.in-Ok.is)).taken)
