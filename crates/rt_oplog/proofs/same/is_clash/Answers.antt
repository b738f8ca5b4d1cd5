use Rattle.std.proofs.Common.{◌≡◌, ◌∙◌, ap, sym, true, false, refl}
use Rattle.rt_ops.specs.Views.{operation_in}
use Rattle.rt_oplog.specs.Logs.{reaches_into, same_operation}
use Rattle.rt_oplog.proofs.same.is_clash.Goals as goal

pub returns-then-is_reached : goal.returns-then-is_reached
returns-then-is_reached c =
    let differ : same_operation c.args.op.now (operation_in c.args.view) ≡ false = ap (λ o. same_operation o (operation_in c.args.view)) (sym c.of-one.ensures.same) ∙ sym c.are_alike.ensures ∙ c.if-not-are_alike.true in
    let one : reaches_into c.args.op.now (operation_in c.args.view) ≡ true = ap (λ o. reaches_into o (operation_in c.args.view)) (sym c.of-one.ensures.same)
    ∙ sym c.is_reached.ensures ∙ c.if-is_reached.true in
    rw (differ, one) c.if-is_reached.true

pub returns-else-not-are_alike : goal.returns-else-not-are_alike
returns-else-not-are_alike c =
    let same : same_operation c.args.op.now (operation_in c.args.view) ≡ true = ap (λ o. same_operation o (operation_in c.args.view)) (sym c.of-one.ensures.same) ∙ sym c.are_alike.ensures ∙ c.if-not-are_alike.false in
    rw (same, c.if-not-are_alike.false) refl
