use Rattle.std.proofs.Common.{◌≡◌, ◌∙◌, ap, map, subst, sym, true}
use Rattle.std.specs.List.{AllByRecursion}
use Rattle.std.proofs.lemmas.List.Elements.{All-from_recursion}
use Rattle.rt_ops.specs.declared.view.OpView.{OpView}
use Rattle.rt_ops.specs.Rules.{keeps_rules}
use Rattle.std.specs.List.{filter}
use Rattle.std.proofs.lemmas.List.{take_all}
use Rattle.rt_peers.specs.Lacking.{is_past, known_in}
use Rattle.rt_ops.specs.Views.{body_in, operation_in}
use Rattle.rt_peers.proofs.Lacking.{lacking_is, within_counts}
use Rattle.rt_peers.proofs.sending.lacking.Goals as goal

pub is_past-requires : goal.is_past-requires
is_past-requires c =
    within_counts c.args.log.now.operations c.deref-op-items.result.now c.loop-op.op-index c.op-item.result c.requires
    (ap (map operation_in) c.deref-op-items.ensures.value ∙ c.in_ok-all.ensures.operations) c.loop-op-test.true c.op-item.is

pub copied-requires : goal.copied-requires
copied-requires c =
    let rules = subst (AllByRecursion (λ (op : OpView). keeps_rules (body_in op.edit) ≡ true)) (sym c.deref-op-items.ensures.value) c.in_ok-all.ensures.rules in
    let here = All-from_recursion (λ (op : OpView). keeps_rules (body_in op.edit) ≡ true) c.deref-op-items.result.now rules c.loop-op.op-index c.op-item.result c.loop-op-test.true in
    record { rules = subst (λ (op : OpView). keeps_rules (body_in op.edit) ≡ true) (sym c.op-item.is) here }

pub returns-in-Ok-clause-ok : goal.returns-in-Ok-clause-ok
returns-in-Ok-clause-ok c =
    let all = take_all c.loop-op.op-index c.deref-op-items.result.now c.loop-op-test.false in
    let kept = c.loop-op.invariant
    ∙ ap (λ items. filter (is_past (known_in c.args.ends.now)) (map operation_in items)) (all ∙ c.deref-op-items.ensures.value)
    ∙ ap (filter (is_past (known_in c.args.ends.now))) c.in_ok-all.ensures.operations in
    lacking_is (known_in c.args.ends.now) c.args.log.now.operations c.loop-op.ops.items c.in-Ok.lacking.operations c.requires kept c.in-Ok.ensures
