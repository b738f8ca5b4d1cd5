use Rattle.std.proofs.Common.{◌∙◌, ◌∷◌, ap}
use Rattle.rt_stamps.specs.declared.stamp.TheConstants.{FINAL}
use Rattle.rt_ops.specs.Operations.{stamps_in}
use Rattle.rt_undo.specs.Actions.{group_of}
use Rattle.rt_revert.specs.Named.{is_in_group, is_one_at, named_in}
use Rattle.rt_revert.specs.Portions.{only}
use Rattle.rt_revert.proofs.Positions.{named_stand, stand_within}
use Rattle.rt_revert.proofs.named.named_positions.Goals as goal

pub returns-clause-cells : goal.returns-clause-cells
returns-clause-cells g c =
    let cells = g.S.TextStore.list c.args.store.now in
    named_stand (FINAL ∷ named_in (group_of c.args.group.now)) cells c.put_in_order.new.positions.items c.put_in_order.ensures.rising
    (λ at. c.put_in_order.ensures.same at ∙ c.in_ok-positions.ensures.ok at
    ∙ ap (λ l. is_one_at (FINAL ∷ l) cells at) (ap stamps_in c.deref.ensures.value ∙ c.in_ok-spans.ensures.ok))

pub returns-clause-within : goal.returns-clause-within
returns-clause-within g c =
    let cells = g.S.TextStore.list c.args.store.now in
    let group = group_of c.args.group.now in
    stand_within cells (only (is_in_group group) cells) c.put_in_order.new.positions.items
    (named_stand (FINAL ∷ named_in group) cells c.put_in_order.new.positions.items c.put_in_order.ensures.rising
    (λ at. c.put_in_order.ensures.same at ∙ c.in_ok-positions.ensures.ok at
    ∙ ap (λ l. is_one_at (FINAL ∷ l) cells at) (ap stamps_in c.deref.ensures.value ∙ c.in_ok-spans.ensures.ok)))
