use Rattle.std.proofs.Common.{◌≡◌, ◌∙◌, ◌<◌, ◌≤◌, ◌+◌, ◌^◌, ◌-◌, suc, arith, length, drop, sym, ap, subst}
use Rattle.rt_text.specs.Changes.{widget_after}
use Rattle.rt_text.specs.Owned.{widget_value}
use Rattle.rt_text.specs.Widgets.{WidgetValue}
use Rattle.rt_text.proofs.ChangedMarks.{change_here, changes_from, current_room, insert_room, left_more}
use Rattle.rt_text.proofs.widget.Widget.change_all.Goals as goal

pub change-requires-clause-change : goal.change-requires-clause-change
change-requires-clause-change c =
    change_here c.args.changes.now c.loop-change.change-index c.change-item.result (omega arith) c.change-item.is c.requires.changes

pub change-requires-clause-insert : goal.change-requires-clause-insert
change-requires-clause-insert c =
    let i = c.loop-change.change-index in
    let changes = c.args.changes.now in
    let within : i < length changes = omega arith in
    omega (arith, left_more changes i c.change-item.result within c.change-item.is, c.loop-change.invariant.insert)

pub change-requires-clause-current : goal.change-requires-clause-current
change-requires-clause-current c =
    let i = c.loop-change.change-index in
    let changes = c.args.changes.now in
    let within : i < length changes = omega arith in
    omega (arith, left_more changes i c.change-item.result within c.change-item.is, c.loop-change.invariant.current)

pub loop-change-preserved : goal.loop-change-preserved
loop-change-preserved c =
    let i = c.loop-change.change-index in
    let changes = c.args.changes.now in
    let change = c.change-item.result in
    let within : i < length changes = omega arith in
    let from = changes_from changes i change within c.change-item.is in
    let more : length (drop i changes) ≡ suc (length (drop (i + 1) changes)) = left_more changes i change within c.change-item.is in
    let n = length (drop (i + 1) changes) in
    let most = 2 ^ 64 - 1 in
    record {
      own = ap (widget_after (drop (i + 1) changes)) c.change.ensures ∙ sym (ap (λ l. widget_after l (widget_value c.loop-change.self)) from) ∙ c.loop-change.invariant.own;
      insert = subst (λ (o : WidgetValue). o.insert.place + n ≤ most) (sym c.change.ensures)
          (insert_room change n most (widget_value c.loop-change.self) (omega (arith, more, c.loop-change.invariant.insert)));
      current = subst (λ (o : WidgetValue). o.current.place + n ≤ most) (sym c.change.ensures)
          (current_room change n most (widget_value c.loop-change.self) (omega (arith, more, c.loop-change.invariant.current)));
    }
