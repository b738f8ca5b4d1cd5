use Rattle.std.proofs.Common.{◌≡◌, ◌≤◌, ◌&&◌, subst, sym, true, ◌<◌, ◌∙◌, arith, length}
use Rattle.std.proofs.lemmas.List.{length-set}
use Rattle.rt_plans.specs.Insertions.{selected_if}
use Rattle.rt_plans.specs.Selected.{room_in}
use Rattle.rt_store.specs.Spans.{is_among}
use Rattle.rt_text.specs.declared.widget.Widget.{Widget}
use Rattle.rt_plans.proofs.SelectionLaws.{done_more, rest_more}
use Rattle.rt_text.specs.Owned.{widget_value, selects_both}
use Rattle.rt_text.specs.Widgets.{reselected}
use Rattle.rt_text.proofs.PeerLaws.{rest_same}
use Rattle.rt_text.proofs.others.add_between.Goals as goal

pub select_if-requires : goal.select_if-requires
select_if-requires c =
    let xs = c.args.others.now in
    let ys = c.loop-i.others in
    let i = c.loop-i.i in
    let d = c.index-others-i.result in
    let known = c.loop-i.invariant in
    let lt : i < length xs = omega (arith, c.loop-i-test.true) in
    subst (λ (s : Widget). selects_both c.args.left c.args.right s ≡ true → length c.args.stamps.now ≤ room_in s.selection)
    (sym (rest_same xs ys i d lt known.len known.rest)) (c.requires i d lt)

pub loop-i-preserved : goal.loop-i-preserved
loop-i-preserved c =
    let xs = c.args.others.now in
    let ys = c.loop-i.others in
    let i = c.loop-i.i in
    let d = c.index-others-i.result in
    let x = c.select_if.new.self in
    let known = c.loop-i.invariant in
    let lt : i < length xs = omega (arith, c.loop-i-test.true) in
    record {
      done = done_more widget_value xs ys i d lt known.len known.rest (reselected (λ sel. selected_if (is_among sel c.args.left && is_among sel c.args.right) c.args.stamps.now sel)) x known.done c.select_if.ensures;
      rest = rest_more widget_value xs ys i d lt known.len known.rest x;
      len = length-set ys i x ∙ known.len;
    }
