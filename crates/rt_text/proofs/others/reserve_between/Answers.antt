use Rattle.std.proofs.lemmas.Result.{err_from_is_err_and}
use Rattle.std.proofs.Common.{◌≡◌, ◌<◌, ◌≤◌, ◌∙◌, All, arith, length, subst, true}
use Rattle.std.proofs.lemmas.List.{length-set, take_all}
use Rattle.rt_plans.specs.Selected.{room_in}
use Rattle.rt_plans.proofs.SelectionLaws.{all_more, same_set}
use Rattle.rt_text.specs.declared.widget.Widget.{Widget}
use Rattle.rt_text.specs.Owned.{widget_value, selects_both}
use Rattle.rt_text.proofs.others.reserve_between.Goals as goal

pub returns-in_err-reserve_if : goal.returns-in_err-reserve_if
returns-in_err-reserve_if c =
    let ys = c.loop-i.others in
    let i = c.loop-i.i in
    let lt : i < length ys = omega (arith, c.loop-i-test.true, c.loop-i.invariant.len) in
    let p = err_from_is_err_and c.from_residual.result c.from_residual.ensures.1 in
    rw (p.1, p.2) (record {
      same = same_set widget_value ys i c.reserve_if.new.self c.index-others-i.result c.reserve_if.ensures.same lt ∙ c.loop-i.invariant.same;
      room = tt;
      err = c.in_err-reserve_if.ensures.err;
    })

pub loop-i-preserved : goal.loop-i-preserved
loop-i-preserved c =
    let ys = c.loop-i.others in
    let i = c.loop-i.i in
    let x = c.reserve_if.new.self in
    let lt : i < length ys = omega (arith, c.loop-i-test.true, c.loop-i.invariant.len) in
    let P : Widget → Type 0 = λ s. selects_both c.args.left c.args.right s ≡ true → c.args.more ≤ room_in s.selection in
    record {
      same = same_set widget_value ys i x c.index-others-i.result c.reserve_if.ensures.same lt ∙ c.loop-i.invariant.same;
      room = all_more P ys i x lt c.loop-i.invariant.room c.in_ok-reserve_if.ensures.room;
      len = length-set ys i x ∙ c.loop-i.invariant.len;
    }

pub returns-clause-room : goal.returns-clause-room
returns-clause-room c =
    let ys = c.loop-i.others in
    let P : Widget → Type 0 = λ s. selects_both c.args.left c.args.right s ≡ true → c.args.more ≤ room_in s.selection in
    let end : length ys ≤ c.loop-i.i = omega (arith, c.loop-i-test.false, c.loop-i.invariant.len) in
    subst (All P) (take_all c.loop-i.i ys end) c.loop-i.invariant.room
