use Rattle.std.proofs.Common.{sym}
use Rattle.rt_marks.specs.Seen.{spotted}
use Rattle.rt_text.specs.Widgets.{marks_of}
use Rattle.rt_tagcmd.proofs.MarkListLaws.{left_far, left_found, left_none}
use Rattle.rt_tagcmd.proofs.mark_list.next_before.Goals as goal

pub returns-in_err-spot-clause-none : goal.returns-in_err-spot-clause-none
returns-in_err-spot-clause-none g c =
    λ none. left_none c.args.behind (spotted c.args.here.now) (marks_of c.args.view.now) (sym c.in_err-spot.ensures)

pub returns-then-spot-behind-clause-some : goal.returns-then-spot-behind-clause-some
returns-then-spot-behind-clause-some g c =
    left_found c.args.behind (spotted c.args.here.now) (spotted c.in_ok-spot.spot) (marks_of c.args.view.now) c.order.ensures.order (sym c.in_ok-spot.ensures) c.if-spot-behind.true

pub returns-else-spot-behind-clause-none : goal.returns-else-spot-behind-clause-none
returns-else-spot-behind-clause-none g c =
    λ none. left_far c.args.behind (spotted c.args.here.now) (spotted c.in_ok-spot.spot) (marks_of c.args.view.now) c.order.ensures.order (sym c.in_ok-spot.ensures) c.if-spot-behind.false
