use Rattle.std.proofs.Common.{sym, ◌∙◌, arith}
use Rattle.rt_text.specs.Widgets.{shows_tag, cells_shown}
use Rattle.rt_store.proofs.Least.{greatest}
use Rattle.rt_tagcmd.proofs.LastRange.{begins_earlier, is_previous, none_previous}
use Rattle.rt_tagcmd.proofs.TagRangeLaws.{passing_within}
use Rattle.rt_tagcmd.proofs.tag_range.previous_range.Goals as goal

pub returns-in_err-last : goal.returns-in_err-last
returns-in_err-last g c = c.from_residual.ensures ∙ sym (none_previous (shows_tag c.args.view.now.own c.args.name.now) (cells_shown c.args.view.now) c.args.to c.args.from (sym c.in_err-last.ensures))

pub range_begin-begin-requires : goal.range_begin-begin-requires
range_begin-begin-requires g c = (greatest (shows_tag c.args.view.now.own c.args.name.now) (cells_shown c.args.view.now) c.args.to c.in_ok-last.last (sym c.in_ok-last.ensures)).passes

pub returns-then-begin-from : goal.returns-then-begin-from
returns-then-begin-from g c = sym (begins_earlier (shows_tag c.args.view.now.own c.args.name.now) (cells_shown c.args.view.now) c.args.to c.args.from c.in_ok-last.last c.range_begin-begin.result (sym c.in_ok-last.ensures) c.range_begin-begin.ensures c.if-begin-from.true)

pub tagged_up_to-end-requires : goal.tagged_up_to-end-requires
tagged_up_to-end-requires g c =
    let last = greatest (shows_tag c.args.view.now.own c.args.name.now) (cells_shown c.args.view.now) c.args.to c.in_ok-last.last (sym c.in_ok-last.ensures) in
    let less = passing_within (shows_tag c.args.view.now.own c.args.name.now) (cells_shown c.args.view.now) c.in_ok-last.last last.passes in
    omega arith

pub returns : goal.returns
returns g c =
    sym (is_previous (shows_tag c.args.view.now.own c.args.name.now) (cells_shown c.args.view.now) c.args.to c.args.from c.in_ok-last.last c.range_begin-begin.result c.tagged_up_to-end.result (sym c.in_ok-last.ensures) c.range_begin-begin.ensures c.tagged_up_to-end.ensures
    c.if-begin-from.false)
