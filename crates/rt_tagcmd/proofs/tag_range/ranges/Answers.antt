use Rattle.std.proofs.Common.{◌++◌, sym, ap, ◌∙◌, arith}
use Rattle.rt_text.specs.Widgets.{shows_tag, cells_shown}
use Rattle.rt_tagcmd.specs.TagRanges.{passing_ranges}
use Rattle.rt_tagcmd.proofs.RangeWalks.{goes_on, ranges_at, walk_first, walk_last, walk_more}
use Rattle.rt_tagcmd.proofs.tag_range.ranges.Goals as goal

pub loop-range-init : goal.loop-range-init
loop-range-init g c =
    let all = passing_ranges (shows_tag c.args.view.now.own c.args.name.now) (cells_shown c.args.view.now) in
    walk_first (shows_tag c.args.view.now.own c.args.name.now) (cells_shown c.args.view.now) ∙ ap (λ v. v ++ ranges_at 0 all) (sym c.new-ranges.ensures.items)

pub loop-range-smaller : goal.loop-range-smaller
loop-range-smaller g c =
    let far = goes_on (shows_tag c.args.view.now.own c.args.name.now) (cells_shown c.args.view.now) c.loop-range.place c.in-Some.range (sym c.in-Some.ensures) in
    let behind = far.0 in
    let within = far.1 in
    omega arith

pub loop-range-preserved : goal.loop-range-preserved
loop-range-preserved g c =
    let all = passing_ranges (shows_tag c.args.view.now.own c.args.name.now) (cells_shown c.args.view.now) in
    walk_more (shows_tag c.args.view.now.own c.args.name.now) (cells_shown c.args.view.now) c.loop-range.place c.in-Some.range c.loop-range.ranges.items c.loop-range.invariant (sym c.in-Some.ensures)
    ∙ ap (λ v. v ++ ranges_at c.in-Some.range.to all) (sym c.in_ok-push.ensures.items)

pub returns-clause-ok : goal.returns-clause-ok
returns-clause-ok g c = walk_last (shows_tag c.args.view.now.own c.args.name.now) (cells_shown c.args.view.now) c.loop-range.place c.loop-range.ranges.items c.loop-range.invariant (sym c.in_default.ensures)
