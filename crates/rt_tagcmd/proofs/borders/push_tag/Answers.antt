use Rattle.std.proofs.Common.{◌++◌, ap, refl}
use Rattle.rt_tagcmd.specs.declared.element.Key.TheVariants.{TagOff, TagOn}
use Rattle.rt_tagcmd.specs.Dumping.{tagoffs_of, tagons_of}
use Rattle.rt_tagcmd.specs.Stretches.{within}
use Rattle.rt_text.specs.Widgets.{shows_tag, cells_shown}
use Rattle.rt_tagcmd.proofs.TagBorders.{end_more, ends_first, no_end_more, no_start_more, start_more, starts_first}
use Rattle.rt_tagcmd.proofs.borders.push_tag.Goals as goal

pub loop-begin-init : goal.loop-begin-init
loop-begin-init g c =
    let view = c.args.view.now in
    let name = c.args.name.now in
    record {
      ends = ap (λ v. c.args.ends.now.items ++ v) (ends_first TagOff name (shows_tag view.own name) c.args.stretch (cells_shown view) c.saturating_sub-place.result c.saturating_sub-place.ensures);
      starts = ap (λ v. c.args.starts.now.items ++ v) (starts_first TagOn name (shows_tag view.own name) c.args.stretch (cells_shown view) c.saturating_sub-place.result c.saturating_sub-place.ensures);
    }

pub loop-begin-preserved : goal.loop-begin-preserved
loop-begin-preserved g c =
    let view = c.args.view.now in
    let name = c.args.name.now in
    let s = c.args.stretch in
    record {
      ends = end_more TagOff name (shows_tag view.own name) s (cells_shown view) c.loop-begin.place c.in-Some.begin c.end_within-end.result (c.args.ends.now.items ++ within s (tagoffs_of view name)) c.loop-begin.ends.items
          c.push.new.elements.items c.in-Some.ensures.some.0 c.end_within-end.ensures c.loop-begin.invariant.ends c.in_ok-push.ensures.ok;
      starts = start_more TagOn name (shows_tag view.own name) s (cells_shown view) c.loop-begin.place c.in-Some.begin c.end_within-end.result (c.args.starts.now.items ++ within s (tagons_of view name)) c.loop-begin.starts.items
          c.push-in-Some.new.elements.items c.in-Some.ensures.some.0 c.end_within-end.ensures c.loop-begin.invariant.starts c.in_ok-push-2.ensures.ok;
    }

pub returns-clause-ends : goal.returns-clause-ends
returns-clause-ends g c =
    let view = c.args.view.now in
    let name = c.args.name.now in
    let s = c.args.stretch in
    no_end_more TagOff name (shows_tag view.own name) s (cells_shown view) c.loop-begin.place (c.args.ends.now.items ++ within s (tagoffs_of view name)) c.loop-begin.ends.items
    (c.in_default.ensures.none refl) c.loop-begin.invariant.ends

pub returns-clause-starts : goal.returns-clause-starts
returns-clause-starts g c =
    let view = c.args.view.now in
    let name = c.args.name.now in
    let s = c.args.stretch in
    no_start_more TagOn name (shows_tag view.own name) s (cells_shown view) c.loop-begin.place (c.args.starts.now.items ++ within s (tagons_of view name)) c.loop-begin.starts.items
    (c.in_default.ensures.none refl) c.loop-begin.invariant.starts
