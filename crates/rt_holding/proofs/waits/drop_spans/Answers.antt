use Rattle.std.proofs.Common.{◌&&◌, ap, arith, get_or, refl}
use Rattle.std.proofs.lemmas.List.{drop_all}
use Rattle.std.specs.List.{list_any}
use Rattle.rt_stamps.specs.declared.stamp.Span.{Span}
use Rattle.rt_rga.specs.Kept.{goes_past}
use Rattle.rt_holding.specs.Waits.{is_keyed}
use Rattle.rt_holding.proofs.Passing.{less_on, none_on, others_on}
use Rattle.rt_holding.proofs.Waited.{keyed_less}
use Rattle.rt_holding.proofs.waits.drop_spans.Goals as goal

pub loop-span-preserved : goal.loop-span-preserved
loop-span-preserved g c =
    let none : Span = record { site = 0; first = 0; last = 0 } in
    let log = g.T.Taking.log c.args.site.now in
    let before = c.loop-span.invariant in
    let now = c.drop_span.ensures in
    let first = c.args.keys.now in
    let old = c.loop-span.keys in
    let new = c.drop_span.new.keys in
    let few = before.fewer in
    let fewer = now.fewer in
    record {
      gone = λ keys m r. before.gone keys (less_on old new keys now.less m)
          (none_on (λ span. goes_past log span && is_keyed keys log c.args.place span) c.args.spans.now c.loop-span.span-index none c.loop-span-test.true (keyed_less new keys log c.args.place (get_or c.args.spans.now c.loop-span.span-index none) m now.gone) r);
      less = less_on first old new before.less now.less;
      others = others_on c.args.place first old new before.others now.others;
      fewer = omega (arith, few, fewer);
    }

pub returns-clause-gone : goal.returns-clause-gone
returns-clause-gone g c =
    let log = g.T.Taking.log c.args.site.now in
    let keys = c.loop-span.keys in
    c.loop-span.invariant.gone keys (record { alone = λ k h. h; begun = λ k h. h; ends = refl })
    (ap (list_any (λ span. goes_past log span && is_keyed keys log c.args.place span)) (drop_all c.loop-span.span-index c.args.spans.now c.loop-span-test.false))
