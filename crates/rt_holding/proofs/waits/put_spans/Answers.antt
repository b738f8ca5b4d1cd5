use Rattle.std.proofs.Common.{◌∙◌, get_or}
use Rattle.rt_stamps.specs.declared.stamp.Span.{Span}
use Rattle.rt_holding.specs.Waits.{is_waited_for}
use Rattle.rt_holding.proofs.Passing.{all_on, more_on, others_on}
use Rattle.rt_holding.proofs.Waited.{waited_grown}
use Rattle.rt_holding.proofs.waits.put_spans.Goals as goal

pub loop-span-preserved : goal.loop-span-preserved
loop-span-preserved g c =
    let none : Span = record { site = 0; first = 0; last = 0 } in
    let log = g.T.Taking.log c.args.site.now in
    let before = c.loop-span.invariant in
    let now = c.put_span.ensures in
    let first = c.args.waits.now.keys in
    let old = c.loop-span.waits.keys in
    let new = c.put_span.new.waits.keys in
    record {
      ready = now.ready;
      keyed = record {
        keys = others_on c.args.place first old new before.keyed.keys now.keyed.keys;
        more = more_on first old new before.keyed.more now.keyed.more;
        due = now.keyed.due ∙ before.keyed.due;
        again = now.keyed.again ∙ before.keyed.again;
      };
      kept = λ keys m r. before.kept keys (more_on old new keys now.keyed.more m)
          (all_on (is_waited_for keys log c.args.place) c.args.spans.now c.loop-span.span-index none c.loop-span-test.true (waited_grown new keys log c.args.place (get_or c.args.spans.now c.loop-span.span-index none) m c.in_ok-put_span.ensures.kept) r);
    }
