use Rattle.std.proofs.Common.{◌∙◌, ◌+◌, ap, arith, drop, length, map, sym}
use Rattle.std.proofs.lemmas.List.{length-map}
use Rattle.rt_stamps.specs.declared.stamp.TheConstants.{FINAL}
use Rattle.rt_store.specs.Cells.{gone_in}
use Rattle.rt_store.specs.Spans.{gone_in_any}
use Rattle.rt_store.proofs.Gone.{gone_none}
use Rattle.rt_revert.specs.Progress.{spans_of}
use Rattle.rt_revert.proofs.Rest.{gone_on, none_left, span_apart}
use Rattle.rt_revert.proofs.going.make_gone.Goals as goal

pub set_gone-requires-clause-stays : goal.set_gone-requires-clause-stays
set_gone-requires-clause-stays g c = span_apart c.args.removed.now c.loop-part.part-index c.part-item.result FINAL c.loop-part-test.true c.part-item.is c.requires.stays

pub loop-part-preserved : goal.loop-part-preserved
loop-part-preserved g c =
    let old = g.S.TextStore.list c.loop-part.copy in
    let reserved = g.S.TextStore.list c.reserve.new.self in
    let span = c.part-item.result.span in
    let i = c.loop-part.part-index in
    record {
      list = ap (map (gone_in_any (spans_of (drop (i + 1) c.args.removed.now)))) (c.set_gone.ensures.list ∙ ap (map (gone_in span)) c.in_ok-reserve.ensures.same)
          ∙ gone_on c.args.removed.now old i c.part-item.result c.loop-part-test.true c.part-item.is
          ∙ c.loop-part.invariant.list;
      agrees = c.set_gone.ensures.states;
      few = omega (arith, ap length (c.set_gone.ensures.list ∙ ap (map (gone_in span)) c.in_ok-reserve.ensures.same), length-map old (gone_in span), c.loop-part.invariant.few);
    }

pub returns-clause-list : goal.returns-clause-list
returns-clause-list g c =
    let cells = g.S.TextStore.list c.loop-part.copy in
    sym (gone_none cells)
    ∙ ap (λ l. map (gone_in_any (spans_of l)) cells) (sym (none_left c.args.removed.now c.loop-part.part-index c.loop-part-test.false))
    ∙ c.loop-part.invariant.list

pub set_gone-requires-clause-states : goal.set_gone-requires-clause-states
set_gone-requires-clause-states g c = c.reserve.ensures.agrees c.args.kept.now c.loop-part.invariant.agrees
