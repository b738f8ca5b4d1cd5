use Rattle.std.proofs.Common.{◌∙◌, ◌+◌, ap, arith, drop, map, sym}
use Rattle.std.proofs.lemmas.List.{drop_all}
use Rattle.rt_store.proofs.Gone.{gone_more_at, gone_none}
use Rattle.rt_store.specs.Spans.{gone_in_any}
use Rattle.rt_rga.proofs.edits.set_all_gone.Goals as goal

pub loop-span-preserved : goal.loop-span-preserved
loop-span-preserved g c =
    let spans = c.args.spans.now in
    let i = c.loop-span.span-index in
    record {
      list = ap (map (gone_in_any (drop (i + 1) spans))) c.set_gone.ensures.list ∙ gone_more_at (g.S.TextStore.list c.loop-span.store) spans i _ c.loop-span-test.true ∙ c.loop-span.invariant.list;
      states = c.set_gone.ensures.states;
      room = (omega arith, omega (arith, c.set_gone.ensures.room.1, c.loop-span.invariant.room.1), omega (arith, c.set_gone.ensures.room.2, c.loop-span.invariant.room.2));
      spent = (omega (arith, c.set_gone.ensures.room.0, c.loop-span.invariant.spent.0), omega (arith, c.set_gone.ensures.room.1, c.loop-span.invariant.spent.1), omega (arith, c.set_gone.ensures.room.2, c.loop-span.invariant.spent.2));
    }

pub returns : goal.returns
returns g c =
    let spans = c.args.spans.now in
    let cells = g.S.TextStore.list c.loop-span.store in
    record {
      list = sym (gone_none cells) ∙ ap (λ l. map (gone_in_any l) cells) (sym (drop_all c.loop-span.span-index spans (omega arith))) ∙ c.loop-span.invariant.list;
      room = (omega (arith, c.loop-span.invariant.spent.0), omega (arith, c.loop-span.invariant.spent.1), c.loop-span.invariant.spent.2);
      states = c.loop-span.invariant.states;
    }
