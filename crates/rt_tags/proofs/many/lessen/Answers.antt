use Rattle.std.proofs.Common.{◌≤◌, ◌∙◌, ◌-◌, ap, arith, set, subst, sym}
use Rattle.std.proofs.lemmas.List.Edits.{map_over_more}
use Rattle.rt_tags.specs.ManyCounts.{lessened}
use Rattle.rt_tags.specs.Toggles.{count_in}
use Rattle.rt_tags.proofs.ManyCounts.{enough_at}
use Rattle.rt_tags.proofs.many.lessen.Goals as goal

pub loop-i-preserved : goal.loop-i-preserved
loop-i-preserved c = record {
  items = ap (λ less. set c.loop-i.counts.items c.loop-i.i (record { tag = c.index-c.result.now.tag; count = c.index-c.result.now.count - less })) c.spot_of-less.ensures.count
      ∙ map_over_more (lessened c.args.others.now) c.args.counts.now.items c.loop-i.counts.items c.loop-i.i c.index-c.result.now (omega (arith, c.loop-i-test.true, c.len-i-end.ensures, c.args.counts.now.ok.0)) c.loop-i.invariant.items c.index-c.ensures;
  len = c.loop-i.invariant.len;
  capacity = c.loop-i.invariant.capacity;
}

pub overflow_sub-c : goal.overflow_sub-c
overflow_sub-c c =
    let e = enough_at c.loop-i.i c.args.others.now c.args.counts.now.items c.loop-i.counts.items c.index-c.result.now c.requires.order (omega (arith, c.loop-i-test.true, c.len-i-end.ensures, c.args.counts.now.ok.0)) c.requires.less c.loop-i.invariant.items in
    let here : count_in c.index-c.result.now.tag c.args.others.now ≤ c.index-c.result.now.count = subst (λ d. count_in d.tag c.args.others.now ≤ d.count) (sym c.index-c.ensures) e in
    omega (arith, here, c.spot_of-less.ensures.count)
