use Rattle.std.proofs.Common.{◌∙◌, List, ap, arith, map, sym}
use Rattle.std.proofs.lemmas.List.{drop_all}
use Rattle.rt_marks.specs.Marks.{Mark, comes_before, find_last, in_order, with_mark}
use Rattle.rt_marks.specs.Seen.{spotted}
use Rattle.rt_text.specs.Widgets.{mark_seen}
use Rattle.rt_tagcmd.proofs.Walking.{passed_seen, seen_ordered}
use Rattle.rt_tagcmd.proofs.nearest.last_seen.Goals as goal

pub overflow_sub-left : goal.overflow_sub-left
overflow_sub-left c = omega (arith, c.in-Some.ensures.some.0)

pub loop-mark-init : goal.loop-mark-init
loop-mark-init c = record {
  within = omega (arith, c.len-left.ensures);
  found = sym (ap (λ (v : List Mark). find_last (λ m. comes_before m (spotted c.args.here.now)) (in_order (map (mark_seen c.args.stretch) v))) (drop_all c.len-left.result c.args.marks.now (omega (arith, c.len-left.ensures))));
}

pub loop-mark-smaller : goal.loop-mark-smaller
loop-mark-smaller c = omega (arith, c.in-Some.ensures.some.0)

pub loop-mark-preserved : goal.loop-mark-preserved
loop-mark-preserved c =
    let marks = c.args.marks.now in
    let stretch = c.args.stretch in
    let left = c.loop-mark.left in
    record {
      within = omega (arith, c.loop-mark.invariant.within);
      found = c.nearer_before-found.ensures (passed_seen stretch left marks) (seen_ordered stretch left marks c.order.ensures.own_names) c.loop-mark.invariant.found
          ∙ ap (λ (x : Mark). find_last (λ m. comes_before m (spotted c.args.here.now)) (with_mark x (passed_seen stretch left marks))) c.seen.ensures
          ∙ ap (λ (v : List Mark). find_last (λ m. comes_before m (spotted c.args.here.now)) (in_order (map (mark_seen stretch) v))) (sym c.in-Some.ensures.some.1);
    }

pub returns : goal.returns
returns c =
    c.loop-mark.invariant.found
    ∙ ap (λ n. find_last (λ m. comes_before m (spotted c.args.here.now)) (passed_seen c.args.stretch n c.args.marks.now)) (c.last_of.ensures.none c.in_default.is)
