use Rattle.std.proofs.Common.{◌∙◌, List, ap, arith, drop, map, sym}
use Rattle.std.proofs.lemmas.List.{drop_all}
use Rattle.rt_marks.specs.Marks.{Mark, in_order, with_mark}
use Rattle.rt_marks.specs.Seen.{spotted}
use Rattle.rt_text.specs.Widgets.{mark_seen}
use Rattle.rt_tagcmd.specs.MarkLists.{marks_from}
use Rattle.rt_tagcmd.proofs.Walking.{passed_seen}
use Rattle.rt_tagcmd.proofs.mark_list.gathered.Goals as goal

pub overflow_sub-left : goal.overflow_sub-left
overflow_sub-left c = omega (arith, c.in-Some.ensures.some.0)

pub loop-mark-init : goal.loop-mark-init
loop-mark-init c = record {
  within = omega (arith, c.len-left.ensures);
  same = ap (λ v. in_order (map spotted v)) c.new-spots.ensures.items
      ∙ sym (ap (λ (v : List Mark). marks_from c.args.from c.args.behind (in_order (map (mark_seen c.args.stretch) v)))
      (drop_all c.len-left.result c.args.marks.now (omega (arith, c.len-left.ensures))));
}

pub loop-mark-smaller : goal.loop-mark-smaller
loop-mark-smaller c = omega (arith, c.in-Some.ensures.some.0)

pub loop-mark-preserved : goal.loop-mark-preserved
loop-mark-preserved c =
    let marks = c.args.marks.now in
    let stretch = c.args.stretch in
    let left = c.loop-mark.left in
    record {
      within = omega (arith, c.loop-mark.invariant.within);
      same = c.in_ok-push_within.ensures.ok (map (mark_seen stretch) (drop left marks)) c.loop-mark.invariant.same
          ∙ ap (λ (x : Mark). marks_from c.args.from c.args.behind (with_mark x (passed_seen stretch left marks))) c.seen.ensures
          ∙ ap (λ (v : List Mark). marks_from c.args.from c.args.behind (in_order (map (mark_seen stretch) v))) (sym c.in-Some.ensures.some.1);
    }

pub returns-clause-ok : goal.returns-clause-ok
returns-clause-ok c =
    c.loop-mark.invariant.same
    ∙ ap (λ n. marks_from c.args.from c.args.behind (passed_seen c.args.stretch n c.args.marks.now)) (c.last_of.ensures.none c.in_default.is)
