use Rattle.std.proofs.Common.{◌∙◌, ap, arith, refl}
use Rattle.rt_marks.specs.Marks.{mark_removed, place_removed}
use Rattle.rt_marks.specs.Seen.{seen_all}
use Rattle.rt_marks.proofs.Moving.{one_written, replaced, seen_map, written_back}
use Rattle.rt_marks.proofs.table.remove_places.Goals as goal

pub loop-mark-preserved : goal.loop-mark-preserved
loop-mark-preserved c =
    one_written (λ m. place_removed c.args.place c.args.n m.place) c.deref_mut-mark-items.result.now c.loop-mark.mark-items c.loop-mark.mark-index c.mark-item.result c.place_after_removal-mark.result (omega (arith, c.loop-mark-test.true, c.loop-mark.auto.mark-items)) c.loop-mark.invariant c.mark-item.is c.place_after_removal-mark.ensures

pub returns : goal.returns
returns c =
    let v = c.args.marks.now in
    let written = written_back v (replaced (λ m. place_removed c.args.place c.args.n m.place)) c.deref_mut-mark-items.result.now c.loop-mark.mark-items c.loop-mark.mark-index (omega (arith, c.loop-mark.auto.mark-items, c.deref_mut-mark-items.ensures.len)) c.deref_mut-mark-items.ensures.value c.loop-mark-test.false c.loop-mark.invariant in
    ap seen_all written ∙ seen_map (replaced (λ m. place_removed c.args.place c.args.n m.place)) (mark_removed c.args.place c.args.n) (λ m. refl) v.items
