use Rattle.std.proofs.Common.{◌∙◌, ◌+◌, ◌<◌, ◌≤◌, ap, arith, get_or, length, refl, subst, sym}
use Rattle.rt_marks.specs.declared.mark.Mark.{Mark as KeptMark}
use Rattle.rt_marks.specs.Marks.{mark_inserted, place_inserted}
use Rattle.rt_marks.specs.Seen.{seen_all}
use Rattle.rt_marks.proofs.Moving.{each_at, one_written, replaced, seen_map, unwritten, written_back}
use Rattle.rt_marks.proofs.table.insert_places.Goals as goal

pub loop-mark-preserved : goal.loop-mark-preserved
loop-mark-preserved c =
    one_written (place_inserted c.args.place c.args.n) c.deref_mut-mark-items.result.now c.loop-mark.mark-items c.loop-mark.mark-index c.mark-item.result c.place_after_insertion-mark.result (omega (arith, c.loop-mark-test.true, c.loop-mark.auto.mark-items)) c.loop-mark.invariant c.mark-item.is c.place_after_insertion-mark.ensures

pub returns : goal.returns
returns c =
    let v = c.args.marks.now in
    let f = place_inserted c.args.place c.args.n in
    let written = written_back v (replaced f) c.deref_mut-mark-items.result.now c.loop-mark.mark-items c.loop-mark.mark-index (omega (arith, c.loop-mark.auto.mark-items, c.deref_mut-mark-items.ensures.len)) c.deref_mut-mark-items.ensures.value c.loop-mark-test.false c.loop-mark.invariant in
    ap seen_all written ∙ seen_map (replaced f) (mark_inserted c.args.place c.args.n) (λ m. refl) v.items

pub place_after_insertion-mark-requires : goal.place_after_insertion-mark-requires
place_after_insertion-mark-requires c =
    let items = c.args.marks.now.items in
    let mark = c.mark-item.result in
    let first = c.deref_mut-mark-items.result.now in
    let within : c.loop-mark.mark-index < length first = omega (arith, c.loop-mark-test.true, c.loop-mark.auto.mark-items) in
    let same = unwritten (replaced (place_inserted c.args.place c.args.n)) first c.loop-mark.mark-items c.loop-mark.mark-index mark within c.loop-mark.invariant ∙ ap (λ v. get_or v c.loop-mark.mark-index mark) c.deref_mut-mark-items.ensures.value in
    let fits = each_at _ items c.requires c.loop-mark.mark-index mark (subst (λ v. c.loop-mark.mark-index < length v) c.deref_mut-mark-items.ensures.value within) in
    subst (λ (k : KeptMark). k.place + c.args.n ≤ 18446744073709551615) (sym same) fits
