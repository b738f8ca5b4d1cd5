use Rattle.std.proofs.Common.{◌≡◌, ◌∙◌, ap, arith, get_or, length, rules, subst, sym}
use Rattle.rt_nodes.specs.Nodes.{entries}
use Rattle.rt_nodes.proofs.Rows.{refilled}
use Rattle.rt_tree.specs.Changes.{kid}
use Rattle.rt_tree.specs.Summaries.{AreSummed, AreSummedBut, room_at}
use Rattle.rt_tree.proofs.Besides.{but_same, same_option}
use Rattle.rt_tree.proofs.Passes.{get-any}
use Rattle.rt_tree.proofs.resum.put_right.Goals as goal

pub note-requires-clause-many : goal.note-requires-clause-many
note-requires-clause-many c = let all = ap length c.as_mut_slice.ensures.value in omega (arith, all, c.requires.many)

pub note-requires-clause-but : goal.note-requires-clause-but
note-requires-clause-but c =
    subst (λ sums. AreSummedBut c.args.states.now c.args.mem.now sums c.args.top.height c.args.restated.place.leaf.index c.args.restated.place.entry c.args.restated.change.from) (sym c.as_mut_slice.ensures.value) c.requires.but

pub note-requires-clause-minus : goal.note-requires-clause-minus
note-requires-clause-minus c = let m = c.requires.memory.minus in omega (arith, m, c.requires.tags)

pub note-requires-clause-plus : goal.note-requires-clause-plus
note-requires-clause-plus c = let m = c.requires.memory.plus in omega (arith, m, c.requires.tags)

pub note-requires-clause-memory : goal.note-requires-clause-memory
note-requires-clause-memory c id is =
    let same = ap (λ l. room_at l id) c.as_mut_slice.ensures.value in
    let own = c.requires.memory.each id (omega (arith, is, c.requires.many)) in
    omega (arith, same, own, c.requires.tags)

pub returns-clause-summed : goal.returns-clause-summed
returns-clause-summed c =
    let old = c.args.sums.now.each in
    let long : old.len ≡ length old.items = search rules in
    let now = refilled old.len old.items c.note.new.each long (c.note.ensures.many ∙ ap length c.as_mut_slice.ensures.value) in
    subst (AreSummed c.args.states.now c.args.mem.now) (sym now) c.note.ensures.summed

pub returns-clause-many : goal.returns-clause-many
returns-clause-many c =
    let old = c.args.sums.now.each in
    let long : old.len ≡ length old.items = search rules in
    let same = c.note.ensures.many ∙ ap length c.as_mut_slice.ensures.value in
    ap length (refilled old.len old.items c.note.new.each long same) ∙ same

pub returns-clause-memory : goal.returns-clause-memory
returns-clause-memory c =
    let old = c.args.sums.now.each in
    let long : old.len ≡ length old.items = search rules in
    let same = c.note.ensures.many ∙ ap length c.as_mut_slice.ensures.value in
    let now = refilled old.len old.items c.note.new.each long same in
    let had = c.requires.memory in
    record {
      each = λ id is.
          let e = ap (λ l. room_at l id) now in
          let n = ap length now in
          let k = c.note.ensures.memory id in
          let o = ap (λ l. room_at l id) c.as_mut_slice.ensures.value in
          let own = had.each id (omega (arith, is, n, same)) in
          omega (arith, e, k, o, own);
      minus = let m = had.minus in omega (arith, m, c.note.ensures.minus);
      plus = let m = had.plus in omega (arith, m, c.note.ensures.plus);
      spare = had.spare;
    }

pub returns-then-eq-clause-summed : goal.returns-then-eq-clause-summed
returns-then-eq-clause-summed c =
    let m = c.args.mem.now in
    let x = c.args.restated.place.leaf.index in
    let i = c.args.restated.place.entry in
    let sums = c.args.sums.now.each.items in
    let e = get_or (entries m x) i (kid 0) in
    let here = get-any (entries m x) i (kid 0) e c.requires.within in
    let same = same_option c.args.restated.change.from c.args.restated.change.to (sym c.eq.ensures ∙ c.if-eq.true) in
    but_same m c.args.top.height c.args.top.root.index c.requires.tree x c.requires.leaf.0 c.requires.leaf.1 i e c.args.restated.change.to c.requires.within here (c.requires.shows e here) c.args.states.now sums
    (subst (AreSummedBut c.args.states.now m sums c.args.top.height x i) same c.requires.but)
