use Rattle.std.proofs.Common.{◌+◌, ◌<◌, List, [], take, length, get_or, arith, ap, sym, subst, ◌∙◌}
use Rattle.rt_nodes.specs.Nodes.{entries}
use Rattle.rt_tree.specs.declared.node.Entry.{Entry}
use Rattle.rt_tree.specs.Changes.{bare, strip, IsAdopted}
use Rattle.rt_tree.proofs.Adopts.{adopted, passed, kid_in}
use Rattle.rt_tree.proofs.split.adopt.Goals.{in-Down, in-Here}
use Rattle.rt_tree.specs.Shape.{Memory}
use Rattle.rt_tree.proofs.split.adopt.Goals as goal

pub set_parent-requires : goal.set_parent-requires
set_parent-requires c =
    let i = c.loop-i.invariant in
    let within : c.loop-i.i < length (entries c.loop-i.mem c.args.id.index) = omega (arith, c.len-i-end.ensures.value, ap (λ (r : List (List Entry)). length (get_or r c.args.id.index [])) i.rows) in
    let k = kid_in c.args.mem.now c.loop-i.mem c.args.id.index c.loop-i.i c.read_entry.result c.in-Down.child i.rows within c.read_entry.ensures (ap strip c.in-Down.is) in
    let lt = c.requires.kids c.in-Down.child.index k in
    (omega (arith, lt, i.heads), omega (arith, lt, ap (λ (r : List (List Entry)). length r) i.rows, c.requires.same))

pub loop-i-preserved : goal.loop-i-preserved
loop-i-preserved c =
    let i = c.loop-i.invariant in
    let within : c.loop-i.i < length (entries c.loop-i.mem c.args.id.index) = omega (arith, c.len-i-end.ensures.value, ap (λ (r : List (List Entry)). length (get_or r c.args.id.index [])) i.rows) in
    elim c.match-read_entry.branch [
      | in-Down w ↦
          let k = kid_in c.args.mem.now c.loop-i.mem c.args.id.index c.loop-i.i c.read_entry.result w.in-Down.child i.rows within c.read_entry.ensures (ap strip w.in-Down.is) in
          adopted c.args.mem.now c.loop-i.mem c.match-read_entry.mem c.args.id w.in-Down.child c.loop-i.i c.read_entry.result i (c.requires.kids w.in-Down.child.index k) within c.read_entry.ensures (ap strip w.in-Down.is) (w.mem-is ∙ w.set_parent.ensures)
      | in-Here w ↦ subst (λ (m : Memory). IsAdopted c.args.mem.now m c.args.id.index (take (c.loop-i.i + 1) (entries (bare c.args.mem.now) c.args.id.index))) (sym w.mem-is) (passed c.args.mem.now c.loop-i.mem c.args.id.index c.loop-i.i c.read_entry.result w.in-Here.field-0 i within c.read_entry.ensures (ap strip w.in-Here.is))
    ]
