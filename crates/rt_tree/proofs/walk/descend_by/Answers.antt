use Rattle.std.proofs.Common.{◌<◌, arith, sym, ap, ◌∙◌, subst}
use Rattle.rt_nodes.specs.Nodes.{entries}
use Rattle.rt_tree.specs.declared.node.Run.{Run}
use Rattle.rt_tree.specs.declared.walk.Spot.{Spot}
use Rattle.rt_tree.specs.Shape.{Memory, runs_before, sum_of}
use Rattle.rt_tree.specs.Sums.{AreFew, amount, counts_of, plus}
use Rattle.rt_tree.specs.Walks.{IsSpot}
use Rattle.rt_tree.proofs.Down.{sum-node}
use Rattle.rt_tree.proofs.Going.{Into, ends, few-node, front_is, goes_down, lower}
use Rattle.rt_tree.proofs.walk.descend_by.Goals as goal

pub entry_at-entry-requires-clause-within : goal.entry_at-entry-requires-clause-within
entry_at-entry-requires-clause-within g c =
    let l = c.loop-child in
    let m = g.L.Looks.nodes c.args.looks.now in
    let own = ap (amount c.args.by) (sum-node m c.args.root.index c.requires.tree l.node.index l.invariant.going.is) in
    let P : Memory → Type 0 = λ n. l.rest < amount c.args.by (sum_of (entries n l.node.index)) in
    subst P (sym l.invariant.same) (omega (arith, own, l.invariant.going.within))

pub entry_at-entry-requires-clause-few : goal.entry_at-entry-requires-clause-few
entry_at-entry-requires-clause-few g c =
    let l = c.loop-child in
    let m = g.L.Looks.nodes c.args.looks.now in
    let P : Memory → Type 0 = λ n. AreFew (plus l.before (sum_of (entries n l.node.index))) in
    subst P (sym l.invariant.same) (few-node m c.args.root.index c.requires.tree c.args.by c.args.place l.node.index l.rest l.before l.invariant.going c.requires.few)

pub loop-child-smaller : goal.loop-child-smaller
loop-child-smaller g c =
    let l = c.loop-child in
    let m = g.L.Looks.nodes c.args.looks.now in
    let e = c.entry_at-entry in
    let s = e.ensures in
    let P : Memory → Type 0 = λ n. Into n c.args.by l.node.index l.rest l.before e.result.index e.result.entry e.result.rest e.result.before in
    let into = subst P l.invariant.same (record { lt = s.index; here = s.entry; before = s.before; at = s.at; inside_it = s.inside }) in
    let low = lower m c.args.root.index c.requires.tree c.args.by c.args.place l.node.index l.rest l.before e.result.index e.result.entry e.result.rest e.result.before c.in-Down.child c.in-Down.field-1 l.invariant.going into (sym c.get.ensures ∙ c.in-Down.is) in
    omega (arith, low)

pub loop-child-preserved : goal.loop-child-preserved
loop-child-preserved g c =
    let l = c.loop-child in
    let m = g.L.Looks.nodes c.args.looks.now in
    let e = c.entry_at-entry in
    let s = e.ensures in
    let P : Memory → Type 0 = λ n. Into n c.args.by l.node.index l.rest l.before e.result.index e.result.entry e.result.rest e.result.before in
    let into = subst P l.invariant.same (record { lt = s.index; here = s.entry; before = s.before; at = s.at; inside_it = s.inside }) in
    let low = lower m c.args.root.index c.requires.tree c.args.by c.args.place l.node.index l.rest l.before e.result.index e.result.entry e.result.rest e.result.before c.in-Down.child c.in-Down.field-1 l.invariant.going into (sym c.get.ensures ∙ c.in-Down.is) in
    record {
      going = goes_down m c.args.root.index c.requires.tree c.args.by c.args.place l.node.index l.rest l.before e.result.index e.result.entry e.result.rest e.result.before c.in-Down.child c.in-Down.field-1 l.invariant.going into (sym c.get.ensures ∙ c.in-Down.is);
      counted = omega (arith, low, l.invariant.counted, s.counted, l.invariant.going.low);
      cost = omega (arith, low, l.invariant.cost, s.cost, l.invariant.going.low);
      same = s.same ∙ l.invariant.same;
      kept = s.kept ∙ l.invariant.kept;
      lent = s.lent ∙ l.invariant.lent;
    }

pub returns-in-Here-clause-spot : goal.returns-in-Here-clause-spot
returns-in-Here-clause-spot g c =
    let l = c.loop-child in
    let m = g.L.Looks.nodes c.args.looks.now in
    let e = c.entry_at-entry in
    let s = e.ensures in
    let P : Memory → Type 0 = λ n. Into n c.args.by l.node.index l.rest l.before e.result.index e.result.entry e.result.rest e.result.before in
    let into = subst P l.invariant.same (record { lt = s.index; here = s.entry; before = s.before; at = s.at; inside_it = s.inside }) in
    let spot = ends m c.args.root.index c.requires.tree c.args.by c.args.place l.node.index l.rest l.before e.result.index e.result.entry e.result.rest e.result.before c.in-Here.run' l.invariant.going into (sym c.get.ensures ∙ c.in-Here.is) in
    let Q : Spot → Type 0 = λ x. IsSpot m c.args.root.index c.args.by c.args.place x.leaf.index x.entry x.offset c.new.result.run in
    let R : Run → Type 0 = λ r. IsSpot m c.args.root.index c.args.by c.args.place l.node.index e.result.index e.result.rest r in
    subst Q (sym c.new.ensures.spot) (subst R (sym c.new.ensures.run) spot)

pub returns-in-Here-clause-before : goal.returns-in-Here-clause-before
returns-in-Here-clause-before g c =
    let l = c.loop-child in
    let m = g.L.Looks.nodes c.args.looks.now in
    let e = c.entry_at-entry in
    let s = e.ensures in
    let P : Memory → Type 0 = λ n. Into n c.args.by l.node.index l.rest l.before e.result.index e.result.entry e.result.rest e.result.before in
    let into = subst P l.invariant.same (record { lt = s.index; here = s.entry; before = s.before; at = s.at; inside_it = s.inside }) in
    let front = front_is m c.args.root.index c.requires.tree c.args.by c.args.place l.node.index l.rest l.before e.result.index e.result.entry e.result.rest e.result.before c.in-Here.run' l.invariant.going into (sym c.get.ensures ∙ c.in-Here.is) in
    c.new.ensures.before ∙ front ∙ ap (λ (x : Spot). counts_of (runs_before m c.args.root.index x.leaf.index x.entry)) (sym c.new.ensures.spot)

pub returns-in-Here-clause-counted : goal.returns-in-Here-clause-counted
returns-in-Here-clause-counted g c =
    let l = c.loop-child in
    let m = g.L.Looks.nodes c.args.looks.now in
    let e = c.entry_at-entry in
    let s = e.ensures in
    let P : Memory → Type 0 = λ n. Into n c.args.by l.node.index l.rest l.before e.result.index e.result.entry e.result.rest e.result.before in
    let into = subst P l.invariant.same (record { lt = s.index; here = s.entry; before = s.before; at = s.at; inside_it = s.inside }) in
    let spot = ends m c.args.root.index c.requires.tree c.args.by c.args.place l.node.index l.rest l.before e.result.index e.result.entry e.result.rest e.result.before c.in-Here.run' l.invariant.going into (sym c.get.ensures ∙ c.in-Here.is) in
    omega (arith, spot.low, l.invariant.counted, s.counted)
