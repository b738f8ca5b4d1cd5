use Rattle.std.proofs.Common.{◌≡◌, ℕ, ◌-◌, ◌<◌, inl, inr, List, [], ◌∷◌, ◌++◌, None, arith, sym, ap, ◌∙◌, subst}
use Rattle.rt_nodes.specs.Nodes.{entries}
use Rattle.rt_tree.specs.declared.node.Counts.{Counts}
use Rattle.rt_tree.specs.declared.node.Run.{Run}
use Rattle.rt_tree.specs.Shape.{IsTree, Memory, sum_of, tree_runs}
use Rattle.rt_tree.specs.Stretches.{IsEdge, back_of, front_of, lengths}
use Rattle.rt_tree.specs.Sums.{AreFew, counts_of, counts_of_run, plus}
use Rattle.rt_tree.specs.Walks.{IsPutAt, IsReplacedAt, IsSpot}
use Rattle.rt_tree.specs.declared.node.CountedBy.TheVariants.{Cells}
use Rattle.rt_tree.specs.declared.walk.Spot.{Spot}
use Rattle.rt_tree.proofs.Ends.{spot_end}
use Rattle.rt_tree.proofs.Holding.{held_spot}
use Rattle.rt_tree.proofs.CellLaws.{is_run}
use Rattle.rt_tree.proofs.Cutting.{few_all, few_with, low_tree, mid_cells, mid_edge, mid_kept, mid_within, new_edge, new_length, new_parts, new_recut, no_parts}
use Rattle.rt_tree.proofs.Down.{sum-node}
use Rattle.rt_tree.proofs.Edges.{counts_mid, edge_end, edge_there}
use Rattle.rt_tree.proofs.Puts.{replaced_length}
use Rattle.rt_tags.specs.States.{IsState}
use Rattle.rt_tree.proofs.Told.{given_there, short_kept}
use Rattle.rt_tree.specs.declared.cut.Parted.{Parted}
use Rattle.rt_tree.specs.Sharing.{AreParts}
use Rattle.rt_tree.proofs.cut.cut.Goals as goal

same_parts : (m : Memory) (root at : ℕ) (p : Parted) → p ≡ record { change = record { root = record { index = root }; more = 0 }; front = None; end = None } → IsEdge (lengths (tree_runs m p.change.root.index)) at → AreParts (tree_runs m root) (tree_runs m p.change.root.index) at
same_parts m root at p is edge =
    let same = ap (λ (q : Parted). tree_runs m q.change.root.index) is in
    subst (λ l. AreParts (tree_runs m root) l at) (sym same) (no_parts (tree_runs m root) (tree_runs m root) at (subst (λ l. IsEdge (lengths l) at) same edge))

root_sum : (m : Memory) (root : ℕ) → IsTree m root → sum_of (entries m root) ≡ counts_of (tree_runs m root)
root_sum m root t = sum-node m root t root t.shape.root_is

pub sum_of-requires-clause-few : goal.sum_of-requires-clause-few
sum_of-requires-clause-few c =
    let m = c.args.mem.now in let r = c.args.root.index in let old = tree_runs m r in
    subst AreFew (sym (root_sum m r c.requires.tree)) (few_all old c.requires.kept c.requires.few)

pub returns-then-at-eq0-clause-edge : goal.returns-then-at-eq0-clause-edge
returns-then-at-eq0-clause-edge c =
    let old = tree_runs c.args.mem.now c.args.root.index in
    subst (λ (p : Parted). IsEdge (lengths (tree_runs c.args.mem.now p.change.root.index)) c.args.at) (sym c.uncut.ensures) (edge_there [] old c.args.at (omega (arith, c.if-at-eq0.true)))

pub returns-then-at-eq0-clause-parts : goal.returns-then-at-eq0-clause-parts
returns-then-at-eq0-clause-parts c = same_parts c.args.mem.now c.args.root.index c.args.at c.uncut.result c.uncut.ensures (returns-then-at-eq0-clause-edge c)

pub returns-then-at-sum_of-clause-edge : goal.returns-then-at-sum_of-clause-edge
returns-then-at-sum_of-clause-edge c =
    let m = c.args.mem.now in let r = c.args.root.index in let old = tree_runs m r in
    let e : c.args.at ≡ (counts_of old).cells = c.if-at-sum_of.true ∙ ap (λ (x : Counts). x.cells) (c.sum_of.ensures ∙ root_sum m r c.requires.tree) in
    subst (λ (p : Parted). IsEdge (lengths (tree_runs m p.change.root.index)) c.args.at) (sym c.uncut-then-at-sum_of.ensures) (subst (IsEdge (lengths old)) (sym e) (edge_end old))

pub returns-then-at-sum_of-clause-parts : goal.returns-then-at-sum_of-clause-parts
returns-then-at-sum_of-clause-parts c = same_parts c.args.mem.now c.args.root.index c.args.at c.uncut-then-at-sum_of.result c.uncut-then-at-sum_of.ensures (returns-then-at-sum_of-clause-edge c)

pub found_near-found-requires-clause-few : goal.found_near-found-requires-clause-few
found_near-found-requires-clause-few c =
    let m = c.args.mem.now in let r = c.args.root.index in let old = tree_runs m r in
    few_all old c.requires.kept c.requires.few

pub found_near-found-requires-clause-within : goal.found_near-found-requires-clause-within
found_near-found-requires-clause-within c =
    let m = c.args.mem.now in let r = c.args.root.index in let old = tree_runs m r in
    let e = ap (λ (x : Counts). x.cells) (c.sum_of.ensures ∙ root_sum m r c.requires.tree) in
    omega (arith, e, c.requires.within, c.if-at-sum_of.false)

pub returns-then-offset-eq0-clause-edge : goal.returns-then-offset-eq0-clause-edge
returns-then-offset-eq0-clause-edge c =
    let m = c.args.mem.now in let r = c.args.root.index in let old = tree_runs m r in
    let f = c.found_near-found.result in let st = c.found_near-found.ensures.run in let b = ap (λ (x : Counts). x.cells) st.before in
    subst (λ (p : Parted). IsEdge (lengths (tree_runs m p.change.root.index)) c.args.at) (sym c.uncut-then-offset-eq0.ensures)
    (subst (λ (l : List Run). IsEdge (lengths l) c.args.at) (sym st.here) (edge_there st.left (f.run ∷ st.right) c.args.at (omega (arith, b, st.at, c.if-offset-eq0.true))))

pub returns-then-offset-eq0-clause-parts : goal.returns-then-offset-eq0-clause-parts
returns-then-offset-eq0-clause-parts c = same_parts c.args.mem.now c.args.root.index c.args.at c.uncut-then-offset-eq0.result c.uncut-then-offset-eq0.ensures (returns-then-offset-eq0-clause-edge c)

pub back_of-back-requires-clause-fits : goal.back_of-back-requires-clause-fits
back_of-back-requires-clause-fits c =
    let m = c.args.mem.now in let r = c.args.root.index in let old = tree_runs m r in
    let f = c.found_near-found.result in let st = c.found_near-found.ensures.run in let k = c.requires.kept in
    let is = is_run k.text old f.run f.before f.spot.offset c.args.at k.runs st.left st.right st.here in
    (omega (arith, is.counts, st.inside), omega (arith, k.short, is.stands, st.inside))

pub replace_at-requires-clause-spot : goal.replace_at-requires-clause-spot
replace_at-requires-clause-spot c = (c.args.at, c.found_near-found.result.run, c.found_near-found.ensures.spot)

pub replace_at-requires-clause-few : goal.replace_at-requires-clause-few
replace_at-requires-clause-few c =
    let m = c.args.mem.now in let r = c.args.root.index in let old = tree_runs m r in
    let f = c.found_near-found.result in let o = f.spot.offset in let st = c.found_near-found.ensures.run in let some : 0 < o = omega (arith, c.if-offset-eq0.false) in
    let w = ap (λ l. (counts_of l).cells) st.here ∙ counts_mid st.left f.run st.right in
    subst (λ (x : Run). AreFew (plus (counts_of_run x) (counts_of old))) (sym c.back_of-back.ensures) (few_with (back_of o f.run) old (omega (arith, st.inside)) (omega (arith, w, c.requires.few)) c.requires.kept c.requires.few)

pub put-placed-requires-clause-within : goal.put-placed-requires-clause-within
put-placed-requires-clause-within c =
    let m = c.args.mem.now in let r = c.args.root.index in let old = tree_runs m r in
    let f = c.found_near-found.result in let o = f.spot.offset in let st = c.found_near-found.ensures.run in let some : 0 < o = omega (arith, c.if-offset-eq0.false) in
    let mid = tree_runs c.replace_at.new.mem r in let rep = subst (λ (x : Run). IsReplacedAt old mid c.args.at x) c.back_of-back.ensures (c.replace_at.ensures.runs c.args.at f.run c.found_near-found.ensures.spot) in
    mid_within old mid f.run f.before o c.args.at st some rep

pub put-placed-requires-clause-few : goal.put-placed-requires-clause-few
put-placed-requires-clause-few c =
    let m = c.args.mem.now in let r = c.args.root.index in let old = tree_runs m r in
    let f = c.found_near-found.result in let o = f.spot.offset in let st = c.found_near-found.ensures.run in let some : 0 < o = omega (arith, c.if-offset-eq0.false) in
    let mid = tree_runs c.replace_at.new.mem r in let rep = subst (λ (x : Run). IsReplacedAt old mid c.args.at x) c.back_of-back.ensures (c.replace_at.ensures.runs c.args.at f.run c.found_near-found.ensures.spot) in
    let w = mid_cells old mid f.run f.before o c.args.at st some rep in
    subst (λ (x : Run). AreFew (plus (counts_of_run x) (counts_of mid))) (sym c.front_of-front.ensures) (few_with (front_of o f.run) mid some (omega (arith, w, c.requires.few)) (mid_kept old mid f.run f.before o c.args.at st some rep c.requires.kept) (omega (arith, w, c.requires.few)))

pub put-placed-requires-clause-height : goal.put-placed-requires-clause-height
put-placed-requires-clause-height c =
    let m = c.args.mem.now in let r = c.args.root.index in let old = tree_runs m r in
    let f = c.found_near-found.result in let o = f.spot.offset in let st = c.found_near-found.ensures.run in let some : 0 < o = omega (arith, c.if-offset-eq0.false) in
    let mid = tree_runs c.replace_at.new.mem r in let rep = subst (λ (x : Run). IsReplacedAt old mid c.args.at x) c.back_of-back.ensures (c.replace_at.ensures.runs c.args.at f.run c.found_near-found.ensures.spot) in
    let w = mid_cells old mid f.run f.before o c.args.at st some rep in
    low_tree c.replace_at.new.mem r c.replace_at.ensures.tree (mid_kept old mid f.run f.before o c.args.at st some rep c.requires.kept) (omega (arith, w, c.requires.few))

pub returns-clause-recut : goal.returns-clause-recut
returns-clause-recut c =
    let m = c.args.mem.now in let r = c.args.root.index in let old = tree_runs m r in
    let f = c.found_near-found.result in let o = f.spot.offset in let st = c.found_near-found.ensures.run in let some : 0 < o = omega (arith, c.if-offset-eq0.false) in
    let mid = tree_runs c.replace_at.new.mem r in let rep = subst (λ (x : Run). IsReplacedAt old mid c.args.at x) c.back_of-back.ensures (c.replace_at.ensures.runs c.args.at f.run c.found_near-found.ensures.spot) in
    let new = tree_runs c.put-placed.new.mem c.put-placed.result.root.index in let put = subst (λ (x : Run). IsPutAt mid new (c.args.at - o) x) c.front_of-front.ensures c.put-placed.ensures.runs in
    new_recut old mid f.run f.before o c.args.at st some rep new put

pub returns-clause-edge : goal.returns-clause-edge
returns-clause-edge c =
    let m = c.args.mem.now in let r = c.args.root.index in let old = tree_runs m r in
    let f = c.found_near-found.result in let o = f.spot.offset in let st = c.found_near-found.ensures.run in let some : 0 < o = omega (arith, c.if-offset-eq0.false) in
    let mid = tree_runs c.replace_at.new.mem r in let rep = subst (λ (x : Run). IsReplacedAt old mid c.args.at x) c.back_of-back.ensures (c.replace_at.ensures.runs c.args.at f.run c.found_near-found.ensures.spot) in
    let new = tree_runs c.put-placed.new.mem c.put-placed.result.root.index in let put = subst (λ (x : Run). IsPutAt mid new (c.args.at - o) x) c.front_of-front.ensures c.put-placed.ensures.runs in
    new_edge old mid f.run f.before o c.args.at st some rep new put

pub returns-clause-runs : goal.returns-clause-runs
returns-clause-runs c =
    let m = c.args.mem.now in let r = c.args.root.index in let old = tree_runs m r in
    let f = c.found_near-found.result in let o = f.spot.offset in let st = c.found_near-found.ensures.run in let some : 0 < o = omega (arith, c.if-offset-eq0.false) in
    let mid = tree_runs c.replace_at.new.mem r in let rep = subst (λ (x : Run). IsReplacedAt old mid c.args.at x) c.back_of-back.ensures (c.replace_at.ensures.runs c.args.at f.run c.found_near-found.ensures.spot) in
    let new = tree_runs c.put-placed.new.mem c.put-placed.result.root.index in let put = subst (λ (x : Run). IsPutAt mid new (c.args.at - o) x) c.front_of-front.ensures c.put-placed.ensures.runs in
    new_length old mid f.run f.before o c.args.at st some rep new put

pub returns-clause-parts : goal.returns-clause-parts
returns-clause-parts c =
    let m = c.args.mem.now in let r = c.args.root.index in let old = tree_runs m r in
    let f = c.found_near-found.result in let o = f.spot.offset in let st = c.found_near-found.ensures.run in let some : 0 < o = omega (arith, c.if-offset-eq0.false) in
    let mid = tree_runs c.replace_at.new.mem r in let rep = subst (λ (x : Run). IsReplacedAt old mid c.args.at x) c.back_of-back.ensures (c.replace_at.ensures.runs c.args.at f.run c.found_near-found.ensures.spot) in
    let new = tree_runs c.put-placed.new.mem c.put-placed.result.root.index in let put = subst (λ (x : Run). IsPutAt mid new (c.args.at - o) x) c.front_of-front.ensures c.put-placed.ensures.runs in
    new_parts old mid f.run f.before o c.args.at st some rep new put

pub put-placed-requires-clause-room : goal.put-placed-requires-clause-room
put-placed-requires-clause-room c =
    let old = tree_runs c.args.mem.now c.args.root.index in let mid = tree_runs c.replace_at.new.mem c.args.root.index in
    let same = replaced_length old mid c.args.at c.back_of-back.result (c.replace_at.ensures.runs c.args.at c.found_near-found.result.run c.found_near-found.ensures.spot) in
    omega (arith, same, c.replace_at.ensures.room.0, c.replace_at.ensures.room.1, c.requires.room)

pub replace_at-requires-clause-short : goal.replace_at-requires-clause-short
replace_at-requires-clause-short c = short_kept (tree_runs c.args.mem.now c.args.root.index) c.requires.kept c.requires.few

pub replace_at-requires-clause-state : goal.replace_at-requires-clause-state
replace_at-requires-clause-state c =
    let old = tree_runs c.args.mem.now c.args.root.index in let st = c.found_near-found.ensures.run in let table = c.args.states.now in
    subst (λ (x : Run). IsState table x.state) (sym c.back_of-back.ensures) (given_there table old st.left st.right c.found_near-found.result.run st.here c.requires.told.given)

pub put-placed-requires-clause-told : goal.put-placed-requires-clause-told
put-placed-requires-clause-told c = c.replace_at.ensures.told

pub put-placed-requires-clause-short : goal.put-placed-requires-clause-short
put-placed-requires-clause-short c =
    let old = tree_runs c.args.mem.now c.args.root.index in let mid = tree_runs c.replace_at.new.mem c.args.root.index in
    let same = replaced_length old mid c.args.at c.back_of-back.result (c.replace_at.ensures.runs c.args.at c.found_near-found.result.run c.found_near-found.ensures.spot) in
    let few = short_kept old c.requires.kept c.requires.few in
    omega (arith, same, few)

pub put-placed-requires-clause-state : goal.put-placed-requires-clause-state
put-placed-requires-clause-state c =
    let old = tree_runs c.args.mem.now c.args.root.index in let st = c.found_near-found.ensures.run in let table = c.args.states.now in
    subst (λ (x : Run). IsState table x.state) (sym c.front_of-front.ensures) (given_there table old st.left st.right c.found_near-found.result.run st.here c.requires.told.given)

pub returns-clause-tags : goal.returns-clause-tags
returns-clause-tags c = c.put-placed.ensures.tags ∙ c.replace_at.ensures.tags

pub returns-clause-parted : goal.returns-clause-parted
returns-clause-parted c =
    let m = c.args.mem.now in let r = c.args.root.index in let old = tree_runs m r in
    let mid = c.replace_at.new.mem in let new = c.put-placed.new.mem in
    let f = c.found_near-found.result in let o = f.spot.offset in let st = c.found_near-found.ensures.run in let some : 0 < o = omega (arith, c.if-offset-eq0.false) in
    let spot = c.found_near-found.ensures.spot in
    let b = ap (λ (x : Counts). x.cells) st.before in
    let front = c.front_of-front.result in
    let less = st.inside in
    let heads = c.replace_at.ensures.room.1 in
    let both = returns-clause-parts c st.left st.right f.run o st.here (omega (arith, b, st.at)) some less in
    record {
      left = st.left;
      right = st.right;
      run = f.run;
      count = o;
      some = some;
      less = less;
      was = st.here;
      is = both ∙ ap (λ (x : Run). st.left ++ x ∷ back_of o f.run ∷ st.right) (sym c.front_of-front.ensures);
      front_is = c.front_of-front.ensures;
      at = f.spot.leaf.index;
      stood = record { is = spot.is; low = spot.low; entry = f.spot.entry; here = spot.here };
      there = c.put-placed.ensures.there;
      stay = λ k s stands. elim (c.put-placed.ensures.stay k s stands) [
        | inl high ↦ inl (omega (arith, high, heads))
        | inr rest ↦ elim rest [
          | inl was ↦ elim (c.replace_at.ensures.stay k s was) [
            | inl high ↦ inl high
            | inr parts ↦ elim parts [
              | inl before ↦ inr (inl before)
              | inr own ↦ inr (inr (inr (own.0, own.1 ∙ c.back_of-back.ensures)))
            ]
          ]
          | inr own ↦ inr (inr (inl own))
        ]
      ];
    }

pub put-placed-requires-clause-hint : goal.put-placed-requires-clause-hint
put-placed-requires-clause-hint c =
    let r = c.args.root.index in let mid = c.replace_at.new.mem in
    let f = c.found_near-found.result in let o = f.spot.offset in let st = c.found_near-found.ensures.run in
    let held = c.replace_at.ensures.held f.run f.before c.found_near-found.ensures.held in
    let len = ap (λ (x : Run). x.len) c.back_of-back.ensures in
    let spot = held_spot mid r Cells (c.args.at - o) f.spot.leaf.index f.spot.entry 0 c.back_of-back.result f.before held (omega (arith, st.at)) (omega (arith, len, st.inside)) in
    (c.back_of-back.result, subst (λ (x : Spot). IsSpot mid r Cells (c.args.at - o) x.leaf.index x.entry x.offset c.back_of-back.result) (sym c.begin_of.ensures) spot)

pub returns-clause-end : goal.returns-clause-end
returns-clause-end c =
    let r = c.args.root.index in let old = tree_runs c.args.mem.now r in
    let f = c.found_near-found.result in let o = f.spot.offset in let st = c.found_near-found.ensures.run in let some : 0 < o = omega (arith, c.if-offset-eq0.false) in
    let mid = tree_runs c.replace_at.new.mem r in let rep = subst (λ (x : Run). IsReplacedAt old mid c.args.at x) c.back_of-back.ensures (c.replace_at.ensures.runs c.args.at f.run c.found_near-found.ensures.spot) in
    let front = c.front_of-front.result in
    let len = ap (λ (x : Run). x.len) c.front_of-front.ensures in
    let p = c.put-placed.result in
    let spot = c.put-placed.ensures.spot (mid_edge old mid f.run f.before o c.args.at st some rep) (omega (arith, len, some)) in
    spot_end c.put-placed.new.mem p.root.index (c.args.at - o) c.args.at p.leaf.index p.entry (o - 1) front spot (omega (arith, len, some)) (omega (arith, len, st.at))
