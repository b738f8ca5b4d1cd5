use Rattle.std.proofs.Common.{◌≡◌, ℕ, ◌==◌, if◌then◌else◌, length, ◌+◌, ◌-◌, ◌<◌, ◌≤◌, ◌∙◌, List, [], ◌∷◌, ◌++◌, nat_eq, true, true≢false, ap, inr, refl, sym, subst, arith}
use Rattle.std.proofs.lemmas.Bool.Decides.{nat_tests}
use Rattle.std.specs.List.{AllByRecursion, list_any}
use Rattle.std.specs.Prelude.{IfSome}
use Rattle.rt_tree.specs.declared.extend.Extended.{Extended}
use Rattle.rt_tree.specs.declared.node.Counts.{Counts}
use Rattle.rt_tree.specs.declared.node.CountedBy.TheVariants.{Cells}
use Rattle.rt_tree.specs.declared.near.Seen.{Seen}
use Rattle.rt_tree.specs.declared.node.Run.{Run}
use Rattle.rt_tree.specs.Additions.{run_joined}
use Rattle.rt_tree.specs.Holds.{IsEndAt}
use Rattle.rt_tree.specs.Homes.{HasLeaves}
use Rattle.rt_tree.specs.Runs.{IsRun, cells_of_runs}
use Rattle.rt_tree.specs.Shape.{IsTree, Memory, runs_before, tree_runs}
use Rattle.rt_tree.specs.Sharing.{AreOnce, is_shared_by}
use Rattle.rt_tree.specs.Stretches.{AreRunsOfText, IsEdge, lengths}
use Rattle.rt_tree.specs.Sums.{AreFew, counts_of, counts_of_run, plus}
use Rattle.rt_tree.specs.Walks.{IsReplacedAt, IsSpot, StandsAt}
use Rattle.rt_tree.proofs.Cutting.{few_all, few_with}
use Rattle.rt_tree.proofs.Holding.{spot_held}
use Rattle.rt_tree.proofs.Housing.{home_more, joined_holders, joined_placed, unknown_new}
use Rattle.rt_tree.proofs.Edges.{counts_mid, edge_behind, edge_there}
use Rattle.rt_tree.proofs.Joining.{joint_true}
use Rattle.rt_tree.proofs.Puts.{replaced_length, spot_within}
use Rattle.rt_tree.proofs.Stands.{stands}
use Rattle.rt_tree.proofs.Splicing.{extended, extended_apart, new_is}
use Rattle.rt_tags.specs.States.{IsState}
use Rattle.rt_tree.proofs.Told.{given_there, short_kept}
use Rattle.rt_tree.proofs.Housed.{joined_housed}
use Rattle.rt_tree.proofs.Skipping.{have_cells}
use Rattle.rt_tree.proofs.Typing.{longer_ends, typed_apart, typed_end, typed_joint, whole_stretch}
use Rattle.rt_tree.proofs.Sure.{entered_others, front_below, front_new}
use Rattle.rt_tree.proofs.extend.extend.Goals.{then-at-eq0-via-then-at-eq0, then-at-eq0-via-else-at-eq0+then-is_empty}
use Rattle.rt_tree.proofs.extend.extend.Goals as goal

-- what the runs before one that was seen count
abbrev front : Memory → ℕ → Seen → Counts
front m root seen = counts_of (runs_before m root seen.spot.leaf.index seen.spot.entry)

abbrev there : (m : Memory) (root : ℕ) → IsTree m root → (at : ℕ) (seen : Seen) → IsSpot m root Cells at seen.spot.leaf.index seen.spot.entry seen.spot.offset seen.run → StandsAt Cells (tree_runs m root) seen.run (front m root seen) seen.spot.offset at
there m root t at seen spot = stands m root t Cells at seen.spot.leaf.index seen.spot.entry seen.spot.offset seen.run (front m root seen) spot refl

nat_is : (a b : ℕ) → nat_eq a b ≡ true → a ≡ b
nat_is a b is = grind (arith, nat_tests)

pub cell_near-found-requires-clause-few : goal.cell_near-found-requires-clause-few
cell_near-found-requires-clause-few c =
    let old = tree_runs c.args.mem.now c.args.root.index in
    let kept : AreRunsOfText old = record { text = c.args.new.now.text.now; short = c.requires.short; runs = c.requires.kept } in
    few_all old kept (omega (arith, c.requires.few))

pub is_barred-requires-clause-kept : goal.is_barred-requires-clause-kept
is_barred-requires-clause-kept c = record { text = c.args.new.now.text.now; short = c.requires.short; runs = c.requires.kept }

pub is_barred-requires-clause-known : goal.is_barred-requires-clause-known
is_barred-requires-clause-known c = record { text = c.args.new.now.text.now; kept = c.requires.kept; upto = c.requires.upto }

pub is_new-is_new-requires : goal.is_new-is_new-requires
is_new-is_new-requires c = c.run_of-run.ensures.front.run.counts

pub is_barred-requires-clause-sum : goal.is_barred-requires-clause-sum
is_barred-requires-clause-sum c =
    let st = there c.args.mem.now c.args.root.index c.requires.tree (c.args.new.now.at - 1) c.cell_near-found.result c.cell_near-found.ensures in let run = c.cell_near-found.result.run in
    let w = ap (λ l. (counts_of l).cells) st.here ∙ counts_mid st.left run st.right in
    let low = c.run_of-run.ensures.front.within in
    omega (arith, w, low, c.requires.few)

pub is_barred-requires-clause-some : goal.is_barred-requires-clause-some
is_barred-requires-clause-some c = c.run_of-run.ensures.front.run.some

pub is_barred-requires-clause-joint : goal.is_barred-requires-clause-joint
is_barred-requires-clause-joint c = sym c.are_joint.ensures ∙ c.if-not-are_joint.false

pub is_barred-requires-clause-among : goal.is_barred-requires-clause-among
is_barred-requires-clause-among c = let st = there c.args.mem.now c.args.root.index c.requires.tree (c.args.new.now.at - 1) c.cell_near-found.result c.cell_near-found.ensures in record { left = st.left; right = st.right; here = st.here }

pub is_barred-requires-clause-once : goal.is_barred-requires-clause-once
is_barred-requires-clause-once c = λ new. (c.requires.home (c.is_new-is_new.ensures.sure new)).once

pub is_barred-requires-clause-new : goal.is_barred-requires-clause-new
is_barred-requires-clause-new c =
    let old = tree_runs c.args.mem.now c.args.root.index in
    λ new. unknown_new c.args.homes.now.leaves c.args.new.now.newest c.run_of-run.result old (record { text = c.args.new.now.text.now; kept = c.requires.kept; upto = c.requires.upto }) (c.requires.home (c.is_new-is_new.ensures.sure new)) (c.is_new-is_new.ensures.unknown new)

pub joined-whole-requires : goal.joined-whole-requires
joined-whole-requires c =
    let st = there c.args.mem.now c.args.root.index c.requires.tree (c.args.new.now.at - 1) c.cell_near-found.result c.cell_near-found.ensures in let run = c.cell_near-found.result.run in
    let w = ap (λ l. (counts_of l).cells) st.here ∙ counts_mid st.left run st.right in
    let low = c.run_of-run.ensures.front.within in
    omega (arith, w, low, c.requires.few)

pub returns-clause-home : goal.returns-clause-home
returns-clause-home c =
    let old = tree_runs c.args.mem.now c.args.root.index in let new = tree_runs c.replace_at.new.mem c.args.root.index in
    let st = there c.args.mem.now c.args.root.index c.requires.tree (c.args.new.now.at - 1) c.cell_near-found.result c.cell_near-found.ensures in let f = c.cell_near-found.result in let b = c.run_of-run.result in
    let rep = subst (λ (r : Run). IsReplacedAt old new (c.args.new.now.at - 1) r) c.joined-whole.ensures (c.replace_at.ensures.runs (c.args.new.now.at - 1) c.cell_near-found.result.run c.cell_near-found.ensures) in
    let joint = sym c.are_joint.ensures ∙ c.if-not-are_joint.false in
    let is = new_is c.args.new.now.text.now old c.args.new.now.at c.args.new.now.cells.now c.requires.kept f.run b (front c.args.mem.now c.args.root.index f) f.spot.offset st (let z = c.if-at-eq0.false in omega (arith, z)) (let l = c.if-found.false in let i = st.inside in omega (arith, l, i)) c.run_of-run.ensures joint new rep in
    let leaves = c.args.homes.now.leaves in let after = c.enter.new.self.leaves in
    let e = c.enter.ensures in let i = c.is_new-is_new.ensures in
    λ sure.
    let new_there = e.sure sure in
    let home = c.requires.home (i.sure new_there) in
    home_more leaves after b old new (joined_holders f.run b st.left st.right old new joint st.here is) home
    (unknown_new leaves c.args.new.now.newest b old (record { text = c.args.new.now.text.now; kept = c.requires.kept; upto = c.requires.upto }) home (i.unknown new_there))
    (joined_placed after f.run b joint (subst (HasLeaves after) c.joined-whole.ensures (e.placed sure)))
    e.keeps
    (entered_others leaves after c.joined-whole.result f.spot.leaf (e.entered sure) new st.left st.right (is ∙ ap (λ (x : Run). st.left ++ x ∷ st.right) (sym c.joined-whole.ensures)))

pub returns-clause-left : goal.returns-clause-left
returns-clause-left c =
    let some = c.run_of-run.ensures.front.run.some in
    omega (arith, some, c.enter.ensures.left)

pub returns-clause-housed : goal.returns-clause-housed
returns-clause-housed c sure =
    let m = c.args.mem.now in let n = c.replace_at.new.mem in let root = c.args.root.index in
    let old = tree_runs m root in let new = tree_runs n root in
    let st = there m root c.requires.tree (c.args.new.now.at - 1) c.cell_near-found.result c.cell_near-found.ensures in let f = c.cell_near-found.result in let b = c.run_of-run.result in
    let rep = subst (λ (r : Run). IsReplacedAt old new (c.args.new.now.at - 1) r) c.joined-whole.ensures (c.replace_at.ensures.runs (c.args.new.now.at - 1) c.cell_near-found.result.run c.cell_near-found.ensures) in
    let joint = sym c.are_joint.ensures ∙ c.if-not-are_joint.false in
    let is = new_is c.args.new.now.text.now old c.args.new.now.at c.args.new.now.cells.now c.requires.kept f.run b (front m root f) f.spot.offset st (let z = c.if-at-eq0.false in omega (arith, z)) (let l = c.if-found.false in let i = st.inside in omega (arith, l, i)) c.run_of-run.ensures joint new rep in
    let whole = c.joined-whole.ensures in
    let leaves = c.args.homes.now.leaves in let after = c.enter.new.self.leaves in
    let e = c.enter.ensures in let i = c.is_new-is_new.ensures in
    let new_there = e.sure sure in
    let home = c.requires.home (i.sure new_there) in
    let fresh = unknown_new leaves c.args.new.now.newest b old (record { text = c.args.new.now.text.now; kept = c.requires.kept; upto = c.requires.upto }) home (i.unknown new_there) in
    let spot = c.cell_near-found.ensures in
    joined_housed leaves after c.joined-whole.result f.spot.leaf (e.entered sure) m n root c.requires.tree (c.requires.housed (i.sure new_there)) f.run b st.left st.right joint whole st.here
    (is ∙ ap (λ (x : Run). st.left ++ x ∷ st.right) (sym whole)) home.once (returns-clause-home c sure).once fresh
    (record { is = spot.is; low = spot.low; entry = f.spot.entry; here = spot.here })
    (have_cells c.args.new.now.text.now old c.requires.kept) c.replace_at.ensures.stay c.replace_at.ensures.room.1

pub returns-clause-apart : goal.returns-clause-apart
returns-clause-apart c =
    let old = tree_runs c.args.mem.now c.args.root.index in let new = tree_runs c.replace_at.new.mem c.args.root.index in
    let st = there c.args.mem.now c.args.root.index c.requires.tree (c.args.new.now.at - 1) c.cell_near-found.result c.cell_near-found.ensures in let f = c.cell_near-found.result in let b = c.run_of-run.result in
    let rep = subst (λ (r : Run). IsReplacedAt old new (c.args.new.now.at - 1) r) c.joined-whole.ensures (c.replace_at.ensures.runs (c.args.new.now.at - 1) c.cell_near-found.result.run c.cell_near-found.ensures) in
    let none = sym c.is_barred.ensures ∙ c.if-is_barred.false in
    extended_apart c.args.new.now.text.now old c.args.new.now.at c.args.new.now.cells.now c.requires.kept f.run b (front c.args.mem.now c.args.root.index f) f.spot.offset st (let z = c.if-at-eq0.false in omega (arith, z)) (let l = c.if-found.false in let i = st.inside in omega (arith, l, i)) c.run_of-run.ensures (sym c.are_joint.ensures ∙ c.if-not-are_joint.false) new rep c.requires.apart none

pub replace_at-requires-clause-few : goal.replace_at-requires-clause-few
replace_at-requires-clause-few c =
    let old = tree_runs c.args.mem.now c.args.root.index in
    let kept : AreRunsOfText old = record { text = c.args.new.now.text.now; short = c.requires.short; runs = c.requires.kept } in
    let st = there c.args.mem.now c.args.root.index c.requires.tree (c.args.new.now.at - 1) c.cell_near-found.result c.cell_near-found.ensures in let run = c.cell_near-found.result.run in let b = c.run_of-run.result in
    let w = ap (λ l. (counts_of l).cells) st.here ∙ counts_mid st.left run st.right in
    let low = c.run_of-run.ensures.front.within in let some = c.run_of-run.ensures.front.run.some in
    subst (λ (r : Run). AreFew (plus (counts_of_run r) (counts_of old))) (sym c.joined-whole.ensures)
    (few_with (record run { len = run.len + b.len; newline = b.newline }) old (omega (arith, some)) (omega (arith, w, low, c.requires.few)) kept (omega (arith, c.requires.few)))

pub returns-clause-cells : goal.returns-clause-cells
returns-clause-cells c =
    let old = tree_runs c.args.mem.now c.args.root.index in let new = tree_runs c.replace_at.new.mem c.args.root.index in
    let st = there c.args.mem.now c.args.root.index c.requires.tree (c.args.new.now.at - 1) c.cell_near-found.result c.cell_near-found.ensures in let f = c.cell_near-found.result in let b = c.run_of-run.result in
    let rep = subst (λ (r : Run). IsReplacedAt old new (c.args.new.now.at - 1) r) c.joined-whole.ensures (c.replace_at.ensures.runs (c.args.new.now.at - 1) c.cell_near-found.result.run c.cell_near-found.ensures) in
    extended c.args.new.now.text.now old c.args.new.now.at c.args.new.now.cells.now c.requires.kept f.run b (front c.args.mem.now c.args.root.index f) f.spot.offset st (let z = c.if-at-eq0.false in omega (arith, z)) (let l = c.if-found.false in let i = st.inside in omega (arith, l, i)) c.run_of-run.ensures (sym c.are_joint.ensures ∙ c.if-not-are_joint.false) new rep

pub replace_at-requires-clause-spot : goal.replace_at-requires-clause-spot
replace_at-requires-clause-spot c = (c.args.new.now.at - 1, c.cell_near-found.result.run, c.cell_near-found.ensures)

pub returns-clause-runs : goal.returns-clause-runs
returns-clause-runs c =
    let old = tree_runs c.args.mem.now c.args.root.index in let new = tree_runs c.replace_at.new.mem c.args.root.index in
    replaced_length old new (c.args.new.now.at - 1) c.joined-whole.result (c.replace_at.ensures.runs (c.args.new.now.at - 1) c.cell_near-found.result.run c.cell_near-found.ensures)

pub replace_at-requires-clause-short : goal.replace_at-requires-clause-short
replace_at-requires-clause-short c =
    let old = tree_runs c.args.mem.now c.args.root.index in
    let few = c.requires.few in
    short_kept old (record { text = c.args.new.now.text.now; short = c.requires.short; runs = c.requires.kept }) (omega (arith, few))

pub replace_at-requires-clause-state : goal.replace_at-requires-clause-state
replace_at-requires-clause-state c =
    let old = tree_runs c.args.mem.now c.args.root.index in let st = there c.args.mem.now c.args.root.index c.requires.tree (c.args.new.now.at - 1) c.cell_near-found.result c.cell_near-found.ensures in let table = c.args.states.now in
    subst (λ (x : Run). IsState table x.state) (sym c.joined-whole.ensures) (given_there table old st.left st.right c.cell_near-found.result.run st.here c.requires.told.given)

pub returns-then-at-eq0-clause-edge : goal.returns-then-at-eq0-clause-edge
returns-then-at-eq0-clause-edge c =
    let old = tree_runs c.args.mem.now c.args.root.index in
    λ is. let zero : c.args.new.now.at ≡ 0 = nat_is c.args.new.now.at 0 (sym (ap (λ (x : Extended). x.is_edge) c.not_extended.ensures) ∙ is) in
    let done = ap (λ (x : Extended). x.done) c.not_extended.ensures in
    edge_there [] old (c.args.new.now.at + c.not_extended.result.done) (omega (arith, zero, done))

-- the run that was found ends at the position
ends_at : (m : Memory) (root at : ℕ) (seen : Seen) → IsSpot m root Cells (at - 1) seen.spot.leaf.index seen.spot.entry seen.spot.offset seen.run → 0 < at → seen.run.len ≤ seen.spot.offset + 1 → IsEndAt m root (at + 0) seen.spot
ends_at m root at seen spot some long = record {
  run = seen.run;
  place = at - 1;
  is = spot;
  last = let i = spot.inside in omega (arith, i, long);
  next = omega (arith, some);
}

-- behind the run that was found
ends : (all : List Run) (run : Run) (front : Counts) (offset at : ℕ) → StandsAt Cells all run front offset (at - 1) → 0 < at → offset + 1 ≡ run.len → IsEdge (lengths all) (at + 0)
ends all run front offset at st some is =
    let f = ap (λ (x : Counts). x.cells) st.before in
    subst (λ (l : List Run). IsEdge (lengths l) (at + 0)) (sym st.here) (edge_behind st.left run st.right (at + 0) (omega (arith, f, st.at, some, is)))

pub returns-then-found-clause-edge : goal.returns-then-found-clause-edge
returns-then-found-clause-edge c = λ is. absurd (true≢false (sym is ∙ ap (λ (x : Extended). x.is_edge) c.not_extended-then-found.ensures))

pub returns-then-not-are_joint-clause-edge : goal.returns-then-not-are_joint-clause-edge
returns-then-not-are_joint-clause-edge c =
    let f = c.cell_near-found.result in let st = there c.args.mem.now c.args.root.index c.requires.tree (c.args.new.now.at - 1) f c.cell_near-found.ensures in
    let old = tree_runs c.args.mem.now c.args.root.index in
    λ _. subst (λ (x : Extended). IsEdge (lengths old) (c.args.new.now.at + x.done)) (sym c.not_extended-then-not-are_joint.ensures)
    (ends old f.run (front c.args.mem.now c.args.root.index f) f.spot.offset c.args.new.now.at st (omega (arith, c.if-at-eq0.false)) (let l = c.if-found.false in let i = st.inside in omega (arith, l, i)))

pub returns-then-not-are_joint-clause-end : goal.returns-then-not-are_joint-clause-end
returns-then-not-are_joint-clause-end c =
    let m = c.args.mem.now in let r = c.args.root.index in let f = c.cell_near-found.result in
    let end : IsEndAt m r (c.args.new.now.at + 0) f.spot = ends_at m r c.args.new.now.at f c.cell_near-found.ensures (omega (arith, c.if-at-eq0.false)) c.if-found.false in
    subst (λ (x : Extended). IfSome x.end (IsEndAt m r (c.args.new.now.at + x.done))) (sym c.not_extended-then-not-are_joint.ensures) end

pub returns-then-not-are_joint-clause-known : goal.returns-then-not-are_joint-clause-known
returns-then-not-are_joint-clause-known c =
    subst (λ (x : Extended). IfSome x.end (λ _. x.is_edge ≡ true)) (sym c.not_extended-then-not-are_joint.ensures) refl

pub returns-then-is_barred-clause-edge : goal.returns-then-is_barred-clause-edge
returns-then-is_barred-clause-edge c =
    let f = c.cell_near-found.result in let st = there c.args.mem.now c.args.root.index c.requires.tree (c.args.new.now.at - 1) f c.cell_near-found.ensures in
    let old = tree_runs c.args.mem.now c.args.root.index in
    λ _. subst (λ (x : Extended). IsEdge (lengths old) (c.args.new.now.at + x.done)) (sym c.not_extended-then-is_barred.ensures)
    (ends old f.run (front c.args.mem.now c.args.root.index f) f.spot.offset c.args.new.now.at st (omega (arith, c.if-at-eq0.false)) (let l = c.if-found.false in let i = st.inside in omega (arith, l, i)))

pub returns-then-is_barred-clause-end : goal.returns-then-is_barred-clause-end
returns-then-is_barred-clause-end c =
    let m = c.args.mem.now in let r = c.args.root.index in let f = c.cell_near-found.result in
    let end : IsEndAt m r (c.args.new.now.at + 0) f.spot = ends_at m r c.args.new.now.at f c.cell_near-found.ensures (omega (arith, c.if-at-eq0.false)) c.if-found.false in
    subst (λ (x : Extended). IfSome x.end (IsEndAt m r (c.args.new.now.at + x.done))) (sym c.not_extended-then-is_barred.ensures) end

pub returns-then-is_barred-clause-known : goal.returns-then-is_barred-clause-known
returns-then-is_barred-clause-known c =
    subst (λ (x : Extended). IfSome x.end (λ _. x.is_edge ≡ true)) (sym c.not_extended-then-is_barred.ensures) refl

pub counts_before-before-requires-clause-few : goal.counts_before-before-requires-clause-few
counts_before-before-requires-clause-few c =
    let old = tree_runs c.args.mem.now c.args.root.index in
    let kept : AreRunsOfText old = record { text = c.args.new.now.text.now; short = c.requires.short; runs = c.requires.kept } in
    few_all old kept (omega (arith, c.requires.few))

pub counts_before-before-requires-clause-leaf : goal.counts_before-before-requires-clause-leaf
counts_before-before-requires-clause-leaf c =
    let spot = c.cell_near-found.ensures in let same = c.requires.tree.shape.same in
    ((spot.is, omega (arith, spot.is, same)), spot.low)

pub counts_before-before-requires-clause-within : goal.counts_before-before-requires-clause-within
counts_before-before-requires-clause-within c =
    let f = c.cell_near-found.result in
    let lt = spot_within c.args.mem.now c.args.root.index (c.args.new.now.at - 1) f.spot.leaf.index f.spot.entry f.spot.offset f.run c.cell_near-found.ensures in
    omega (arith, lt)

pub returns-clause-held : goal.returns-clause-held
returns-clause-held c =
    let f = c.cell_near-found.result in let m = c.args.mem.now in let r = c.args.root.index in
    c.replace_at.ensures.held f.run c.counts_before-before.result (spot_held m r Cells (c.args.new.now.at - 1) f.spot.leaf.index f.spot.entry f.spot.offset f.run c.counts_before-before.result c.cell_near-found.ensures c.counts_before-before.ensures)

-- new cells that share no stamp are known to be new
pub returns-clause-sure : goal.returns-clause-sure
returns-clause-sure c = λ was once below.
    let old = tree_runs c.args.mem.now c.args.root.index in
    let text = c.args.new.now.text.now in let cells = c.args.new.now.cells.now in
    let f = c.cell_near-found.result in let b = c.run_of-run.result in
    let front = c.run_of-run.ensures.front in
    let home = c.requires.home was in
    let fresh = front_new text b cells front old c.requires.kept once in
    let bound = front_below text b cells front below in
    let is_new = c.is_new-is_new.ensures.old was (inr (λ stamp there. home.runs stamp (fresh stamp there))) in
    let joint = joint_true f.run b (sym c.are_joint.ensures ∙ c.if-not-are_joint.false) in
    let first = ap (λ (x : Run). x.first) c.joined-whole.ensures in
    let len = ap (λ (x : Run). x.len) c.joined-whole.ensures in
    let next = joint.first in let some = front.run.some in
    c.enter.ensures.stays is_new (omega (arith, len, some)) (omega (arith, first, len, next, bound))

-- cells that go on from one that came last go on with its run

pub returns-then-at-eq0-clause-typed : goal.returns-then-at-eq0-clause-typed
returns-then-at-eq0-clause-typed c once on = elim c.then-at-eq0.branch [
  | then-at-eq0-via-then-at-eq0 w ↦ let some = on.some in absurd (omega (arith, some, w.if-at-eq0.true))
  | then-at-eq0-via-else-at-eq0+then-is_empty w ↦
      let none : length c.args.new.now.cells.now ≡ 0 = grind (arith, nat_tests, w.is_empty.ensures, w.if-is_empty.true) in
      let done = ap (λ (x : Extended). x.done) c.not_extended.ensures in
      omega (arith, done, none)
]

pub returns-then-found-clause-typed : goal.returns-then-found-clause-typed
returns-then-found-clause-typed c once on =
    let text = c.args.new.now.text.now in let cells = c.args.new.now.cells.now in let at = c.args.new.now.at in
    let old = tree_runs c.args.mem.now c.args.root.index in
    let st = there c.args.mem.now c.args.root.index c.requires.tree (at - 1) c.cell_near-found.result c.cell_near-found.ensures in let f = c.cell_near-found.result in
    let e = typed_end text old at cells c.requires.kept f.run (front c.args.mem.now c.args.root.index f) f.spot.offset st on in
    absurd (omega (arith, e, c.if-found.true))

pub returns-then-not-are_joint-clause-typed : goal.returns-then-not-are_joint-clause-typed
returns-then-not-are_joint-clause-typed c once on =
    let text = c.args.new.now.text.now in let cells = c.args.new.now.cells.now in let at = c.args.new.now.at in
    let old = tree_runs c.args.mem.now c.args.root.index in
    let st = there c.args.mem.now c.args.root.index c.requires.tree (at - 1) c.cell_near-found.result c.cell_near-found.ensures in let f = c.cell_near-found.result in
    let j = typed_joint text old at cells c.requires.kept f.run (front c.args.mem.now c.args.root.index f) f.spot.offset st on c.run_of-run.result c.run_of-run.ensures.front in
    absurd (true≢false (sym (c.are_joint.ensures ∙ j) ∙ c.if-not-are_joint.true))

pub returns-then-is_barred-clause-typed : goal.returns-then-is_barred-clause-typed
returns-then-is_barred-clause-typed c once on =
    let text = c.args.new.now.text.now in let cells = c.args.new.now.cells.now in let at = c.args.new.now.at in
    let old = tree_runs c.args.mem.now c.args.root.index in
    let st = there c.args.mem.now c.args.root.index c.requires.tree (at - 1) c.cell_near-found.result c.cell_near-found.ensures in let f = c.cell_near-found.result in
    let b = c.run_of-run.result in
    let j = sym c.are_joint.ensures ∙ c.if-not-are_joint.false in
    let shared = sym c.is_barred.ensures ∙ c.if-is_barred.true in
    absurd (typed_apart text st.left f.run st.right cells b (subst (AllByRecursion (IsRun text)) st.here c.requires.kept) c.run_of-run.ensures.front (joint_true f.run b j)
    (subst (λ (l : List Run). AreOnce (cells_of_runs text l) cells) st.here once)
    (subst (λ (l : List Run). list_any (is_shared_by (if f.run.len == 1 then run_joined f.run b else b)) l ≡ true) st.here shared))

pub returns-clause-typed : goal.returns-clause-typed
returns-clause-typed c once on = whole_stretch on.before c.args.new.now.cells.now c.run_of-run.result.len on.one c.run_of-run.ensures.stretch

pub returns-clause-newest : goal.returns-clause-newest
returns-clause-newest c some =
    let text = c.args.new.now.text.now in let cells = c.args.new.now.cells.now in let at = c.args.new.now.at in
    let old = tree_runs c.args.mem.now c.args.root.index in
    let st = there c.args.mem.now c.args.root.index c.requires.tree (at - 1) c.cell_near-found.result c.cell_near-found.ensures in let f = c.cell_near-found.result in
    let new = tree_runs c.replace_at.new.mem c.args.root.index in let b = c.run_of-run.result in
    let rep = subst (λ (r : Run). IsReplacedAt old new (at - 1) r) c.joined-whole.ensures (c.replace_at.ensures.runs (at - 1) f.run c.cell_near-found.ensures) in
    let joint = sym c.are_joint.ensures ∙ c.if-not-are_joint.false in
    let first : 0 < at = (let z = c.if-at-eq0.false in omega (arith, z)) in
    let last : f.spot.offset + 1 ≡ f.run.len = (let l = c.if-found.false in let i = st.inside in omega (arith, l, i)) in
    let is = new_is text old at cells c.requires.kept f.run b (front c.args.mem.now c.args.root.index f) f.spot.offset st first last c.run_of-run.ensures joint new rep in
    longer_ends new at (length text - length cells) st.left f.run b st.right (joint_true f.run b joint) is (let x = ap (λ (n : Counts). n.cells) st.before in let y = st.at in omega (arith, x, y, first, last)) c.run_of-run.ensures.front.at c.run_of-run.ensures.front.run.some
