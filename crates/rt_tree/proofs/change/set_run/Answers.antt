use Rattle.std.proofs.Common.{◌≡◌, ℕ, ◌<◌, ◌≤◌, List, length, set, refl, sym, ap, ◌∙◌, arith, subst, length-set}
use Rattle.std.specs.Prelude.{IfSome}
use Rattle.rt_nodes.specs.Nodes.{entries, with_entries}
use Rattle.rt_tree.specs.declared.node.Entry.{Entry}
use Rattle.rt_tree.specs.declared.node.Entry.TheVariants.{Here}
use Rattle.rt_tree.specs.declared.node.Run.{Run}
use Rattle.rt_tree.specs.Changes.{AreExact, bare, entry_totals, join}
use Rattle.rt_tree.specs.Shape.{IsShape, Memory, level_of, runs}
use Rattle.rt_tree.specs.Sums.{AreFew, counts_of}
use Rattle.rt_tree.proofs.Fills.{filled_leaf}
use Rattle.rt_tree.proofs.NewLeaf.{Changed, IsLeafEntry, bare_with, changed, each-set, leaf-entries}
use Rattle.rt_tree.proofs.Lacking.{adds-set, leaf-lacks}
use Rattle.rt_tree.proofs.Raise.{length-rows}
use Rattle.rt_tree.proofs.change.set_run.Goals as goal

it : (m new : Memory) (h r x i : ℕ) (run : Run) → IsShape (bare m) h r → AreExact m → (x < length m.heads) × (level_of (bare m) x ≡ 0) → new ≡ with_entries m x (set (entries m x) i (Here run)) → Changed m new h r x (set (entries m x) i (Here run))
it m new h r x i run t exact leaf is =
    changed m h r t exact x leaf.0 leaf.1 new (set (entries m x) i (Here run)) is
    (each-set IsLeafEntry (entries m x) i (Here run) (leaf-entries m h r t exact x leaf.0 leaf.1) refl)

pub settle_by-requires-clause-tree : goal.settle_by-requires-clause-tree
settle_by-requires-clause-tree c = let done = it c.args.mem.now c.set_entry.new.mem c.args.height c.args.root.index c.args.leaf.index c.args.i c.args.run c.requires.tree c.requires.exact c.requires.leaf c.set_entry.ensures in done.tree

pub settle_by-requires-clause-exact : goal.settle_by-requires-clause-exact
settle_by-requires-clause-exact c = let done = it c.args.mem.now c.set_entry.new.mem c.args.height c.args.root.index c.args.leaf.index c.args.i c.args.run c.requires.tree c.requires.exact c.requires.leaf c.set_entry.ensures in done.exact

pub settle_by-requires-clause-few : goal.settle_by-requires-clause-few
settle_by-requires-clause-few c = let done = it c.args.mem.now c.set_entry.new.mem c.args.height c.args.root.index c.args.leaf.index c.args.i c.args.run c.requires.tree c.requires.exact c.requires.leaf c.set_entry.ensures in subst (λ (l : List Run). AreFew (counts_of l)) (sym done.runs_are) c.requires.few

pub returns-clause-tree : goal.returns-clause-tree
returns-clause-tree c = let done = it c.args.mem.now c.set_entry.new.mem c.args.height c.args.root.index c.args.leaf.index c.args.i c.args.run c.requires.tree c.requires.exact c.requires.leaf c.set_entry.ensures in subst (λ (b : Memory). IsShape b c.args.height c.args.root.index) (sym c.settle_by.ensures.same) done.tree

pub returns-clause-runs : goal.returns-clause-runs
returns-clause-runs c = let done = it c.args.mem.now c.set_entry.new.mem c.args.height c.args.root.index c.args.leaf.index c.args.i c.args.run c.requires.tree c.requires.exact c.requires.leaf c.set_entry.ensures in ap (λ (b : Memory). runs b c.args.height c.args.root.index) c.settle_by.ensures.same ∙ done.runs_are

pub returns-clause-filled : goal.returns-clause-filled
returns-clause-filled c =
    let m = c.args.mem.now in let x = c.args.leaf.index in
    let es = entries m x in
    let within : x < length m.rows = omega (arith, c.requires.leaf.0, c.requires.tree.same, length-rows m) in
    let longer : length es ≤ length (set es c.args.i (Here c.args.run)) = omega (arith, length-set es c.args.i (Here c.args.run)) in
    filled_leaf m c.set_entry.new.mem c.settle_by.new.mem c.args.root.index x (set es c.args.i (Here c.args.run)) c.set_entry.ensures c.settle_by.ensures.same within longer c.requires.filled

pub returns-clause-bare : goal.returns-clause-bare
returns-clause-bare c =
    let m = c.args.mem.now in let x = c.args.leaf.index in
    c.settle_by.ensures.same ∙ ap (λ (n : Memory). bare n) c.set_entry.ensures ∙ bare_with m x (set (entries m x) c.args.i (Here c.args.run))

pub returns-clause-exact : goal.returns-clause-exact
returns-clause-exact c = c.settle_by.ensures.exact

pub settle_by-requires-clause-from : goal.settle_by-requires-clause-from
settle_by-requires-clause-from c = rw c.set_entry.ensures c.requires.leaf.0

pub settle_by-requires-clause-grown : goal.settle_by-requires-clause-grown
settle_by-requires-clause-grown c more is =
    let m = c.args.mem.now in let x = c.args.leaf.index in
    let new : Entry = Here c.args.run in
    let e = c.entry.result.now in
    let grows : join more c.entry_totals-before.result ≡ c.totals_of-after.result = subst (λ o. IfSome o (λ t. join t c.entry_totals-before.result ≡ c.totals_of-after.result)) is c.growth-grown.ensures in
    let sum : entry_totals new ≡ join more (entry_totals e) = sym c.totals_of-after.ensures ∙ sym grows ∙ ap (join more) c.entry_totals-before.ensures in
    leaf-lacks m c.set_entry.new.mem c.args.height c.args.root.index c.requires.tree c.requires.exact x more (set (entries m x) c.args.i new) c.requires.leaf.0 c.set_entry.ensures
    (adds-set (entries m x) c.args.i e new more c.requires.within c.entry.ensures sum)
