use Rattle.std.proofs.Common.{◌≡◌, ℕ, ◌<◌, ◌≤◌, [], ◌∷◌, List, length, take, drop, insert, refl, sym, ap, ◌∙◌, arith, subst, length-append, length-take, length-drop}
use Rattle.rt_nodes.specs.Nodes.{entries, with_entries}
use Rattle.rt_tree.specs.declared.node.Entry.TheVariants.{Here}
use Rattle.rt_tree.specs.declared.node.Run.{Run}
use Rattle.rt_tree.specs.Changes.{AreExact, Lacks, bare}
use Rattle.rt_tree.specs.Shape.{IsShape, Memory, level_of, runs}
use Rattle.rt_tree.specs.Sums.{AreFew, counts_of, totals_of}
use Rattle.rt_tree.proofs.Fills.{filled_leaf}
use Rattle.rt_tree.proofs.NewLeaf.{Changed, IsLeafEntry, bare_with, changed, each-insert, leaf-entries}
use Rattle.rt_tree.proofs.Lacking.{adds-insert, leaf-lacks}
use Rattle.rt_tree.proofs.Raise.{length-rows}
use Rattle.rt_tree.proofs.change.put_run.Goals as goal

it : (m new : Memory) (h r x i : ℕ) (run : Run) → IsShape (bare m) h r → AreExact m → (x < length m.heads) × (level_of (bare m) x ≡ 0) → new ≡ with_entries m x (insert (entries m x) i (Here run)) → Changed m new h r x (insert (entries m x) i (Here run))
it m new h r x i run t exact leaf is =
    changed m h r t exact x leaf.0 leaf.1 new (insert (entries m x) i (Here run)) is
    (each-insert IsLeafEntry (entries m x) i (Here run) (leaf-entries m h r t exact x leaf.0 leaf.1) refl)

pub add_above-requires-clause-tree : goal.add_above-requires-clause-tree
add_above-requires-clause-tree c = let done = it c.args.mem.now c.insert_entry.new.mem c.args.height c.args.root.index c.args.leaf.index c.args.i c.args.run c.requires.tree c.requires.exact c.requires.leaf c.insert_entry.ensures in done.tree

pub add_above-requires-clause-exact : goal.add_above-requires-clause-exact
add_above-requires-clause-exact c = let done = it c.args.mem.now c.insert_entry.new.mem c.args.height c.args.root.index c.args.leaf.index c.args.i c.args.run c.requires.tree c.requires.exact c.requires.leaf c.insert_entry.ensures in done.exact

pub add_above-requires-clause-few : goal.add_above-requires-clause-few
add_above-requires-clause-few c = let done = it c.args.mem.now c.insert_entry.new.mem c.args.height c.args.root.index c.args.leaf.index c.args.i c.args.run c.requires.tree c.requires.exact c.requires.leaf c.insert_entry.ensures in subst (λ (l : List Run). AreFew (counts_of l)) (sym done.runs_are) c.requires.few

pub returns-clause-tree : goal.returns-clause-tree
returns-clause-tree c = let done = it c.args.mem.now c.insert_entry.new.mem c.args.height c.args.root.index c.args.leaf.index c.args.i c.args.run c.requires.tree c.requires.exact c.requires.leaf c.insert_entry.ensures in subst (λ (b : Memory). IsShape b c.args.height c.args.root.index) (sym c.add_above.ensures.same) done.tree

pub returns-clause-runs : goal.returns-clause-runs
returns-clause-runs c = let done = it c.args.mem.now c.insert_entry.new.mem c.args.height c.args.root.index c.args.leaf.index c.args.i c.args.run c.requires.tree c.requires.exact c.requires.leaf c.insert_entry.ensures in ap (λ (b : Memory). runs b c.args.height c.args.root.index) c.add_above.ensures.same ∙ done.runs_are

pub returns-clause-filled : goal.returns-clause-filled
returns-clause-filled c =
    let m = c.args.mem.now in let x = c.args.leaf.index in
    let es = entries m x in
    let within : x < length m.rows = omega (arith, c.requires.leaf.0, c.requires.tree.same, length-rows m) in
    let longer : length es ≤ length (insert es c.args.i (Here c.args.run)) = omega (arith, c.requires.within, length-append (take c.args.i es) (Here c.args.run ∷ drop c.args.i es), length-take c.args.i es, length-drop c.args.i es) in
    filled_leaf m c.insert_entry.new.mem c.add_above.new.mem c.args.root.index x (insert es c.args.i (Here c.args.run)) c.insert_entry.ensures c.add_above.ensures.same within longer c.requires.filled

pub returns-clause-room : goal.returns-clause-room
returns-clause-room c =
    (ap (λ (b : Memory). b.room) c.add_above.ensures.same ∙ ap (λ (b : Memory). b.room) c.insert_entry.ensures, ap (λ (b : Memory). length b.heads) c.add_above.ensures.same ∙ ap (λ (b : Memory). length b.heads) c.insert_entry.ensures)

pub returns-clause-exact : goal.returns-clause-exact
returns-clause-exact c = c.add_above.ensures.exact

pub add_above-requires-clause-from : goal.add_above-requires-clause-from
add_above-requires-clause-from c = rw c.insert_entry.ensures c.requires.leaf.0

pub add_above-requires-clause-more : goal.add_above-requires-clause-more
add_above-requires-clause-more c =
    let m = c.args.mem.now in let x = c.args.leaf.index in
    let es = insert (entries m x) c.args.i (Here c.args.run) in
    subst (λ more. Lacks x more c.insert_entry.new.mem) (sym c.totals_of-more.ensures)
    (leaf-lacks m c.insert_entry.new.mem c.args.height c.args.root.index c.requires.tree c.requires.exact x (totals_of (c.args.run ∷ [])) es c.requires.leaf.0 c.insert_entry.ensures (adds-insert (entries m x) c.args.i (Here c.args.run)))

pub returns-clause-bare : goal.returns-clause-bare
returns-clause-bare c =
    let m = c.args.mem.now in let x = c.args.leaf.index in
    c.add_above.ensures.same ∙ ap (λ (n : Memory). bare n) c.insert_entry.ensures ∙ bare_with m x (insert (entries m x) c.args.i (Here c.args.run))
