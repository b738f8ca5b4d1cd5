use Rattle.std.proofs.Common.{◌≡◌, ◌<◌, arith, sym, ap, ◌∙◌, subst}
use Rattle.rt_nodes.specs.Nodes.{entries}
use Rattle.rt_tree.specs.declared.node.Counts.{Counts}
use Rattle.rt_tree.specs.Shape.{below, level_of}
use Rattle.rt_tree.specs.Skips.{passed}
use Rattle.rt_tree.proofs.Passes.{child, fits_more, get-any, goes_further, stops_here, whole}
use Rattle.rt_tree.proofs.skip.+passed.Goals as goal

pub entry_passed-passed-requires : goal.entry_passed-passed-requires
entry_passed-passed-requires t c =
    let a = c.args in
    let d = child a.mem.now a.root.index c.requires.tree a.node.index c.requires.node.0 c.requires.some a.i c.read_entry.result c.requires.within c.read_entry.ensures c.in-Down.field-0 c.in-Down.totals c.in-Down.is in
    (omega (arith, d.level, c.decreases), (c.requires.tree, ((d.is, subst (λ n. c.in-Down.field-0.index < n) c.requires.tree.shape.same d.is), (d.has, omega (arith, d.few, c.requires.few)))))

pub entry_passed-returns-in-Down : goal.entry_passed-returns-in-Down
entry_passed-returns-in-Down t c e here =
    let a = c.args in
    let d = c.in-Down in
    let to : e ≡ c.read_entry.result = here ∙ get-any (entries a.mem.now a.node.index) a.i e c.read_entry.result c.requires.within ∙ sym c.read_entry.ensures in
    whole a.mem.now a.root.index c.requires.tree a.node.index c.requires.node.0 c.requires.some a.i e c.requires.within here a.from a.new d.field-0 d.totals (to ∙ d.is) (sym c.are_passed.ensures ∙ c.if-are_passed.true)

pub passed-overflow_add-done : goal.passed-overflow_add-done
passed-overflow_add-done t c =
    let a = c.args in
    let e = c.entry.result.now in
    let i = c.loop-i.i in
    let own = c.entry_passed-inside.ensures e c.entry.ensures ∙ ap (λ n. passed n a.new (below a.mem.now (level_of a.mem.now a.node.index) e)) c.saturating_sub.ensures in
    let fits = fits_more a.mem.now a.root.index c.requires.tree a.node.index c.requires.node.0 c.requires.some i e (omega (arith, c.len-i-end.ensures.value, c.loop-i-test.true)) c.entry.ensures a.from c.loop-i.done c.entry_passed-inside.result c.entry_counts-cells.result.cells a.new
    c.loop-i.invariant.cells c.loop-i.invariant.passed own (ap (λ (n : Counts). n.cells) c.entry_counts-cells.ensures) in
    omega (arith, fits, c.requires.few)

pub passed-returns-then-inside-cells : goal.passed-returns-then-inside-cells
passed-returns-then-inside-cells t c =
    let a = c.args in
    let e = c.entry.result.now in
    let i = c.loop-i.i in
    let own = c.entry_passed-inside.ensures e c.entry.ensures ∙ ap (λ n. passed n a.new (below a.mem.now (level_of a.mem.now a.node.index) e)) c.saturating_sub.ensures in
    stops_here a.mem.now a.root.index c.requires.tree a.node.index c.requires.node.0 c.requires.some i e (omega (arith, c.len-i-end.ensures.value, c.loop-i-test.true)) c.entry.ensures a.from c.loop-i.done c.entry_passed-inside.result c.entry_counts-cells.result.cells a.new
    c.loop-i.invariant.cells c.loop-i.invariant.passed own (ap (λ (n : Counts). n.cells) c.entry_counts-cells.ensures) c.if-inside-cells.true

pub passed-loop-i-preserved : goal.passed-loop-i-preserved
passed-loop-i-preserved t c =
    let a = c.args in
    let e = c.entry.result.now in
    let i = c.loop-i.i in
    let own = c.entry_passed-inside.ensures e c.entry.ensures ∙ ap (λ n. passed n a.new (below a.mem.now (level_of a.mem.now a.node.index) e)) c.saturating_sub.ensures in
    let more = goes_further a.mem.now a.root.index c.requires.tree a.node.index c.requires.node.0 c.requires.some i e (omega (arith, c.len-i-end.ensures.value, c.loop-i-test.true)) c.entry.ensures a.from c.loop-i.done c.entry_passed-inside.result c.entry_counts-cells.result.cells a.new
    c.loop-i.invariant.cells c.loop-i.invariant.passed own (ap (λ (n : Counts). n.cells) c.entry_counts-cells.ensures) c.if-inside-cells.false in
    record { cells = more.0; passed = more.1 }
