use Rattle.std.proofs.Common.{arith, refl, sym, ap, ◌+◌, ◌∙◌, ℕ}
use Rattle.rt_store.specs.Cells.{text_of}
use Rattle.rt_store.proofs.Steps.{newlines_count}
use Rattle.rt_tree.proofs.Tallying.{counts_more, newlines_few, visible_few}
use Rattle.rt_tree.proofs.tally.counts_with.Goals as goal

pub overflow_cast-result-2 : goal.overflow_cast-result-2
overflow_cast-result-2 c = let v = visible_few c.args.cells.now in omega (arith, v, c.visible_count-visible.ensures, c.requires.few)

pub overflow_add-result-2 : goal.overflow_add-result-2
overflow_add-result-2 c = let v = visible_few c.args.cells.now in omega (arith, v, c.visible_count-visible.ensures, c.requires.few, c.requires.below.0)

pub overflow_cast-result-3 : goal.overflow_cast-result-3
overflow_cast-result-3 c =
    let v = newlines_few c.args.cells.now in let n = newlines_count (text_of c.args.cells.now) in
    omega (arith, v, n, c.newline_count-newlines.ensures, c.requires.few)

pub overflow_add-result-3 : goal.overflow_add-result-3
overflow_add-result-3 c =
    let v = newlines_few c.args.cells.now in let n = newlines_count (text_of c.args.cells.now) in
    omega (arith, v, n, c.newline_count-newlines.ensures, c.requires.few, c.requires.below.1)

pub returns : goal.returns
returns c at old is =
    let n = newlines_count (text_of c.args.cells.now) in
    let more = c.newline_count-newlines.ensures ∙ sym n in
    counts_more c.args.counts _ at c.args.cells.now old is refl (ap (λ (k : ℕ). c.args.counts.visible + k) c.visible_count-visible.ensures) (ap (λ (k : ℕ). c.args.counts.newlines + k) more)
