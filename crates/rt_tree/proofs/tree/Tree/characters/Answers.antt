use Rattle.std.proofs.Common.{◌+◌, ◌++◌, ℕ, List, drop, length, take, arith, sym, ap, ◌∙◌}
use Rattle.rt_store.specs.Cells.{text_of}
use Rattle.rt_tree.specs.Shape.{tree_runs}
use Rattle.rt_tree.specs.Trees.{TreeValue}
use Rattle.rt_tree.proofs.Buffers.{fits_text, more_of, rest_of, run_part}
use Rattle.rt_tree.proofs.Kept.{few_runs, shows}
use Rattle.rt_tree.proofs.tree.Tree.characters.Goals as goal

pub run_near-found-requires-clause-few : goal.run_near-found-requires-clause-few
run_near-found-requires-clause-few c = let s = c.self.inside in few_runs s.mem s.root.index s.text.items s.runs c.self.invariant.kept

pub run_near-found-requires-clause-within : goal.run_near-found-requires-clause-within
run_near-found-requires-clause-within c =
    let s = c.self.inside in
    let h = shows s.mem s.root.index s.text.items s.runs c.self.invariant.kept s.sums.each.items c.args.self.now c.self.view_is in
    omega (arith, h.visible, c.loop-done-test.true, c.visible.ensures, c.saturating_sub-left.ensures, c.min-count.ensures)

pub copy-requires-clause-has : goal.copy-requires-clause-has
copy-requires-clause-has c =
    let s = c.self.inside in
    let f = c.run_near-found.result in
    let fits = fits_text s.text.items (tree_runs s.mem s.root.index) f.run f.before f.spot.offset (c.args.place + c.loop-done.done) c.self.invariant.kept.kept c.run_near-found.ensures in
    let long = ap (λ (l : List ℕ). length l) c.deref.ensures.value in
    omega (arith, fits.0, fits.1, long, c.min-more.ensures)

pub loop-done-preserved : goal.loop-done-preserved
loop-done-preserved c =
    let s = c.self.inside in
    let f = c.run_near-found.result in
    let all = tree_runs s.mem s.root.index in
    let old = c.loop-done.invariant in
    let buffer = c.loop-done.buffer in
    let done = c.loop-done.done in
    let more = c.min-more.result in
    let from = f.run.at + f.spot.offset in
    let own = c.copy.ensures.characters ∙ ap (λ (t : List ℕ). take done buffer ++ take more (drop from t)) c.deref.ensures.value in
    let part = ap (λ (x : TreeValue). take more (drop (c.args.place + done) (text_of x.cells))) (sym c.self.view_is)
    ∙ run_part s.text.items all f.run f.before f.spot.offset (c.args.place + done) c.self.invariant.kept.kept c.run_near-found.ensures more (omega (arith, c.min-more.ensures)) in
    record {
      within = omega (arith, c.min-more.ensures, old.within);
      characters = more_of (text_of c.args.self.now.cells) s.text.items buffer c.copy.new.buffer c.args.place from done more old.characters own part;
      rest = rest_of c.args.buffer.now buffer c.copy.new.buffer done more old.rest c.copy.ensures.rest;
    }

pub run_near-found-requires-clause-held : goal.run_near-found-requires-clause-held
run_near-found-requires-clause-held c = c.self.invariant.last
