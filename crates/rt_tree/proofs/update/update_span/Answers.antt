use Rattle.std.proofs.Common.{length, arith, ap, ◌∙◌}
use Rattle.std.proofs.lemmas.List.{length-map}
use Rattle.rt_tree.specs.Shape.{tree_runs}
use Rattle.rt_tree.specs.Sharing.{long_with, run_in}
use Rattle.rt_tree.proofs.Housing.{updated_home}
use Rattle.rt_tree.proofs.Updating.{recut_cells, recut_kept, runs_apart, span_changed}
use Rattle.rt_tree.proofs.Housed.{updated_housed}
use Rattle.rt_tree.proofs.update.update_span.Goals as goal

pub part_behind-second-requires-clause-kept : goal.part_behind-second-requires-clause-kept
part_behind-second-requires-clause-kept c =
    let old = tree_runs c.args.mem.now c.args.root.index in let mid = tree_runs c.part-first.new.mem c.part-first.result.root.index in
    recut_kept old mid c.part-first.ensures.recut c.requires.kept

pub part_behind-second-requires-clause-apart : goal.part_behind-second-requires-clause-apart
part_behind-second-requires-clause-apart c = c.part-first.ensures.recut.apart c.requires.apart

pub part_behind-second-requires-clause-few : goal.part_behind-second-requires-clause-few
part_behind-second-requires-clause-few c =
    let old = tree_runs c.args.mem.now c.args.root.index in let mid = tree_runs c.part-first.new.mem c.part-first.result.root.index in
    let e = recut_cells old mid c.part-first.ensures.recut c.requires.kept in let f = c.requires.few in
    omega (arith, e, f)

pub update_all-requires-clause-kept : goal.update_all-requires-clause-kept
update_all-requires-clause-kept c =
    let old = tree_runs c.args.mem.now c.args.root.index in let mid = tree_runs c.part-first.new.mem c.part-first.result.root.index in let cut = tree_runs c.part_behind-second.new.mem c.part_behind-second.result.root.index in
    recut_kept mid cut c.part_behind-second.ensures.recut (recut_kept old mid c.part-first.ensures.recut c.requires.kept)

pub update_all-requires-clause-few : goal.update_all-requires-clause-few
update_all-requires-clause-few c =
    let old = tree_runs c.args.mem.now c.args.root.index in let mid = tree_runs c.part-first.new.mem c.part-first.result.root.index in let cut = tree_runs c.part_behind-second.new.mem c.part_behind-second.result.root.index in
    let e = recut_cells old mid c.part-first.ensures.recut c.requires.kept in
    let g = recut_cells mid cut c.part_behind-second.ensures.recut (recut_kept old mid c.part-first.ensures.recut c.requires.kept) in let f = c.requires.few in
    omega (arith, e, g, f)

pub returns-clause-cells : goal.returns-clause-cells
returns-clause-cells c =
    let old = tree_runs c.args.mem.now c.args.root.index in let mid = tree_runs c.part-first.new.mem c.part-first.result.root.index in let cut = tree_runs c.part_behind-second.new.mem c.part_behind-second.result.root.index in
    let new = tree_runs c.update_all.new.mem c.part_behind-second.result.root.index in
    span_changed old mid cut new c.args.span c.args.update c.part-first.ensures.recut c.part_behind-second.ensures.recut c.part-first.ensures.begins c.part_behind-second.ensures.begins c.update_all.ensures.runs

pub returns-clause-apart : goal.returns-clause-apart
returns-clause-apart c =
    let cut = tree_runs c.part_behind-second.new.mem c.part_behind-second.result.root.index in
    let is = c.part_behind-second.ensures.recut.apart (c.part-first.ensures.recut.apart c.requires.apart) in
    λ stamp. let h = runs_apart c.args.span c.args.update cut is stamp in let e = ap (λ l. long_with stamp l) c.update_all.ensures.runs in omega (arith, h, e)

pub returns-clause-runs : goal.returns-clause-runs
returns-clause-runs c =
    let cut = tree_runs c.part_behind-second.new.mem c.part_behind-second.result.root.index in
    let a = c.part-first.ensures.runs in let b = c.part_behind-second.ensures.runs in
    let m = ap length c.update_all.ensures.runs ∙ length-map cut (run_in c.args.span c.args.update) in
    omega (arith, a, b, m)

pub returns-clause-home : goal.returns-clause-home
returns-clause-home c =
    let cut = tree_runs c.part_behind-second.new.mem c.part_behind-second.result.root.index in
    let new = tree_runs c.update_all.new.mem c.part_behind-second.result.root.index in
    λ sure. updated_home c.part_behind-second.new.homes.leaves c.args.span c.args.update cut new c.update_all.ensures.runs (c.part_behind-second.ensures.home sure)

pub returns-clause-housed : goal.returns-clause-housed
returns-clause-housed c sure =
    updated_housed c.part_behind-second.new.homes.leaves c.part_behind-second.new.mem c.update_all.new.mem c.part_behind-second.result.root.index c.args.span c.args.update
    c.update_all.ensures.runs c.update_all.ensures.stay (c.part_behind-second.ensures.housed sure)
