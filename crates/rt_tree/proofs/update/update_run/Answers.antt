use Rattle.std.proofs.Common.{◌≡◌, true, false, sym, ◌∙◌, subst}
use Rattle.rt_store.specs.Cells.{is_in_span}
use Rattle.rt_tree.specs.declared.node.Run.{Run}
use Rattle.rt_tree.specs.Runs.{first_stamp}
use Rattle.rt_tree.specs.Shape.{tree_runs}
use Rattle.rt_tree.specs.Sums.{AreFew, counts_of, counts_of_run, plus}
use Rattle.rt_tree.specs.Walks.{IsReplacedAt}
use Rattle.rt_tree.proofs.Cutting.{few_all}
use Rattle.rt_tree.proofs.Updating.{changed_in, changed_out, updated_few}
use Rattle.rt_tags.specs.States.{IsState}
use Rattle.rt_tree.proofs.Told.{given_there, updated_given, short_kept}
use Rattle.rt_tree.specs.Standing.{Stands, StayBut}
use Rattle.rt_tree.proofs.Housed.{updated_stay}
use Rattle.rt_tree.proofs.update.update_run.Goals as goal

pub found_at-found-requires-clause-few : goal.found_at-found-requires-clause-few
found_at-found-requires-clause-few c = few_all (tree_runs c.args.mem.now c.args.root.index) c.requires.kept c.requires.few

pub replace_at-requires-clause-few : goal.replace_at-requires-clause-few
replace_at-requires-clause-few c =
    let old = tree_runs c.args.mem.now c.args.root.index in
    let f = c.found_at-found.result in
    subst (λ (r : Run). AreFew (plus (counts_of_run r) (counts_of old))) (sym c.updated.ensures)
    (updated_few c.args.update.now old f.run f.before f.spot.offset c.args.at c.requires.kept c.requires.few c.found_at-found.ensures.run)

pub returns-then-is_first_in-clause-run : goal.returns-then-is_first_in-clause-run
returns-then-is_first_in-clause-run c =
    let old = tree_runs c.args.mem.now c.args.root.index in let new = tree_runs c.replace_at.new.mem c.args.root.index in
    let f = c.found_at-found.result in
    let in_it : is_in_span c.args.span (first_stamp f.run) ≡ true = sym c.is_first_in.ensures ∙ c.if-is_first_in.true in
    changed_in c.args.span c.args.update.now old f.run f.before f.spot.offset c.args.at new c.requires.kept c.found_at-found.ensures.run in_it (subst (λ (r : Run). IsReplacedAt old new c.args.at r) c.updated.ensures (c.replace_at.ensures.runs c.args.at f.run c.found_at-found.ensures.spot))

pub returns-else-is_first_in-clause-run : goal.returns-else-is_first_in-clause-run
returns-else-is_first_in-clause-run c =
    let old = tree_runs c.args.mem.now c.args.root.index in
    let f = c.found_at-found.result in
    let out : is_in_span c.args.span (first_stamp f.run) ≡ false = sym c.is_first_in.ensures ∙ c.if-is_first_in.false in
    changed_out c.args.span c.args.update.now old f.run f.before f.spot.offset c.args.at c.found_at-found.ensures.run out

pub replace_at-requires-clause-spot : goal.replace_at-requires-clause-spot
replace_at-requires-clause-spot c = (c.args.at, c.found_at-found.result.run, c.found_at-found.ensures.spot)

pub replace_at-requires-clause-short : goal.replace_at-requires-clause-short
replace_at-requires-clause-short c = short_kept (tree_runs c.args.mem.now c.args.root.index) c.requires.kept c.requires.few

pub replace_at-requires-clause-state : goal.replace_at-requires-clause-state
replace_at-requires-clause-state c =
    let old = tree_runs c.args.mem.now c.args.root.index in let st = c.found_at-found.ensures.run in let table = c.args.states.now in
    let f = c.found_at-found.result in
    subst (λ (x : Run). IsState table x.state) (sym c.updated.ensures) (updated_given table c.args.update.now f.run c.requires.update (given_there table old st.left st.right f.run st.here c.requires.told.given))

pub returns-then-is_first_in-clause-stay : goal.returns-then-is_first_in-clause-stay
returns-then-is_first_in-clause-stay c =
    let f = c.found_at-found.result in let spot = c.found_at-found.ensures.spot in
    let stood : Stands c.args.mem.now f.spot.leaf.index f.run = record { is = spot.is; low = spot.low; entry = f.spot.entry; here = spot.here } in
    updated_stay c.args.mem.now c.replace_at.new.mem f.spot.leaf.index c.args.update.now f.run stood (subst (StayBut c.args.mem.now c.replace_at.new.mem f.spot.leaf.index) c.updated.ensures c.replace_at.ensures.stay) c.replace_at.ensures.room.1
