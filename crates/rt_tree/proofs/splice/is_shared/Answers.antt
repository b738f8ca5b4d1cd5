use Rattle.std.proofs.Common.{◌≡◌, List, false, arith, sym, ap, ◌∙◌}
use Rattle.std.specs.List.{list_any}
use Rattle.rt_tree.specs.declared.node.Run.{Run}
use Rattle.rt_tree.specs.Shape.{tree_runs}
use Rattle.rt_tree.specs.Sharing.{is_shared_by}
use Rattle.rt_tree.proofs.Cutting.{few_all}
use Rattle.rt_tree.proofs.Newest.{new_shares_none}
use Rattle.rt_tree.proofs.Shared.{none_shared, one_shared}
use Rattle.rt_tree.proofs.Walking.{all_passed, passed_more}
use Rattle.rt_tree.proofs.splice.is_shared.Goals as goal

pub cells_of-all-requires-clause-few : goal.cells_of-all-requires-clause-few
cells_of-all-requires-clause-few c = few_all (tree_runs c.args.mem.now c.args.root.index) c.requires.kept c.requires.few

pub run_at-found-requires-clause-few : goal.run_at-found-requires-clause-few
run_at-found-requires-clause-few c = few_all (tree_runs c.args.mem.now c.args.root.index) c.requires.kept c.requires.few

pub returns-then-run-newest : goal.returns-then-run-newest
returns-then-run-newest c = sym (new_shares_none c.args.newest c.args.run.now (tree_runs c.args.mem.now c.args.root.index) c.if-run-newest.true c.requires.known)

pub returns-then-is_shared_by : goal.returns-then-is_shared_by
returns-then-is_shared_by c =
    let st = c.run_at-found.ensures in let f = c.run_at-found.result in
    sym (ap (λ (l : List Run). list_any (is_shared_by c.args.run.now) l) st.here ∙ one_shared c.args.run.now st.left f.run st.right (sym c.is_shared_by.ensures ∙ c.if-is_shared_by.true))

pub loop-at-preserved : goal.loop-at-preserved
loop-at-preserved c =
    let all = tree_runs c.args.mem.now c.args.root.index in let f = c.run_at-found.result in
    passed_more c.requires.kept.text all c.loop-at.at (λ (r : Run). is_shared_by c.args.run.now r ≡ false) f.run f.before f.spot.offset c.requires.kept.runs c.loop-at.invariant c.run_at-found.ensures (sym c.is_shared_by.ensures ∙ c.if-is_shared_by.false)

pub returns : goal.returns
returns c =
    let all = tree_runs c.args.mem.now c.args.root.index in let e = c.cells_of-all.ensures in let t = c.loop-at-test.false in
    sym (none_shared c.args.run.now all (all_passed c.requires.kept.text all c.loop-at.at (λ (r : Run). is_shared_by c.args.run.now r ≡ false) c.requires.kept.runs c.loop-at.invariant (omega (arith, e, t))))
