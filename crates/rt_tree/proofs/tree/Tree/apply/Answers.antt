use Rattle.std.proofs.Common.{◌+◌, ◌-◌, ◌^◌, arith, sym, ap, ◌∙◌, map, subst}
use Rattle.rt_tree.specs.Runs.{cells_of_runs}
use Rattle.rt_tree.specs.Shape.{tree_runs}
use Rattle.rt_tree.specs.Sharing.{AreBelowGreatest, NoneIsNewer, cell_updated_in}
use Rattle.rt_tree.specs.Trees.{IsTreeOfText, TreeValue}
use Rattle.rt_tree.proofs.Cutting.{runs_few}
use Rattle.rt_tree.proofs.Updating.{span_count}
use Rattle.rt_tree.proofs.Newest.{upto_updated, upto_not_updated}
use Rattle.rt_tree.proofs.Showing.{kept_told, own_states, right_from, states_given}
use Rattle.rt_tree.proofs.Sure.{updated_before}
use Rattle.rt_tree.proofs.Tallying.{counts_are, few_entries}
use Rattle.rt_tree.proofs.tree.Tree.apply.Goals as goal

pub overflow_add-self : goal.overflow_add-self
overflow_add-self c =
    let s = c.self.inside in let k = c.self.invariant.kept in
    let r = runs_few s.text.items (tree_runs s.mem s.root.index) k.kept in
    omega (arith, r, k.counted, k.few, c.update_span-change.ensures.more)

pub invariant_of-self : goal.invariant_of-self
invariant_of-self c =
    let s = c.self.inside in let k = c.self.invariant.kept in let r = c.self.invariant.roomy in
    let e = c.update_span-change.ensures in
    let old = tree_runs s.mem s.root.index in let new = tree_runs c.update_span-change.new.mem c.update_span-change.result.root.index in
    let is = e.cells s.text.items k.kept in
    let same = span_count old new s.text.items (cell_updated_in c.args.span c.args.update) k.kept is in
    let cuts = ap (λ (v : TreeValue). v.room.cuts) c.self.view_is in
    let kept : IsTreeOfText c.update_span-change.new.mem c.update_span-change.result.root.index s.text.items (s.runs + c.update_span-change.result.more) =
    record { tree = e.tree; kept = is.kept; apart = e.apart; counted = omega (arith, k.counted, e.runs); few = omega (arith, same, k.few); all = omega (arith, same, k.all) } in
    record {
      kept = kept;
      roomy = record { nodes = omega (arith, r.nodes, e.runs, e.more, e.room, cuts, c.requires.room.1); holds = r.holds; few = r.few };
      newest = subst (NoneIsNewer s.newest) (sym is.cells) (upto_updated s.newest c.args.span c.args.update (cells_of_runs s.text.items old) c.self.invariant.newest);
      home = e.home;
      housed = e.housed;
      steady = λ once below. e.sure
          ∙ c.self.invariant.steady (updated_before c.args.span c.args.update s.text.items old new k.kept is.kept is.cells once) (upto_not_updated (2 ^ 64 - 2) c.args.span c.args.update (cells_of_runs s.text.items old) (subst AreBelowGreatest is.cells below));
      spans = (let had = c.self.invariant.spans in let left = e.left in omega (arith, had, left, cuts, c.requires.room.1));
      sums = record { many = e.told.many; memory = e.told.memory; tags = let h = c.self.invariant.sums.tags in omega (arith, h, e.tags) };
      counts = counts_are c.update_span-change.new.mem c.update_span-change.result.root.index s.text.items (s.runs + c.update_span-change.result.more) kept c.sum_of-self-inside.result c.sum_of-self-inside.ensures;
      last = tt;
    }

pub sum_of-self-inside-requires-clause-few : goal.sum_of-self-inside-requires-clause-few
sum_of-self-inside-requires-clause-few c =
    let s = c.self.inside in let k = c.self.invariant.kept in
    let e = c.update_span-change.ensures in
    let old = tree_runs s.mem s.root.index in let new = tree_runs c.update_span-change.new.mem c.update_span-change.result.root.index in
    let is = e.cells s.text.items k.kept in
    let same = span_count old new s.text.items (cell_updated_in c.args.span c.args.update) k.kept is in
    few_entries c.update_span-change.new.mem c.update_span-change.result.root.index s.text.items e.tree is.kept (omega (arith, same, k.few))

pub returns-clause-cells : goal.returns-clause-cells
returns-clause-cells c =
    let s = c.self.inside in let k = c.self.invariant.kept in
    let is = c.update_span-change.ensures.cells s.text.items k.kept in
    is.cells ∙ ap (λ (v : TreeValue). map (cell_updated_in c.args.span c.args.update) v.cells) c.self.view_is

pub update_span-change-requires-clause-told : goal.update_span-change-requires-clause-told
update_span-change-requires-clause-told c =
    let s = c.self.inside in
    let tags = ap (λ (v : TreeValue). v.room.tags) c.self.view_is in
    kept_told s.mem s.root.index s.text.items s.runs c.self.invariant.kept s.sums s.spare_tags c.self.invariant.sums c.args.states.now (omega (arith, tags, c.requires.room.2)) _ c.args.self.now c.self.view_is c.requires.agrees

pub returns-clause-agrees : goal.returns-clause-agrees
returns-clause-agrees c =
    let e = c.update_span-change.ensures in let table = c.args.states.now in let m = c.update_span-change.new.mem in
    record { given = states_given table c.self.inside.text.items (tree_runs m c.update_span-change.result.root.index) e.told.given; right = right_from table m c.update_span-change.new.sums.each.items e.told.each }

pub returns-clause-own : goal.returns-clause-own
returns-clause-own c =
    let s = c.self.inside in let e = c.update_span-change.ensures in
    own_states c.update_span-change.new.mem c.update_span-change.result.root.index s.text.items e.tree (e.cells s.text.items c.self.invariant.kept.kept).kept c.update_span-change.new.sums.each.items c.args.self.now.room
