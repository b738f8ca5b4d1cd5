use Rattle.std.proofs.Common.{◌≡◌, ℕ, ◌+◌, ◌^◌, ◌<◌, Option, Some, None, arith, sym, subst, ◌∙◌}
use Rattle.std.specs.Prelude.{IfSome}
use Rattle.std.specs.Option.{SomeIff}
use Rattle.rt_tree.specs.Homes.{UpdatesOn}
use Rattle.rt_tree.specs.Shape.{tree_runs}
use Rattle.rt_tree.proofs.Cutting.{few_all}
use Rattle.rt_tree.proofs.Housing.{behind_few}
use Rattle.rt_tree.proofs.Meeting.{found_on, in_it, nowhere_on}
use Rattle.rt_tree.proofs.Positions.{has_within}
use Rattle.rt_tree.proofs.Skipping.{have_cells}
use Rattle.rt_tree.proofs.update.update_at.Goals as goal

some_on : (o : Option ℕ) (P : Type 0) (v : ℕ) (Q : ℕ → Type 0) → SomeIff o P v → Q v → IfSome o Q
some_on None P v Q h q = tt
some_on (Some x) P v Q h q = subst Q (sym h.1) q

pub returns-then-is_nowhere-clause-some : goal.returns-then-is_nowhere-clause-some
returns-then-is_nowhere-clause-some c =
    let all = tree_runs c.args.mem.now c.args.root.index in
    let none = c.is_nowhere.ensures c.if-is_nowhere.true in
    let on = nowhere_on c.args.left c.args.update.now c.args.left.first all (have_cells c.requires.kept.text all c.requires.kept.runs) ((c.requires.home none.0).known _ (sym c.leaf_of-leaf.ensures ∙ none.1)) in
    some_on c.checked_add.result _ (c.args.left.first + 1) (λ next. UpdatesOn c.args.left c.args.update.now c.args.left.first next all all) c.checked_add.ensures on

pub locate-requires-clause-few : goal.locate-requires-clause-few
locate-requires-clause-few c = few_all (tree_runs c.args.mem.now c.args.root.index) c.requires.kept c.requires.few

pub update_run-requires-clause-within : goal.update_run-requires-clause-within
update_run-requires-clause-within c =
    let all = tree_runs c.args.mem.now c.args.root.index in let h = c.in_ok-home.home in let e = c.in_ok-home.ensures in
    let b = behind_few all h.run h.before e.home in
    let w = has_within h.run _ e.has in
    omega (arith, b, w)

pub returns-clause-some : goal.returns-clause-some
returns-clause-some c =
    let old = tree_runs c.args.mem.now c.args.root.index in let new = tree_runs c.update_run.new.mem c.args.root.index in
    let h = c.in_ok-home.home in let e = c.in_ok-home.ensures in
    let home = c.requires.home e.sure in
    let first : h.run.first ≡ c.args.left.first = c.if-home-count.false in
    let i = in_it c.args.left c.args.left.first h.run (omega arith) c.requires.within e.has first in
    let w = has_within h.run _ e.has in
    let on = found_on c.args.left c.args.update.now c.args.left.first h.run i.0 first (omega (arith, w)) i.1 old new h.before c.update_run.result home.once (have_cells c.requires.kept.text old c.requires.kept.runs) e.home
    c.update_run.ensures.run in
    let next : c.in_ok-next.next ≡ c.args.left.first + h.run.len = (subst (λ (o : Option ℕ). SomeIff o (c.args.left.first + h.run.len < 2 ^ 64) (c.args.left.first + h.run.len)) c.in_ok-next.was c.checked_add-2.ensures).1 in
    subst (λ n. UpdatesOn c.args.left c.args.update.now c.args.left.first n old new) (sym next) on
