use Rattle.std.proofs.Common.{◌∙◌, ◌+◌, ◌++◌, length, ap, arith, if◌then◌else◌, subst, sym, get_or-set_same}
use Rattle.std.specs.Prelude.{is_some}
use Rattle.rt_tags.specs.Borders.{either, one_or_none}
use Rattle.rt_tags.specs.Toggles.{AreFrom, HasRoomFor, count_of, more_tags}
use Rattle.rt_tags.proofs.Together.{together}
use Rattle.rt_tree.specs.declared.summary.Summary.{Summary}
use Rattle.rt_tree.specs.Summaries.{IsSummary, no_summary, summary_of}
use Rattle.rt_tree.proofs.Passes.{get-any}
use Rattle.rt_tree.proofs.Summing.{at_ends, enough, few_toggles, length_spread, length_three, replaced_summary}
use Rattle.rt_tree.proofs.summaries.replace_at.Goals as goal

pub replace-requires-clause-room : goal.replace-requires-clause-room
replace-requires-clause-room c =
    let names = c.args.states.now.names in
    let node = c.args.node.index in
    let own = summary_of c.args.each.now node in
    let same = get-any c.args.each.now node c.index-each-node.result no_summary c.requires.within in
    let plus = c.count_around-2.new.toggles in
    let order = subst (λ (s : Summary). AreFrom 0 s.counts.counts) same (subst (AreFrom 0) c.counts-2.ensures.counts c.counts-2.ensures.order) in
    let all = together (length names) 0 plus.counts own.counts.counts (subst (AreFrom 0) c.counts.ensures.counts c.counts.ensures.order) order c.count_around-2.ensures.toggles.others c.requires.was.is.counts.others in
    let room : HasRoomFor (more_tags plus.counts own.counts.counts) own.counts = omega (arith, all, c.requires.memory.2) in
    subst (λ (s : Summary). HasRoomFor (more_tags plus.counts s.counts.counts) s.counts) (sym same) room

pub replace-requires-clause-few : goal.replace-requires-clause-few
replace-requires-clause-few c tag =
    let node = c.args.node.index in
    let table = c.args.states.now in
    let was = c.requires.was in
    let same = ap (λ (s : Summary). count_of tag s.counts) (get-any c.args.each.now node c.index-each-node.result no_summary c.requires.within) in
    let a = few_toggles table (was.left ++ (one_or_none c.args.change.now.from ++ was.right)) (summary_of c.args.each.now node).counts was.is.counts tag in
    let b = length_spread was.left was.right c.args.change.now.from in
    let d = few_toggles table (one_or_none c.args.around.now.before ++ (one_or_none c.args.change.now.to ++ one_or_none c.args.around.now.after)) c.count_around-2.new.toggles c.count_around-2.ensures.toggles tag in
    let e = length_three c.args.around.now.before c.args.change.now.to c.args.around.now.after in
    let s = was.short in
    omega (arith, same, a, b, d, e, s)

pub replace-requires-clause-less : goal.replace-requires-clause-less
replace-requires-clause-less c tag =
    let node = c.args.node.index in
    let table = c.args.states.now in
    let was = c.requires.was in
    let own = summary_of c.args.each.now node in
    let minus = c.count_around.new.toggles in
    let same = ap (λ (s : Summary). count_of tag s.counts) (get-any c.args.each.now node c.index-each-node.result no_summary c.requires.within) in
    let all = enough table was.left was.right c.args.change.now.from c.args.change.now.to own own minus minus was.is
    (at_ends table was.left was.right c.args.around.now.before c.args.around.now.after c.args.change.now.from minus was.ends was.begins c.count_around.ensures.toggles) tag in
    omega (arith, same, all)

pub returns-clause-is : goal.returns-clause-is
returns-clause-is c xs ys e f is =
    let node = c.args.node.index in
    let table = c.args.states.now in
    let own = summary_of c.args.each.now node in
    let old = c.args.change.now.from in
    let new = c.args.change.now.to in
    let before = c.args.around.now.before in
    let after = c.args.around.now.after in
    let minus = c.count_around.new.toggles in
    let plus = c.count_around-2.new.toggles in
    let same = get-any c.args.each.now node c.index-each-node.result no_summary c.requires.within in
    let now = c.replace.new.self in
    let there = get_or-set_same c.args.each.now node now no_summary c.requires.within in
    let right = replaced_summary table xs ys old new own now minus plus is
    (at_ends table xs ys before after old minus e f c.count_around.ensures.toggles)
    (at_ends table xs ys before after new plus e f c.count_around-2.ensures.toggles)
    (λ tag. c.replace.ensures.counts tag ∙ ap (λ (s : Summary). count_of tag s.counts + count_of tag plus) same)
    (c.replace.ensures.first ∙ (λ j. if is_some (sym e j) then (same j).first else either new (sym f j)))
    (c.replace.ensures.last ∙ (λ j. if is_some (sym f j) then (same j).last else either new (sym e j))) in
    subst (IsSummary table (xs ++ (one_or_none new ++ ys))) (sym there) right
