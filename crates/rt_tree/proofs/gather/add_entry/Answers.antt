use Rattle.std.proofs.Common.{◌∙◌}
use Rattle.rt_nodes.specs.Nodes.{entries}
use Rattle.rt_tree.specs.Shape.{level_of}
use Rattle.rt_tree.specs.Summaries.{no_summary}
use Rattle.rt_tree.proofs.Collecting.{few_so_far, last_so_far, node_few, node_first, node_is, node_joined, node_others, room_so_far, run_added, run_given}
use Rattle.rt_tree.proofs.Passes.{get-any}
use Rattle.rt_tree.proofs.gather.add_entry.Goals as goal

pub add_run-requires-clause-last : goal.add_run-requires-clause-last
add_run-requires-clause-last c =
    let a = c.args in
    let m = a.mem.now in
    let k = level_of m a.node.index in
    let es = entries m a.node.index in
    last_so_far a.states.now m k es a.i c.read_entry.result c.requires.within c.read_entry.ensures c.requires.given a.summary.now c.requires.before

pub add_run-requires-clause-state : goal.add_run-requires-clause-state
add_run-requires-clause-state c =
    let a = c.args in
    let m = a.mem.now in
    let k = level_of m a.node.index in
    let es = entries m a.node.index in
    run_given a.states.now m k es a.i c.read_entry.result c.requires.within c.read_entry.ensures c.requires.given a.summary.now c.requires.before c.in-Here.run' c.in-Here.is

pub add_run-requires-clause-room : goal.add_run-requires-clause-room
add_run-requires-clause-room c =
    let a = c.args in
    let m = a.mem.now in
    let k = level_of m a.node.index in
    let es = entries m a.node.index in
    room_so_far a.states.now m k es a.i c.read_entry.result c.requires.within c.read_entry.ensures c.requires.given a.summary.now c.requires.before c.requires.room

pub add_run-requires-clause-few : goal.add_run-requires-clause-few
add_run-requires-clause-few c =
    let a = c.args in
    let m = a.mem.now in
    let k = level_of m a.node.index in
    let es = entries m a.node.index in
    few_so_far a.states.now m k es a.i c.read_entry.result c.requires.within c.read_entry.ensures c.requires.given a.summary.now c.requires.before c.requires.few

pub returns-in-Here-clause-added : goal.returns-in-Here-clause-added
returns-in-Here-clause-added c =
    let a = c.args in
    let m = a.mem.now in
    let k = level_of m a.node.index in
    let es = entries m a.node.index in
    run_added a.states.now m k es a.i c.read_entry.result c.requires.within c.read_entry.ensures c.requires.given a.summary.now c.requires.before c.in-Here.run' c.in-Here.is c.add_run.new.summary c.add_run.ensures.added

pub join-requires-clause-last : goal.join-requires-clause-last
join-requires-clause-last c =
    let a = c.args in
    let m = a.mem.now in
    let k = level_of m a.node.index in
    let es = entries m a.node.index in
    last_so_far a.states.now m k es a.i c.read_entry.result c.requires.within c.read_entry.ensures c.requires.given a.summary.now c.requires.before

pub join-requires-clause-first : goal.join-requires-clause-first
join-requires-clause-first c =
    let a = c.args in
    let m = a.mem.now in
    let k = level_of m a.node.index in
    let es = entries m a.node.index in
    let low = node_is a.states.now m k es a.i c.read_entry.result c.requires.within c.read_entry.ensures c.requires.given a.summary.now c.requires.before a.each.now c.requires.kids c.in-Down.child c.in-Down.field-1 c.in-Down.is in
    let kept = c.index-each-child.is ∙ get-any a.each.now c.in-Down.child.index c.index-each-child.result no_summary low in
    node_first a.states.now m k es a.i c.read_entry.result c.requires.within c.read_entry.ensures c.requires.given a.summary.now c.requires.before a.each.now c.requires.kids c.in-Down.child c.in-Down.field-1 c.in-Down.is c.index-each-child.result kept

pub join-requires-clause-room : goal.join-requires-clause-room
join-requires-clause-room c =
    let a = c.args in
    let m = a.mem.now in
    let k = level_of m a.node.index in
    let es = entries m a.node.index in
    room_so_far a.states.now m k es a.i c.read_entry.result c.requires.within c.read_entry.ensures c.requires.given a.summary.now c.requires.before c.requires.room

pub join-requires-clause-others : goal.join-requires-clause-others
join-requires-clause-others c =
    let a = c.args in
    let m = a.mem.now in
    let k = level_of m a.node.index in
    let es = entries m a.node.index in
    let low = node_is a.states.now m k es a.i c.read_entry.result c.requires.within c.read_entry.ensures c.requires.given a.summary.now c.requires.before a.each.now c.requires.kids c.in-Down.child c.in-Down.field-1 c.in-Down.is in
    let kept = c.index-each-child.is ∙ get-any a.each.now c.in-Down.child.index c.index-each-child.result no_summary low in
    node_others a.states.now m k es a.i c.read_entry.result c.requires.within c.read_entry.ensures c.requires.given a.summary.now c.requires.before a.each.now c.requires.kids c.in-Down.child c.in-Down.field-1 c.in-Down.is c.index-each-child.result kept

pub join-requires-clause-few : goal.join-requires-clause-few
join-requires-clause-few c =
    let a = c.args in
    let m = a.mem.now in
    let k = level_of m a.node.index in
    let es = entries m a.node.index in
    let low = node_is a.states.now m k es a.i c.read_entry.result c.requires.within c.read_entry.ensures c.requires.given a.summary.now c.requires.before a.each.now c.requires.kids c.in-Down.child c.in-Down.field-1 c.in-Down.is in
    let kept = c.index-each-child.is ∙ get-any a.each.now c.in-Down.child.index c.index-each-child.result no_summary low in
    node_few a.states.now m k es a.i c.read_entry.result c.requires.within c.read_entry.ensures c.requires.given a.summary.now c.requires.before a.each.now c.requires.kids c.in-Down.child c.in-Down.field-1 c.in-Down.is c.index-each-child.result kept c.requires.few

pub returns-in-Down-clause-added : goal.returns-in-Down-clause-added
returns-in-Down-clause-added c =
    let a = c.args in
    let m = a.mem.now in
    let k = level_of m a.node.index in
    let es = entries m a.node.index in
    let low = node_is a.states.now m k es a.i c.read_entry.result c.requires.within c.read_entry.ensures c.requires.given a.summary.now c.requires.before a.each.now c.requires.kids c.in-Down.child c.in-Down.field-1 c.in-Down.is in
    let kept = c.index-each-child.is ∙ get-any a.each.now c.in-Down.child.index c.index-each-child.result no_summary low in
    node_joined a.states.now m k es a.i c.read_entry.result c.requires.within c.read_entry.ensures c.requires.given a.summary.now c.requires.before a.each.now c.requires.kids c.in-Down.child c.in-Down.field-1 c.in-Down.is c.index-each-child.result kept c.join.new.self c.join.ensures.joined
