use Rattle.std.proofs.Common.{◌<◌, arith}
use Rattle.rt_tags.proofs.Putting.{alone_heap, below_put, even_heap, even_within, low_below, low_half, low_under, odd_heap, odd_within, put_alone, put_in_even, put_in_odd, put_same}
use Rattle.rt_tags.proofs.Trees.{even_given, odd_given}
use Rattle.rt_tags.proofs.nodes.+put.Goals as goal

pub add-requires-clause-heap : goal.add-requires-clause-heap
add-requires-clause-heap t c = alone_heap c.args.nodes.now.keys c.args.new.tag c.args.new.setting c.requires.small

pub returns-in_default-clause-settings : goal.returns-in_default-clause-settings
returns-in_default-clause-settings t c =
    put_alone c.args.nodes.now.keys c.args.id c.node_at-node.result c.requires.kept c.node_at-node.ensures c.add.new.nodes.keys c.add.result c.args.new.tag c.args.new.setting c.add.ensures.kept c.in_default.is c.add.ensures.at

pub returns-then-new-node-clause-settings : goal.returns-then-new-node-clause-settings
returns-then-new-node-clause-settings t c =
    put_same c.args.nodes.now.keys c.args.id c.node_at-node.result c.requires.kept c.node_at-node.ensures c.add-then-new-node.new.nodes.keys c.add-then-new-node.result c.args.new.tag c.args.new.setting c.in-Some.setting c.add-then-new-node.ensures.kept c.add-then-new-node.ensures.more c.in-Some.is c.if-new-node.true c.add-then-new-node.ensures.at

pub overflow_sub-levels : goal.overflow_sub-levels
overflow_sub-levels t c = let p : 0 < c.args.levels = (low_below c.args.nodes.now.keys c.args.id c.node_at-node.result c.requires.kept c.node_at-node.ensures c.in-Some.setting c.in-Some.is c.args.new c.in_order.result.0 c.in_order.result.1 c.in_order.ensures c.args.levels c.requires.levels c.requires.small c.requires.within).0 in omega arith

pub put-odd-requires : goal.put-odd-requires
put-odd-requires t c =
    let h = low_below c.args.nodes.now.keys c.args.id c.node_at-node.result c.requires.kept c.node_at-node.ensures c.in-Some.setting c.in-Some.is c.args.new c.in_order.result.0 c.in_order.result.1 c.in_order.ensures c.args.levels c.requires.levels c.requires.small c.requires.within in
    let p : 0 < c.args.levels = h.0 in
    let room = c.requires.room in
    let few = c.requires.few in
    let d = c.decreases in
    (omega arith, (c.requires.kept, (odd_given c.args.nodes.now.keys c.args.id c.node_at-node.result c.requires.kept c.node_at-node.ensures, (low_half c.args.nodes.now.keys c.args.id c.node_at-node.result c.requires.kept c.node_at-node.ensures c.in-Some.setting c.in-Some.is c.args.new c.in_order.result.0 c.in_order.result.1 c.in_order.ensures c.args.levels c.requires.levels c.requires.small c.requires.within, (h.1, (odd_within c.args.nodes.now.keys c.args.id c.node_at-node.result c.requires.kept c.node_at-node.ensures c.in-Some.setting c.in-Some.is c.args.new c.in_order.result.0 c.in_order.result.1 c.in_order.ensures c.args.levels c.requires.levels c.requires.small c.requires.within, (omega arith, omega arith)))))))

pub add-requires-then-low-eq1-clause-room : goal.add-requires-then-low-eq1-clause-room
add-requires-then-low-eq1-clause-room t c = let p : 0 < c.args.levels = (low_below c.args.nodes.now.keys c.args.id c.node_at-node.result c.requires.kept c.node_at-node.ensures c.in-Some.setting c.in-Some.is c.args.new c.in_order.result.0 c.in_order.result.1 c.in_order.ensures c.args.levels c.requires.levels c.requires.small c.requires.within).0 in let a = c.put-odd.ensures.room in let b = c.requires.room in omega arith

pub add-requires-then-low-eq1-clause-few : goal.add-requires-then-low-eq1-clause-few
add-requires-then-low-eq1-clause-few t c = let p : 0 < c.args.levels = (low_below c.args.nodes.now.keys c.args.id c.node_at-node.result c.requires.kept c.node_at-node.ensures c.in-Some.setting c.in-Some.is c.args.new c.in_order.result.0 c.in_order.result.1 c.in_order.ensures c.args.levels c.requires.levels c.requires.small c.requires.within).0 in let a = c.put-odd.ensures.len in let b = c.requires.few in omega arith

pub add-requires-then-low-eq1-clause-heap : goal.add-requires-then-low-eq1-clause-heap
add-requires-then-low-eq1-clause-heap t c = odd_heap c.args.nodes.now.keys c.args.id c.node_at-node.result c.requires.kept c.node_at-node.ensures c.in-Some.setting c.in-Some.is c.args.new c.in_order.result.0 c.in_order.result.1 c.in_order.ensures c.args.levels c.requires.levels c.requires.small c.requires.within c.put-odd.new.nodes.keys c.put-odd.result c.put-odd.ensures.more c.put-odd.ensures.given (omega (arith, c.if-low-eq1.true)) c.put-odd.ensures.settings

pub returns-then-low-eq1-clause-settings : goal.returns-then-low-eq1-clause-settings
returns-then-low-eq1-clause-settings t c = put_in_odd c.args.nodes.now.keys c.args.id c.node_at-node.result c.requires.kept c.node_at-node.ensures c.in-Some.setting c.in-Some.is c.args.new c.in_order.result.0 c.in_order.result.1 c.in_order.ensures c.args.levels c.requires.levels c.requires.small c.requires.within c.put-odd.new.nodes.keys c.put-odd.result c.put-odd.ensures.more c.put-odd.ensures.given c.add-then-low-eq1.new.nodes.keys c.add-then-low-eq1.result c.add-then-low-eq1.ensures.kept c.add-then-low-eq1.ensures.more (omega (arith, c.if-low-eq1.true)) c.put-odd.ensures.settings c.add-then-low-eq1.ensures.at

pub returns-then-low-eq1-clause-len : goal.returns-then-low-eq1-clause-len
returns-then-low-eq1-clause-len t c = let p : 0 < c.args.levels = (low_below c.args.nodes.now.keys c.args.id c.node_at-node.result c.requires.kept c.node_at-node.ensures c.in-Some.setting c.in-Some.is c.args.new c.in_order.result.0 c.in_order.result.1 c.in_order.ensures c.args.levels c.requires.levels c.requires.small c.requires.within).0 in let a = c.put-odd.ensures.len in let b = c.add-then-low-eq1.ensures.len in omega arith

pub returns-then-low-eq1-clause-room : goal.returns-then-low-eq1-clause-room
returns-then-low-eq1-clause-room t c = let p : 0 < c.args.levels = (low_below c.args.nodes.now.keys c.args.id c.node_at-node.result c.requires.kept c.node_at-node.ensures c.in-Some.setting c.in-Some.is c.args.new c.in_order.result.0 c.in_order.result.1 c.in_order.ensures c.args.levels c.requires.levels c.requires.small c.requires.within).0 in let a = c.put-odd.ensures.room in let b = c.add-then-low-eq1.ensures.room in omega arith

pub overflow_sub-levels-2 : goal.overflow_sub-levels-2
overflow_sub-levels-2 t c = let p : 0 < c.args.levels = (low_below c.args.nodes.now.keys c.args.id c.node_at-node.result c.requires.kept c.node_at-node.ensures c.in-Some.setting c.in-Some.is c.args.new c.in_order.result.0 c.in_order.result.1 c.in_order.ensures c.args.levels c.requires.levels c.requires.small c.requires.within).0 in omega arith

pub put-even-requires : goal.put-even-requires
put-even-requires t c =
    let h = low_below c.args.nodes.now.keys c.args.id c.node_at-node.result c.requires.kept c.node_at-node.ensures c.in-Some.setting c.in-Some.is c.args.new c.in_order.result.0 c.in_order.result.1 c.in_order.ensures c.args.levels c.requires.levels c.requires.small c.requires.within in
    let p : 0 < c.args.levels = h.0 in
    let room = c.requires.room in
    let few = c.requires.few in
    let d = c.decreases in
    (omega arith, (c.requires.kept, (even_given c.args.nodes.now.keys c.args.id c.node_at-node.result c.requires.kept c.node_at-node.ensures, (low_half c.args.nodes.now.keys c.args.id c.node_at-node.result c.requires.kept c.node_at-node.ensures c.in-Some.setting c.in-Some.is c.args.new c.in_order.result.0 c.in_order.result.1 c.in_order.ensures c.args.levels c.requires.levels c.requires.small c.requires.within, (h.1, (even_within c.args.nodes.now.keys c.args.id c.node_at-node.result c.requires.kept c.node_at-node.ensures c.in-Some.setting c.in-Some.is c.args.new c.in_order.result.0 c.in_order.result.1 c.in_order.ensures c.args.levels c.requires.levels c.requires.small c.requires.within, (omega arith, omega arith)))))))

pub add-requires-2-clause-room : goal.add-requires-2-clause-room
add-requires-2-clause-room t c = let p : 0 < c.args.levels = (low_below c.args.nodes.now.keys c.args.id c.node_at-node.result c.requires.kept c.node_at-node.ensures c.in-Some.setting c.in-Some.is c.args.new c.in_order.result.0 c.in_order.result.1 c.in_order.ensures c.args.levels c.requires.levels c.requires.small c.requires.within).0 in let a = c.put-even.ensures.room in let b = c.requires.room in omega arith

pub add-requires-2-clause-few : goal.add-requires-2-clause-few
add-requires-2-clause-few t c = let p : 0 < c.args.levels = (low_below c.args.nodes.now.keys c.args.id c.node_at-node.result c.requires.kept c.node_at-node.ensures c.in-Some.setting c.in-Some.is c.args.new c.in_order.result.0 c.in_order.result.1 c.in_order.ensures c.args.levels c.requires.levels c.requires.small c.requires.within).0 in let a = c.put-even.ensures.len in let b = c.requires.few in omega arith

pub add-requires-2-clause-heap : goal.add-requires-2-clause-heap
add-requires-2-clause-heap t c = even_heap c.args.nodes.now.keys c.args.id c.node_at-node.result c.requires.kept c.node_at-node.ensures c.in-Some.setting c.in-Some.is c.args.new c.in_order.result.0 c.in_order.result.1 c.in_order.ensures c.args.levels c.requires.levels c.requires.small c.requires.within c.put-even.new.nodes.keys c.put-even.result c.put-even.ensures.more c.put-even.ensures.given (omega (arith, c.if-low-eq1.false)) c.put-even.ensures.settings

pub returns-clause-settings : goal.returns-clause-settings
returns-clause-settings t c = put_in_even c.args.nodes.now.keys c.args.id c.node_at-node.result c.requires.kept c.node_at-node.ensures c.in-Some.setting c.in-Some.is c.args.new c.in_order.result.0 c.in_order.result.1 c.in_order.ensures c.args.levels c.requires.levels c.requires.small c.requires.within c.put-even.new.nodes.keys c.put-even.result c.put-even.ensures.more c.put-even.ensures.given c.add-2.new.nodes.keys c.add-2.result c.add-2.ensures.kept c.add-2.ensures.more (omega (arith, c.if-low-eq1.false)) c.put-even.ensures.settings c.add-2.ensures.at

pub returns-clause-len : goal.returns-clause-len
returns-clause-len t c = let p : 0 < c.args.levels = (low_below c.args.nodes.now.keys c.args.id c.node_at-node.result c.requires.kept c.node_at-node.ensures c.in-Some.setting c.in-Some.is c.args.new c.in_order.result.0 c.in_order.result.1 c.in_order.ensures c.args.levels c.requires.levels c.requires.small c.requires.within).0 in let a = c.put-even.ensures.len in let b = c.add-2.ensures.len in omega arith

pub returns-clause-room : goal.returns-clause-room
returns-clause-room t c = let p : 0 < c.args.levels = (low_below c.args.nodes.now.keys c.args.id c.node_at-node.result c.requires.kept c.node_at-node.ensures c.in-Some.setting c.in-Some.is c.args.new c.in_order.result.0 c.in_order.result.1 c.in_order.ensures c.args.levels c.requires.levels c.requires.small c.requires.within).0 in let a = c.put-even.ensures.room in let b = c.add-2.ensures.room in omega arith

pub returns-in_default-clause-below : goal.returns-in_default-clause-below
returns-in_default-clause-below t c = λ n old w. c.add.ensures.below n old
    (below_put c.args.nodes.now.keys c.add.new.nodes.keys c.args.id c.add.result n c.args.new.tag c.args.new.setting old w (returns-in_default-clause-settings t c))

pub returns-then-new-node-clause-below : goal.returns-then-new-node-clause-below
returns-then-new-node-clause-below t c = λ n old w. c.add-then-new-node.ensures.below n old
    (below_put c.args.nodes.now.keys c.add-then-new-node.new.nodes.keys c.args.id c.add-then-new-node.result n c.args.new.tag c.args.new.setting old w (returns-then-new-node-clause-settings t c))

pub returns-then-low-eq1-clause-below : goal.returns-then-low-eq1-clause-below
returns-then-low-eq1-clause-below t c = λ n old w. c.add-then-low-eq1.ensures.below n (c.put-odd.ensures.below n old (low_under c.args.nodes.now.keys c.args.id c.node_at-node.result c.requires.kept c.node_at-node.ensures c.in-Some.setting c.in-Some.is c.args.new c.in_order.result.0 c.in_order.result.1 c.in_order.ensures c.args.levels c.requires.levels c.requires.small c.requires.within n w (old c.args.id)))
    (below_put c.args.nodes.now.keys c.add-then-low-eq1.new.nodes.keys c.args.id c.add-then-low-eq1.result n c.args.new.tag c.args.new.setting old w (returns-then-low-eq1-clause-settings t c))

pub returns-clause-below : goal.returns-clause-below
returns-clause-below t c = λ n old w. c.add-2.ensures.below n (c.put-even.ensures.below n old (low_under c.args.nodes.now.keys c.args.id c.node_at-node.result c.requires.kept c.node_at-node.ensures c.in-Some.setting c.in-Some.is c.args.new c.in_order.result.0 c.in_order.result.1 c.in_order.ensures c.args.levels c.requires.levels c.requires.small c.requires.within n w (old c.args.id)))
    (below_put c.args.nodes.now.keys c.add-2.new.nodes.keys c.args.id c.add-2.result n c.args.new.tag c.args.new.setting old w (returns-clause-settings t c))
