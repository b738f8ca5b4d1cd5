use Rattle.std.proofs.Common.{◌<◌, length, arith}
use Rattle.rt_nodes.proofs.Rows.{same_at, moved_up, moved_down}
use Rattle.rt_nodes.proofs.memory.move_between.Goals as goal

pub returns-then-a-b : goal.returns-then-a-b
returns-then-a-b g c =
    let front = c.split_at_mut-front.result.0.now in let back = c.split_at_mut-front.result.1.now in
    let long = c.split_at_mut-front.ensures.front_len in let rest = c.split_at_mut-front.ensures.back_len in
    let lt : c.args.a < length front = omega (arith, c.if-a-b.true, long) in
    let some : 0 < length back = omega (arith, rest, c.requires.present.1) in
    rw (c.move_tail.ensures.front, c.move_tail.ensures.back, same_at front c.args.a c.index-front-a.result lt, same_at back 0 c.index-back-0.result some, c.split_at_mut-front.ensures.value, ← long)
    (moved_up front back c.args.a c.args.k lt)

pub returns-else-a-b : goal.returns-else-a-b
returns-else-a-b g c =
    let front = c.split_at_mut-front-else-a-b.result.0.now in let back = c.split_at_mut-front-else-a-b.result.1.now in
    let long = c.split_at_mut-front-else-a-b.ensures.front_len in let rest = c.split_at_mut-front-else-a-b.ensures.back_len in
    let apart = c.requires.present.2 in
    let lt : c.args.b < length front = search (arith, long, apart, c.if-a-b.false) in
    let some : 0 < length back = omega (arith, rest, c.requires.present.0) in
    rw (c.move_tail-else-a-b.ensures.front, c.move_tail-else-a-b.ensures.back, same_at front c.args.b c.index-front-b.result lt, same_at back 0 c.index-back-0-else-a-b.result some, c.split_at_mut-front-else-a-b.ensures.value, ← long)
    (moved_down front back c.args.b c.args.k lt)
