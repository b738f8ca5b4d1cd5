use Rattle.std.proofs.Common.{◌∙◌, ◌+◌, ap, sym, arith}
use Rattle.rt_tags.specs.Toggles.{count_in, count_of, more_tags}
use Rattle.rt_tags.proofs.Counts.{next_count, still_few, still_room}
use Rattle.rt_tags.proofs.toggles.Toggles.add_each.Goals as goal

pub add-requires-clause-room : goal.add-requires-clause-room
add-requires-clause-room c z =
    let first = c.args.self.now in
    let cs = c.counts-c-items.result.now in
    let all = c.counts-c-items.ensures.counts in
    let inv = c.loop-c.invariant in
    still_room c.loop-c.c-index c.loop-c.self first cs c.c-item.result c.loop-c-test.true c.c-item.is (inv.0 c.c-item.result.tag ∙ ap (λ v. count_of c.c-item.result.tag first + count_in c.c-item.result.tag v) (sym all)) (omega (arith, inv.1, ap (λ v. more_tags v first.counts) all)) inv.2 (omega (arith, c.requires.room, ap (λ v. more_tags v first.counts) all)) z

pub loop-c-preserved : goal.loop-c-preserved
loop-c-preserved c =
    let first = c.args.self.now in
    let cs = c.counts-c-items.result.now in
    let all = c.counts-c-items.ensures.counts in
    let inv = c.loop-c.invariant in
    ((λ t. omega (arith, c.add.ensures.counts t, inv.0 t, next_count t c.loop-c.c-index cs c.c-item.result c.loop-c-test.true c.c-item.is)), omega (arith, ap (λ v. more_tags v first.counts) all, still_few c.loop-c.c-index c.add.new.self c.loop-c.self first cs c.c-item.result c.loop-c-test.true c.c-item.is (inv.0 c.c-item.result.tag ∙ ap (λ v. count_of c.c-item.result.tag first + count_in c.c-item.result.tag v) (sym all)) (omega (arith, inv.1, ap (λ v. more_tags v first.counts) all)) c.add.ensures.tags), c.add.ensures.capacity ∙ inv.2)
