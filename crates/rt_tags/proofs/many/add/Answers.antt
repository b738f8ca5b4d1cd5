use Rattle.std.proofs.Common.{◌≡◌, ◌∙◌, ap, arith, drop, length, refl, vec_capacity}
use Rattle.std.proofs.lemmas.List.{drop_all, take_all}
use Rattle.rt_tags.specs.Toggles.{TagCounts, count_in}
use Rattle.rt_tags.proofs.Counts.{next_count, share, share_own, still_few, still_room}
use Rattle.rt_tags.proofs.ManyCounts.{all_next, none_behind, placed, some_next}
use Rattle.rt_tags.proofs.many.add.Goals as goal

pub put-requires-clause-placed : goal.put-requires-clause-placed
put-requires-clause-placed c = c.loop-c.invariant.placed

pub put-requires-clause-some : goal.put-requires-clause-some
put-requires-clause-some c =
    let s = some_next 0 c.loop-c.c-index c.args.others.now c.c-item.result c.requires.others c.loop-c-test.true in
    omega (arith, s, ap (λ d. d.count) c.c-item.is)

pub put-requires-clause-few : goal.put-requires-clause-few
put-requires-clause-few c =
    let tag = c.c-item.result.tag in
    let n = next_count tag c.loop-c.c-index c.args.others.now c.c-item.result c.loop-c-test.true c.c-item.is in
    let o : share tag c.c-item.result ≡ c.c-item.result.count = share_own tag c.c-item.result refl in
    omega (arith, n, o, c.loop-c.invariant.counts tag, c.requires.few tag)

pub put-requires-clause-room : goal.put-requires-clause-room
put-requires-clause-room c z =
    let now : TagCounts = record { counts = c.loop-c.counts.items; capacity = vec_capacity c.loop-c.counts } in
    let first : TagCounts = record { counts = c.args.counts.now.items; capacity = vec_capacity c.args.counts.now } in
    let r = still_room c.loop-c.c-index now first c.args.others.now c.c-item.result c.loop-c-test.true c.c-item.is (c.loop-c.invariant.counts c.c-item.result.tag) c.loop-c.invariant.tags c.loop-c.invariant.capacity (omega (arith, c.requires.room, c.args.counts.now.ok.0)) z in
    omega (arith, r, c.loop-c.counts.ok.0)

pub put-requires-clause-behind : goal.put-requires-clause-behind
put-requires-clause-behind c =
    let cs = c.args.others.now in
    let tag = c.c-item.result.tag in
    let all = all_next c.loop-c.c-index cs c.c-item.result c.requires.others c.loop-c-test.true c.c-item.is in
    none_behind tag c.len-ordered.result _ _ _ _ (c.loop-c.invariant.counts tag) all (c.loop-c.invariant.first tag)

pub returns-clause-counts : goal.returns-clause-counts
returns-clause-counts c t =
    let end : count_in t (drop c.loop-c.c-index c.args.others.now) ≡ 0 = ap (count_in t) (drop_all c.loop-c.c-index c.args.others.now c.loop-c-test.false) in
    omega (arith, end, c.sort.ensures.counts t, c.loop-c.invariant.counts t)

pub returns-clause-len : goal.returns-clause-len
returns-clause-len c = omega (arith, c.sort.ensures.len, c.loop-c.invariant.tags, c.loop-c.counts.ok.0, c.args.counts.now.ok.0)

pub loop-c-init : goal.loop-c-init
loop-c-init c =
    let cs = c.args.counts.now.items in
    let n : c.len-ordered.result ≡ length cs = c.len-ordered.ensures ∙ c.args.counts.now.ok.0 in
    record {
      placed = placed c.len-ordered.result cs n c.requires.order;
      counts = λ t. refl;
      first = λ t. (let e = ap (count_in t) (take_all c.len-ordered.result cs (omega (arith, n))) in omega (arith, e));
      tags = omega arith;
      capacity = refl;
    }

pub loop-c-preserved : goal.loop-c-preserved
loop-c-preserved c =
    let now : TagCounts = record { counts = c.loop-c.counts.items; capacity = vec_capacity c.loop-c.counts } in
    let first : TagCounts = record { counts = c.args.counts.now.items; capacity = vec_capacity c.args.counts.now } in
    let new : TagCounts = record { counts = c.put.new.counts.items; capacity = vec_capacity c.put.new.counts } in
    let i = c.loop-c.c-index in
    let cs = c.args.others.now in
    let inv = c.loop-c.invariant in
    record {
      placed = c.put.ensures.placed;
      counts = λ t. omega (arith, c.put.ensures.counts t, inv.counts t, next_count t i cs c.c-item.result c.loop-c-test.true c.c-item.is);
      first = λ t. omega (arith, inv.first t, c.put.ensures.first t);
      tags = still_few i new now first cs c.c-item.result c.loop-c-test.true c.c-item.is (inv.counts c.c-item.result.tag) inv.tags (omega (arith, c.put.ensures.len, c.put.new.counts.ok.0, c.loop-c.counts.ok.0));
      capacity = c.put.ensures.capacity ∙ inv.capacity;
    }
