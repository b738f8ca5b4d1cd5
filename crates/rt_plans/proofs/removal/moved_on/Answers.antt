use Rattle.std.proofs.Common.{◌≡◌, ◌<◌, ◌≤◌, ◌∙◌, ap, arith, get_or, length, map, sym, take}
use Rattle.std.proofs.lemmas.List.{length-set, map-id, take_all}
use Rattle.rt_plans.specs.declared.range.Range.{Range}
use Rattle.rt_plans.specs.Merging.{range_from}
use Rattle.rt_plans.proofs.SelectionLaws.{done_more, rest_more, same_here}
use Rattle.rt_plans.proofs.removal.moved_on.Goals as goal

pub moved_on-requires : goal.moved_on-requires
moved_on-requires c =
    let xs = c.args.ranges.items in
    let ys = c.loop-i.ranges.items in
    let i = c.loop-i.i in
    let d = c.index.result.now in
    let known = c.loop-i.invariant in
    let lt : i < length xs = omega (arith, c.loop-i-test.true, c.len-i-end.ensures) in
    let here = c.requires i d lt in
    let same : d ≡ get_or xs i d = c.index.ensures ∙ same_here (λ (range : Range). range) xs ys i d lt known.len known.rest in
    (omega (arith, here.0, ap (λ (range : Range). range.from) same), omega (arith, here.1, ap (λ (range : Range). range.to) same))

pub loop-i-preserved : goal.loop-i-preserved
loop-i-preserved c =
    let xs = c.args.ranges.items in
    let ys = c.loop-i.ranges.items in
    let i = c.loop-i.i in
    let d = c.index.result.now in
    let x = c.moved_on.result in
    let known = c.loop-i.invariant in
    let lt : i < length xs = omega (arith, c.loop-i-test.true, c.len-i-end.ensures) in
    record {
      done = done_more (λ (range : Range). range) xs ys i d lt known.len known.rest (range_from c.args.begin) x known.done (c.moved_on.ensures ∙ ap (range_from c.args.begin) c.index.ensures);
      rest = rest_more (λ (range : Range). range) xs ys i d lt known.len known.rest x;
      len = length-set ys i x ∙ known.len;
    }

pub returns : goal.returns
returns c =
    let xs = c.args.ranges.items in
    let ys = c.loop-i.ranges.items in
    let i = c.loop-i.i in
    let known = c.loop-i.invariant in
    let past : length xs ≤ i = omega (arith, c.loop-i-test.false, c.len-i-end.ensures) in
    let all : take i ys ≡ ys = take_all i ys (omega (arith, past, known.len)) in
    let each : take i xs ≡ xs = take_all i xs past in
    sym (map-id ys) ∙ ap (map (λ (range : Range). range)) (sym all) ∙ known.done ∙ ap (λ l. map (range_from c.args.begin) (map (λ (range : Range). range) l)) each
    ∙ ap (map (range_from c.args.begin)) (map-id xs)
