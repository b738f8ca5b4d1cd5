use Rattle.std.proofs.Common.{◌∙◌, [], ◌∷◌, ◌++◌, ap, drop, sym, take}
use Rattle.std.specs.BTreeMap.Range.{entries_between}
use Rattle.std.specs.declared.ops.Bound.TheVariants.{Excluded, Included}
use Rattle.rt_oplog.specs.Logs.{holds}
use Rattle.rt_holding.specs.Kept.{HeldEntry, by_stamp_and_arrival, ops_in}
use Rattle.rt_holding.proofs.Places.{among_stamp, looked, none_at_place, not_this, place_found, run_in}
use Rattle.rt_holding.proofs.trying.standing_of.Goals as goal

pub loop-place-init : goal.loop-place-init
loop-place-init c =
    let entries = c.args.ops.now.entries in
    let run = c.range-place-items.ensures.contiguous in
    let between = c.range-place-items.ensures.between tt in
    let same = c.into_iter-place-iterator.ensures.into_iter_gives in
    record {
      front = take run.0 entries;
      behind = drop run.1 (drop run.0 entries);
      is = run_in entries c.into_iter-place-iterator.result run.0 run.1 (same ∙ run.2);
      left = sym (ap (λ l. holds (ops_in l) c.args.op.now) (same ∙ between ∙ ap (λ s. entries_between by_stamp_and_arrival (Included (s, 0)) (Excluded (s, c.args.arrivals)) entries) c.stamp-stamp.ensures)
          ∙ among_stamp c.args.arrivals c.args.op.now entries c.requires);
    }

pub returns-then-is_same-clause-some : goal.returns-then-is_same-clause-some
returns-then-is_same-clause-some c =
    let before = c.loop-place.invariant in
    place_found c.args.ops.now.entries before.front c.loop-place.place-iterator c.next.new.self before.behind c.in-Some.place.now c.in-Some.kept.now c.in-Some-kept.held c.args.op.now
    before.is c.in-Some.ensures.steps c.in-Some-kept.is (sym c.is_same.ensures ∙ c.if-is_same.true) c.range-place-items.ensures.ordered

pub loop-place-preserved-else-is_same : goal.loop-place-preserved-else-is_same
loop-place-preserved-else-is_same c =
    let before = c.loop-place.invariant in
    let e : HeldEntry = (c.in-Some.place.now, c.in-Some.kept.now) in
    let steps = c.in-Some.ensures.steps in
    record {
      front = before.front ++ e ∷ [];
      behind = before.behind;
      is = looked c.args.ops.now.entries before.front c.loop-place.place-iterator c.next.new.self before.behind e before.is steps;
      left = before.left ∙ ap (λ l. holds (ops_in l) c.args.op.now) steps
          ∙ not_this e c.in-Some-kept.held c.args.op.now c.next.new.self c.in-Some-kept.is (sym c.is_same.ensures ∙ c.if-is_same.false);
    }

pub loop-place-preserved : goal.loop-place-preserved
loop-place-preserved c =
    let before = c.loop-place.invariant in
    let e : HeldEntry = (c.in-Some.place.now, c.in-Some.kept.now) in
    let steps = c.in-Some.ensures.steps in
    record {
      front = before.front ++ e ∷ [];
      behind = before.behind;
      is = looked c.args.ops.now.entries before.front c.loop-place.place-iterator c.next.new.self before.behind e before.is steps;
      left = before.left ∙ ap (λ l. holds (ops_in l) c.args.op.now) steps ∙ none_at_place e c.args.op.now c.next.new.self c.in_default.is;
    }
