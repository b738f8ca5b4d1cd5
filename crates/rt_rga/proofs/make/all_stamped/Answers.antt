use Rattle.std.proofs.Common.{ap, arith, length, map}
use Rattle.std.specs.Vec.Iter.{into_iter_items}
use Rattle.rt_stamps.specs.declared.limits.TheConstants.{GREATEST_COUNT}
use Rattle.rt_ops.specs.Edits.{body_of}
use Rattle.rt_rga.specs.Making.{operations_from}
use Rattle.rt_rga.proofs.Making.{fits_left, rules_left, stamped_more}
use Rattle.rt_rga.proofs.make.all_stamped.Goals as goal

pub loop-draft-preserved : goal.loop-draft-preserved
loop-draft-preserved c =
    let last = c.loop-draft.last in
    let more = c.counts_in-last.result in
    let old = into_iter_items c.loop-draft.draft-iterator in
    let new = into_iter_items c.next.new.self in
    let draft = c.in-Some.draft in
    let first = c.in-Some.ensures.steps.0 in
    let counts = c.counts_in-last.ensures.last last in
    record {
      ops = stamped_more c.args.site last c.loop-draft.prev more c.loop-draft.ops.items c.push_reserved.new.self.items (operations_from c.args.site c.args.last c.args.prev (map body_of c.args.drafts.items)) c.of.result old new draft first counts c.of.ensures
          c.push_reserved.ensures.items c.loop-draft.invariant.ops;
      room = omega (arith, ap length first, c.loop-draft.invariant.room, c.push_reserved.ensures.len, c.push_reserved.ensures.capacity);
      rules = rules_left old new draft first c.loop-draft.invariant.rules;
      fits = fits_left last more GREATEST_COUNT old new draft first counts c.loop-draft.invariant.fits;
    }

pub push_reserved-requires : goal.push_reserved-requires
push_reserved-requires c = omega (arith, ap length c.in-Some.ensures.steps.0, c.loop-draft.invariant.room)
