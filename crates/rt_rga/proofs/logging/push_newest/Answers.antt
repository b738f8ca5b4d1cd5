use Rattle.std.proofs.Common.{◌∙◌, List, ap, arith, sym}
use Rattle.rt_ops.specs.Operations.{Operation}
use Rattle.rt_rga.specs.Histories.{greatest_last_count}
use Rattle.rt_rga.proofs.Counts.{count_with}
use Rattle.rt_rga.proofs.Drafting.{newer_than_all, newest}
use Rattle.rt_rga.proofs.logging.push_newest.Goals as goal

pub append-requires-clause-sound : goal.append-requires-clause-sound
append-requires-clause-sound c = c.requires.continues.sound

pub append-requires-clause-newest : goal.append-requires-clause-newest
append-requires-clause-newest c = newer_than_all c.args.op c.args.log.now.operations c.requires.newest

pub append-requires-clause-prev : goal.append-requires-clause-prev
append-requires-clause-prev c = omega (arith, c.requires.continues.prev)

pub returns : goal.returns
returns c =
    let op : Operation = c.args.op in
    let old : List Operation = c.args.log.now.operations in
    let appended = c.append.ensures.operations ∙ sym (newest op old c.requires.newest) in
    record {
      operations = appended;
      room = c.append.ensures.room;
      seen = omega (arith, c.saw.ensures, c.last_count.ensures, count_with op old, ap greatest_last_count appended, c.requires.seen);
    }
