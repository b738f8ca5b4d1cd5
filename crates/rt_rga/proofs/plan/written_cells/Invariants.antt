use Rattle.std.proofs.Common.{◌++◌, All}
use Rattle.rt_tags.specs.States.{KeepsIds}
use Rattle.rt_rga.specs.Batches.{HasEntries, WrittenIsGiven}
use Rattle.rt_rga.proofs.PlannedStates.{AreCopied}
use Rattle.rt_rga.proofs.plan.written_cells.Given as goal

abbrev pub invariant-loop-at : goal.invariant-loop-at
invariant-loop-at g l =
    let cells = l.new ++ g.S.TextStore.list l.store in
    record {
      written : All (HasEntries l.initial.states l.named cells l.states) l.copies.items;
      copied : AreCopied cells l.named l.copies.items l.at;
      last : WrittenIsGiven l.states l.last;
      ids : KeepsIds l.initial.states l.states;
    }
