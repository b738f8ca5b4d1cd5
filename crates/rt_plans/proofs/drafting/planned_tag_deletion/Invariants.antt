use Rattle.std.proofs.Common.{◌≡◌, drop, map}
use Rattle.rt_stamps.specs.declared.limits.TheConstants.{MOST_SPANS}
use Rattle.rt_stamps.specs.Words.{as_words}
use Rattle.rt_ops.specs.Edits.{body_of}
use Rattle.rt_store.specs.Shown.{shown}
use Rattle.rt_store.specs.Written.{AreWritten}
use Rattle.rt_plans.specs.DocValue.{DocValue}
use Rattle.rt_plans.proofs.DeletionsInTurn.{Stands}
use Rattle.rt_plans.proofs.drafting.planned_tag_deletion.Given as goal

abbrev pub invariant-loop-name : goal.invariant-loop-name
invariant-loop-name g l =
    (doc : DocValue) → AreWritten doc.count doc.cells → doc.cells ≡ map (shown l.states) (g.S.TextStore.list l.store)
    → Stands MOST_SPANS doc l.seen.names (map body_of l.drafts.items) (as_words (drop l.name-index l.names)) (as_words l.names)
