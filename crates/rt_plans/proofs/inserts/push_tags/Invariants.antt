use Rattle.std.proofs.Common.{◌≡◌, ◌++◌, map, take}
use Rattle.rt_stamps.specs.Words.{as_words}
use Rattle.rt_ops.specs.Edits.{body_of}
use Rattle.rt_rga.specs.OneOrMany.{items_in}
use Rattle.rt_plans.specs.InsertionDrafts.{tags_put_on}
use Rattle.rt_plans.proofs.inserts.push_tags.Given as goal

abbrev pub invariant-loop-name : goal.invariant-loop-name
invariant-loop-name l = map body_of (items_in l.drafts) ≡ map body_of (items_in l.initial.drafts) ++ tags_put_on l.span (as_words (take l.name-index l.names))
