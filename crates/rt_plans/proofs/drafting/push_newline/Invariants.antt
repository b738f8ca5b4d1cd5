use Rattle.std.proofs.Common.{◌≡◌, ◌++◌, drop, map}
use Rattle.rt_ops.specs.Edits.{body_of}
use Rattle.rt_tags.specs.States.{name_at}
use Rattle.rt_plans.specs.TagDrafts.{newline_drafts}
use Rattle.rt_plans.proofs.drafting.push_newline.Given as goal

abbrev pub invariant-loop-tag : goal.invariant-loop-tag
invariant-loop-tag g l =
    map body_of l.drafts.items ++ newline_drafts l.newline.stamp (map (name_at l.states) (drop l.tag-index l.tag-items))
    ≡ map body_of l.fn.drafts.items ++ newline_drafts l.newline.stamp (map (name_at l.states) l.tag-items)
