use Rattle.std.proofs.Common.{◌≡◌, ◌<◌, length}
use Rattle.rt_tags.specs.SharedStates.{at_id, setting_of}
use Rattle.rt_tags.proofs.nodes.setting_at.Given as goal

abbrev pub invariant-loop-at : goal.invariant-loop-at
invariant-loop-at l = record { given : l.at < length l.nodes.keys; settings : setting_of (at_id l.nodes.keys l.at) l.rest ≡ setting_of (at_id l.nodes.keys l.fn.id) l.fn.tag }

abbrev pub decreases-loop-at : goal.decreases-loop-at
decreases-loop-at l = l.at
