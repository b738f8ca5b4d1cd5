use Rattle.std.proofs.Common.{◌≡◌, false, subst}
use Rattle.rt_stamps.specs.declared.stamp.Stamp.{Stamp}
use Rattle.rt_undo.specs.declared.renames.Move.{Move}
use Rattle.rt_undo.specs.Renames.{SpanMapValue, is_moved, now_of}
use Rattle.rt_undo.proofs.Following.{now_still}
use Rattle.rt_undo.proofs.renames.Renames.ends.Goals as goal

pub returns : goal.returns
returns c =
    subst (λ (moves : SpanMapValue Move). (stamp : Stamp) → is_moved moves (now_of moves stamp) ≡ false) c.self.view_is (now_still c.self.inside.map c.self.invariant)
