use Rattle.std.proofs.Common.{◌++◌, [], arith}
use Rattle.rt_recording.specs.Settled.{taken_by}
use Rattle.rt_recording.proofs.Once.{once_fewer, times_append}
use Rattle.rt_recording.proofs.OnceReverted.{reversion_once}
use Rattle.rt_recording.proofs.laws.removed_characters.Goals as goal

pub returns : goal.returns
returns c site log document group p h doc sound fits once =
    (reversion_once site log document group [] p h doc sound fits
    (once_fewer document.cells (taken_by group ++ []) (taken_by group) (λ s. let all = times_append s (taken_by group) [] in omega (arith, all)) once)).formers
