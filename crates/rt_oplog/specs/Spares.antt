-- Blocks to be.
use Rattle.std.specs.Prelude.{◌≡◌, ◌≤◌, List, [], vec_capacity}
use Rattle.std.specs.List.{AllByRecursion}
use Rattle.std.specs.declared.vec.Vec.{Vec}
use Rattle.std.specs.declared.alloc.Global.{Global}
use Rattle.rt_oplog.specs.declared.run.Run.{Run}
use Rattle.rt_oplog.specs.declared.runs.TheConstants.{MOST}

-- empty, with the room of a block
abbrev pub AreSpareRuns : Vec Run Global → Type 0
AreSpareRuns runs = (runs.items ≡ []) × (MOST ≤ vec_capacity runs)

abbrev pub AreSpare : List (Vec Run Global) → Type 0
AreSpare spare = AllByRecursion AreSpareRuns spare
