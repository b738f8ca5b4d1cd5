use Rattle.std.proofs.Common.{◌≡◌, map, take}
use Rattle.rt_store.specs.Cells.{text_of}
use Rattle.rt_text.specs.Distances.{distance_of}
use Rattle.rt_text.proofs.distance.distances_by.Given as goal

abbrev pub invariant-loop-measure : goal.invariant-loop-measure
invariant-loop-measure g l = l.distances.items ≡ map (distance_of (text_of (g.S.TextStore.list l.store)) l.from l.to) (take l.measure-index l.measures)
