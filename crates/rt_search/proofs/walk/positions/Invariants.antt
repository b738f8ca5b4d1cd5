use Rattle.std.proofs.Common.{◌≡◌, ◌<◌, length, map, take}
use Rattle.rt_stamps.specs.Places.{position_at}
use Rattle.rt_search.specs.Walks.{WalkStands}
use Rattle.rt_search.proofs.walk.positions.Given as goal

abbrev pub invariant-loop-place : goal.invariant-loop-place
invariant-loop-place g l = record {
  stands : WalkStands l.text l.walk;
  positions : l.positions.items ≡ map (position_at l.text) (take l.place-index l.places);
}
