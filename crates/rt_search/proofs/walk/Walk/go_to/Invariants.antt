use Rattle.std.proofs.Common.{◌≤◌, ◌-◌}
use Rattle.rt_search.specs.Walks.{WalkStands}
use Rattle.rt_search.proofs.walk.Walk.go_to.Given as goal

abbrev pub invariant-loop-self : goal.invariant-loop-self
invariant-loop-self g l = record {
  stands : WalkStands l.text l.self;
  before : l.self.place ≤ l.place;
}

abbrev pub decreases-loop-self : goal.decreases-loop-self
decreases-loop-self g l = l.place - l.self.place
