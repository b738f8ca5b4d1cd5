use Rattle.std.proofs.Common.{◌≡◌, ◌+◌, ◌-◌, ◌≤◌, length}
use Rattle.rt_search.specs.Borders.{IsPass, left}
use Rattle.rt_search.proofs.pass.Pass.next.Given as goal

abbrev pub invariant-loop-self : goal.invariant-loop-self
invariant-loop-self g l = record {
  pass : IsPass l.search l.pattern l.text l.room l.self;
  later : l.initial.self.start ≤ l.self.start;
  left : left l.search l.pattern l.text l.room l.initial.self.start ≡ left l.search l.pattern l.text l.room l.self.start;
}

abbrev pub decreases-loop-self : goal.decreases-loop-self
decreases-loop-self g l = l.room.end - l.room.begin + length l.pattern - (l.self.start + l.self.agreed)
