use Rattle.std.proofs.Common.{◌≡◌, ◌-◌, length}
use Rattle.std.specs.Prelude.{fold}
use Rattle.rt_search.specs.Borders.{IsPass, left}
use Rattle.rt_search.specs.Searches.{matches_in, with_match}
use Rattle.rt_search.proofs.Ending.{Taking}
use Rattle.rt_search.proofs.all.take_in.Given as goal

abbrev pub invariant-loop-index : goal.invariant-loop-index
invariant-loop-index g l = record {
  pass : IsPass l.search l.pattern l.text l.room l.pass;
  taken : fold (with_match l.overlaps (length l.pattern)) l.initial.taken.items (matches_in l.search l.pattern l.text l.fn.stretch)
      ≡ fold (with_match l.overlaps (length l.pattern)) l.taken.items (left l.search l.pattern l.text l.room l.pass.start);
  taking : Taking l.search.direction l.room (length l.pattern) l.initial.taken.items l.pass.start l.taken.items;
}

abbrev pub decreases-loop-index : goal.decreases-loop-index
decreases-loop-index g l = l.room.end - l.room.begin - l.pass.start
