use Rattle.std.proofs.Common.{◌≡◌, ◌+◌, ◌++◌, length}
use Rattle.rt_stamps.specs.Words.{as_words}
use Rattle.rt_tags.specs.Kept.{HaveNames, IsSorted, all_seen}
use Rattle.rt_tags.specs.Writers.{state_after}
use Rattle.rt_tags.proofs.sorting.merged.Given as goal

abbrev pub invariant-loop-entry : goal.invariant-loop-entry
invariant-loop-entry l =
    let names = as_words l.names in
    record {
      old : IsSorted names l.rest_of_old;
      new : IsSorted names l.rest_of_new;
      named : HaveNames (length names) l.out.items;
      entries : all_seen names l.out.items ++ state_after (all_seen names l.rest_of_old) (all_seen names l.rest_of_new) ≡ state_after (all_seen names l.old) (all_seen names l.new);
    }

abbrev pub decreases-loop-entry : goal.decreases-loop-entry
decreases-loop-entry l = length l.rest_of_old + length l.rest_of_new
