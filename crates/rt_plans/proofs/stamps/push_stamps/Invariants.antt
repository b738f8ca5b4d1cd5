use Rattle.std.proofs.Common.{◌≡◌, ◌+◌, ◌++◌, length}
use Rattle.rt_stamps.specs.Words.{as_words}
use Rattle.rt_store.specs.Cells.{stamps_of}
use Rattle.rt_plans.specs.Insertions.{counts_for, tagged_cells}
use Rattle.rt_plans.proofs.stamps.push_stamps.Given as goal

abbrev pub invariant-loop-rest : goal.invariant-loop-rest
invariant-loop-rest l =
    let names = as_words l.names in
    let site = l.site.number in
    record {
      stamps : l.stamps.items ++ stamps_of (tagged_cells site l.last names l.rest) ≡ l.initial.stamps.items ++ stamps_of (tagged_cells site l.count names l.text);
      count : l.last + counts_for names l.rest ≡ l.count + counts_for names l.text;
    }

abbrev pub decreases-loop-rest : goal.decreases-loop-rest
decreases-loop-rest l = length l.rest
