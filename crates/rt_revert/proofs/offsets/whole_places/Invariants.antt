use Rattle.std.proofs.Common.{◌≡◌, ◌++◌, ◌||◌, ℕ, drop}
use Rattle.rt_store.specs.Cells.{stamps_of}
use Rattle.rt_plans.specs.Removals.{RangesFollow, is_covered}
use Rattle.rt_revert.specs.Portions.{whole_ranges}
use Rattle.rt_revert.proofs.offsets.whole_places.Given as goal

abbrev pub invariant-loop-cell : goal.invariant-loop-cell
invariant-loop-cell g l =
    let copy = g.S.TextStore.list l.copy in
    record {
      covered : (at : ℕ) → (is_covered l.ranges.items at || is_covered (whole_ranges l.offsets copy (stamps_of (drop l.cell-index l.cell-items))) at) ≡ is_covered (whole_ranges l.offsets copy (stamps_of l.cell-items)) at;
      order : RangesFollow 0 (whole_ranges l.offsets copy (stamps_of l.cell-items)) → RangesFollow 0 (l.ranges.items ++ whole_ranges l.offsets copy (stamps_of (drop l.cell-index l.cell-items)));
    }
