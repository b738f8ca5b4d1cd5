use Rattle.std.proofs.Common.{◌≡◌, ◌≤◌, false, length, take}
use Rattle.rt_stamps.specs.declared.stamp.TheConstants.{ROOT}
use Rattle.rt_store.specs.Cells.{stamps_of}
use Rattle.rt_store.specs.Spans.{is_among}
use Rattle.rt_revert.proofs.named.root_position.Given as goal

abbrev pub invariant-loop-position : goal.invariant-loop-position
invariant-loop-position g l = record {
  within : l.position ≤ length (g.S.TextStore.list l.store);
  none : is_among (stamps_of (take l.position (g.S.TextStore.list l.store))) ROOT ≡ false;
}
