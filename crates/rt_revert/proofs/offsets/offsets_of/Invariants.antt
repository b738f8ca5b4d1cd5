use Rattle.std.proofs.Common.{◌≡◌, ◌-◌, ◌≤◌, true, length, take}
use Rattle.rt_stamps.specs.declared.stamp.Stamp.{Stamp}
use Rattle.rt_store.specs.Cells.{stamps_of}
use Rattle.rt_store.specs.Spans.{is_among}
use Rattle.rt_revert.specs.Portions.{AreSmall, offset_of, visible_before_stamp}
use Rattle.rt_revert.proofs.offsets.offsets_of.Given as goal

abbrev pub invariant-loop-position : goal.invariant-loop-position
invariant-loop-position g l =
    let whole = g.S.TextStore.list l.store in
    let cells = g.C.TextStore.list l.copy in
    record {
      within : l.position ≤ length cells;
      offsets : (s : Stamp) → is_among (stamps_of (take l.position cells)) s ≡ true → offset_of l.offsets s ≡ visible_before_stamp whole s - visible_before_stamp cells s;
      small : AreSmall l.offsets;
      room : length cells - l.position ≤ l.offsets.room;
    }
