use Rattle.std.proofs.Common.{◌≡◌, ◌∙◌, ◌-◌, ◌≤◌, Some, ap, arith, cond}
use Rattle.std.specs.Prelude.{unwrap_or}
use Rattle.rt_stamps.specs.declared.stamp.Stamp.{Stamp}
use Rattle.rt_spans.specs.Shown.{is_in_span, value_of}
use Rattle.rt_stamps.specs.declared.limits.TheConstants.{GREATEST_COUNT, MOST_CELLS}
use Rattle.rt_revert.specs.Portions.{offset_of, visible_before_stamp}
use Rattle.rt_revert.proofs.OffsetLaws.{counted, offsets_all, offsets_next, place_small, set_offset, set_small}
use Rattle.rt_revert.proofs.offsets.offsets_of.Goals as goal

pub set-requires-clause-bound : goal.set-requires-clause-bound
set-requires-clause-bound g c =
    let cells = g.C.TextStore.list c.args.copy.now in
    omega (arith, counted GREATEST_COUNT cells c.loop-position.position c.nth.result (omega arith) c.nth.ensures c.requires.older (omega arith), ap (λ s. s.last) c.of.ensures)

pub set-requires-clause-room : goal.set-requires-clause-room
set-requires-clause-room g c = omega (arith, c.loop-position.invariant.room)

pub set-requires-clause-order : goal.set-requires-clause-order
set-requires-clause-order g c = omega (arith, ap (λ s. s.first) c.of.ensures, ap (λ s. s.last) c.of.ensures)

pub loop-position-init : goal.loop-position-init
loop-position-init g c =
    let none : (s : Stamp) → offset_of c.reserve.new.self s ≡ 0 = λ s. ap (λ o. unwrap_or o 0) (c.in_ok-reserve.ensures.values s ∙ c.new-offsets.ensures.values s) in
    record {
      within = omega arith;
      offsets = λ s a. absurd (cc a);
      small = λ s. omega (arith, none s);
      room = omega (arith, c.in_ok-reserve.ensures.ok, c.cells.ensures);
    }

pub loop-position-preserved : goal.loop-position-preserved
loop-position-preserved g c =
    let whole = g.S.TextStore.list c.args.store.now in
    let cells = g.C.TextStore.list c.args.copy.now in
    let p = c.loop-position.position in
    let cell = c.nth.result in
    let stamp = cell.stamp in
    let old = c.loop-position.offsets in
    let new = c.set.new.self in
    let put = set_offset old new stamp (visible_before_stamp whole stamp - visible_before_stamp cells stamp)
    (λ s. c.set.ensures.values s ∙ (λ i. cond (is_in_span (c.of.ensures i) s) (Some (c.offset_in.ensures i)) (value_of old s))) in
    let small : visible_before_stamp whole stamp - visible_before_stamp cells stamp ≤ MOST_CELLS = omega (arith, place_small whole stamp, c.requires.whole) in
    record {
      within = omega arith;
      offsets = offsets_next whole cells p cell old new c.nth.ensures put c.loop-position.invariant.offsets;
      small = set_small old new stamp (visible_before_stamp whole stamp - visible_before_stamp cells stamp) put small c.loop-position.invariant.small;
      room = omega (arith, c.loop-position.invariant.room, c.set.ensures.room);
    }

pub returns-clause-offsets : goal.returns-clause-offsets
returns-clause-offsets g c =
    offsets_all (g.S.TextStore.list c.args.store.now) (g.C.TextStore.list c.args.copy.now) c.loop-position.position c.loop-position.offsets (omega arith) c.loop-position.invariant.offsets
