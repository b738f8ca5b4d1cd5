use Rattle.std.proofs.Common.{◌≡◌, ◌∙◌, ◌<◌, List, Some, ap, arith, false, length, refl, subst, sym, true}
use Rattle.std.specs.BTreeMap.{insert_entry, is_at}
use Rattle.std.specs.List.{list_all}
use Rattle.rt_ops.specs.Operations.{Operation}
use Rattle.rt_oplog.specs.Logs.{holds}
use Rattle.rt_holding.specs.declared.waits.Keys.{Keys}
use Rattle.rt_holding.specs.Grown.{AreTriedAt, HeldValue}
use Rattle.rt_holding.specs.declared.held.TheConstants.{MOST_HELD}
use Rattle.rt_holding.specs.Holding.{put_held}
use Rattle.rt_holding.specs.Kept.{AreHeld, Standing, by_stamp_and_arrival, ops_in}
use Rattle.rt_holding.specs.Waits.{are_tried_at, is_place_in, is_tried_at, sleeps}
use Rattle.rt_holding.proofs.Going.{or_left, or_right, tried_more}
use Rattle.rt_holding.proofs.Passing.{others_on}
use Rattle.rt_holding.proofs.Places.{length_in, put_held_in, put_in}
use Rattle.rt_holding.proofs.Standing.{own_place}
use Rattle.rt_holding.proofs.Putting.{tried_kept}
use Rattle.rt_holding.proofs.held.Held.put.Goals as goal

pub returns-in_default-prepare-clause-tried : goal.returns-in_default-prepare-clause-tried
returns-in_default-prepare-clause-tried g c limit log h =
    let old = c.self.inside in
    let keyed = c.prepare.ensures in
    tried_kept limit log old.arrivals _ old.waits.keys c.prepare.new.waits.keys old.waits.again.items c.prepare.new.waits.again.items refl keyed.others
    (λ q i. ap (is_place_in q) keyed.again ∙ i) old.ops.entries c.self.invariant.held.places (subst (AreTriedAt limit log) (sym c.self.view_is) h)

pub invariant_of-self-in-Ok-insert : goal.invariant_of-self-in-Ok-insert
invariant_of-self-in-Ok-insert g c =
    let entries = c.self.inside.ops.entries in
    let n = c.self.inside.arrivals in
    let op = c.args.op in
    let held = ap (λ (v : HeldValue). v.held) (sym c.self.view_is) in
    let none : holds (ops_in entries) op ≡ false = subst (λ (l : List Operation). holds l op ≡ false) held c.requires.new in
    let few : length (ops_in entries) < MOST_HELD = subst (λ (l : List Operation). length l < MOST_HELD) held c.requires.room in
    let same = length_in n entries c.self.invariant.held.places in
    let put = c.in-Ok-insert.ensures.entries ∙ ap (λ s. insert_entry by_stamp_and_arrival entries (s, n) (Some op)) c.stamp.ensures in
    record {
      held = subst (λ m. AreHeld m c.insert.new.self.entries) (sym c.in-Some.ensures.1)
          (put_held_in n op entries c.insert.new.self.entries c.self.invariant.held none (omega (arith, few, same)) c.edit.ensures.rules c.requires.sound put);
      ready = c.keep.ensures.ready;
    }

pub returns-in-Ok-insert-clause-put : goal.returns-in-Ok-insert-clause-put
returns-in-Ok-insert-clause-put g c =
    let entries = c.self.inside.ops.entries in
    let n = c.self.inside.arrivals in
    ap ops_in (c.in-Ok-insert.ensures.entries ∙ ap (λ s. insert_entry by_stamp_and_arrival entries (s, n) (Some c.args.op)) c.stamp.ensures)
    ∙ put_in n c.args.op entries c.self.invariant.held.places ∙ ap (λ (v : HeldValue). put_held c.args.op v.held) c.self.view_is

pub returns-in-Ok-insert-clause-tried : goal.returns-in-Ok-insert-clause-tried
returns-in-Ok-insert-clause-tried g c limit log h =
    let old = c.self.inside in
    let keyed = c.prepare.ensures in
    let keys = c.keep.new.waits.keys in
    let again = c.keep.new.waits.again.items in
    let place : Standing = (c.stamp.result, old.arrivals) in
    let others = tried_kept limit log old.arrivals place old.waits.keys c.prepare.new.waits.keys old.waits.again.items again refl keyed.others
    (λ q i. c.keep.ensures.listed q ∙ or_left (is_place_in q c.prepare.new.waits.again.items) (is_at (by_stamp_and_arrival q) place) (ap (is_place_in q) keyed.again ∙ i))
    old.ops.entries c.self.invariant.held.places (subst (AreTriedAt limit log) (sym c.self.view_is) h) in
    let listed : is_place_in place again ≡ true = c.keep.ensures.listed place ∙ or_right (is_place_in place c.prepare.new.waits.again.items) (is_at (by_stamp_and_arrival place) place) (own_place place) in
    let here : is_tried_at limit log keys again (place, Some c.args.op) ≡ true = or_left (is_place_in place again) (sleeps limit keys log place c.args.op) listed in
    ap (list_all (is_tried_at limit log keys again)) c.in-Ok-insert.ensures.entries
    ∙ tried_more (is_tried_at limit log keys again) old.ops.entries place (Some c.args.op) here
    (subst (λ (k : Keys). are_tried_at limit log k again old.ops.entries ≡ true) (sym c.keep.ensures.keys) others)

pub returns-in-Some-1₀-clause-tried : goal.returns-in-Some-1₀-clause-tried
returns-in-Some-1₀-clause-tried g c limit log h =
    let old = c.self.inside in
    let keyed = c.prepare.ensures in
    let place : Standing = (c.stamp.result, old.arrivals) in
    ap (list_all (is_tried_at limit log c.forget.new.keys c.prepare.new.waits.again.items)) c.in-Err.ensures.err
    ∙ tried_kept limit log old.arrivals place old.waits.keys c.forget.new.keys old.waits.again.items c.prepare.new.waits.again.items refl
    (others_on place old.waits.keys c.prepare.new.waits.keys c.forget.new.keys keyed.others c.forget.ensures.others) (λ q i. ap (is_place_in q) keyed.again ∙ i)
    old.ops.entries c.self.invariant.held.places (subst (AreTriedAt limit log) (sym c.self.view_is) h)
