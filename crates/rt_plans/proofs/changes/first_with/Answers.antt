use Rattle.std.proofs.Common.{◌≡◌, ℕ, Bool, true, false, not, Option, None, Some, min, refl, subst, sym}
use Rattle.std.specs.Prelude.{IfNone}
use Rattle.rt_store.specs.declared.cell.Cell.{Cell}
use Rattle.rt_store.specs.Cells.{visible_of}
use Rattle.rt_store.specs.Tagged.{has_tag, tag_is}
use Rattle.rt_store.proofs.Least.{least}
use Rattle.rt_tags.specs.States.{TagStates}
use Rattle.rt_plans.proofs.PassingPlaces.{EndsAt, ends_before, ends_last, first_places, none_from, none_till}
use Rattle.rt_plans.proofs.changes.first_with.Goals as goal

if_none : {A : Type 0} (o : Option A) (P : Type 0) → P → IfNone o P
if_none None P p = p
if_none (Some x) P p = tt

-- a character has a tag, or hasn't it
one_or_other : (table : TagStates) (tag : ℕ) (on : Bool) (cell : Cell ℕ) → tag_is table tag (not on) cell ≡ not (tag_is table tag on cell)
one_or_other table tag true cell = refl
one_or_other table tag false cell = twice (has_tag table tag cell)
  where
    twice : (b : Bool) → b ≡ not (not b)
    twice true = refl
    twice false = refl

pub returns-in_err-from-clause-none : goal.returns-in_err-from-clause-none
returns-in_err-from-clause-none g c =
    let cs = visible_of (g.S.TextStore.list c.args.store.now) in
    let table = c.args.states.now in
    let tag = c.args.tag in
    if_none c.from_residual.result _ (none_from (tag_is table tag c.args.on) (tag_is table tag (not c.args.on)) cs c.args.range (sym c.in_err-from.ensures))

pub returns-then-from-range-clause-none : goal.returns-then-from-range-clause-none
returns-then-from-range-clause-none g c =
    let cs = visible_of (g.S.TextStore.list c.args.store.now) in
    let table = c.args.states.now in
    let tag = c.args.tag in
    none_till (tag_is table tag c.args.on) (tag_is table tag (not c.args.on)) cs c.args.range c.in_ok-from.from (sym c.in_ok-from.ensures) c.if-from-range.true

pub returns-in-Some-clause-within : goal.returns-in-Some-clause-within
returns-in-Some-clause-within g c =
    let cs = visible_of (g.S.TextStore.list c.args.store.now) in
    let table = c.args.states.now in
    let tag = c.args.tag in
    let range = c.args.range in
    let from = c.in_ok-from.from in
    let test : Cell ℕ → Bool = tag_is table tag c.args.on in
    let other : Cell ℕ → Bool = tag_is table tag (not c.args.on) in
    let e : EndsAt test other cs from range.to c.min-to.result = subst (EndsAt test other cs from range.to) (sym c.min-to.ensures)
    (ends_before test other cs range.from from range.to c.in-Some.to (one_or_other table tag c.args.on) (sym c.in_ok-from.ensures) c.if-from-range.false (sym c.in-Some.ensures)) in
    ((least test cs range.from from (sym c.in_ok-from.ensures)).from, e.some, e.within)

pub returns-in-Some-clause-places : goal.returns-in-Some-clause-places
returns-in-Some-clause-places g c =
    let cs = visible_of (g.S.TextStore.list c.args.store.now) in
    let table = c.args.states.now in
    let tag = c.args.tag in
    let range = c.args.range in
    let from = c.in_ok-from.from in
    let test : Cell ℕ → Bool = tag_is table tag c.args.on in
    let other : Cell ℕ → Bool = tag_is table tag (not c.args.on) in
    let e : EndsAt test other cs from range.to c.min-to.result = subst (EndsAt test other cs from range.to) (sym c.min-to.ensures)
    (ends_before test other cs range.from from range.to c.in-Some.to (one_or_other table tag c.args.on) (sym c.in_ok-from.ensures) c.if-from-range.false (sym c.in-Some.ensures)) in
    first_places test other cs range from c.min-to.result (one_or_other table tag c.args.on) c.requires.within (sym c.in_ok-from.ensures) e

pub returns-in-None-clause-places : goal.returns-in-None-clause-places
returns-in-None-clause-places g c =
    let cs = visible_of (g.S.TextStore.list c.args.store.now) in
    let table = c.args.states.now in
    let tag = c.args.tag in
    let range = c.args.range in
    let from = c.in_ok-from.from in
    let test : Cell ℕ → Bool = tag_is table tag c.args.on in
    let other : Cell ℕ → Bool = tag_is table tag (not c.args.on) in
    first_places test other cs range from range.to (one_or_other table tag c.args.on) c.requires.within (sym c.in_ok-from.ensures)
    (ends_last test other cs from range.to c.if-from-range.false (sym c.in-None.ensures))
