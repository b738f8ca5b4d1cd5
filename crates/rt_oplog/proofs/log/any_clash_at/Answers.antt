use Rattle.rt_rows.specs.Places.{HasPlace, op_at}
use Rattle.std.proofs.Common.{◌≡◌, ◌∙◌, ◌+◌, ◌<◌, ◌≤◌, ◌||◌, true, ap, arith, drop, get_or, length, subst, sym}
use Rattle.std.specs.List.{list_any}
use Rattle.rt_rows.specs.declared.rows.RowPlace.{RowPlace}
use Rattle.rt_oplog.specs.Logs.{clash}
use Rattle.rt_oplog.proofs.Passing.{any_more}
use Rattle.rt_stamps.specs.declared.limits.TheConstants.{GREATEST_COUNT}
use Rattle.rt_ops.specs.Operations.{last_count}
use Rattle.std.proofs.lemmas.List.Elements.{All-from_recursion}
use Rattle.rt_oplog.specs.Runs.{places_of}
use Rattle.rt_oplog.proofs.Pushes.{sound_last}
use Rattle.rt_oplog.proofs.Places.{at_has}
use Rattle.rt_oplog.proofs.log.any_clash_at.Goals as goal

pub is_clash-requires-clause-other : goal.is_clash-requires-clause-other
is_clash-requires-clause-other c =
    let ops = c.args.ops.now.rows in
    let order = places_of c.args.run in
    let i = c.loop-number.number in
    let d = c.place.result in
    let l : i < length order = omega (arith, c.loop-number-test.true, c.len-number-end.ensures) in
    let place = get_or order i d in
    let read = ap (op_at ops) (sym (c.place.ensures d)) ∙ c.op_in.ensures.is in
    let sound = c.requires.log.sound (op_at ops place) (at_has ops order i d l) in
    subst (λ o. last_count o ≤ GREATEST_COUNT) read (sound_last (op_at ops place) sound)

pub is_clash-requires-clause-one : goal.is_clash-requires-clause-one
is_clash-requires-clause-one c = sound_last c.args.op.now c.requires.sound

pub op_in-requires : goal.op_in-requires
op_in-requires c =
    let order = places_of c.args.run in
    let i = c.loop-number.number in
    let d = c.place.result in
    let l : i < length order = omega (arith, c.loop-number-test.true, c.len-number-end.ensures) in
    subst (HasPlace c.args.ops.now.rows) (sym (c.place.ensures d)) (All-from_recursion (HasPlace c.args.ops.now.rows) order c.requires.within i d l)

pub returns-then-is_clash : goal.returns-then-is_clash
returns-then-is_clash c =
    let ops = c.args.ops.now.rows in
    let order = places_of c.args.run in
    let i = c.loop-number.number in
    let d = c.place.result in
    let q = λ (place : RowPlace). clash c.args.op.now (op_at ops place) in
    let l : i < length order = omega (arith, c.loop-number-test.true, c.len-number-end.ensures) in
    let here = ap q (sym (c.place.ensures d)) ∙ ap (clash c.args.op.now) c.op_in.ensures.is ∙ sym c.is_clash.ensures ∙ c.if-is_clash.true in
    let all : list_any q order ≡ true = sym c.loop-number.invariant ∙ any_more q order i d l ∙ ap (λ b. b || list_any q (drop (i + 1) order)) here in
    sym all

pub loop-number-preserved : goal.loop-number-preserved
loop-number-preserved c =
    let ops = c.args.ops.now.rows in
    let order = places_of c.args.run in
    let i = c.loop-number.number in
    let d = c.place.result in
    let q = λ (place : RowPlace). clash c.args.op.now (op_at ops place) in
    let l : i < length order = omega (arith, c.loop-number-test.true, c.len-number-end.ensures) in
    let here = ap q (sym (c.place.ensures d)) ∙ ap (clash c.args.op.now) c.op_in.ensures.is ∙ sym c.is_clash.ensures ∙ c.if-is_clash.false in
    sym (any_more q order i d l ∙ ap (λ b. b || list_any q (drop (i + 1) order)) here) ∙ c.loop-number.invariant
