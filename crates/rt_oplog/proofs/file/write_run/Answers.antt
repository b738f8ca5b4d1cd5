use Rattle.rt_rows.specs.Places.{HasPlace, op_at}
use Rattle.std.proofs.Common.{◌≡◌, ◌+◌, ◌<◌, ◌∙◌, ap, arith, get_or, inl, inr, length, map, subst, sym, take}
use Rattle.rt_rows.specs.declared.rows.RowPlace.{RowPlace}
use Rattle.std.specs.List.{AllByRecursion}
use Rattle.std.proofs.lemmas.List.{map_more}
use Rattle.rt_ops.specs.File.{HasRecord}
use Rattle.rt_oplog.proofs.Filling.{all_more}
use Rattle.std.proofs.lemmas.List.Elements.{All-from_recursion}
use Rattle.std.proofs.lemmas.Result.{err_from_is_err_and}
use Rattle.rt_ops.specs.Views.{operation_in}
use Rattle.rt_oplog.specs.Runs.{places_of}
use Rattle.rt_oplog.proofs.Fitting.{fits_at}
use Rattle.rt_oplog.proofs.Writing.{before_wrote, next_wrote, part_wrote}
use Rattle.rt_oplog.proofs.file.write_run.Goals as goal

pub returns-in_err-spell-clause-writes : goal.returns-in_err-spell-clause-writes
returns-in_err-spell-clause-writes g c =
    let p = err_from_is_err_and c.from_residual.result c.from_residual.ensures.1 in
    rw (p.1, p.2) (record {
      wrote = before_wrote c.args.version _ _ c.args.ops.now.rows (places_of c.args.run) c.loop-number.number c.loop-number.invariant.wrote;
      failures = inl (c.in_err-spell.ensures.fault, c.loop-number.invariant.failures);
    })

pub returns-in_err-write_all-clause-writes : goal.returns-in_err-write_all-clause-writes
returns-in_err-write_all-clause-writes g c =
    let ops = c.args.ops.now.rows in
    let places = places_of c.args.run in
    let l : c.loop-number.number < length places = omega (arith, c.loop-number-test.true, c.len-number-end.ensures) in
    let read = sym c.op_in.ensures.is ∙ ap (op_at ops) (c.place.ensures (record { row = 0; at = 0 })) in
    let p = err_from_is_err_and c.from_residual-in_err-write_all.result c.from_residual-in_err-write_all.ensures.1 in
    let written = c.in_err-write_all.ensures in
    rw (p.1, p.2) (record {
      wrote = part_wrote c.args.version _ _ _ ops places c.loop-number.number (operation_in c.op_in.result) l read c.loop-number.invariant.wrote
          (rw (c.deref.ensures.value, c.in_ok-spell.ensures.ok) at written.wrote);
      failures = inr (written.fault, written.failures ∙ ap (λ n. n + 1) c.loop-number.invariant.failures);
    })

pub spell-requires : goal.spell-requires
spell-requires g c =
    let ops = c.args.ops.now.rows in
    let places = places_of c.args.run in
    let l : c.loop-number.number < length places = omega (arith, c.loop-number-test.true, c.len-number-end.ensures) in
    let read = sym c.op_in.ensures.is ∙ ap (op_at ops) (c.place.ensures (record { row = 0; at = 0 })) in
    record {
      rules = c.op_in.ensures.rules;
      room = λ one. fits_at ops places c.loop-number.number (operation_in c.op_in.result) l read (c.requires.room one);
    }

pub op_in-requires : goal.op_in-requires
op_in-requires g c =
    let places = places_of c.args.run in
    let d = c.place.result in
    let l : c.loop-number.number < length places = omega (arith, c.loop-number-test.true, c.len-number-end.ensures) in
    subst (HasPlace c.args.ops.now.rows) (sym (c.place.ensures d)) (All-from_recursion (HasPlace c.args.ops.now.rows) places c.requires.within c.loop-number.number d l)

pub loop-number-preserved : goal.loop-number-preserved
loop-number-preserved g c =
    let ops = c.args.ops.now.rows in
    let version = c.args.version in
    let places = places_of c.args.run in
    let i = c.loop-number.number in
    let d : RowPlace = record { row = 0; at = 0 } in
    let op = operation_in c.op_in.result in
    let l : i < length places = omega (arith, c.loop-number-test.true, c.len-number-end.ensures) in
    let read : op ≡ op_at ops (get_or places i d) = sym c.op_in.ensures.is ∙ ap (op_at ops) (c.place.ensures d) in
    let written = c.in_ok-write_all.ensures in
    let one : HasRecord version (op_at ops (get_or places i d)) = subst (HasRecord version) read c.in_ok-spell.ensures.record in
    record {
      wrote = next_wrote version _ _ _ ops places i op l read c.loop-number.invariant.wrote (rw (c.deref.ensures.value, c.in_ok-spell.ensures.ok) at written.wrote);
      records = subst (AllByRecursion (HasRecord version)) (sym (map_more (op_at ops) places i d l)) (all_more (HasRecord version) (map (op_at ops) (take i places)) (op_at ops (get_or places i d)) c.loop-number.invariant.records one);
      failures = omega (arith, written.failures, c.loop-number.invariant.failures);
    }
