use Rattle.std.proofs.Common.{◌∙◌, ◌∷◌, [], sym, subst, refl, take, get_or}
use Rattle.std.proofs.lemmas.List.{take_all, take_more}
use Rattle.std.proofs.lemmas.Result.{err_from_is_err_and}
use Rattle.rt_oplog.specs.Merged.{IsTakenOver}
use Rattle.rt_oplog.proofs.Kept.{taken_none, taken_more}
use Rattle.rt_oplog.proofs.merge.take_rest.Goals as goal

pub loop-place-init : goal.loop-place-init
loop-place-init c = record {
  kept = λ place h. (h, refl);
  taken = taken_none c.args.more.now.rows c.args.ops.now.rows c.args.order.now.items;
}

pub loop-place-preserved : goal.loop-place-preserved
loop-place-preserved c =
    let more = c.args.more.now.rows in
    let places = c.args.places.now in
    let i = c.loop-place.place-index in
    let place = get_or places i (record { row = 0; at = 0 }) in
    let was = c.loop-place.invariant in
    record {
      kept = λ p h. let a = was.kept p h in let b = c.in_ok-take_over.ensures.kept p a.0 in (b.0, b.1 ∙ a.1);
      taken = subst (λ front. IsTakenOver more c.take_over.new.ops.rows front c.args.order.now.items c.take_over.new.order.items) (sym (take_more places i (record { row = 0; at = 0 }) c.loop-place-test.true))
          (taken_more more c.loop-place.ops.rows c.take_over.new.ops.rows (take i places) (place ∷ []) c.args.order.now.items c.loop-place.order.items c.take_over.new.order.items
          c.in_ok-take_over.ensures.kept was.taken c.in_ok-take_over.ensures.taken);
    }

pub returns-in_err-take_over : goal.returns-in_err-take_over
returns-in_err-take_over c =
    let (y, is, gives) = err_from_is_err_and c.from_residual.result c.from_residual.ensures.1 in
    rw (is, gives) (record {
      kept = λ p h. let a = c.loop-place.invariant.kept p h in let b = c.take_over.ensures.kept p a.0 in (b.0, b.1 ∙ a.1);
      taken = tt;
      fault = c.in_err-take_over.ensures.fault;
    })

pub returns : goal.returns
returns c =
    let all = take_all c.loop-place.place-index c.args.places.now c.loop-place-test.false in
    record {
      kept = c.loop-place.invariant.kept;
      taken = subst (λ front. IsTakenOver c.args.more.now.rows c.loop-place.ops.rows front c.args.order.now.items c.loop-place.order.items) all c.loop-place.invariant.taken;
      fault = tt;
    }
