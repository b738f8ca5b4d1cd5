use Rattle.rt_rows.specs.Places.{HasPlace, op_at}
use Rattle.std.proofs.Common.{◌≡◌, ◌∙◌, sym, ap, subst, map, arith, refl}
use Rattle.std.proofs.lemmas.List.{take_all}
use Rattle.std.proofs.lemmas.List.Elements.{All-from_recursion}
use Rattle.std.specs.List.{AllByRecursion}
use Rattle.rt_oplog.proofs.Merges.{seen_reversed}
use Rattle.std.proofs.lemmas.Result.{err_from_is_err_and}
use Rattle.rt_oplog.proofs.log.OpLog.in_order.Goals as goal

pub returns-clause-operations : goal.returns-clause-operations
returns-clause-operations c =
    let ops = c.self.inside.ops.rows in
    let list = c.deref-place-items.result.now in
    let same : list ≡ c.self.inside.order.items = c.deref-place-items.ensures.value ∙ c.in_ok-places.ensures in
    rw (← c.self.view_is) (c.loop-place.invariant.seen ∙ ap (map (op_at ops)) (take_all c.loop-place.place-index list (omega (arith, c.loop-place-test.false)) ∙ same) ∙ sym (seen_reversed ops c.self.inside.order.items))

pub op_in-requires : goal.op_in-requires
op_in-requires c =
    let ops = c.self.inside.ops.rows in
    let list = c.deref-place-items.result.now in
    let same : list ≡ c.self.inside.order.items = c.deref-place-items.ensures.value ∙ c.in_ok-places.ensures in
    let within = subst (λ xs. AllByRecursion (HasPlace ops) xs) (sym same) c.self.invariant.within in
    let fits = All-from_recursion (HasPlace ops) list within c.loop-place.place-index (record { row = 0; at = 0 }) c.loop-place-test.true in
    fits

pub returns-in_err-push : goal.returns-in_err-push
returns-in_err-push c =
    let (y, is, gives) = err_from_is_err_and c.from_residual-in_err-push.result c.from_residual-in_err-push.ensures.1 in
    rw (is, gives) (record { operations = tt; rules = tt; fault = refl })

pub returns-in_err-places : goal.returns-in_err-places
returns-in_err-places c =
    let (y, is, gives) = err_from_is_err_and c.from_residual.result c.from_residual.ensures.1 in
    rw (is, gives) (record { operations = tt; rules = tt; fault = refl })
