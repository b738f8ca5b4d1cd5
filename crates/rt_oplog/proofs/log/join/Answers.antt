use Rattle.std.proofs.Common.{inr, refl}
use Rattle.std.proofs.lemmas.Result.{err_from_is_err_and}
use Rattle.rt_oplog.proofs.Kept.{told_of_two, told_of_merged, joined_merged}
use Rattle.rt_oplog.proofs.log.join.Goals as goal

pub returns-in_err-places : goal.returns-in_err-places
returns-in_err-places c =
    let (y, is, gives) = err_from_is_err_and c.from_residual-in_err-places.result c.from_residual-in_err-places.ensures.1 in
    let told = rw (c.deref.ensures.value, c.in_ok-flat.ensures, c.deref-2.ensures.value, c.in_ok-flat-2.ensures) at c.in_err-places.ensures in
    rw (is, gives, ← c.one.view_is, ← c.other.view_is) (told_of_two _ _ c.in_err-places.field-0.0 told)

pub ends_of-requires-clause-within : goal.ends_of-requires-clause-within
ends_of-requires-clause-within c = rw (c.deref-3.ensures.value) c.in_ok-places.ensures.within

pub returns-in_err-ends : goal.returns-in_err-ends
returns-in_err-ends c =
    let (y, is, gives) = err_from_is_err_and c.from_residual-in_err-ends.result c.from_residual-in_err-ends.ensures.1 in
    let merged = rw (c.deref.ensures.value, c.in_ok-flat.ensures, c.deref-2.ensures.value, c.in_ok-flat-2.ensures) at c.in_ok-places.ensures in
    let told = rw (c.deref-3.ensures.value) at c.in_err-ends.ensures in
    rw (is, gives, ← c.one.view_is, ← c.other.view_is) (told_of_merged c.merge.new.ops.rows _ _ c.in_ok-places.places.items c.in_err-ends.field-0.0 merged told)

pub returns : goal.returns
returns c =
    let merged = rw (c.deref.ensures.value, c.in_ok-flat.ensures, c.deref-2.ensures.value, c.in_ok-flat-2.ensures) at c.in_ok-places.ensures in
    let kept = rw (c.deref-3.ensures.value) at c.in_ok-ends.ensures in
    rw (← c.one.view_is, ← c.other.view_is, c.in_ok-order.ensures, c.deref-4.ensures.value) (joined_merged c.merge.new.ops.rows _ _ c.in_ok-places.places.items c.in_ok-ends.ends merged kept c.one.invariant.log c.other.invariant.log)

pub returns-in_err-flat : goal.returns-in_err-flat
returns-in_err-flat c =
    let (y, is, gives) = err_from_is_err_and c.from_residual.result c.from_residual.ensures.1 in
    rw (is, gives) (inr refl)

pub returns-in_err-flat-2 : goal.returns-in_err-flat-2
returns-in_err-flat-2 c =
    let (y, is, gives) = err_from_is_err_and c.from_residual-in_err-flat-2.result c.from_residual-in_err-flat-2.ensures.1 in
    rw (is, gives) (inr refl)

pub returns-in_err-order : goal.returns-in_err-order
returns-in_err-order c =
    let (y, is, gives) = err_from_is_err_and c.from_residual-in_err-order.result c.from_residual-in_err-order.ensures.1 in
    rw (is, gives) (inr refl)

pub merge-requires-clause-mine : goal.merge-requires-clause-mine
merge-requires-clause-mine c = rw (c.deref.ensures.value, c.in_ok-flat.ensures) c.one.invariant.within

pub merge-requires-clause-theirs : goal.merge-requires-clause-theirs
merge-requires-clause-theirs c = rw (c.deref-2.ensures.value, c.in_ok-flat-2.ensures) c.other.invariant.within

pub merge-requires-clause-one : goal.merge-requires-clause-one
merge-requires-clause-one c = rw (c.deref.ensures.value, c.in_ok-flat.ensures) c.one.invariant.log

pub merge-requires-clause-other : goal.merge-requires-clause-other
merge-requires-clause-other c = rw (c.deref-2.ensures.value, c.in_ok-flat-2.ensures) c.other.invariant.log

pub ends_of-requires-clause-falling : goal.ends_of-requires-clause-falling
ends_of-requires-clause-falling c = rw (c.deref-3.ensures.value) c.in_ok-places.ensures.falling
