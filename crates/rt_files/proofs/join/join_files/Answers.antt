use Rattle.std.proofs.Common.{inl, inr, refl}
use Rattle.std.proofs.lemmas.Result.{err_from_is_err_and}
use Rattle.rt_files.proofs.join.join_files.Goals as goal

pub returns-in_err-one : goal.returns-in_err-one
returns-in_err-one g c =
    let p = err_from_is_err_and c.from_residual.result c.from_residual.ensures.1 in
    rw (p.1, p.2) (inl (record { none = c.in_err-one.ensures; unread = refl }))

pub returns-in_err-other : goal.returns-in_err-other
returns-in_err-other g c =
    let p = err_from_is_err_and c.from_residual-in_err-other.result c.from_residual-in_err-other.ensures.1 in
    rw (p.1, p.2) (inr (inl (record { one = c.in_ok-one.one.operations; first_gives = c.in_ok-one.ensures; none = c.in_err-other.ensures })))

pub returns-in-Ok : goal.returns-in-Ok
returns-in-Ok g c = record {
  one = c.in_ok-one.one.operations;
  other = c.in_ok-other.other.operations;
  log = c.in-Ok.ensures.0;
  first_gives = c.in_ok-one.ensures;
  second_gives = c.in_ok-other.ensures;
  join = c.in-Ok.ensures.1;
  spelled = c.in-Ok.ensures.2;
}

pub returns-in-Err : goal.returns-in-Err
returns-in-Err g c = inr (inr (record {
  one = c.in_ok-one.one.operations;
  other = c.in_ok-other.other.operations;
  fault = c.in-Err.fault;
  first_gives = c.in_ok-one.ensures;
  second_gives = c.in_ok-other.ensures;
  unjoined = c.in-Err.ensures;
  of_none = c.of_neither.ensures;
}))
