use Rattle.std.proofs.Common.{ap, arith, sym, ◌≡◌, refl}
use Rattle.std.proofs.lemmas.Result.{err_from_is_err_and}
use Rattle.rt_oplog.specs.Outcomes.{Log}
use Rattle.rt_oplog.proofs.SameEnds.{kept_same}
use Rattle.rt_oplog.proofs.log.OpLog.reserve.Goals as goal

pub invariant_of-self : goal.invariant_of-self
invariant_of-self c = rw c.in_err-reserve.ensures.same c.self.invariant

pub invariant_of-self-in_err-reserve-2 : goal.invariant_of-self-in_err-reserve-2
invariant_of-self-in_err-reserve-2 c = rw (c.in_ok-reserve.ensures.same, c.in_err-reserve-2.ensures.same) c.self.invariant

pub invariant_of-self-in_err-reserve-3 : goal.invariant_of-self-in_err-reserve-3
invariant_of-self-in_err-reserve-3 c = rw (c.in_ok-reserve.ensures.same, c.in_ok-reserve-2.ensures.same) (kept_same _ _ c.self.inside.ends c.reserve-3.new.self c.in_err-reserve-3.ensures.same c.self.invariant)

pub invariant_of-self-2 : goal.invariant_of-self-2
invariant_of-self-2 c = rw (c.in_ok-reserve.ensures.same, c.in_ok-reserve-2.ensures.same) (kept_same _ _ c.self.inside.ends c.reserve-3.new.self c.in_ok-reserve-3.ensures.same c.self.invariant)

pub returns-in_err-reserve : goal.returns-in_err-reserve
returns-in_err-reserve c =
    let (y, is, gives) = err_from_is_err_and c.from_residual.result c.from_residual.ensures.1 in
    let room : c.args.self.now.room ≡ _ = sym (ap (λ (l : Log). l.room) c.self.view_is) in
    rw (is, gives) (record {
      same = rw c.in_err-reserve.ensures.same (ap (λ (l : Log). l.operations) c.self.view_is);
      ok = tt;
      kept = omega (arith, room, c.in_err-reserve.ensures.kept);
      fault = c.in_err-reserve.ensures.fault;
      there = λ h. c.in_err-reserve.ensures.there (omega (arith, room, h));
    })

pub returns-in_err-reserve-2 : goal.returns-in_err-reserve-2
returns-in_err-reserve-2 c =
    let (y, is, gives) = err_from_is_err_and c.from_residual-in_err-reserve-2.result c.from_residual-in_err-reserve-2.ensures.1 in
    let room : c.args.self.now.room ≡ _ = sym (ap (λ (l : Log). l.room) c.self.view_is) in
    rw (is, gives) (record {
      same = rw (c.in_ok-reserve.ensures.same, c.in_err-reserve-2.ensures.same) (ap (λ (l : Log). l.operations) c.self.view_is);
      ok = tt;
      kept = omega (arith, room, c.in_ok-reserve.ensures.kept, c.in_err-reserve-2.ensures.kept);
      fault = refl;
      there = λ h. c.in_err-reserve-2.ensures.there (omega (arith, room, h));
    })

pub returns-in_err-reserve-3 : goal.returns-in_err-reserve-3
returns-in_err-reserve-3 c =
    let (y, is, gives) = err_from_is_err_and c.from_residual-in_err-reserve-3.result c.from_residual-in_err-reserve-3.ensures.1 in
    let room : c.args.self.now.room ≡ _ = sym (ap (λ (l : Log). l.room) c.self.view_is) in
    rw (is, gives) (record {
      same = rw (c.in_ok-reserve.ensures.same, c.in_ok-reserve-2.ensures.same) (ap (λ (l : Log). l.operations) c.self.view_is);
      ok = tt;
      kept = omega (arith, room, c.in_ok-reserve.ensures.kept, c.in_ok-reserve-2.ensures.kept, c.in_err-reserve-3.ensures.kept);
      fault = refl;
      there = λ h. c.in_err-reserve-3.ensures.succeeds (omega (arith, room, h));
    })

pub returns : goal.returns
returns c =
    let room : c.args.self.now.room ≡ _ = sym (ap (λ (l : Log). l.room) c.self.view_is) in
    record {
      same = rw (c.in_ok-reserve.ensures.same, c.in_ok-reserve-2.ensures.same) (ap (λ (l : Log). l.operations) c.self.view_is);
      ok = omega (arith, c.in_ok-reserve.ensures.ok, c.in_ok-reserve-2.ensures.ok, c.in_ok-reserve-3.ensures.ok);
      kept = omega (arith, room, c.in_ok-reserve.ensures.kept, c.in_ok-reserve-2.ensures.kept, c.in_ok-reserve-3.ensures.kept);
      fault = tt;
      there = λ h. refl;
    }
