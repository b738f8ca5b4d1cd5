use Rattle.std.proofs.Common.{◌≡◌, ℕ, List, false, inl, refl, sym, ap, ◌∙◌, Result, Ok, Err, arith, ◌≤◌, inr, suc, true, true≢false, zero}
use Rattle.std.proofs.lemmas.Result.{err_from_is_err_and}
use Rattle.std.specs.List.{list_any}
use Rattle.rt_stamps.specs.declared.fault.Fault.{Fault}
use Rattle.rt_ops.specs.Operations.{Operation, has_bad_stamp, soundness}
use Rattle.rt_oplog.specs.Logs.{holds, clash, with_operation}
use Rattle.rt_oplog.proofs.Pushes.{push_bad, sound_if_ok, push_new, push_clash, push_held}
use Rattle.rt_oplog.proofs.log.OpLog.push.Goals as goal

pub returns-in_err-check : goal.returns-in_err-check
returns-in_err-check c =
    let (y, is, gives) = err_from_is_err_and c.from_residual.result c.from_residual.ensures.1 in
    let bad : soundness c.args.op ≡ Err y = cc (c.in_err-check.ensures, gives) in
    rw is (refl, omega arith, inl (push_bad c.args.op c.args.self.now.operations y bad))

pub put-requires-clause-sound : goal.put-requires-clause-sound
put-requires-clause-sound c = sound_if_ok c.args.op c.in_ok-check.field-0 (sym c.in_ok-check.ensures)

pub put-requires-clause-new : goal.put-requires-clause-new
put-requires-clause-new c = ap (λ set. holds set c.args.op) c.in_ok-reserve.ensures.same ∙ sym c.contains.ensures ∙ c.if-contains.false

pub put-requires-clause-free : goal.put-requires-clause-free
put-requires-clause-free c = ap (λ set. list_any (clash c.args.op) set) c.in_ok-reserve.ensures.same ∙ sym c.clashes.ensures ∙ c.if-clashes.false

pub returns : goal.returns
returns c =
    let op = c.args.op in
    let set = c.args.self.now.operations in
    let sound : has_bad_stamp op ≡ false = sound_if_ok op c.in_ok-check.field-0 (sym c.in_ok-check.ensures) in
    let new : holds set op ≡ false = sym c.contains.ensures ∙ c.if-contains.false in
    let free : list_any (clash op) set ≡ false = sym c.clashes.ensures ∙ c.if-clashes.false in
    let wrap : List Operation → Result (List Operation) Fault = λ log. Ok log in (
      push_new op set sound new free ∙ ap wrap (sym (c.put.ensures.operations ∙ ap (with_operation op) c.in_ok-reserve.ensures.same)),
      omega (arith, c.in_ok-reserve.ensures.kept, c.put.ensures.room),
    )

-- what can't give one more has no room
none_left : (room : ℕ) → (1 ≤ room → false ≡ true) → room ≡ 0
none_left zero h = refl
none_left (suc n) h = absurd (true≢false (sym (h (omega arith))))

pub returns-in_err-reserve : goal.returns-in_err-reserve
returns-in_err-reserve c =
    let (y, is, gives) = err_from_is_err_and c.from_residual-in_err-reserve.result c.from_residual-in_err-reserve.ensures.1 in
    let op = c.args.op in
    let set = c.args.self.now.operations in
    let sound : has_bad_stamp op ≡ false = sound_if_ok op c.in_ok-check.field-0 (sym c.in_ok-check.ensures) in
    let new : holds set op ≡ false = sym c.contains.ensures ∙ c.if-contains.false in
    let free : list_any (clash op) set ≡ false = sym c.clashes.ensures ∙ c.if-clashes.false in
    rw (is, gives)
    (c.in_err-reserve.ensures.same, c.in_err-reserve.ensures.kept, inr (c.in_err-reserve.ensures.fault, none_left c.args.self.now.room c.in_err-reserve.ensures.there, push_new op set sound new free))

pub returns-then-contains : goal.returns-then-contains
returns-then-contains c =
    let sound : has_bad_stamp c.args.op ≡ false = sound_if_ok c.args.op c.in_ok-check.field-0 (sym c.in_ok-check.ensures) in
    (push_held c.args.op c.args.self.now.operations sound (sym c.contains.ensures ∙ c.if-contains.true), omega arith)

pub returns-then-clashes : goal.returns-then-clashes
returns-then-clashes c =
    let sound : has_bad_stamp c.args.op ≡ false = sound_if_ok c.args.op c.in_ok-check.field-0 (sym c.in_ok-check.ensures) in
    let new = sym c.contains.ensures ∙ c.if-contains.false in
    (refl, omega arith, inl (push_clash c.args.op c.args.self.now.operations sound new (sym c.clashes.ensures ∙ c.if-clashes.true)))
