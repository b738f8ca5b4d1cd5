use Rattle.std.proofs.Common.{◌<◌, [], ◌∷◌, ◌++◌, drop, length, refl, sym, subst, ◌∙◌, arith}
use Rattle.std.proofs.lemmas.List.{take_rest}
use Rattle.std.proofs.lemmas.Result.{err_from_is_err_and}
use Rattle.rt_ops.specs.Records.{RefusesRecord}
use Rattle.rt_ops.proofs.InMemory.{at_next, record_at, record_long, refused_after, refused_bytes, refused_in, takes_from, takes_next}
use Rattle.rt_ops.proofs.records.Records.next.Goals as goal

pub returns-in_err-content-clause-err : goal.returns-in_err-content-clause-err
returns-in_err-content-clause-err c =
    let p = err_from_is_err_and c.from_residual.result c.from_residual.ensures.1 in
    let some : 0 < length (drop c.self.inside.offset c.self.inside.bytes.now) = grind (arith, c.is_empty.ensures, c.if-is_empty.false) in
    rw (p.1, p.2) (subst (λ v. RefusesRecord v c.in_err-content.field-0.0) c.self.view_is (refused_bytes _ c.in_err-content.field-0.0 some (rw (take_rest c.self.inside.bytes.now c.self.inside.offset) at c.in_err-content.ensures)))

pub returns-in_err-op-clause-err : goal.returns-in_err-op-clause-err
returns-in_err-op-clause-err c =
    let p = err_from_is_err_and c.from_residual-in_err-op.result c.from_residual-in_err-op.ensures.1 in
    let found = rw (take_rest c.self.inside.bytes.now c.self.inside.offset) at c.in_ok-content.ensures in
    rw (p.1, p.2) (subst (λ v. RefusesRecord v c.in_err-op.field-0.0) c.self.view_is
    (refused_in _ c.in_ok-content.content.now _ c.in_err-op.field-0.0 found.0 found.1 found.2 c.in_err-op.ensures))

pub returns-then-not-may_follow-clause-err : goal.returns-then-not-may_follow-clause-err
returns-then-not-may_follow-clause-err c =
    let op = c.in_ok-op.ensures in
    let found = rw (take_rest c.self.inside.bytes.now c.self.inside.offset) at c.in_ok-content.ensures in
    let parts = record_at c.self.inside.version c.in_ok-content.content.now _ _ c.in_ok-op.op found.2 op.1 in
    subst (λ v. RefusesRecord v _) c.self.view_is
    (refused_after c.self.inside.bytes.now _ c.self.inside.offset c.self.inside.last c.self.invariant.0 c.in_ok-op.op c.self.invariant.1 op.0 parts (sym c.may_follow.ensures ∙ c.if-not-may_follow.true))

pub invariant_of-self : goal.invariant_of-self
invariant_of-self c =
    let op = c.in_ok-op.ensures in
    let found = rw (take_rest c.self.inside.bytes.now c.self.inside.offset) at c.in_ok-content.ensures in
    let content = c.in_ok-content.content.now in
    let parts = record_at c.self.inside.version content _ _ c.in_ok-op.op found.2 op.1 in (
      c.self.invariant.0 ++ c.in_ok-op.op ∷ [],
      rw c.stamp.ensures (at_next c.self.inside.bytes.now c.self.inside.offset _ (length content) c.self.inside.last c.self.invariant.0 c.in_ok-op.op c.self.invariant.1 op.0
          (sym c.may_follow.ensures ∙ c.if-not-may_follow.false) parts refl (record_long c.self.inside.version content c.in_ok-op.op op.1)),
    )

pub returns-clause-ok : goal.returns-clause-ok
returns-clause-ok c =
    let op = c.in_ok-op.ensures in
    let found = rw (take_rest c.self.inside.bytes.now c.self.inside.offset) at c.in_ok-content.ensures in
    let content = c.in_ok-content.content.now in
    let parts = record_at c.self.inside.version content _ _ c.in_ok-op.op found.2 op.1 in
    takes_from _ _ _ c.in_ok-op.op c.self.view_is
    (takes_next c.self.inside.bytes.now c.self.inside.offset _ (length content) c.self.inside.last c.self.invariant.0 c.in_ok-op.op c.self.invariant.1 op.0
    (sym c.may_follow.ensures ∙ c.if-not-may_follow.false) parts refl)
