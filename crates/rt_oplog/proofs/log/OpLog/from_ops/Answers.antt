use Rattle.std.proofs.Common.{◌≡◌, ◌∙◌, ◌∷◌, [], sym, ap, subst, inl, inr, List, refl, arith, length}
use Rattle.std.specs.Vec.Iter.{into_iter_items}
use Rattle.rt_ops.specs.Operations.{Operation}
use Rattle.rt_oplog.specs.Logs.{pushed}
use Rattle.rt_oplog.specs.Outcomes.{IsLogOf}
use Rattle.rt_oplog.proofs.LogsOf.{all_of, log_of_more, next_of, refused_at}
use Rattle.rt_oplog.proofs.log.OpLog.from_ops.Goals as goal

empty : (ops : List Operation) → length ops ≡ 0 → ops ≡ []
empty [] h = refl
empty (op ∷ ops) h = absurd (omega (arith, h))

pub loop-op-init : goal.loop-op-init
loop-op-init c = record {
  left = c.into_iter-op-iterator.ensures.into_iter_gives.0;
  are = rw c.new-log.ensures (record { is_log = record { falling = tt; sound = λ op i. absurd i; free = λ p q i. absurd i }; members = λ op. (λ i. i, λ i. i) });
}

pub loop-op-preserved : goal.loop-op-preserved
loop-op-preserved c =
    let ops = c.args.ops.items in
    let i = c.loop-op.place in
    let rest = into_iter_items c.next.new.self in
    let first : into_iter_items c.loop-op.op-iterator ≡ c.in-Some.op ∷ rest = c.in-Some.ensures.steps.0 in
    let next = next_of ops rest i c.in-Some.op (sym c.loop-op.invariant.left ∙ first) in
    record {
      left = sym next.2;
      are = log_of_more ops i c.loop-op.log.operations c.push.new.self.operations next.0 c.loop-op.invariant.are c.soundness.ensures.log
          (ap (λ o. pushed o c.loop-op.log.operations) next.1 ∙ c.in_default.ensures.0);
    }

pub overflow_add-place : goal.overflow_add-place
overflow_add-place c =
    let next = next_of c.args.ops.items (into_iter_items c.next.new.self) c.loop-op.place c.in-Some.op (sym c.loop-op.invariant.left ∙ c.in-Some.ensures.steps.0) in
    omega (arith, next.0, c.args.ops.ok.0)

pub returns-in-Err : goal.returns-in-Err
returns-in-Err c =
    let ops = c.args.ops.items in
    let i = c.loop-op.place in
    let log = c.loop-op.log.operations in
    let next = next_of ops (into_iter_items c.next.new.self) i c.in-Some.op (sym c.loop-op.invariant.left ∙ c.in-Some.ensures.steps.0) in
    refused_at ops i log c.in-Err.fault next.0 c.loop-op.invariant.are
    (elim c.in-Err.ensures.2 [ inl e ↦ inr (ap (λ o. pushed o log) next.1 ∙ e) | inr m ↦ inl m.0 ])

pub returns : goal.returns
returns c = subst (λ ops. IsLogOf ops c.loop-op.log.operations) (all_of c.args.ops.items c.loop-op.place (sym c.loop-op.invariant.left ∙ empty (into_iter_items c.loop-op.op-iterator) (omega (arith, c.in-None.ensures.steps.0, c.loop-op.op-iterator.rest.ok.0)))) c.loop-op.invariant.are
