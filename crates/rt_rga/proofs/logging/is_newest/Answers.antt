use Rattle.std.proofs.Common.{◌≡◌, ◌∙◌, ◌-◌, ap, arith, length, reverse, slice_get, sym, true}
use Rattle.rt_stamps.specs.declared.stamp.Stamp.{Stamp}
use Rattle.rt_stamps.specs.Stamps.{is_before}
use Rattle.rt_ops.specs.Operations.{stamp_of}
use Rattle.rt_rga.proofs.Drafting.{all_before_newest, older_by_count, older_of_none}
use Rattle.rt_rga.proofs.logging.is_newest.Goals as goal

pub returns-then-last-stamp : goal.returns-then-last-stamp
returns-then-last-stamp c e =
    older_by_count c.args.op.now c.args.log.now.operations (omega (arith, c.if-last-stamp.true, c.requires.last, ap (λ (s : Stamp). s.count) c.stamp-stamp.ensures))

pub returns-then-all-eq0 : goal.returns-then-all-eq0
returns-then-all-eq0 c e = older_of_none c.args.op.now c.args.log.now.operations (sym c.len-all.ensures ∙ c.if-all-eq0.true)

pub returns-else-all-eq0 : goal.returns-else-all-eq0
returns-else-all-eq0 c e =
    let set = c.args.log.now.operations in
    all_before_newest c.args.op.now _ set c.requires.history
    (ap (λ n. slice_get (reverse set) (n - 1)) (sym c.len-all.ensures) ∙ c.get.ensures.is)
    (sym (ap (is_before c.get.result.stamp) c.stamp-stamp.ensures) ∙ sym c.is_before.ensures ∙ e)
