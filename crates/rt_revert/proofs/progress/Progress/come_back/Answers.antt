use Rattle.std.proofs.Common.{◌∙◌, Some, ap, arith, cond}
use Rattle.rt_stamps.specs.Stamps.{is_same}
use Rattle.rt_spans.specs.Shown.{is_in_span, value_of}
use Rattle.rt_revert.specs.Portions.{offset_behind}
use Rattle.rt_revert.proofs.OffsetLaws.{behind_small, offset_kept, set_offset}
use Rattle.rt_revert.proofs.progress.Progress.come_back.Goals as goal

pub overflow_add-whole : goal.overflow_add-whole
overflow_add-whole c = omega (arith, c.requires.place, c.offset_behind-offset.ensures, behind_small c.args.self.now.offsets c.args.former c.requires.offsets)

pub returns-clause-offsets : goal.returns-clause-offsets
returns-clause-offsets c s =
    let kept = c.reserve-2.new.self in
    set_offset kept c.set.new.self c.args.newer (offset_behind c.args.self.now.offsets c.args.former)
    (λ t. c.set.ensures.values t ∙ (λ i. cond (is_in_span (c.of-2.ensures i) t) (Some (c.offset_behind-offset.ensures i)) (value_of kept t))) s
    ∙ ap (λ n. cond (is_same s c.args.newer) (offset_behind c.args.self.now.offsets c.args.former) n) (offset_kept c.args.self.now.offsets kept c.in_ok-reserve-2.ensures.values s)
