use Rattle.std.proofs.Common.{◌∙◌, Bool, List, ap, sym}
use Rattle.std.specs.List.{list_any}
use Rattle.rt_stamps.specs.declared.stamp.Span.{Span}
use Rattle.rt_stamps.specs.declared.stamp.Stamp.{Stamp}
use Rattle.rt_ops.specs.Edits.{body_of}
use Rattle.rt_ops.specs.Operations.{named, stamps_of_span}
use Rattle.rt_rga.specs.Answers.{can_never_be_known}
use Rattle.rt_rga.proofs.Answering.{any_in_spans, one_stamp}
use Rattle.rt_rga.proofs.answer.names_bad_target.Goals as goal

pub returns-in-Insert : goal.returns-in-Insert
returns-in-Insert g c =
    let p : Stamp → Bool = can_never_be_known c.args.log.now.operations c.args.op.now in
    let body = sym c.edit.ensures.body ∙ ap body_of c.in-Insert.is in
    c.has_bad_target.ensures ∙ ap (λ (span : Span). list_any p (stamps_of_span span)) c.of.ensures
    ∙ ap (λ (ss : List Stamp). list_any p ss) (one_stamp c.in-Insert.after ∙ sym (ap named body))

pub returns-in-Delete : goal.returns-in-Delete
returns-in-Delete g c =
    let p : Stamp → Bool = can_never_be_known c.args.log.now.operations c.args.op.now in
    let body = sym c.edit.ensures.body ∙ ap body_of c.in-Delete.is in
    c.have_bad_target.ensures ∙ ap (λ (spans : List Span). list_any (λ span. list_any p (stamps_of_span span)) spans) c.deref.ensures.value
    ∙ any_in_spans p c.in-Delete.spans.items ∙ ap (λ (ss : List Stamp). list_any p ss) (sym (ap named body))

pub returns-in-Tag : goal.returns-in-Tag
returns-in-Tag g c =
    let p : Stamp → Bool = can_never_be_known c.args.log.now.operations c.args.op.now in
    let body = sym c.edit.ensures.body ∙ ap body_of c.in-Tag.is in
    c.have_bad_target-in-Tag.ensures ∙ ap (λ (spans : List Span). list_any (λ span. list_any p (stamps_of_span span)) spans) c.deref-in-Tag.ensures.value
    ∙ any_in_spans p c.in-Tag.spans.items ∙ ap (λ (ss : List Stamp). list_any p ss) (sym (ap named body))
