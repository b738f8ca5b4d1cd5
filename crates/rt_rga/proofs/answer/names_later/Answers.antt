use Rattle.std.proofs.Common.{◌≡◌, ◌∙◌, List, ap, not, false, sym}
use Rattle.std.specs.List.{list_all, list_any}
use Rattle.rt_stamps.specs.declared.stamp.Span.{Span}
use Rattle.rt_stamps.specs.declared.stamp.Stamp.{Stamp}
use Rattle.rt_ops.specs.Edits.{body_of}
use Rattle.rt_ops.specs.Operations.{named, stamps_in, stamps_of_span}
use Rattle.rt_rga.specs.Answers.{can_never_be_known}
use Rattle.rt_rga.specs.Histories.{is_known}
use Rattle.rt_rga.specs.Kept.{goes_past}
use Rattle.rt_rga.proofs.Answering.{one_stamp, past_in, past_is}
use Rattle.rt_rga.proofs.answer.names_later.Goals as goal

pub returns-in-Insert : goal.returns-in-Insert
returns-in-Insert c =
    let set = c.args.log.now.operations in
    let op = c.args.op.now in
    let after = c.in-Insert.after in
    let span : Span = record { site = after.site; first = after.count; last = after.count } in
    let body = sym c.edit.ensures.body ∙ ap body_of c.in-Insert.is in
    let names : stamps_of_span span ≡ named op.body = one_stamp after ∙ sym (ap named body) in
    let free : list_any (can_never_be_known set op) (stamps_of_span span) ≡ false = ap (λ (ss : List Stamp). list_any (can_never_be_known set op) ss) names ∙ c.requires.targets in
    c.goes_past.ensures ∙ ap (goes_past set) c.of.ensures ∙ past_is set op span free ∙ ap (λ (ss : List Stamp). not (list_all (is_known set op.body) ss)) names

pub returns-in-Delete : goal.returns-in-Delete
returns-in-Delete c =
    let set = c.args.log.now.operations in
    let op = c.args.op.now in
    let spans = c.in-Delete.spans.items in
    let names : stamps_in spans ≡ named op.body = sym (ap named (sym c.edit.ensures.body ∙ ap body_of c.in-Delete.is)) in
    let free : list_any (can_never_be_known set op) (stamps_in spans) ≡ false = ap (λ (ss : List Stamp). list_any (can_never_be_known set op) ss) names ∙ c.requires.targets in
    c.any_goes_past.ensures ∙ ap (λ (xs : List Span). list_any (goes_past set) xs) c.deref.ensures.value ∙ past_in set op spans free ∙ ap (λ (ss : List Stamp). not (list_all (is_known set op.body) ss)) names

pub returns-in-Tag : goal.returns-in-Tag
returns-in-Tag c =
    let set = c.args.log.now.operations in
    let op = c.args.op.now in
    let spans = c.in-Tag.spans.items in
    let names : stamps_in spans ≡ named op.body = sym (ap named (sym c.edit.ensures.body ∙ ap body_of c.in-Tag.is)) in
    let free : list_any (can_never_be_known set op) (stamps_in spans) ≡ false = ap (λ (ss : List Stamp). list_any (can_never_be_known set op) ss) names ∙ c.requires.targets in
    c.any_goes_past-in-Tag.ensures ∙ ap (λ (xs : List Span). list_any (goes_past set) xs) c.deref-in-Tag.ensures.value ∙ past_in set op spans free ∙ ap (λ (ss : List Stamp). not (list_all (is_known set op.body) ss)) names
