use Rattle.std.proofs.Common.{◌∙◌, ◌==◌, ◌&&◌, ap, arith, not, sym}
use Rattle.std.proofs.lemmas.Bool.Decides.{nat_tests}
use Rattle.std.specs.Prelude.{string_bytes}
use Rattle.std.specs.List.{list_any}
use Rattle.rt_stamps.specs.Words.{as_words}
use Rattle.rt_ops.specs.Edits.{body_of}
use Rattle.rt_ops.specs.Operations.{Insert, Tag, stamps_of_span}
use Rattle.rt_rga.specs.Histories.{may_name}
use Rattle.rt_rga.proofs.Answering.{other_is}
use Rattle.rt_rga.proofs.answer.names_other.Goals as goal

pub returns-in-Insert : goal.returns-in-Insert
returns-in-Insert c =
    let span = c.args.span in
    let o = c.of.ensures in
    c.ne.ensures ∙ (λ i. not ((span.site == (o i).site) && ((span.first == (o i).first) && (span.last == (o i).last)))) ∙ (let z = c.requires in grind (arith, nat_tests, z))
    ∙ sym (ap (λ b. list_any (λ s. not (may_name b s)) (stamps_of_span span)) (ap body_of c.in-Insert.is) ∙ other_is (Insert c.in-Insert.after (as_words c.in-Insert.tags.items) c.in-Insert.text) span c.requires (omega arith))

pub returns-in-Tag : goal.returns-in-Tag
returns-in-Tag c =
    let span = c.args.span in
    let o = c.of-in-Tag.ensures in
    c.ne-in-Tag.ensures ∙ (λ i. not ((span.site == (o i).site) && ((span.first == (o i).first) && (span.last == (o i).last)))) ∙ (let z = c.requires in grind (arith, nat_tests, z))
    ∙ sym (ap (λ b. list_any (λ s. not (may_name b s)) (stamps_of_span span)) (ap body_of c.in-Tag.is) ∙ other_is (Tag c.in-Tag.on (string_bytes c.in-Tag.name) c.in-Tag.spans.items) span c.requires (omega arith))
