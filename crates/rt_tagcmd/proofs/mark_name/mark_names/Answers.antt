use Rattle.std.proofs.Common.{◌∙◌, ap}
use Rattle.rt_stamps.specs.Words.{as_words}
use Rattle.rt_plans.specs.DocValue.{DocValue}
use Rattle.rt_tagcmd.specs.MarkCommands.{by_bytes, inserted_by_bytes}
use Rattle.rt_tagcmd.proofs.ByBytes.{listed_by_bytes, names_of}
use Rattle.rt_tagcmd.proofs.mark_name.mark_names.Goals as goal

pub returns-clause-ok : goal.returns-clause-ok
returns-clause-ok g c =
    let names = as_words c.in_ok-names.names.items in
    let all = listed_by_bytes names c.marks-marks.result.now c.order.ensures.own_names c.in_ok-names.ensures.by_bytes c.in_ok-names.ensures.all ∙ ap (λ v. by_bytes (names_of v)) (c.marks-marks.ensures.value ∙ ap (λ (d : DocValue). d.marks) c.doc.ensures) in
    let one = c.in_ok-add_name.ensures.ok ∙ (λ i. inserted_by_bytes (c.name.ensures i) (all i)) in
    c.in_ok-add_name-2.ensures.ok ∙ (λ i. inserted_by_bytes (c.name-2.ensures i) (one i))
