use Rattle.std.proofs.Common.{◌∙◌, Option, Ok, ap, sym}
use Rattle.rt_marks.specs.Marks.{without_all}
use Rattle.rt_stamps.specs.declared.fault.Fault.{Fault}
use Rattle.rt_stamps.specs.Outcomes.{unless}
use Rattle.rt_text.specs.Widgets.{ViewValue, with_marks}
use Rattle.rt_stamps.proofs.Names.{none_found}
use Rattle.rt_stamps.specs.Words.{as_words}
use Rattle.rt_tagcmd.proofs.mark.mark_unset.Goals as goal

pub returns-clause-ok : goal.returns-clause-ok
returns-clause-ok g c =
    let view = c.args.view.now in
    let left : ViewValue = with_marks view (without_all (as_words c.args.names.now) view.doc.marks) in
    ap (λ (o : Option Fault). unless o left) (none_found _ _ (sym c.check_names.ensures ∙ c.in_ok-check_names.was))
    ∙ ap (λ (v : ViewValue). Ok v) (sym c.unset_marks.ensures)
