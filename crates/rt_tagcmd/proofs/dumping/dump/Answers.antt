use Rattle.std.proofs.Common.{◌≤◌, ◌∙◌, ◌++◌, Ok, ap, map, subst, sym}
use Rattle.std.specs.List.{All}
use Rattle.std.specs.Prelude.{option_copied}
use Rattle.std.proofs.lemmas.Result.{IfOk-weaker}
use Rattle.rt_tagcmd.specs.Dumping.{others_asked}
use Rattle.rt_tagcmd.specs.Elements.{Placed, answered, if_asked, text_values}
use Rattle.rt_text.specs.Widgets.{length_shown, text_shown}
use Rattle.rt_tagcmd.proofs.Dumps.{dump_given, elements_low}
use Rattle.rt_tagcmd.proofs.dumping.dump.Goals as goal

pub elements_at-requires : goal.elements_at-requires
elements_at-requires g c =
    let view = c.args.view.now in
    let kinds = c.args.kinds in
    let from = c.in_ok-from.from in
    let to = c.in_ok-to.to in
    let others = others_asked view kinds in
    subst (All (λ (e : Placed). e.place ≤ length_shown view)) (sym c.in_ok-all.ensures.ok)
    (elements_low (length_shown view) from to (others ++ if_asked kinds.text (text_values (text_shown view) others from to)) c.in_ok-to.ensures.within)

pub returns-clause-ok : goal.returns-clause-ok
returns-clause-ok g c =
    let view = c.args.view.now in
    let given = dump_given view c.args.kinds c.args.from.now (option_copied c.args.to) c.in_ok-from.from c.in_ok-to.to c.in_ok-from.ensures.ok c.in_ok-to.ensures.checked c.in_ok-to.ensures.ok in
    IfOk-weaker c.elements_at.result _ _ (λ elements h. given ∙ ap (λ v. Ok v) (sym (h ∙ ap (map (answered (text_shown view))) c.in_ok-all.ensures.ok))) c.elements_at.ensures.ok
