use Rattle.std.proofs.Common.{◌≡◌, ◌∙◌, ◌<◌, ◌+◌, ◌∷◌, arith, ap, sym, drop, get_or, length}
use Rattle.std.proofs.lemmas.List.{drop_more}
use Rattle.rt_revert.specs.declared.plan.Return.{Return}
use Rattle.rt_lines.specs.declared.limits.Limits.{Limits}
use Rattle.rt_text.specs.Changes.{limits_after, widget_renamed}
use Rattle.rt_text.specs.Owned.{widget_value}
use Rattle.rt_text.specs.Widgets.{WidgetValue}
use Rattle.rt_text.proofs.widget.Widget.rename.Goals as goal

pub loop-r-preserved : goal.loop-r-preserved
loop-r-preserved c =
    let i = c.loop-r.r-index in
    let returns = c.args.returns.now in
    let own : WidgetValue = widget_value c.loop-r.self in
    let d : Return = record { former = record { count = 0; site = 0 }; newer = record { count = 0; site = 0 } } in
    let within : i < length returns = omega arith in
    let from : drop i returns ≡ get_or returns i d ∷ drop (i + 1) returns = drop_more returns i d within in
    record {
      own = ap (λ (limits : Limits). record own { limits = limits_after (drop (i + 1) returns) limits }) c.renamed-self.ensures
          ∙ sym (ap (λ rs. widget_renamed rs own) from) ∙ c.loop-r.invariant.own;
    }
