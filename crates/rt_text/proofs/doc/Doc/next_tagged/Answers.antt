use Rattle.std.proofs.Common.{◌∙◌, refl}
use Rattle.rt_plans.specs.Selected.{selected_stamps}
use Rattle.rt_text.specs.Owned.{widget_value}
use Rattle.rt_text.specs.Widgets.{is_tagged_in}
use Rattle.rt_text.proofs.LimitedTags.{next_kept}
use Rattle.rt_text.proofs.doc.Doc.next_tagged.Goals as goal

pub returns : goal.returns
returns g c =
    c.next_within.ensures
    ∙ next_kept c.kept.result.1.now (g.S.TextStore.list c.kept.result.0.now) c.args.self.now.cells c.limits.result c.stretch-stretch.result (selected_stamps c.args.widget.now.selection) (widget_value c.args.widget.now) (λ stamps. is_tagged_in stamps c.args.name.now) c.args.place
    c.kept.ensures.cells c.stretch-stretch.ensures.value c.limits.ensures refl
