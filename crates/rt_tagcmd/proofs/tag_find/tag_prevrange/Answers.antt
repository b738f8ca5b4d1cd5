use Rattle.std.proofs.Common.{All, Option, subst, sym}
use Rattle.std.specs.Prelude.{option_to_list}
use Rattle.rt_text.specs.Widgets.{length_shown}
use Rattle.rt_plans.specs.declared.range.Range.{Range}
use Rattle.rt_tagcmd.proofs.TagFinds.{LiesWithin, previous_within}
use Rattle.rt_tagcmd.proofs.tag_find.tag_prevrange.Goals as goal

pub found_ends-requires : goal.found_ends-requires
found_ends-requires g c =
    let view = c.args.view.now in
    subst (λ (range : Option Range). All (LiesWithin (length_shown view)) (option_to_list range)) (sym c.previous_range.ensures)
    (previous_within view c.args.name.now c.in_ok-to.to c.in_ok-to.from)
