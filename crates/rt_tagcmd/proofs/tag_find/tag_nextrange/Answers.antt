use Rattle.std.proofs.Common.{All, Option, subst, sym}
use Rattle.std.specs.Prelude.{option_to_list}
use Rattle.rt_text.specs.Widgets.{length_shown}
use Rattle.rt_plans.specs.declared.range.Range.{Range}
use Rattle.rt_tagcmd.proofs.TagFinds.{LiesWithin, next_within}
use Rattle.rt_tagcmd.proofs.tag_find.tag_nextrange.Goals as goal

pub found_ends-requires : goal.found_ends-requires
found_ends-requires g c =
    let view = c.args.view.now in
    subst (λ (range : Option Range). All (LiesWithin (length_shown view)) (option_to_list range)) (sym c.next_range.ensures)
    (next_within view c.args.name.now c.in_ok-from.from c.in_ok-from.to)
