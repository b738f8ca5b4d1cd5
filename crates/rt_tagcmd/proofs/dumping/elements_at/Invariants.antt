use Rattle.std.proofs.Common.{◌≡◌, ◌≤◌, ◌++◌, map}
use Rattle.std.specs.List.{All}
use Rattle.std.specs.Vec.Iter.{into_iter_items}
use Rattle.rt_tagcmd.specs.Elements.{answered}
use Rattle.rt_text.specs.Widgets.{length_shown, text_shown}
use Rattle.rt_tagcmd.proofs.dumping.elements_at.Given as goal

abbrev pub invariant-loop-element : goal.invariant-loop-element
invariant-loop-element g l = record {
  within : All (λ e. e.place ≤ length_shown l.view) (into_iter_items l.element-iterator);
  elements : l.elements.items ++ map (answered (text_shown l.view)) (into_iter_items l.element-iterator) ≡ map (answered (text_shown l.view)) l.fn.all.items;
}
