use Rattle.std.proofs.Common.{◌≡◌, ◌++◌, map, take}
use Rattle.rt_tagcmd.specs.declared.element.Key.TheVariants.{Mark}
use Rattle.rt_tagcmd.specs.Elements.{element_at}
use Rattle.rt_marks.specs.Seen.{spotted}
use Rattle.rt_tagcmd.proofs.dumped_marks.push_marks.Given as goal

abbrev pub invariant-loop-mark : goal.invariant-loop-mark
invariant-loop-mark g l = l.elements.items ≡ l.fn.elements.items ++ map (λ m. element_at Mark m.name m.place) (map spotted (take l.mark-index l.mark-items))
