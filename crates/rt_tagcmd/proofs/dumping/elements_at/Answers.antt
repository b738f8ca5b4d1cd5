use Rattle.std.proofs.Common.{◌≡◌, ◌≤◌, ◌∙◌, ◌∷◌, ◌++◌, [], ap, append_assoc, map, subst, sym}
use Rattle.std.specs.List.{All}
use Rattle.std.specs.Vec.Iter.{into_iter_items}
use Rattle.std.proofs.lemmas.List.Elements.{All-tail}
use Rattle.rt_stamps.specs.Places.{position_at}
use Rattle.rt_text.specs.Widgets.{length_shown, text_shown}
use Rattle.rt_tagcmd.specs.Elements.{Placed, answered}
use Rattle.rt_tagcmd.proofs.Pushing.{at_its_place}
use Rattle.rt_tagcmd.proofs.dumping.elements_at.Goals as goal

pub loop-element-preserved : goal.loop-element-preserved
loop-element-preserved g c =
    let view = c.args.view.now in
    let element : Placed = c.in-Some.element in
    let rest = into_iter_items c.next.new.self in
    let old = c.loop-element.elements.items in
    let first : into_iter_items c.loop-element.element-iterator ≡ element ∷ rest = c.in-Some.ensures.steps.0 in
    let made = at_its_place (text_shown view) element c.position-position.result c.at.result c.at.ensures (c.position-position.ensures ∙ ap (position_at (text_shown view)) c.place.ensures) in
    record {
      within = All-tail (λ e. e.place ≤ length_shown view) element rest (subst (All (λ (e : Placed). e.place ≤ length_shown view)) first c.loop-element.invariant.within);
      elements = ap (λ v. v ++ map (answered (text_shown view)) rest) (c.in_ok-push.ensures.items ∙ ap (λ x. old ++ x ∷ []) made)
          ∙ append_assoc old (answered (text_shown view) element ∷ []) (map (answered (text_shown view)) rest)
          ∙ ap (λ v. old ++ map (answered (text_shown view)) v) (sym first) ∙ c.loop-element.invariant.elements;
    }
