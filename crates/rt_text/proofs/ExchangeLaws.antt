-- One of some widgets: another put in its place, or taken away.
use Rattle.std.proofs.Common.{◌≡◌, ℕ, zero, suc, List, [], ◌∷◌, Some, ap, map, refl, set, subst}
use Rattle.std.specs.List.{AllByRecursion, remove}
use Rattle.std.specs.Prelude.{slice_get}
use Rattle.rt_text.specs.Widgets.{WidgetValue}

pub each_set : (P : WidgetValue → Type 0) (widgets : List WidgetValue) (i : ℕ) (own : WidgetValue) → P own → AllByRecursion P widgets → AllByRecursion P (set widgets i own)
each_set P [] i own p h = tt
each_set P (w ∷ widgets) zero own p h = (p, h.1)
each_set P (w ∷ widgets) (suc i) own p h = (h.0, each_set P widgets i own p h.1)

pub each_at : (P : WidgetValue → Type 0) (widgets : List WidgetValue) (i : ℕ) (own : WidgetValue) → slice_get widgets i ≡ Some own → AllByRecursion P widgets → P own
each_at P [] i own e h = absurd (cc e)
each_at P (w ∷ widgets) zero own e h =
    let same : w ≡ own = cc e in
    subst P same h.0
each_at P (w ∷ widgets) (suc i) own e h = each_at P widgets i own e h.1

-- of some widgets all but one
pub each_removed : (P : WidgetValue → Type 0) (widgets : List WidgetValue) (i : ℕ) → AllByRecursion P widgets → AllByRecursion P (remove widgets i)
each_removed P [] zero h = tt
each_removed P [] (suc i) h = tt
each_removed P (w ∷ widgets) zero h = h.1
each_removed P (w ∷ widgets) (suc i) h = (h.0, each_removed P widgets i h.1)

-- what each of all but one is
pub map_removed : {T : Type 0} (f : T → WidgetValue) (items : List T) (i : ℕ) → map f (remove items i) ≡ remove (map f items) i
map_removed f [] zero = refl
map_removed f [] (suc i) = refl
map_removed f (x ∷ items) zero = refl
map_removed f (x ∷ items) (suc i) = ap (λ (owns : List WidgetValue). f x ∷ owns) (map_removed f items i)
