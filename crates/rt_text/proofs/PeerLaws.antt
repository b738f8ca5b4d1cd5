-- The other widgets of a site, each by the rule of its marks and of what it has selected.
use Rattle.std.proofs.Common.{◌≡◌, ℕ, ◌+◌, ◌<◌, ◌≤◌, Bool, All, List, [], ◌∷◌, Option, None, length, map, drop, get_or, refl, ap, arith}
use Rattle.std.specs.List.{AllByRecursion}
use Rattle.std.proofs.lemmas.List.Elements.{All-cons, All-nil}
use Rattle.rt_stamps.specs.declared.stamp.Stamp.{Stamp}
use Rattle.rt_plans.specs.declared.inserting.Between.{Between}
use Rattle.rt_plans.specs.InsertionPlans.{selected_between}
use Rattle.rt_plans.proofs.SelectionLaws.{same_here}
use Rattle.rt_text.specs.declared.widget.Widget.{Widget}
use Rattle.rt_text.specs.Owned.{widget_value}
use Rattle.rt_text.specs.Widgets.{IsOwnOf, WidgetValue, widget_inserted, widget_without, reselected, selections_of, with_selections}
use Rattle.rt_text.proofs.MarkLaws.{own_of_selecting}

-- what a loop hasn't reached yet is as it was
pub rest_same : (xs ys : List Widget) (i : ℕ) (d : Widget) → i < length xs → length ys ≡ length xs → drop i ys ≡ drop i xs → get_or ys i d ≡ get_or xs i d
rest_same xs ys i d lt len rest = same_here (λ (p : Widget). p) xs ys i d lt len rest

-- what is so of each is so of each that a rule makes of them
pub each_by : (P Q : WidgetValue → Type 0) (rule : WidgetValue → WidgetValue) → ((own : WidgetValue) → P own → Q (rule own)) → (widgets : List WidgetValue) → AllByRecursion P widgets → AllByRecursion Q (map rule widgets)
each_by P Q rule f [] h = tt
each_by P Q rule f (own ∷ widgets) h = (f own h.0, each_by P Q rule f widgets h.1)

-- they stand where they stood, whatever they have selected
pub each_selecting : (n : ℕ) (selections : List (List Stamp)) (widgets : List WidgetValue) → AllByRecursion (IsOwnOf n) widgets → AllByRecursion (IsOwnOf n) (with_selections selections widgets)
each_selecting n selections [] h = tt
each_selecting n [] (own ∷ widgets) h = h
each_selecting n (selection ∷ selections) (own ∷ widgets) h = (own_of_selecting n own selection h.0, each_selecting n selections widgets h.1)

-- there is room for places further on
pub each_room : (n k most : ℕ) (others : List Widget) → n + k ≤ most → AllByRecursion (IsOwnOf n) (map widget_value others)
    → All (λ (p : Widget). (p.insert.place + k ≤ most) × (p.current.place + k ≤ most)) others
each_room n k most [] f h = All-nil (λ (p : Widget). (p.insert.place + k ≤ most) × (p.current.place + k ≤ most))
each_room n k most (p ∷ others) f h =
    All-cons (λ (p : Widget). (p.insert.place + k ≤ most) × (p.current.place + k ≤ most)) p others (omega (arith, f, h.0.insert), omega (arith, f, h.0.current)) (each_room n k most others f h.1)

-- SELECTIONS

abbrev pub selecting : Option Between → WidgetValue → WidgetValue
selecting between own = reselected (selected_between between) own

pub none_selecting : (widgets : List WidgetValue) → map (selecting None) widgets ≡ widgets
none_selecting [] = refl
none_selecting (own ∷ widgets) = ap (λ l. own ∷ l) (none_selecting widgets)

-- selected first and moved then, they are as moved and given their selections
pub put_each : (place n : ℕ) (rule : List Stamp → List Stamp) (widgets : List WidgetValue) → map (widget_inserted place n) (map (reselected rule) widgets)
    ≡ with_selections (map rule (selections_of widgets)) (map (widget_inserted place n) widgets)
put_each place n rule [] = refl
put_each place n rule (own ∷ widgets) = ap (λ l. widget_inserted place n (reselected rule own) ∷ l) (put_each place n rule widgets)

pub leave_then : (removed : ℕ → Bool) (f : List Stamp → List Stamp) (widgets : List WidgetValue) → map (reselected f) (map (widget_without removed) widgets) ≡ map (λ own. reselected f (widget_without removed own)) widgets
leave_then removed f [] = refl
leave_then removed f (own ∷ widgets) = ap (λ l. reselected f (widget_without removed own) ∷ l) (leave_then removed f widgets)

-- given selections and moved then, in the order of a replacement, they are as moved and given these
pub leave_last : (removed : ℕ → Bool) (f : List Stamp → List Stamp) (between : Option Between) (widgets : List WidgetValue) → map (widget_without removed) (map (selecting between) (map (reselected f) widgets))
    ≡ map (selecting between) (map (λ own. reselected f (widget_without removed own)) widgets)
leave_last removed f between [] = refl
leave_last removed f between (own ∷ widgets) = ap (λ l. widget_without removed (selecting between (reselected f own)) ∷ l) (leave_last removed f between widgets)
