-- Marks after changes of a text.
use Rattle.std.proofs.Common.{◌≡◌, ◌∙◌, ℕ, zero, suc, ◌+◌, ◌<◌, ◌≤◌, Bool, true, false, cond, List, [], ◌∷◌, length, drop, get_or, map, refl, sym, ap, subst, arith}
use Rattle.std.specs.List.{AllByRecursion}
use Rattle.std.proofs.lemmas.List.{drop_more}
use Rattle.std.proofs.lemmas.List.Elements.{All-from_recursion, All-get_or}
use Rattle.rt_marks.specs.Marks.{Mark, is_moved_on, mark_left, marks_inserted, place_left}
use Rattle.rt_marks.proofs.InOrder.{each_in_order}
use Rattle.rt_plans.specs.Removals.{is_covered}
use Rattle.rt_revert.specs.declared.plan.TextChange.{TextChange}
use Rattle.rt_revert.specs.declared.plan.TextChange.TheVariants.{Inserted, Removed as Gone}
use Rattle.rt_revert.specs.Plans.{IsTextChange, marks_after, marks_changed}
use Rattle.rt_text.specs.Changes.{widget_after, widget_changed}
use Rattle.rt_text.specs.Widgets.{WidgetValue, widget_inserted, widget_without}

-- OWN MARKS

-- an own mark moves as the only mark of a site would
pub insert_alone : (changes : List TextChange) (own : WidgetValue) → marks_after changes (own.insert ∷ []) ≡ (widget_after changes own).insert ∷ []
insert_alone [] own = refl
insert_alone (Gone ranges ∷ changes) own = insert_alone changes (widget_without (is_covered ranges.items) own)
insert_alone (Inserted place ∷ changes) own = insert_alone changes (widget_inserted place 1 own)

pub current_alone : (changes : List TextChange) (own : WidgetValue) → marks_after changes (own.current ∷ []) ≡ (widget_after changes own).current ∷ []
current_alone [] own = refl
current_alone (Gone ranges ∷ changes) own = current_alone changes (widget_without (is_covered ranges.items) own)
current_alone (Inserted place ∷ changes) own = current_alone changes (widget_inserted place 1 own)

-- and what is selected stays so
pub still_selected : (changes : List TextChange) (own : WidgetValue) → (widget_after changes own).sel ≡ own.sel
still_selected [] own = refl
still_selected (Gone ranges ∷ changes) own = still_selected changes (widget_without (is_covered ranges.items) own)
still_selected (Inserted place ∷ changes) own = still_selected changes (widget_inserted place 1 own)

-- as do its limits
pub still_limited : (changes : List TextChange) (own : WidgetValue) → (widget_after changes own).limits ≡ own.limits
still_limited [] own = refl
still_limited (Gone ranges ∷ changes) own = still_limited changes (widget_without (is_covered ranges.items) own)
still_limited (Inserted place ∷ changes) own = still_limited changes (widget_inserted place 1 own)

-- ROOM FOR PLACES

left_within : (removed : ℕ → Bool) (p : ℕ) → place_left removed p ≤ p
left_within removed zero = omega arith
left_within removed (suc p) = by (removed p) (place_left removed p) (left_within removed p)
  where
    by : (b : Bool) (q : ℕ) → q ≤ p → q + cond b 0 1 ≤ suc p
    by true q h = omega arith
    by false q h = omega arith

moved_within : (b : Bool) (p n most : ℕ) → p + suc n ≤ most → cond b (p + 1) p + n ≤ most
moved_within true p n most h = omega arith
moved_within false p n most h = omega arith

abbrev pub HaveRoom : ℕ → ℕ → List Mark → Type 0
HaveRoom n most marks = AllByRecursion (λ m. m.place + n ≤ most) marks

pub less_room : (k n most : ℕ) (marks : List Mark) → k ≤ n → HaveRoom n most marks → HaveRoom k most marks
less_room k n most [] l h = tt
less_room k n most (m ∷ marks) l h = (omega (arith, h.0), less_room k n most marks l h.1)

left_room : (removed : ℕ → Bool) (n most : ℕ) (marks : List Mark) → HaveRoom (suc n) most marks → HaveRoom n most (map (mark_left removed) marks)
left_room removed n most [] h = tt
left_room removed n most (m ∷ marks) h = (omega (arith, h.0, left_within removed m.place), left_room removed n most marks h.1)

inserted_room : (place n most : ℕ) (marks : List Mark) → HaveRoom (suc n) most marks → HaveRoom n most (marks_inserted place 1 marks)
inserted_room place n most [] h = tt
inserted_room place n most (m ∷ marks) h = (moved_within (is_moved_on place m.place m.gravity) m.place n most h.0, inserted_room place n most marks h.1)

-- a change takes one place more at most
pub changed_room : (change : TextChange) (n most : ℕ) (marks : List Mark) → HaveRoom (suc n) most marks → HaveRoom n most (marks_changed change marks)
changed_room (Gone ranges) n most marks h =
    each_in_order (λ (m : Mark). m.place + n ≤ most) (map (mark_left (is_covered ranges.items)) marks) (left_room (is_covered ranges.items) n most marks h)
changed_room (Inserted place) n most marks h = inserted_room place n most marks h

pub insert_room : (change : TextChange) (n most : ℕ) (own : WidgetValue) → own.insert.place + suc n ≤ most → (widget_changed change own).insert.place + n ≤ most
insert_room (Gone ranges) n most own h = omega (arith, h, left_within (is_covered ranges.items) own.insert.place)
insert_room (Inserted place) n most own h = moved_within (is_moved_on place own.insert.place own.insert.gravity) own.insert.place n most h

pub current_room : (change : TextChange) (n most : ℕ) (own : WidgetValue) → own.current.place + suc n ≤ most → (widget_changed change own).current.place + n ≤ most
current_room (Gone ranges) n most own h = omega (arith, h, left_within (is_covered ranges.items) own.current.place)
current_room (Inserted place) n most own h = moved_within (is_moved_on place own.current.place own.current.gravity) own.current.place n most h

-- ONE CHANGE OF MANY

-- the changes from one on are it and those behind it
pub changes_from : (changes : List TextChange) (i : ℕ) (change : TextChange) → i < length changes → change ≡ get_or changes i change → drop i changes ≡ change ∷ drop (i + 1) changes
changes_from changes i change h e = drop_more changes i change h ∙ ap (λ t. t ∷ drop (i + 1) changes) (sym e)

pub change_here : (changes : List TextChange) (i : ℕ) (change : TextChange) → i < length changes → change ≡ get_or changes i change → AllByRecursion IsTextChange changes → IsTextChange change
change_here changes i change h e all = subst IsTextChange (sym e) (All-get_or IsTextChange changes i change h (All-from_recursion IsTextChange changes all))

pub left_more : (changes : List TextChange) (i : ℕ) (change : TextChange) → i < length changes → change ≡ get_or changes i change → length (drop i changes) ≡ suc (length (drop (i + 1) changes))
left_more changes i change h e = ap length (changes_from changes i change h e)
