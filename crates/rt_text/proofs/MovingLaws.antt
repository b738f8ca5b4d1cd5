-- Ranges that are removed one after the other, from the last to the first.
use Rattle.std.proofs.Common.{◌≡◌, ℕ, zero, suc, ◌+◌, ◌-◌, ◌<◌, ◌≤◌, List, [], ◌∷◌, false, length, drop, get_or, sym, ap, ◌∙◌, subst, arith}
use Rattle.std.proofs.lemmas.List.{drop_more}
use Rattle.rt_marks.specs.Marks.{Mark, marks_removed, marks_left, place_removed, place_left, is_within_or}
use Rattle.rt_marks.proofs.Leaving.{marks_then, place_then}
use Rattle.rt_plans.specs.declared.range.Range.{Range}
use Rattle.rt_plans.specs.Removals.{is_covered, RangesFollow}
use Rattle.rt_text.specs.Widgets.{WidgetValue, widget_removed, widget_without}
use Rattle.rt_plans.proofs.StampLaws.{before_all, order_weaker}

order_drop : (place : ℕ) (ranges : List Range) (i : ℕ) → RangesFollow place ranges → RangesFollow 0 (drop i ranges)
order_drop place ranges zero h = order_weaker place 0 ranges (omega arith) h
order_drop place [] (suc i) h = tt
order_drop place (range ∷ ranges) (suc i) h = order_drop range.to ranges i h.2

-- a range and those behind it
order_from : (ranges : List Range) (i : ℕ) (d : Range) → i < length ranges → RangesFollow 0 ranges → RangesFollow 0 (get_or ranges i d ∷ drop (i + 1) ranges)
order_from ranges i d h k = subst (RangesFollow 0) (drop_more ranges i d h) (order_drop 0 ranges i k)

pub forward_at : (ranges : List Range) (i : ℕ) (d : Range) → i < length ranges → RangesFollow 0 ranges → (get_or ranges i d).from ≤ (get_or ranges i d).to
forward_at ranges i d h k = let o = order_from ranges i d h k in omega (arith, o.1)

not_later : (ranges : List Range) (i : ℕ) (d : Range) → i < length ranges → RangesFollow 0 ranges → (p : ℕ) → p < (get_or ranges i d).to → is_covered (drop (i + 1) ranges) p ≡ false
not_later ranges i d h k p lt = let o = order_from ranges i d h k in before_all (get_or ranges i d).to (drop (i + 1) ranges) p o.2 lt

-- the ranges from one on are the one and those behind it
covers : (ranges : List Range) (i : ℕ) (d : Range) → i < length ranges
    → is_within_or (get_or ranges i d).from (get_or ranges i d).to (is_covered (drop (i + 1) ranges)) ≡ is_covered (drop i ranges)
covers ranges i d h = ap is_covered (sym (drop_more ranges i d h))

pub marks_back : (ranges : List Range) (i : ℕ) (d : Range) (marks : List Mark) → i < length ranges → RangesFollow 0 ranges
    → marks_removed (get_or ranges i d).from ((get_or ranges i d).to - (get_or ranges i d).from) (marks_left (is_covered (drop (i + 1) ranges)) marks) ≡ marks_left (is_covered (drop i ranges)) marks
marks_back ranges i d marks h k =
    let range = get_or ranges i d in
    marks_then (is_covered (drop (i + 1) ranges)) range.from range.to (not_later ranges i d h k) marks ∙ ap (λ r. marks_left r marks) (covers ranges i d h)

pub place_back : (ranges : List Range) (i : ℕ) (d : Range) (p : ℕ) → i < length ranges → RangesFollow 0 ranges
    → place_removed (get_or ranges i d).from ((get_or ranges i d).to - (get_or ranges i d).from) (place_left (is_covered (drop (i + 1) ranges)) p) ≡ place_left (is_covered (drop i ranges)) p
place_back ranges i d p h k =
    let range = get_or ranges i d in
    place_then (is_covered (drop (i + 1) ranges)) range.from range.to (not_later ranges i d h k) p ∙ ap (λ r. place_left r p) (covers ranges i d h)

pub own_back : (ranges : List Range) (i : ℕ) (d : Range) (own : WidgetValue) → i < length ranges → RangesFollow 0 ranges
    → widget_removed (get_or ranges i d).from ((get_or ranges i d).to - (get_or ranges i d).from) (widget_without (is_covered (drop (i + 1) ranges)) own) ≡ widget_without (is_covered (drop i ranges)) own
own_back ranges i d own h k =
    λ j. record own {
      insert = record own.insert { place = place_back ranges i d own.insert.place h k j };
      current = record own.current { place = place_back ranges i d own.current.place h k j };
    }
