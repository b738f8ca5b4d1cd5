-- What a deletion answers, by the count that it would take.
use Rattle.std.proofs.Common.{◌≡◌, ◌⊎◌, inl, inr, ◌∙◌, List, ap, map, sym, Some, None, Ok}
use Rattle.rt_stamps.specs.declared.fault.Fault.{Fault}
use Rattle.rt_stamps.specs.declared.fault.Fault.TheVariants.{NoMemory}
use Rattle.rt_stamps.specs.Outcomes.{first_of, unless, Refuses}
use Rattle.rt_stamps.specs.Words.{Word}
use Rattle.rt_plans.specs.declared.range.Range.{Range}
use Rattle.rt_text.specs.Commands.{clock_check, view_deleted, without_ranges, got_list}
use Rattle.rt_text.specs.Index.{index_check, place_at_index}
use Rattle.rt_text.specs.Ranges.{ranges_of, texts_of}
use Rattle.rt_text.specs.Widgets.{ViewValue, widget_of, text_shown}
use Rattle.rt_text.proofs.Deletions.{deleted_by}

module _ (view : ViewValue) (indices : List Word) (ranges : List Range) (checked : first_of (map (index_check (widget_of view)) indices) ≡ None)
    (read : ranges ≡ ranges_of (map (place_at_index (widget_of view)) indices)) where
  -- the ranges, as they were read
  deleted_of : view_deleted view indices ≡ unless (clock_check (without_ranges view ranges).doc.count) (without_ranges view ranges)
  deleted_of = deleted_by view indices checked ∙ ap (λ (x : ViewValue). unless (clock_check x.doc.count) x) (ap (without_ranges view) (sym read))

  -- a deletion that is done
  pub deleted_ok : (new : ViewValue) → without_ranges view ranges ≡ new → clock_check new.doc.count ≡ None → view_deleted view indices ≡ Ok new
  deleted_ok new made fits = deleted_of ∙ ap (λ (x : ViewValue). unless (clock_check x.doc.count) x) made ∙ ap (λ o. unless o new) fits

  -- a deletion that is refused
  pub deleted_refused : (fault : Fault) → (fault ≡ NoMemory) ⊎ (clock_check (without_ranges view ranges).doc.count ≡ Some fault) → Refuses (view_deleted view indices) fault
  deleted_refused fault (inl e) = inl e
  deleted_refused fault (inr e) = inr (deleted_of ∙ ap (λ o. unless o (without_ranges view ranges)) e)

-- the texts of ranges whose indices are refused
pub list_refused : (view : ViewValue) (indices : List Word) (fault : Fault) → (fault ≡ NoMemory) ⊎ (first_of (map (index_check (widget_of view)) indices) ≡ Some fault) → Refuses (got_list view indices) fault
list_refused view indices fault (inl e) = inl e
list_refused view indices fault (inr e) = inr (ap (λ o. unless o (texts_of (text_shown view) (ranges_of (map (place_at_index (widget_of view)) indices)))) e)
