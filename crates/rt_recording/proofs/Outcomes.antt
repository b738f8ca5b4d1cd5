-- What commands that are made leave of a log.
use Rattle.std.proofs.Common.{◌≡◌, ◌∷◌, ◌++◌, [], List, None, Option, Some, Ok, map, refl, subst}
use Rattle.rt_stamps.specs.declared.fault.Fault.{Fault}
use Rattle.rt_stamps.specs.Names.{name_check}
use Rattle.rt_stamps.specs.Outcomes.{first_of, unless}
use Rattle.rt_stamps.specs.Words.{Word}
use Rattle.rt_plans.specs.declared.range.Range.{Range}
use Rattle.rt_plans.specs.Insertions.{Piece}
use Rattle.rt_text.specs.Commands.{view_deleted, view_inserted, insertion_place, names_in, view_replaced, with_pieces_at, with_range_replaced, without_ranges}
use Rattle.rt_text.specs.Index.{index_check, place_at_index}
use Rattle.rt_text.specs.Ranges.{ranges_of}
use Rattle.rt_text.specs.Widgets.{ViewValue, widget_of}
use Rattle.rt_text.proofs.Growing.{Grows, put_grows, replaced_grows, without_grows}

-- CHECKS

pub passed : {T : Type 0} (check : Option Fault) (value new : T) → unless check value ≡ Ok new → check ≡ None
passed None value new h = refl
passed (Some fault) value new h = absurd (cc h)

pub given : {T : Type 0} (check : Option Fault) (value new : T) → unless check value ≡ Ok new → value ≡ new
given None value new h = cc
given (Some fault) value new h = absurd (cc h)

none_after : (front back : List (Option Fault)) → first_of (front ++ back) ≡ None → first_of back ≡ None
none_after [] back h = h
none_after (None ∷ front) back h = none_after front back h
none_after (Some fault ∷ front) back h = absurd (cc h)

none_first : (check : Option Fault) (checks : List (Option Fault)) → first_of (check ∷ checks) ≡ None → (check ≡ None) × (first_of checks ≡ None)
none_first None checks h = (refl, h)
none_first (Some fault) checks h = absurd (cc h)

-- EDITS

pub grows_inserted : (view new : ViewValue) (index : Word) (pieces : List Piece) (rest : Word) → view_inserted view index pieces rest ≡ Ok new → Grows view.doc.log new.doc.log
grows_inserted view new index pieces rest h =
    let place = insertion_place (widget_of view) index in
    subst (λ (v : ViewValue). Grows view.doc.log v.doc.log) (given _ (with_pieces_at view place pieces rest) new h) (put_grows view place pieces rest).log

pub grows_deleted : (view new : ViewValue) (indices : List Word) → view_deleted view indices ≡ Ok new → Grows view.doc.log new.doc.log
grows_deleted view new indices h =
    let ranges = ranges_of (map (place_at_index (widget_of view)) indices) in
    subst (λ (v : ViewValue). Grows view.doc.log v.doc.log) (given _ (without_ranges view ranges) new h) (without_grows view ranges).log

pub grows_replaced : (view new : ViewValue) (from to : Word) (pieces : List Piece) (rest : Word) → view_replaced view from to pieces rest ≡ Ok new → Grows view.doc.log new.doc.log
grows_replaced view new from to pieces rest h =
    let range : Range = record { from = place_at_index (widget_of view) from; to = place_at_index (widget_of view) to } in
    subst (λ (v : ViewValue). Grows view.doc.log v.doc.log) (given _ (with_range_replaced view range pieces rest) new h) (replaced_grows view range pieces rest).log

-- the indices of a replacement that is made
pub both_indices : (view new : ViewValue) (from to : Word) (pieces : List Piece) (rest : Word) → view_replaced view from to pieces rest ≡ Ok new
    → (index_check (widget_of view) from ≡ None) × (index_check (widget_of view) to ≡ None)
both_indices view new from to pieces rest h =
    let checks = none_after (map name_check (names_in pieces)) _ (passed _ _ new h) in
    let first = none_first (index_check (widget_of view) from) _ checks in
    (first.0, (none_first (index_check (widget_of view) to) _ first.1).0)
