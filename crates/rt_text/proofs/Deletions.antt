-- What a deletion gives, by its checks, and what it leaves of a document.
use Rattle.std.proofs.Common.{◌≡◌, ◌⊎◌, inl, inr, List, [], ◌∷◌, ◌++◌, map, refl, sym, ◌∙◌, ap, Some, None, Ok, Err, Option, Result, OnOk}
use Rattle.rt_stamps.specs.declared.fault.Fault.{Fault}
use Rattle.rt_stamps.specs.declared.fault.Fault.TheVariants.{NoMemory}
use Rattle.rt_stamps.specs.Outcomes.{first_of, unless, Refuses}
use Rattle.rt_stamps.specs.Words.{Word}
use Rattle.rt_text.specs.Index.{index_check, place_at_index}
use Rattle.rt_text.specs.Ranges.{ranges_of}
use Rattle.rt_text.specs.Widgets.{ViewValue, widget_of}
use Rattle.rt_text.specs.Commands.{clock_check, view_deleted, without_ranges}

-- two facts of a result that is Ok
pub both_ok : {T E A B C : Type 0} (r : Result T E) → (A → B → C) → OnOk r A → OnOk r B → OnOk r C
both_ok (Ok x) f a b = f a b
both_ok (Err e) f a b = tt

-- the first fault of checks, or that of one more
pub first_none : (checks : List (Option Fault)) (last : Option Fault) → first_of checks ≡ None → first_of (checks ++ last ∷ []) ≡ last
first_none [] None h = refl
first_none [] (Some fault) h = refl
first_none (None ∷ checks) last h = first_none checks last h
first_none (Some fault ∷ checks) last h = let bad : ⊥ = cc in absurd bad

pub first_some : (checks : List (Option Fault)) (last : Option Fault) (fault : Fault) → first_of checks ≡ Some fault → first_of (checks ++ last ∷ []) ≡ Some fault
first_some [] last fault h = let bad : ⊥ = cc in absurd bad
first_some (None ∷ checks) last fault h = first_some checks last fault h
first_some (Some other ∷ checks) last fault h = h

-- the edit that a deletion is
abbrev pub deletion : ViewValue → List Word → ViewValue
deletion view indices = without_ranges view (ranges_of (map (place_at_index (widget_of view)) indices))

-- where the indices are some, the counts decide
pub deleted_by : (view : ViewValue) (indices : List Word) → first_of (map (index_check (widget_of view)) indices) ≡ None
    → view_deleted view indices ≡ unless (clock_check (deletion view indices).doc.count) (deletion view indices)
deleted_by view indices h =
    let edited = deletion view indices in
    ap (λ f. unless f edited) (first_none (map (index_check (widget_of view)) indices) (clock_check edited.doc.count) h)

-- a fault of the indices
pub deleted_index : (view : ViewValue) (indices : List Word) (fault found : Fault)
    → (found ≡ NoMemory) ⊎ (first_of (map (index_check (widget_of view)) indices) ≡ Some found) → fault ≡ found → Refuses (view_deleted view indices) fault
deleted_index view indices fault found (inl e) f = inl (f ∙ e)
deleted_index view indices fault found (inr e) f =
    let edited = deletion view indices in
    inr (ap (λ c. unless c edited) (first_some (map (index_check (widget_of view)) indices) (clock_check edited.doc.count) found e ∙ ap (λ x. Some x) (sym f)))
