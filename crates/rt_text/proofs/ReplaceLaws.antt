-- The command that replaces, by its checks.
use Rattle.std.proofs.Common.{◌≡◌, ◌∙◌, ℕ, ◌⊎◌, List, [], ◌∷◌, ◌++◌, None, Some, Option, Result, Ok, Err, length, map, ap, inl, inr, refl, sym}
use Rattle.std.specs.Prelude.{IfErr}
use Rattle.std.specs.Result.{result_err, result_unwrap_or}
use Rattle.rt_index.specs.Index.{index_of}
use Rattle.rt_stamps.specs.declared.fault.Fault.{Fault}
use Rattle.rt_stamps.specs.declared.fault.Fault.TheVariants.{NoMemory}
use Rattle.rt_stamps.specs.Names.{name_check}
use Rattle.rt_stamps.specs.Outcomes.{Refuses, first_of, unless}
use Rattle.rt_stamps.specs.Words.{Word}
use Rattle.rt_plans.specs.declared.range.Range.{Range}
use Rattle.rt_plans.specs.DocValue.{DocValue}
use Rattle.rt_plans.specs.Insertions.{Piece}
use Rattle.rt_text.specs.Commands.{backwards_check, cell_check, clock_check, names_in, view_replaced, with_range_replaced}
use Rattle.rt_text.specs.Index.{index_check, place_at_index}
use Rattle.rt_text.specs.Widgets.{ViewValue, widget_of}
use Rattle.rt_text.proofs.PutLaws.{late_checks}
use Rattle.rt_text.proofs.ReadyLaws.{first_none, first_some}

-- ANY EDIT OF A RANGE

-- its outcome, by the checks of names, those of the two indices, and the range
abbrev outcome : List (Option Fault) → DocValue → (Range → ViewValue) → Option Fault → Option Fault → Range → Result ViewValue Fault
outcome names doc edit i j range =
    unless (first_of (names ++ ((i ∷ j ∷ backwards_check range ∷ []) ++ (clock_check (edit range).doc.count ∷ cell_check doc.limit (length (edit range).doc.cells) ∷ [])))) (edit range)

module _ (names : List (Option Fault)) (doc : DocValue) (edit : Range → ViewValue) where
  at_name : (i j : Option Fault) (range : Range) (fault : Fault) → first_of names ≡ Some fault → outcome names doc edit i j range ≡ Err fault
  at_name i j range fault h = ap (λ o. unless o (edit range)) (first_some names (i ∷ j ∷ backwards_check range ∷ late_checks doc (edit range)) fault h)

  module _ (h : first_of names ≡ None) where
    passed : (i j : Option Fault) (range : Range) → outcome names doc edit i j range ≡ unless (first_of (i ∷ j ∷ backwards_check range ∷ late_checks doc (edit range))) (edit range)
    passed i j range = ap (λ o. unless o (edit range)) (first_none names (i ∷ j ∷ backwards_check range ∷ late_checks doc (edit range)) h)

    at_from : (i j : Option Fault) (range : Range) (fault : Fault) → i ≡ Some fault → outcome names doc edit i j range ≡ Err fault
    at_from i j range fault e = passed i j range ∙ ap (λ o. unless (first_of (o ∷ j ∷ backwards_check range ∷ late_checks doc (edit range))) (edit range)) e

    at_to : (i j : Option Fault) (range : Range) (fault : Fault) → i ≡ None → j ≡ Some fault → outcome names doc edit i j range ≡ Err fault
    at_to i j range fault e f = passed i j range ∙ (λ k. unless (first_of (e k ∷ f k ∷ backwards_check range ∷ late_checks doc (edit range))) (edit range))

    module _ (i j : Option Fault) (a b begin end : ℕ) (e : i ≡ None) (f : j ≡ None) (p : a ≡ begin) (q : b ≡ end) where
      at_both : outcome names doc edit i j (record { from = a; to = b })
          ≡ unless (first_of (backwards_check (record { from = begin; to = end }) ∷ late_checks doc (edit (record { from = begin; to = end })))) (edit (record { from = begin; to = end }))
      at_both = (λ k. outcome names doc edit (e k) (f k) (record { from = p k; to = q k })) ∙ passed None None (record { from = begin; to = end })

      at_range : (fault : Fault) → backwards_check (record { from = begin; to = end }) ≡ Some fault → outcome names doc edit i j (record { from = a; to = b }) ≡ Err fault
      at_range fault c = at_both ∙ ap (λ o. unless (first_of (o ∷ late_checks doc (edit (record { from = begin; to = end })))) (edit (record { from = begin; to = end }))) c

      -- where the range is one, the counts and the cells decide
      at_late : (o : Option Fault) → backwards_check (record { from = begin; to = end }) ≡ None → first_of (late_checks doc (edit (record { from = begin; to = end }))) ≡ o
          → outcome names doc edit i j (record { from = a; to = b }) ≡ unless o (edit (record { from = begin; to = end }))
      at_late o c d =
          at_both ∙ ap (λ x. unless (first_of (x ∷ late_checks doc (edit (record { from = begin; to = end })))) (edit (record { from = begin; to = end }))) c
          ∙ ap (λ x. unless x (edit (record { from = begin; to = end }))) d

      at_end : (new : ViewValue) → backwards_check (record { from = begin; to = end }) ≡ None → new ≡ edit (record { from = begin; to = end }) → first_of (late_checks doc new) ≡ None
          → outcome names doc edit i j (record { from = a; to = b }) ≡ Ok new
      at_end new c made checked = at_late None c (sym (ap (λ x. first_of (late_checks doc x)) made) ∙ checked) ∙ ap (λ x. Ok x) (sym made)

-- THE COMMAND

module _ (view : ViewValue) (pieces : List Piece) (rest : Word) where
  abbrev edited : Range → ViewValue
  edited range = with_range_replaced view range pieces rest

  abbrev by_checks : Word → Word → Result ViewValue Fault
  by_checks from to =
      outcome (map name_check (names_in pieces)) view.doc edited (index_check (widget_of view) from) (index_check (widget_of view) to)
      (record { from = place_at_index (widget_of view) from; to = place_at_index (widget_of view) to })

  replaced_by : (from to : Word) → view_replaced view from to pieces rest ≡ by_checks from to
  replaced_by from to = refl

  pub bad_name : (from to : Word) (fault : Fault) → first_of (map name_check (names_in pieces)) ≡ Some fault → view_replaced view from to pieces rest ≡ Err fault
  bad_name from to fault h =
      replaced_by from to
      ∙ at_name (map name_check (names_in pieces)) view.doc edited (index_check (widget_of view) from) (index_check (widget_of view) to)
      (record { from = place_at_index (widget_of view) from; to = place_at_index (widget_of view) to }) fault h

  module _ (from to : Word) (h : first_of (map name_check (names_in pieces)) ≡ None) where
    pub bad_from : (fault : Fault) → index_of (widget_of view) from ≡ Err fault → view_replaced view from to pieces rest ≡ Err fault
    bad_from fault e =
        let i : index_check (widget_of view) from ≡ Some fault = ap (λ (r : Result ℕ Fault). result_err r) e in
        replaced_by from to
        ∙ at_from (map name_check (names_in pieces)) view.doc edited h (index_check (widget_of view) from) (index_check (widget_of view) to)
        (record { from = place_at_index (widget_of view) from; to = place_at_index (widget_of view) to }) fault i

    pub bad_to : (begin : ℕ) (fault : Fault) → index_of (widget_of view) from ≡ Ok begin → index_of (widget_of view) to ≡ Err fault → view_replaced view from to pieces rest ≡ Err fault
    bad_to begin fault e f =
        let i : index_check (widget_of view) from ≡ None = ap (λ (r : Result ℕ Fault). result_err r) e in
        let j : index_check (widget_of view) to ≡ Some fault = ap (λ (r : Result ℕ Fault). result_err r) f in
        replaced_by from to
        ∙ at_to (map name_check (names_in pieces)) view.doc edited h (index_check (widget_of view) from) (index_check (widget_of view) to)
        (record { from = place_at_index (widget_of view) from; to = place_at_index (widget_of view) to }) fault i j

    module _ (begin end : ℕ) (e : index_of (widget_of view) from ≡ Ok begin) (f : index_of (widget_of view) to ≡ Ok end) where
      abbrev range : Range
      range = record { from = begin; to = end }

      from_fine : index_check (widget_of view) from ≡ None
      from_fine = ap (λ (r : Result ℕ Fault). result_err r) e

      to_fine : index_check (widget_of view) to ≡ None
      to_fine = ap (λ (r : Result ℕ Fault). result_err r) f

      from_at : place_at_index (widget_of view) from ≡ begin
      from_at = ap (λ (r : Result ℕ Fault). result_unwrap_or r 0) e

      to_at : place_at_index (widget_of view) to ≡ end
      to_at = ap (λ (r : Result ℕ Fault). result_unwrap_or r 0) f

      pub backwards : (fault : Fault) → backwards_check range ≡ Some fault → view_replaced view from to pieces rest ≡ Err fault
      backwards fault b =
          replaced_by from to
          ∙ at_range (map name_check (names_in pieces)) view.doc edited h (index_check (widget_of view) from) (index_check (widget_of view) to)
          (place_at_index (widget_of view) from) (place_at_index (widget_of view) to) begin end from_fine to_fine from_at to_at fault b

      pub done_as : (new : ViewValue) → backwards_check range ≡ None → new ≡ edited range → first_of (late_checks view.doc new) ≡ None → view_replaced view from to pieces rest ≡ Ok new
      done_as new b made checked =
          replaced_by from to
          ∙ at_end (map name_check (names_in pieces)) view.doc edited h (index_check (widget_of view) from) (index_check (widget_of view) to)
          (place_at_index (widget_of view) from) (place_at_index (widget_of view) to) begin end from_fine to_fine from_at to_at new b made checked

      too_late : (fault : Fault) → backwards_check range ≡ None → first_of (late_checks view.doc (edited range)) ≡ Some fault → view_replaced view from to pieces rest ≡ Err fault
      too_late fault b c =
          replaced_by from to
          ∙ at_late (map name_check (names_in pieces)) view.doc edited h (index_check (widget_of view) from) (index_check (widget_of view) to)
          (place_at_index (widget_of view) from) (place_at_index (widget_of view) to) begin end from_fine to_fine from_at to_at (Some fault) b c

      refused_by : (fault : Fault) → backwards_check range ≡ None → (fault ≡ NoMemory) ⊎ (first_of (late_checks view.doc (edited range)) ≡ Some fault) → Refuses (view_replaced view from to pieces rest) fault
      refused_by fault b (inl m) = inl m
      refused_by fault b (inr c) = inr (too_late fault b c)

      pub refused_late : (r : Result (Unit {0}) Fault) → backwards_check range ≡ None → IfErr r (λ fault. (fault ≡ NoMemory) ⊎ (first_of (late_checks view.doc (edited range)) ≡ Some fault))
          → IfErr r (Refuses (view_replaced view from to pieces rest))
      refused_late (Ok x) b k = tt
      refused_late (Err fault) b k = refused_by fault b k
